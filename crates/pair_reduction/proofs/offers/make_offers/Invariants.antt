use Rattle.std.proofs.Common.{take}
use Rattle.rank_tables.specs.Tables.{numbers_of}
use Rattle.pair_reduction.proofs.Offering.{Offering}
use Rattle.pair_reduction.proofs.offers.make_offers.Given as goal

abbrev pub invariant-loop-q : goal.invariant-loop-q
invariant-loop-q l = Offering l.model l.fn.deriv l.deriv l.known.gone l.known.only.items l.p.0 l.found (numbers_of (take l.q-index l.pairs)) l.fn.offers l.offers
