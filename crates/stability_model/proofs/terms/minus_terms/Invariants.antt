use Rattle.std.proofs.Common.{◌≡◌, map, take, pos, neg_ℤ}
use Rattle.rank_tables.specs.Tables.{numbers_of}
use Rattle.stability_model.specs.Model.{term}
use Rattle.stability_model.proofs.terms.minus_terms.Given as goal

abbrev pub invariant-loop-q : goal.invariant-loop-q
invariant-loop-q l = l.terms.items ≡ map (λ p. term (neg_ℤ (pos 1)) p) (numbers_of (take l.q-index l.pairs))
