use Rattle.pair_reduction.proofs.Settling.{kept_first}
use Rattle.pair_reduction.proofs.known.Known.new.Goals as goal

pub returns-clause-kept : goal.returns-clause-kept
returns-clause-kept c =
    kept_first c.args.inst.now _ c.pairs.result c.pairs-2.result c.pairs-3.result c.residents.result c.hospitals.result c.in_ok-gone.ensures c.pairs.ensures.count c.in_ok-sure.ensures c.pairs-2.ensures.count c.in_ok-only.ensures c.pairs-3.ensures.count
    c.in_ok-residents.ensures c.residents.ensures.count c.in_ok-hospitals.ensures c.hospitals.ensures.count
