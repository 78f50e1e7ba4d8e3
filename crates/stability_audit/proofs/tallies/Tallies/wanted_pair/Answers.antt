use Rattle.std.proofs.Common.{sym, ◌∙◌, arith}
use Rattle.rank_tables.specs.Instance.{pair_count}
use Rattle.stability_audit.specs.Tallies.{both_want}
use Rattle.stability_audit.proofs.Least.{none_to_next, first_to}
use Rattle.stability_audit.proofs.tallies.Tallies.wanted_pair.Goals as goal

pub returns-then-both_want : goal.returns-then-both_want
returns-then-both_want c =
    let self = c.args.self.now in
    sym (first_to (both_want c.args.inst.now self.residents.items self.hospitals.items) (pair_count c.args.inst.now) c.loop-p.p
    (omega arith) (omega arith) c.loop-p.invariant (sym c.both_want.ensures ∙ c.if-both_want.true))

pub loop-p-preserved : goal.loop-p-preserved
loop-p-preserved c =
    let self = c.args.self.now in
    none_to_next (both_want c.args.inst.now self.residents.items self.hospitals.items) c.loop-p.p
    (omega arith) c.loop-p.invariant (sym c.both_want.ensures ∙ c.if-both_want.false)
