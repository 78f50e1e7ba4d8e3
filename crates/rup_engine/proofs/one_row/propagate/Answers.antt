use Rattle.std.proofs.Common.{◌∙◌}
use Rattle.std.proofs.lemmas.List.{take_all}
use Rattle.rup_engine.proofs.Taking.{AreTaken, one-taken}
use Rattle.rup_engine.proofs.one_row.propagate.Goals as goal

pub loop-t-preserved : goal.loop-t-preserved
loop-t-preserved c =
    let i = c.loop-t.invariant in
    let before : AreTaken c.args.part.now c.args._terms.now c.args.sum c.args.degree c.loop-t.t-index c.args.trail.now.literals c.loop-t.trail.literals =
    record { grows = i.grows; settled = i.settled; sound = i.sound } in
    let after = one-taken _ _ _ _ _ _ _ _ _ c.requires.within c.loop-t-test.true before c.in_ok-take_term.ensures.ok in
    record { vars = c.take_term.ensures.vars ∙ i.vars; grows = after.grows; settled = after.settled; sound = after.sound }

pub returns-clause-settled : goal.returns-clause-settled
returns-clause-settled c =
    let s = c.loop-t.invariant.settled in
    rw (take_all _ _ c.loop-t-test.false) at s
