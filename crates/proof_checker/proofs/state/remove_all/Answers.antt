use Rattle.std.proofs.Common.{sym, ◌∙◌}
use Rattle.hrt_base.specs.declared.numbered.RowNo.{RowNo}
use Rattle.proof_checker.proofs.Living.{deleted-here, kept-without}
use Rattle.proof_checker.proofs.state.remove_all.Goals as goal

pub loop-id-preserved : goal.loop-id-preserved
loop-id-preserved c =
    let d : RowNo = record { 0 = 0 } in
    let here = deleted-here c.args.ids.now c.loop-id.id-index d c.loop-id.live.rows c.loop-id-test.true in
    let live = sym c.in_ok-remove.ensures.ok ∙ c.if-not-branch.false in
    rw c.in_ok-remove.ensures.rows (record {
      vars = c.loop-id.invariant.vars;
      rest = sym (rw live at here) ∙ c.loop-id.invariant.rest;
      kept = λ s h. kept-without c.args.live.now.vars _ s c.loop-id.live.rows (c.loop-id.invariant.kept s h);
    })

pub returns-then-not-branch-clause-kept : goal.returns-then-not-branch-clause-kept
returns-then-not-branch-clause-kept c s h = rw c.in_ok-remove.ensures.rows (kept-without c.args.live.now.vars _ s c.loop-id.live.rows (c.loop-id.invariant.kept s h))

pub returns-then-not-branch-clause-refused : goal.returns-then-not-branch-clause-refused
returns-then-not-branch-clause-refused c =
    let d : RowNo = record { 0 = 0 } in
    let here = deleted-here c.args.ids.now c.loop-id.id-index d c.loop-id.live.rows c.loop-id-test.true in
    let gone = sym c.in_ok-remove.ensures.ok ∙ c.if-not-branch.true in
    sym c.loop-id.invariant.rest ∙ rw gone at here
