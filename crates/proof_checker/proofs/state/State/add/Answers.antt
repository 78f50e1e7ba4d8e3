use Rattle.std.proofs.Common.{◌+◌, sym, subst, arith}
use Rattle.rup_engine.specs.Live.{LiveRows}
use Rattle.proof_rules.specs.States.{State}
use Rattle.proof_checker.specs.Kept.{IsKeptOver}
use Rattle.proof_checker.proofs.Living.{fresh, kept-push}
use Rattle.proof_checker.proofs.state.State.add.Goals as goal

pub add-requires-clause-fresh : goal.add-requires-clause-fresh
add-requires-clause-fresh c = fresh c.self.inside.next 1 c.self.inside.next c.self.inside.live.rows (omega arith) c.self.invariant.ordered

pub invariant_of-self-2 : goal.invariant_of-self-2
invariant_of-self-2 c =
    let s : State = record { live = c.self.inside.live.rows; next = c.self.inside.next; least = c.self.inside.least } in
    subst (λ (l : LiveRows). IsKeptOver l.vars (record { live = l.rows; next = c.self.inside.next + 1; least = c.self.inside.least })) (sym c.in_ok-add.ensures.ok)
    (kept-push c.self.inside.live.vars s c.args.row c.self.invariant (rw (← c.self.view_is) at c.requires.over))
