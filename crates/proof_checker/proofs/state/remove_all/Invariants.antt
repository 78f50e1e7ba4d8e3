use Rattle.std.proofs.Common.{◌≡◌, drop}
use Rattle.proof_rules.specs.States.{deleted}
use Rattle.proof_checker.specs.Kept.{StaysKept}
use Rattle.proof_checker.proofs.state.remove_all.Given as goal

abbrev pub invariant-loop-id : goal.invariant-loop-id
invariant-loop-id l = record {
  vars : l.live.vars ≡ l.fn.live.vars;
  rest : deleted (drop l.id-index l.ids) l.live.rows ≡ deleted l.ids l.fn.live.rows;
  kept : StaysKept l.fn.live.vars l.fn.live.rows l.live.rows;
}
