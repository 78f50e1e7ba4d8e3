use Rattle.std.proofs.Common.{◌≡◌, true, take}
use Rattle.std.specs.List.{list_all}
use Rattle.proof_lines.specs.Spelling.{is_small_step}
use Rattle.proof_steps.proofs.pol.are_small_steps.Given as goal

abbrev pub invariant-loop-step : goal.invariant-loop-step
invariant-loop-step l = list_all is_small_step (take l.step-index l.steps) ≡ true
