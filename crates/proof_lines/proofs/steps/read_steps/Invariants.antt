use Rattle.std.proofs.Common.{◌≡◌, length, true}
use Rattle.std.specs.Prelude.{option_map}
use Rattle.std.specs.List.{list_all}
use Rattle.row_text.specs.Tokens.{tokens}
use Rattle.proof_lines.specs.Spelling.{is_small_step, read_steps}
use Rattle.proof_lines.proofs.Onto.{behind}
use Rattle.proof_lines.proofs.steps.read_steps.Given as goal

abbrev pub invariant-loop-first : goal.invariant-loop-first
invariant-loop-first l = record {
  whole : read_steps (tokens l.line) ≡ option_map (behind l.steps) (read_steps (tokens l.rest));
  small : list_all is_small_step l.steps ≡ true;
}

abbrev pub decreases-loop-first : goal.decreases-loop-first
decreases-loop-first l = length l.rest
