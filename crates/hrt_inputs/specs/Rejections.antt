-- Why files are not taken.
use Rattle.std.specs.Prelude.{ℕ}
use Rattle.hrt_reader.specs.Refusal.{Refusal}
use Rattle.proof_rules.specs.Refusals.{RefusalAt}
use Rattle.hrt_inputs.specs.declared.limit.Limit.{Limit}
use Rattle.hrt_inputs.specs.declared.stop.ModelKind.{ModelKind}

-- why a file isn't taken
pub data Rejection : Type 0 where
  refused : Refusal → Rejection  -- it spells no instance, with the line and the kind
  exceeded : Limit → Rejection  -- there is too much of something
  pairs_refused : Refusal → Rejection  -- it spells no pairs of the instance
  model_refused : ModelKind → ℕ → Rejection  -- it spells no model, with the kind and the line
  proof_refused : RefusalAt → Rejection  -- a line of the proof is no step
  truncated : Rejection  -- the proof ends before its end line
