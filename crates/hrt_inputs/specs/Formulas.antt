-- What the reading of a formula comes to.
use Rattle.std.specs.Prelude.{◌≡◌, ℕ, List, Result, Err}
use Rattle.hrt_base.specs.declared.port.Port.TheVariants.{Model}
use Rattle.hrt_base.specs.World.{World}
use Rattle.pb_rows.specs.Formula.{Formula}
use Rattle.opb_text.specs.declared.refusal.OpbRefusal.{OpbRefusal}
use Rattle.opb_text.specs.declared.refusal.OpbRefusal.TheVariants as opb
use Rattle.hrt_inputs.specs.declared.limit.Limit.TheVariants.{ModelBytes, Rows, Variables}
use Rattle.hrt_inputs.specs.declared.stop.ModelKind.TheVariants.{Syntax, TooBig}
use Rattle.hrt_inputs.specs.declared.stop.Stop.{Stop}
use Rattle.hrt_inputs.specs.declared.stop.Stop.TheVariants.{Refused, Exceeded, PairsRefused, ModelRefused, ProofRefused, ReadFault, NoMemory}
use Rattle.hrt_inputs.specs.Inputs.{OnlyRead}
use Rattle.hrt_inputs.specs.Loading.{FailedToRead, IsNotTaken}
use Rattle.hrt_inputs.specs.Rejections.{Rejection, exceeded, model_refused}
use Rattle.hrt_inputs.specs.Taken.{formula_in}

-- why a text of a formula is refused
abbrev pub model_stop : OpbRefusal → Stop
model_stop (opb.Syntax k) = ModelRefused Syntax k
model_stop (opb.TooBig k) = ModelRefused TooBig k
model_stop (opb.TooManyVariables k) = Exceeded Variables
model_stop (opb.TooManyRows k) = Exceeded Rows
model_stop opb.NoMemory = NoMemory

-- the formula of a text could not be had, and this is why
abbrev pub StopsModelText : Result Formula Rejection → Stop → Type 0
StopsModelText formula (Refused kind line) = ⊥
StopsModelText formula (Exceeded limit) = formula ≡ Err (exceeded limit)
StopsModelText formula (PairsRefused kind line) = ⊥
StopsModelText formula (ModelRefused kind line) = formula ≡ Err (model_refused kind line)
StopsModelText formula (ProofRefused refusal) = ⊥
StopsModelText formula ReadFault = ⊥
StopsModelText formula NoMemory = Unit {0}

-- the formula of a file could not be had, and this is why
abbrev pub StopsModel : (told : Type 0) → List ℕ → Stop → World → World → Type 0
StopsModel told name (Refused kind line) old new = ⊥
StopsModel told name (Exceeded limit) old new = IsNotTaken told Model name ModelBytes formula_in (exceeded limit) old new
StopsModel told name (PairsRefused kind line) old new = ⊥
StopsModel told name (ModelRefused kind line) old new = IsNotTaken told Model name ModelBytes formula_in (model_refused kind line) old new
StopsModel told name (ProofRefused refusal) old new = ⊥
StopsModel told name ReadFault old new = FailedToRead told old new
StopsModel told name NoMemory old new = OnlyRead told old new
