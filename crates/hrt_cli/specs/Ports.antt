-- Which ports a command begins.
use Rattle.std.specs.Prelude.{◌≡◌, ◌⊎◌, [], Option}
use Rattle.hrt_base.specs.declared.port.Port.{Port}
use Rattle.hrt_base.specs.declared.port.Port.TheVariants.{Model, Proof, Report}
use Rattle.hrt_base.specs.declared.host.Begun.TheVariants.{Reading, Writing}
use Rattle.hrt_base.specs.World.{World}
use Rattle.hrt_inputs.specs.Inputs.{KeepsPorts}
use Rattle.hrt_cli.specs.Plans.{AreTaken, Files, IsInputPort, IsReadPort, IsWritePort, plan_of}
use Rattle.hrt_cli.specs.Requests.{Request}

-- The command reads on this port: that of one of its inputs, and those before it are taken.
abbrev pub IsInput : (told : Type 0) → Option Request → Files → Port → Type 0
IsInput told request files port = IsInputPort told [] (plan_of request).inputs files port

-- the port of a model or that of a proof
abbrev pub IsModelOrProof : Port → Type 0
IsModelOrProof port = (port ≡ Model) ⊎ (port ≡ Proof)

-- the command writes on this port, and its inputs are taken
abbrev pub IsOutput : (told : Type 0) → Option Request → Files → Port → Type 0
IsOutput told request files port = IsWritePort (plan_of request).outputs port × (told → AreTaken (plan_of request).inputs files)

-- the command uses this port: that of one of its files, or the report
abbrev pub IsPortOf : Option Request → Port → Type 0
IsPortOf request port = IsReadPort (plan_of request).inputs port ⊎ IsWritePort (plan_of request).outputs port ⊎ (port ≡ Report)

-- of the ports that the command doesn't use the name, what is left to read and what was sent are as they were
pub record KeepsOtherPorts (told : Type 0) (request : Option Request) (old new : World) : Type 0 where
  pub others : KeepsPorts told (IsPortOf request) old new

-- a port that is begun for reading is that of an input
pub record ReadsInputs (told : Type 0) (request : Option Request) (old new : World) : Type 0 where
  pub input : (port : Port) → new.begun port ≡ Reading → IsInput told request old.content.file port

-- a port that is begun for writing is the report or that of an output
pub record WritesOutputs (told : Type 0) (request : Option Request) (old new : World) : Type 0 where
  pub output : (port : Port) → new.begun port ≡ Writing → (port ≡ Report) ⊎ IsOutput told request old.content.file port

-- a port that is begun for writing was so before, or is one of these
pub record BeginsWriting (Is : Port → Type 0) (old new : World) : Type 0 where
  pub writers : (port : Port) → new.begun port ≡ Writing → (old.begun port ≡ Writing) ⊎ Is port
