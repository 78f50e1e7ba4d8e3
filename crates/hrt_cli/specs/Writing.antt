-- What writing outputs does to a host.
use Rattle.std.specs.Prelude.{◌≡◌, ◌≤◌, ◌⊎◌, ℕ, List, [], take}
use Rattle.hrt_base.specs.declared.port.Port.{Port}
use Rattle.hrt_base.specs.declared.port.Port.TheVariants.{Model, Proof, Report}
use Rattle.hrt_base.specs.declared.host.Begun.TheVariants.{Reading, Writing}
use Rattle.hrt_base.specs.declared.failure.WriteEnd.{WriteEnd}
use Rattle.hrt_base.specs.declared.failure.WriteEnd.TheVariants as end
use Rattle.hrt_base.specs.Calls.{NoFault, Rose}
use Rattle.hrt_base.specs.World.{World, Content, put, started}
use Rattle.rank_tables.specs.Instance.{Lists}
use Rattle.hrt_cli.specs.declared.stop.Ended.{Ended}
use Rattle.hrt_cli.specs.declared.stop.Ended.TheVariants.{ReadFault, WriteFault, NoMemory}
use Rattle.hrt_cli.specs.Outputs.{Output, both, files_after, fronts, text_on}

-- these texts were sent where nothing had been sent, and these outputs became their files
pub record IsWritten (sent kept : List Output) (old new : Content) : Type 0 where
  pub name : new.name Report ≡ old.name Report
  pub rest : (port : Port) → new.rest port ≡ old.rest port
  pub sent_is : ((port : Port) → old.sent port ≡ []) → (port : Port) → new.sent port ≡ text_on port sent
  pub silent : new.sent Report ≡ old.sent Report
  pub files : (name : List ℕ) → new.file name ≡ files_after kept old.file name

-- Outputs were written, and nothing was done to the report. Whatever port is begun for reading was so before.
pub record Writes (told : Type 0) (sent kept : List Output) (old new : World) : Type 0 where
  pub later : old.write_faults ≤ new.write_faults
  pub report : new.begun Report ≡ old.begun Report
  pub readers : (port : Port) → new.begun port ≡ Reading → old.begun port ≡ Reading
  pub content : told → IsWritten sent kept old.content new.content

-- each output was written and became its file, no call failed, and no port was left begun for writing
pub record WritesAll (told : Type 0) (outputs : List Output) (old new : World) : Type 0 where
  pub no_fault : NoFault old new
  pub writes : Writes told outputs outputs old new
  pub writers : (port : Port) → new.begun port ≡ Writing → old.begun port ≡ Writing

-- nothing was written
abbrev pub WritesNothing : (told : Type 0) → World → World → Type 0
WritesNothing told old new = Writes told [] [] old new

-- the first outputs became their files, and of the next one a front was sent
pub record WritesFronts (told : Type 0) (outputs : List Output) (old new : World) : Type 0 where
  pub whole : ℕ
  pub count : ℕ
  pub writes : Writes told (fronts whole count outputs) (take whole outputs) old new

-- nothing was written, or fronts of the outputs
abbrev pub WritesInPart : (told : Type 0) → List Output → World → World → Type 0
WritesInPart told outputs old new = WritesNothing told old new ⊎ WritesFronts told outputs old new

-- a write failed, and nothing was written, or fronts of the outputs
pub record FailsWriting (told : Type 0) (outputs : List Output) (old new : World) : Type 0 where
  pub part : WritesInPart told outputs old new
  pub rose : Rose old.write_faults new.write_faults

-- why outputs were not written
abbrev pub EndsWriting : (told : Type 0) → List Output → Ended → World → World → Type 0
EndsWriting told outputs ReadFault old new = ⊥
EndsWriting told outputs WriteFault old new = FailsWriting told outputs old new
EndsWriting told outputs NoMemory old new = WritesInPart told outputs old new

-- how a run ends where writing ended so
abbrev pub ended_by : WriteEnd → Ended
ended_by end.Failed = WriteFault
ended_by end.NoMemory = NoMemory

-- ---- a model and a proof

-- the ports of both were begun for writing
pub record AreBegun (told : Type 0) (name proof : List ℕ) (old new : World) : Type 0 where
  pub no_fault : NoFault old new
  pub begun : new.begun ≡ put Proof Writing (put Model Writing old.begun)
  pub content : told → new.content ≡ started Proof proof (started Model name old.content)

-- the model was written, and a text of which this holds
pub record SavesBoth (told : Type 0) (Is : List ℕ → Type 0) (lists : Lists) (name proof : List ℕ) (old new : World) : Type 0 where
  pub text : List ℕ
  pub is : Is text
  pub saved : WritesAll told (both name proof lists text) old new

-- fronts were written of the model and of a text of which this holds
pub record SavesFronts (told : Type 0) (Is : List ℕ → Type 0) (lists : Lists) (name proof : List ℕ) (old new : World) : Type 0 where
  pub text : List ℕ
  pub is : Is text
  pub fronts : WritesFronts told (both name proof lists text) old new

-- nothing was written, or fronts of the model and of such a text
abbrev pub SavesInPart : (told : Type 0) → (List ℕ → Type 0) → Lists → List ℕ → List ℕ → World → World → Type 0
SavesInPart told Is lists name proof old new = WritesNothing told old new ⊎ SavesFronts told Is lists name proof old new
