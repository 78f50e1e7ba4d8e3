-- What a command writes before its report.
use Rattle.std.specs.Prelude.{◌≡◌, ℕ, zero, suc, ◌==◌, Bool, if◌then◌else◌, List, [], ◌∷◌, take, Option}
use Rattle.hrt_base.specs.declared.port.Port.{Port}
use Rattle.hrt_base.specs.declared.port.Port.TheVariants.{Model, Proof, Report}
use Rattle.hrt_base.specs.World.{Content, port_no, store}
use Rattle.rank_tables.specs.Instance.{Lists}
use Rattle.opb_text.specs.Spelling.{model_text}
use Rattle.hrt_cli.specs.Plans.{Files, Named, is_named, plan_of}
use Rattle.hrt_cli.specs.Requests.{Request}

-- a text that is written on a port, and becomes the file of this name
pub record Output : Type 0 where
  pub port : Port
  pub name : List ℕ
  pub text : List ℕ

-- the output of this text on this port, under this name
abbrev pub output : Port → List ℕ → List ℕ → Output
output port name text = record { port = port; name = name; text = text }

-- ---- what is due

-- The texts with the outputs of their places. An output without a text isn't written.
abbrev pub outputs_with : List Named → List (List ℕ) → List Output
outputs_with [] texts = []
outputs_with (o ∷ outputs) [] = []
outputs_with (o ∷ outputs) (text ∷ texts) = output o.port o.name text ∷ outputs_with outputs texts

-- what is written where these texts are due, one output after the other
abbrev pub outputs_of : Option Request → List (List ℕ) → List Output
outputs_of request texts = outputs_with (plan_of request).outputs texts

-- the model under one name and a proof under another
abbrev pub both : List ℕ → List ℕ → Lists → List ℕ → List Output
both name proof lists text = output Model name (model_text lists) ∷ output Proof proof text ∷ []

-- the words name this file as one to be written
abbrev pub is_output_name : Option Request → List ℕ → Bool
is_output_name request name = is_named (plan_of request).outputs name

-- ---- what is there of it

-- the text that is written on a port
abbrev pub text_on : Port → List Output → List ℕ
text_on port [] = []
text_on port (o ∷ outputs) = if port_no o.port == port_no port then o.text else text_on port outputs

-- the files once all are written
abbrev pub files_after : List Output → Files → Files
files_after [] files = files
files_after (o ∷ outputs) files = files_after outputs (store o.name o.text files)

-- each output was sent whole and became its file, and nothing else was sent but on the report
pub record SendsAll (outputs : List Output) (old new : Content) : Type 0 where
  pub sent : (port : Port) → (port_no port ≡ port_no Report → ⊥) → new.sent port ≡ text_on port outputs
  pub files : (name : List ℕ) → new.file name ≡ files_after outputs old.file name

-- so many outputs whole, and so many bytes of the next one
abbrev pub fronts : ℕ → ℕ → List Output → List Output
fronts whole count [] = []
fronts zero count (o ∷ outputs) = output o.port o.name (take count o.text) ∷ []
fronts (suc whole) count (o ∷ outputs) = o ∷ fronts whole count outputs

-- The first outputs were sent whole and became their files, and a front of the next one was sent. Nothing else was sent but on
-- the report.
pub record SendsFronts (outputs : List Output) (old new : Content) : Type 0 where
  pub whole : ℕ
  pub count : ℕ
  pub sent : (port : Port) → (port_no port ≡ port_no Report → ⊥) → new.sent port ≡ text_on port (fronts whole count outputs)
  pub files : (name : List ℕ) → new.file name ≡ files_after (take whole outputs) old.file name
