-- Inputs that are read one after another, and their ports.
use Rattle.std.proofs.Common.{◌≡◌, ◌⊎◌, ℕ, Bool, List, [], ◌∷◌, ◌++◌, Some, Result, Ok, Err, IsTrue, refl, sym, subst, inl, inr, append-nil, append_assoc}
use Rattle.std.specs.List.{list_any}
use Rattle.std.proofs.lemmas.Bool.{or_left, or_right}
use Rattle.hrt_base.specs.declared.port.Port.{Port}
use Rattle.hrt_inputs.specs.Rejections.{Rejection}
use Rattle.hrt_cli.specs.Plans.{AreTaken, Files, Input, IsInputPort, IsReadPort, Reads, ReadsTo, Value}

pub ok_is : {A E : Type 0} (a b : A) → ◌≡◌ {A = Result A E} (Ok a) (Ok b) → a ≡ b
ok_is a b e = cc

pub err_is : {A E : Type 0} (a b : E) → ◌≡◌ {A = Result A E} (Err a) (Err b) → a ≡ b
err_is a b e = cc

pub apart : {A E : Type 0} (a : A) (b : E) → ◌≡◌ {A = Result A E} (Ok a) (Err b) → ⊥
apart a b e = cc

-- ---- what is read

-- an input isn't taken
abbrev pub StopsAt : Input → List Value → List ℕ → Result (List Value) Rejection → Type 0
StopsAt i before bytes read = (rejection : Rejection) × Reads i.kind before bytes (Err rejection) × (read ≡ Err rejection)

-- an input is taken, and those behind it are read
abbrev pub GoesOn : Input → List Input → Files → List Value → List ℕ → Result (List Value) Rejection → Type 0
GoesOn i inputs files before bytes read = (value : Value) × Reads i.kind before bytes (Ok value) × ReadsTo inputs files (before ++ value ∷ []) read

-- inputs are taken, and then more are read
pub reads_on : (inputs more : List Input) (files : Files) (before values : List Value) (read : Result (List Value) Rejection) → ReadsTo inputs files before (Ok values) → ReadsTo more files values read
    → ReadsTo (inputs ++ more) files before read
reads_on [] more files before values read taken rest = subst (λ (vs : List Value). ReadsTo more files vs read) (ok_is {E = Rejection} values before taken) rest
reads_on (i ∷ inputs) more files before values read taken rest = (taken.0, taken.1, by taken.2 (λ vs on. reads_on inputs more files vs values read on rest))
  where
    by : StopsAt i before taken.0 (Ok values) ⊎ GoesOn i inputs files before taken.0 (Ok values) → ((vs : List Value) → ReadsTo inputs files vs (Ok values) → ReadsTo (inputs ++ more) files vs read)
        → StopsAt i before taken.0 read ⊎ GoesOn i (inputs ++ more) files before taken.0 read
    by (inl stop) on = absurd (apart values stop.0 stop.2)
    by (inr next) on = inr (next.0, next.1, on (before ++ next.0 ∷ []) next.2)

-- the first of some inputs that are taken
pub record TakesFirst (i : Input) (inputs : List Input) (files : Files) (before values : List Value) : Type 0 where
  pub bytes : List ℕ
  pub file : files i.name ≡ Some bytes
  pub value : Value
  pub reads : Reads i.kind before bytes (Ok value)
  pub rest : ReadsTo inputs files (before ++ value ∷ []) (Ok values)

pub takes_first : (i : Input) (inputs : List Input) (files : Files) (before values : List Value) → ReadsTo (i ∷ inputs) files before (Ok values) → TakesFirst i inputs files before values
takes_first i inputs files before values taken = by taken.2
  where
    by : StopsAt i before taken.0 (Ok values) ⊎ GoesOn i inputs files before taken.0 (Ok values) → TakesFirst i inputs files before values
    by (inl stop) = absurd (apart values stop.0 stop.2)
    by (inr next) = record { bytes = taken.0; file = taken.1; value = next.0; reads = next.1; rest = next.2 }

-- ---- their ports

-- the port of one of some inputs is one of more
pub input_of_more : (told : Type 0) (before inputs more : List Input) (files : Files) (port : Port) → IsInputPort told before inputs files port → IsInputPort told before (inputs ++ more) files port
input_of_more told before [] more files port is = absurd is
input_of_more told before (i ∷ inputs) more files port (inl is) = inl is
input_of_more told before (i ∷ inputs) more files port (inr is) = inr (input_of_more told (before ++ i ∷ []) inputs more files port is)

from_place : (told : Type 0) (before rest after : List Input) (i : Input) (files : Files) → (told → AreTaken (before ++ rest) files) → IsInputPort told before (rest ++ i ∷ after) files i.port
from_place told before [] after i files taken = inl (refl, λ t. subst (λ (is : List Input). AreTaken is files) (append-nil before) (taken t))
from_place told before (r ∷ rest) after i files taken =
    inr (from_place told (before ++ r ∷ []) rest after i files (λ t. subst (λ (is : List Input). AreTaken is files) (sym (append_assoc before (r ∷ []) rest)) (taken t)))

-- the port of an input before which all are taken
pub input_port : (told : Type 0) (before after : List Input) (i : Input) (files : Files) → (told → AreTaken before files) → IsInputPort told [] (before ++ i ∷ after) files i.port
input_port told before after i files taken = from_place told [] before after i files taken

pub read_port_of_more : (inputs more : List Input) (port : Port) → IsReadPort inputs port → IsReadPort (inputs ++ more) port
read_port_of_more [] more port is = absurd is
read_port_of_more (i ∷ inputs) more port (inl is) = inl is
read_port_of_more (i ∷ inputs) more port (inr is) = inr (read_port_of_more inputs more port is)

pub read_port : (before after : List Input) (i : Input) → IsReadPort (before ++ i ∷ after) i.port
read_port [] after i = inl refl
read_port (j ∷ before) after i = inr (read_port before after i)

-- what holds of an input holds of one among more
pub any_input : (test : Input → Bool) (before after : List Input) (i : Input) → IsTrue (test i) → IsTrue (list_any test (before ++ i ∷ after))
any_input test [] after i is = or_left (test i) (list_any test after) is
any_input test (j ∷ before) after i is = or_right (test j) (list_any test (before ++ i ∷ after)) (any_input test before after i is)
