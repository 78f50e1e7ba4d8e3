-- What a command reads and writes: its inputs in the order of reading, its outputs in the order of writing, and its job.
use Rattle.std.specs.Prelude.{◌≡◌, ◌⊎◌, ◌<◌, ◌≤◌, ℕ, Bool, true, false, List, [], ◌∷◌, ◌++◌, length, Option, Some, None, IsSomeAnd, Result, Ok, Err, bytes_eq}
use Rattle.std.specs.List.{list_any}
use Rattle.hrt_base.specs.declared.port.Port.{Port}
use Rattle.hrt_base.specs.declared.port.Port.TheVariants.{Instance, Pairs, Model, Proof}
use Rattle.rank_tables.specs.Instance.{Lists}
use Rattle.pb_rows.specs.Formula.{Formula}
use Rattle.stability_model.specs.Model.{formula as formula_of}
use Rattle.proof_lines.specs.declared.line.Claim.{Claim}
use Rattle.proof_rules.specs.Texts as text
use Rattle.proof_rules.specs.Texts.{HasVerdict}
use Rattle.hrt_inputs.specs.declared.limit.Limit.TheVariants.{ProofBytes}
use Rattle.hrt_inputs.specs.Limits.{most}
use Rattle.hrt_inputs.specs.Rejections.{Rejection, exceeded, proof_refused, truncated}
use Rattle.hrt_inputs.specs.Taken.{formula_in, pairs_in, taken_lists}
use Rattle.hrt_cli.specs.Requests as ask
use Rattle.hrt_cli.specs.Requests.{Request}

-- the files by their names
abbrev pub Files : Type 0
Files = List ℕ → Option (List ℕ)

-- ---- plans

-- as what the bytes of a file are read
pub data Kind : Type 0 where
  instance : Kind
  pairs : Kind  -- pairs of the instance before
  model : Kind  -- a formula
  proof : Kind  -- a proof for the formula before, or for the model of the instance before

-- a file that is read on a port, as something of a kind
pub record Input : Type 0 where
  pub port : Port
  pub kind : Kind
  pub name : List ℕ

-- the file of this name, read on this port as something of this kind
abbrev pub input : Port → Kind → List ℕ → Input
input port kind name = record { port = port; kind = kind; name = name }

-- a file that is written on a port
pub record Named : Type 0 where
  pub port : Port
  pub name : List ℕ

-- the file of this name, written on this port
abbrev pub to_file : Port → List ℕ → Named
to_file port name = record { port = port; name = name }

-- what is to be done with what was read
pub data Job : Type 0 where
  explain : Job  -- tell that the words ask for nothing
  solve : ℕ → Job  -- with at most so many rows learned
  audit : Job
  model : Job
  verify : Job
  check : Job
  bound : Job
  quick : Job

-- The words and the files determine what the job comes to, but for the text of a proof. Which matching a solve finds is left open.
abbrev pub is_determined : Job → Bool
is_determined explain = true
is_determined (solve budget) = false
is_determined audit = true
is_determined model = true
is_determined verify = true
is_determined check = true
is_determined bound = true
is_determined quick = true

-- a command as data
pub record Plan : Type 0 where
  pub inputs : List Input
  pub outputs : List Named
  pub job : Job

-- the model under one name and a proof of it under another
abbrev pub model_and_proof : List ℕ → List ℕ → List Named
model_and_proof name other = to_file Model name ∷ to_file Proof other ∷ []

-- the instance in this file
abbrev pub instance_in : List ℕ → Input
instance_in name = input Instance instance name

-- what a command reads and writes, and what it does
abbrev pub plan_of : Option Request → Plan
plan_of None = record { inputs = []; outputs = []; job = explain }
plan_of (Some (ask.solve name file proof_name budget)) = record { inputs = instance_in name ∷ []; outputs = model_and_proof file proof_name; job = solve budget }
plan_of (Some (ask.audit name pairs_name)) = record { inputs = instance_in name ∷ input Pairs pairs pairs_name ∷ []; outputs = []; job = audit }
plan_of (Some (ask.model name file)) = record { inputs = instance_in name ∷ []; outputs = to_file Model file ∷ []; job = model }
plan_of (Some (ask.verify name proof_name)) = record { inputs = instance_in name ∷ input Proof proof proof_name ∷ []; outputs = []; job = verify }
plan_of (Some (ask.check file proof_name)) = record { inputs = input Model model file ∷ input Proof proof proof_name ∷ []; outputs = []; job = check }
plan_of (Some (ask.bound name file proof_name)) = record { inputs = instance_in name ∷ []; outputs = model_and_proof file proof_name; job = bound }
plan_of (Some (ask.quick name file proof_name)) = record { inputs = instance_in name ∷ []; outputs = model_and_proof file proof_name; job = quick }

-- ---- how inputs are read

-- what the bytes of a file are read as
pub data Value : Type 0 where
  lists : Lists → Value  -- an instance
  listed : List ℕ → Value  -- the numbers of pairs
  formula : Formula → Value
  claim : Claim → Value  -- what a valid proof claims

-- what was read, as one of these values
abbrev pub as_value : {A : Type 0} → (A → Value) → Result A Rejection → Result Value Rejection
as_value value (Err rejection) = Err rejection
as_value value (Ok read) = Ok (value read)

-- what the verdict on a proof says
abbrev pub judged_as : text.Verdict → Result Value Rejection
judged_as (text.Accepted c) = Ok (claim c)
judged_as (text.Refused r) = Err (proof_refused r)
judged_as text.Truncated = Err truncated

-- the proof is within its limit, and this is what its verdict says
pub record IsJudgedAs (f : Formula) (bytes : List ℕ) (read : Result Value Rejection) : Type 0 where
  pub short : length bytes ≤ most ProofBytes
  pub judged : text.Verdict
  pub has : HasVerdict f bytes judged
  pub due : read ≡ judged_as judged

-- what a proof for the formula is read as
abbrev pub ReadsProof : Formula → List ℕ → Result Value Rejection → Type 0
ReadsProof f bytes read = ((most ProofBytes < length bytes) × (read ≡ Err (exceeded ProofBytes))) ⊎ IsJudgedAs f bytes read

-- the instance, if it alone was read
abbrev pub lists_of : List Value → Option Lists
lists_of (lists l ∷ []) = Some l
lists_of values = None

-- the formula that was read, or that of the model of the instance
abbrev pub formula_among : List Value → Option Formula
formula_among (lists l ∷ []) = Some (formula_of l)
formula_among (formula f ∷ []) = Some f
formula_among values = None

-- what bytes are read as, behind these values
abbrev pub Reads : Kind → List Value → List ℕ → Result Value Rejection → Type 0
Reads instance before bytes read = read ≡ as_value lists (taken_lists bytes)
Reads pairs before bytes read = IsSomeAnd (lists_of before) (λ l. read ≡ as_value listed (pairs_in l bytes))
Reads model before bytes read = read ≡ as_value formula (formula_in bytes)
Reads proof before bytes read = IsSomeAnd (formula_among before) (λ f. ReadsProof f bytes read)

-- The inputs are read one after another, behind these values: each as a value, or the first that isn't taken as its rejection.
abbrev pub ReadsTo : List Input → Files → List Value → Result (List Value) Rejection → Type 0
ReadsTo [] files before read = read ≡ Ok before
ReadsTo (i ∷ inputs) files before read =
    (bytes : List ℕ) × (files i.name ≡ Some bytes)
    × (((rejection : Rejection) × Reads i.kind before bytes (Err rejection) × (read ≡ Err rejection))
    ⊎ ((value : Value) × Reads i.kind before bytes (Ok value) × ReadsTo inputs files (before ++ value ∷ []) read))

-- the inputs are taken
pub record AreTaken (inputs : List Input) (files : Files) : Type 0 where
  pub values : List Value
  pub reads : ReadsTo inputs files [] (Ok values)

-- ---- ports and names

-- The port is that of one of the inputs, and those before it are taken.
abbrev pub IsInputPort : (told : Type 0) → List Input → List Input → Files → Port → Type 0
IsInputPort told before [] files port = ⊥
IsInputPort told before (i ∷ inputs) files port = ((port ≡ i.port) × (told → AreTaken before files)) ⊎ IsInputPort told (before ++ i ∷ []) inputs files port

-- the port of one of the inputs
abbrev pub IsReadPort : List Input → Port → Type 0
IsReadPort [] port = ⊥
IsReadPort (i ∷ inputs) port = (port ≡ i.port) ⊎ IsReadPort inputs port

-- the port of one of the outputs
abbrev pub IsWritePort : List Named → Port → Type 0
IsWritePort [] port = ⊥
IsWritePort (o ∷ outputs) port = (port ≡ o.port) ⊎ IsWritePort outputs port

-- the name of one of the outputs
abbrev pub is_named : List Named → List ℕ → Bool
is_named outputs name = list_any (λ o. bytes_eq name o.name) outputs

-- there are outputs
abbrev pub AreSome : List Named → Type 0
AreSome [] = ⊥
AreSome (o ∷ outputs) = Unit {0}
