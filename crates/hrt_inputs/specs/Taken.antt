-- What the bytes of a file are read as, if they are taken.
use Rattle.std.specs.Prelude.{◌≡◌, ◌≤◌, ℕ, ◌==◌, nat_lt, if◌then◌else◌, List, length, Option, Some, None, Result, Ok, Err}
use Rattle.rank_tables.specs.Instance.{Lists, pair_count}
use Rattle.rank_tables.specs.Terms.{model_terms}
use Rattle.hrt_text.specs.Text.{rows}
use Rattle.hrt_reader.specs.Accepted.{Spells}
use Rattle.hrt_reader.specs.PairsText.{pairs_of_rows, pairs_refusal}
use Rattle.hrt_reader.specs.Refusal.{Refusal, refusal, lists_of_rows}
use Rattle.pb_rows.specs.Formula.{Formula}
use Rattle.stability_model.specs.Model.{formula}
use Rattle.opb_text.specs.declared.refusal.OpbRefusal.{OpbRefusal}
use Rattle.opb_text.specs.declared.refusal.OpbRefusal.TheVariants as opb
use Rattle.opb_text.specs.Refusal.{lines_of, refusal as opb_refusal}
use Rattle.opb_text.specs.Statements.{formula_said, statements}
use Rattle.hrt_inputs.specs.declared.limit.Limit.TheVariants.{Residents, Hospitals, Pairs, Terms, InstanceBytes, PairsBytes, ModelBytes, Variables, Rows}
use Rattle.hrt_inputs.specs.declared.stop.ModelKind.TheVariants.{Syntax, TooBig}
use Rattle.hrt_inputs.specs.Limits.{most}
use Rattle.hrt_inputs.specs.Rejections.{Rejection, exceeded, model_refused, pairs_refused, refused}

-- ---- instances

-- the lists, unless they are refused
abbrev pub unless_refused : Option Refusal → Lists → Result Lists Rejection
unless_refused None lists = Ok lists
unless_refused (Some r) lists =
    if r.kind == 11 then Err (exceeded Residents) else if r.kind == 12 then Err (exceeded Hospitals) else Err (refused r)

-- the lists that the bytes of an instance spell, or why they are not taken
abbrev pub lists_in : List ℕ → Result Lists Rejection
lists_in bytes =
    if nat_lt (most InstanceBytes) (length bytes) then Err (exceeded InstanceBytes)
    else unless_refused (refusal (rows bytes)) (lists_of_rows (rows bytes))

-- the lists, unless they have more pairs than are taken
abbrev pub of_few_pairs : Result Lists Rejection → Result Lists Rejection
of_few_pairs (Err rejection) = Err rejection
of_few_pairs (Ok lists) = if nat_lt (most Pairs) (pair_count lists) then Err (exceeded Pairs) else Ok lists

-- the lists, unless their 0/1 model has more terms than are taken
abbrev pub of_few_terms : Result Lists Rejection → Result Lists Rejection
of_few_terms (Err rejection) = Err rejection
of_few_terms (Ok lists) = if nat_lt (most Terms) (model_terms lists) then Err (exceeded Terms) else Ok lists

-- the lists of an instance that is taken, or why it isn't
abbrev pub taken_lists : List ℕ → Result Lists Rejection
taken_lists bytes = of_few_terms (of_few_pairs (lists_in bytes))

-- The bytes are a spelling of these lists, and within the limits: these are the lists that are taken (`taken_where_spelled`).
pub record IsInstance (bytes : List ℕ) (lists : Lists) : Type 0 where
  pub short : length bytes ≤ most InstanceBytes
  pub spelled : Spells bytes lists
  pub few_pairs : pair_count lists ≤ most Pairs
  pub few_terms : model_terms lists ≤ most Terms

-- a file is there, and what is read in it is taken
pub record IsTakenAs {A : Type 0} (read : List ℕ → Result A Rejection) (file : Option (List ℕ)) : Type 0 where
  pub bytes : List ℕ
  pub is_file : file ≡ Some bytes
  pub value : A
  pub taken : read bytes ≡ Ok value

-- the file is an instance that is taken
abbrev pub IsTaken : Option (List ℕ) → Type 0
IsTaken file = IsTakenAs taken_lists file

-- ---- pairs

-- the pairs, unless they are refused
abbrev pub unless_pairs_refused : Option Refusal → List ℕ → Result (List ℕ) Rejection
unless_pairs_refused None pairs = Ok pairs
unless_pairs_refused (Some r) pairs = Err (pairs_refused r)

-- the numbers of the pairs that the bytes of a text of pairs spell, or why they are not taken
abbrev pub pairs_in : Lists → List ℕ → Result (List ℕ) Rejection
pairs_in lists bytes =
    if nat_lt (most PairsBytes) (length bytes) then Err (exceeded PairsBytes)
    else unless_pairs_refused (pairs_refusal lists (rows bytes)) (pairs_of_rows lists (rows bytes))

-- ---- models

-- the formula of the lists' model
abbrev pub model_of : Result Lists Rejection → Result Formula Rejection
model_of (Err rejection) = Err rejection
model_of (Ok lists) = Ok (formula lists)

-- the formula of the model of the instance that the bytes spell
abbrev pub formula_of_instance : List ℕ → Result Formula Rejection
formula_of_instance bytes = model_of (taken_lists bytes)

-- the formula, unless it is refused. Want of memory is no text's refusal.
abbrev pub unless_model_refused : Option OpbRefusal → Formula → Result Formula Rejection
unless_model_refused None f = Ok f
unless_model_refused (Some (opb.Syntax k)) f = Err (model_refused Syntax k)
unless_model_refused (Some (opb.TooBig k)) f = Err (model_refused TooBig k)
unless_model_refused (Some (opb.TooManyVariables k)) f = Err (exceeded Variables)
unless_model_refused (Some (opb.TooManyRows k)) f = Err (exceeded Rows)
unless_model_refused (Some opb.NoMemory) f = Ok f

-- the formula that the bytes of a model spell, or why they are not taken
abbrev pub formula_in : List ℕ → Result Formula Rejection
formula_in bytes =
    if nat_lt (most ModelBytes) (length bytes) then Err (exceeded ModelBytes)
    else unless_model_refused (opb_refusal bytes) (formula_said (statements (lines_of bytes)))
