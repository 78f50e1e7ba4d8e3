-- The notes that the solver writes in comments of a proof.
use Rattle.std.specs.Prelude.{ℕ, ◌+◌, ◌&&◌, ◌==◌, nat_le, if◌then◌else◌, List, [], ◌∷◌, length, Option, Some, None, option_map, option_and_then, bytes_eq, codes}
use Rattle.hrt_base.specs.declared.literal.Lit.{Lit}
use Rattle.hrt_base.specs.declared.numbered.RowNo.{RowNo}
use Rattle.hrt_text.specs.Text.{without_return}
use Rattle.row_text.specs.Tokens.{tokens}
use Rattle.row_text.specs.Numbers.{both, read_each, read_literal, read_variable}
use Rattle.proof_lines.specs.Spelling.{most_bytes, one_or_more, read_row_no}
use Rattle.proof_lines.specs.declared.note.Note.{Note}
use Rattle.proof_lines.specs.declared.note.Note.TheVariants.{Unit as unit_note, Bound as bound_note, Load as load_note, Learn as learn_note, Drop as drop_note}

-- What the tokens before the first `:` read as, and the tokens behind it.
pub record Front (A : Type 0) : Type 0 where
  pub items : List A
  pub behind : List (List ℕ)

-- the front with one more item before its others
abbrev pub with_item : {A : Type 0} → A → Front A → Front A
with_item x front = record { items = x ∷ front.items; behind = front.behind }

-- what stands before the first `:`, read item by item, and the tokens behind it; None where there is no `:` or a token before
-- it isn't read
abbrev pub read_front : {A : Type 0} → (List ℕ → Option A) → List (List ℕ) → Option (Front A)
read_front read [] = None
read_front read (t ∷ ts) = if bytes_eq t (codes ":") then Some (record { items = []; behind = ts }) else both with_item (read t) (read_front read ts)

-- ---- what follows the kind of a note

-- one row number
abbrev pub read_one_row : List (List ℕ) → Option RowNo
read_one_row (t ∷ []) = read_row_no t
read_one_row _ = None

-- one literal
abbrev pub read_one_literal : List (List ℕ) → Option Lit
read_one_literal (t ∷ []) = read_literal t
read_one_literal _ = None

-- the load note of the variables before the colon, and of one row number or more behind it
abbrev pub load_behind : Front ℕ → Option Note
load_behind front = option_map (load_note front.items) (one_or_more (read_each read_row_no front.behind))

-- variables, a colon and one row number or more
abbrev pub read_load : List (List ℕ) → Option Note
read_load ts = option_and_then load_behind (read_front read_variable ts)

-- the learn note of the row, of the decisions before the colon, and of the one literal behind it
abbrev pub learn_behind : RowNo → Front Lit → Option Note
learn_behind row front = option_map (learn_note row front.items) (read_one_literal front.behind)

-- the learn note of a row number, if it is read, and of the tokens behind its colon
abbrev pub learn_from : Option RowNo → List (List ℕ) → Option Note
learn_from None ts = None
learn_from (Some row) ts = option_and_then (learn_behind row) (read_front read_literal ts)

-- a row number, a colon, decisions, a colon and a literal
abbrev pub read_learn : List (List ℕ) → Option Note
read_learn (t ∷ u ∷ ts) = if bytes_eq u (codes ":") then learn_from (read_row_no t) ts else None
read_learn _ = None

-- ---- notes

-- the note that the word for its kind and the tokens behind that spell, if any
abbrev pub read_kind : List ℕ → List (List ℕ) → Option Note
read_kind kind ts =
    if bytes_eq kind (codes "unit") then option_map unit_note (read_one_row ts)
    else if bytes_eq kind (codes "bound") then option_map bound_note (read_one_row ts)
    else if bytes_eq kind (codes "load") then read_load ts
    else if bytes_eq kind (codes "learn") then read_learn ts
    else if bytes_eq kind (codes "drop") then option_map drop_note (read_one_row ts)
    else None

-- the note that the tokens of a line spell, if any: `*`, `note`, the kind and what follows it
abbrev pub read_note_tokens : List (List ℕ) → Option Note
read_note_tokens (t ∷ u ∷ v ∷ ts) = if bytes_eq t (codes "*") && bytes_eq u (codes "note") then read_kind v ts else None
read_note_tokens _ = None

-- a line feed at the end is dropped
abbrev pub without_feed : List ℕ → List ℕ
without_feed [] = []
without_feed (b ∷ []) = if b == 10 then [] else b ∷ []
without_feed (b ∷ c ∷ bytes) = b ∷ without_feed (c ∷ bytes)

-- what the bytes before a line feed say as a note, if they are one
abbrev pub note_in : List ℕ → Option Note
note_in text = if nat_le (length text + 1) most_bytes then read_note_tokens (tokens (without_return text)) else None

-- What a line says as a note, if it is one. It may lack its line feed; with it, it has at most 16,777,216 bytes.
abbrev pub note_of : List ℕ → Option Note
note_of bytes = note_in (without_feed bytes)
