-- What is written for a line and for a note: words with single spaces between them, and a line feed.
use Rattle.std.specs.Prelude.{ℕ, Bool, ◌&&◌, ◌^◌, ◌-◌, nat_le, List, [], ◌∷◌, ◌++◌, map, flat_map, codes, decimal, ℤ, pos, negsuc, Option, Some, None, false, true}
use Rattle.std.specs.Fmt.{signed_decimal}
use Rattle.std.specs.List.{list_all}
use Rattle.hrt_base.specs.declared.literal.Lit.{Lit}
use Rattle.hrt_base.specs.declared.literal.Term.{Term}
use Rattle.hrt_base.specs.declared.numbered.RowNo.{RowNo}
use Rattle.row_text.specs.Rows.{literal_text, row_words}
use Rattle.row_text.specs.Tokens.{words_text}
use Rattle.proof_lines.specs.declared.line.PolStep.{PolStep}
use Rattle.proof_lines.specs.declared.line.PolStep.TheVariants.{Id, Axiom, Add, Times, Divide, Saturate, Weaken}
use Rattle.proof_lines.specs.declared.line.Claim.{Claim}
use Rattle.proof_lines.specs.declared.line.Claim.TheVariants.{Bounds, Unsat, Nothing}
use Rattle.proof_lines.specs.declared.line.Line.{Line}
use Rattle.proof_lines.specs.declared.line.Line.TheVariants.{Header, Count, Pol, Rup, Soli, Del, Output, Conclusion, End, Comment, Blank}
use Rattle.proof_lines.specs.declared.note.Note.{Note}
use Rattle.proof_lines.specs.declared.note.Note.TheVariants.{Unit as unit_note, Bound as bound_note, Load as load_note, Learn as learn_note, Drop as drop_note}
use Rattle.proof_lines.specs.Spelling.{end_words, header_words, output_words}

-- the number of a row in decimal digits
abbrev pub id_text : RowNo → List ℕ
id_text r = decimal r.0

-- `x`, and the number of the variable in decimal digits
abbrev pub variable_text : ℕ → List ℕ
variable_text v = codes "x" ++ decimal v

-- ---- lines

-- a factor has no sign
abbrev pub step_words : PolStep → List (List ℕ)
step_words (Id r) = id_text r ∷ []
step_words (Axiom l) = literal_text l ∷ []
step_words Add = codes "+" ∷ []
step_words (Times k) = signed_decimal k ∷ codes "*" ∷ []
step_words (Divide k) = signed_decimal k ∷ codes "d" ∷ []
step_words Saturate = codes "s" ∷ []
step_words (Weaken v) = variable_text v ∷ codes "w" ∷ []

-- a bound has a sign only where it is negative
abbrev pub bound_text : List ℕ → Option ℤ → List ℕ
bound_text word None = word
bound_text word (Some z) = signed_decimal z

-- the words of a claim, as they stand behind `conclusion`
abbrev pub claim_words : Claim → List (List ℕ)
claim_words (Bounds lower upper) = codes "BOUNDS" ∷ bound_text (codes "-INF") lower ∷ bound_text (codes "INF") upper ∷ []
claim_words Unsat = codes "UNSAT" ∷ []
claim_words Nothing = codes "NONE" ∷ []

-- the words that are written for a line; for a comment, `*` alone
abbrev pub line_words : Line → List (List ℕ)
line_words Header = header_words
line_words (Count n) = codes "f" ∷ decimal n ∷ []
line_words (Pol steps) = codes "pol" ∷ flat_map step_words steps
line_words (Rup row) = codes "rup" ∷ row_words row
line_words (Soli lits) = codes "soli" ∷ map literal_text lits
line_words (Del ids) = codes "del" ∷ codes "id" ∷ map id_text ids
line_words Output = output_words
line_words (Conclusion claim) = codes "conclusion" ∷ claim_words claim
line_words End = end_words
line_words Comment = codes "*" ∷ []
line_words Blank = []

-- without its line feed
abbrev pub spelling : Line → List ℕ
spelling line = words_text (line_words line)

-- what is written for a line, with its line feed
abbrev pub line_text : Line → List ℕ
line_text line = spelling line ++ 10 ∷ []

-- ---- notes

-- the words of a note behind `* note`: its kind, and what follows that
abbrev pub note_tail : Note → List (List ℕ)
note_tail (unit_note r) = codes "unit" ∷ id_text r ∷ []
note_tail (bound_note r) = codes "bound" ∷ id_text r ∷ []
note_tail (load_note trues rows) = codes "load" ∷ (map variable_text trues ++ codes ":" ∷ map id_text rows)
note_tail (learn_note r decisions asserts) = codes "learn" ∷ id_text r ∷ codes ":" ∷ (map literal_text decisions ++ codes ":" ∷ literal_text asserts ∷ [])
note_tail (drop_note r) = codes "drop" ∷ id_text r ∷ []

-- the words of a note, which is written as a comment
abbrev pub note_words : Note → List (List ℕ)
note_words note = codes "*" ∷ codes "note" ∷ note_tail note

-- without its line feed
abbrev pub note_spelling : Note → List ℕ
note_spelling note = words_text (note_words note)

-- what is written for a note, with its line feed
abbrev pub note_text : Note → List ℕ
note_text note = note_spelling note ++ 10 ∷ []

-- ---- which lines and notes have a spelling

-- the row number has a spelling: it is 1 to 10^18 - 1
abbrev pub is_spellable_id : RowNo → Bool
is_spellable_id r = nat_le 1 r.0 && nat_le r.0 (10 ^ 18 - 1)

-- the variable has a spelling of its own: it is 1 to 4,294,967,295
abbrev pub is_spellable_variable : ℕ → Bool
is_spellable_variable v = nat_le 1 v && nat_le v 4294967295

-- the literal's variable has a spelling
abbrev pub is_spellable_literal : Lit → Bool
is_spellable_literal l = is_spellable_variable l.var

-- the number may be a factor: it is at least 1
abbrev pub is_factor : ℤ → Bool
is_factor (pos n) = nat_le 1 n
is_factor (negsuc n) = false

-- the step has a spelling: its row number, variable or factor has one, where there is one
abbrev pub is_spellable_step : PolStep → Bool
is_spellable_step (Id r) = is_spellable_id r
is_spellable_step (Axiom l) = is_spellable_literal l
is_spellable_step (Times k) = is_factor k
is_spellable_step (Divide k) = is_factor k
is_spellable_step (Weaken v) = is_spellable_variable v
is_spellable_step step = true

-- the term's literal has a spelling; a coefficient always has one
abbrev pub is_spellable_term : Term → Bool
is_spellable_term t = is_spellable_literal t.lit

-- the list isn't empty, and each of its items passes the test
abbrev pub is_nonempty_and_all : {A : Type 0} → (A → Bool) → List A → Bool
is_nonempty_and_all test [] = false
is_nonempty_and_all test (x ∷ xs) = list_all test (x ∷ xs)

-- The line has a spelling: row numbers are 1 to 10^18 - 1, a count at most 10^18 - 1, variables 1 to 4,294,967,295, factors at
-- least 1, and a `pol` line has a step and a `del` line a row number.
abbrev pub is_spellable : Line → Bool
is_spellable (Count n) = nat_le n (10 ^ 18 - 1)
is_spellable (Pol steps) = is_nonempty_and_all is_spellable_step steps
is_spellable (Rup row) = list_all is_spellable_term row.terms
is_spellable (Soli lits) = list_all is_spellable_literal lits
is_spellable (Del ids) = is_nonempty_and_all is_spellable_id ids
is_spellable line = true

-- the note has a spelling: its row numbers and variables have one, and a load note has at least one row number
abbrev pub is_spellable_note : Note → Bool
is_spellable_note (unit_note r) = is_spellable_id r
is_spellable_note (bound_note r) = is_spellable_id r
is_spellable_note (load_note trues rows) = list_all is_spellable_variable trues && is_nonempty_and_all is_spellable_id rows
is_spellable_note (learn_note r decisions asserts) = is_spellable_id r && list_all is_spellable_literal decisions && is_spellable_literal asserts
is_spellable_note (drop_note r) = is_spellable_id r
