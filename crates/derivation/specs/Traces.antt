-- What the lines of a written proof tell besides, and the law that they keep.
use Rattle.std.specs.Prelude.{◌≡◌, ◌<◌, ℕ, ◌+◌, ◌*◌, ◌||◌, nat_le, IsFalse, IsTrue, is_some, List, [], ◌∷◌, ◌++◌, length, map, All, pos, neg_ℤ, Option, Some, None}
use Rattle.hrt_base.specs.declared.numbered.RowNo.{RowNo}
use Rattle.hrt_base.specs.declared.literal.Lit.{Lit}
use Rattle.pb_rows.specs.Terms.{PlainRow}
use Rattle.pb_rows.specs.Closure.{Keeps}
use Rattle.pb_rows.specs.Formula.{Formula, NumberedRow, row_of}
use Rattle.rank_tables.specs.Instance.{Lists, pair_count}
use Rattle.rank_tables.specs.Numbers.{is_in}
use Rattle.rank_tables.specs.Tables.{IsPairNo}
use Rattle.stability_model.specs.Gone.{AreGone, Gone, Pairs, ceiling}
use Rattle.stability_model.specs.Model.{formula, pair_row_no, rows}
use Rattle.proof_lines.specs.declared.line.Line.{Line}
use Rattle.proof_lines.specs.declared.line.Line.TheVariants.{Pol, Rup, Soli}
use Rattle.proof_lines.specs.declared.line.PolStep.{PolStep}
use Rattle.proof_lines.specs.declared.line.PolStep.TheVariants.{Id}
use Rattle.proof_lines.specs.declared.note.Note.{Note}
use Rattle.proof_lines.specs.declared.note.Note.TheVariants.{Unit as UnitRow, Bound as BoundRow, Load, Learn, Drop}
use Rattle.proof_lines.specs.Spelling.{read_line}
use Rattle.proof_lines.specs.Notes.{note_in}
use Rattle.proof_rules.specs.Claims.{at_least_row}
use Rattle.proof_rules.specs.States.{State}
use Rattle.proof_rules.specs.Valid.{Place, Proving}
use Rattle.proof_rules.specs.Texts.{cut}
use Rattle.proof_rules.specs.Held.{Held, NoneIsDeleted, is_held, row_numbers}
use Rattle.proof_rules.specs.Notes.{Fresh}
use Rattle.proof_rules.specs.Told.{Told, first_told, told_after}
use Rattle.derivation.specs.Deletions.{unit_row}

-- Where lines lead and which rows are held there. From the bound note on, the number of the first row that was made since the last
-- mark: bound, load and learn notes and `soli` lines are marks. The pairs in the rows that unit notes named. The numbers of the rows
-- that `pol` lines made, and of those that load notes named.
pub record Trace : Type 0 where
  pub told : Told
  pub since : Option ℕ
  pub units : List ℕ
  pub made : List ℕ
  pub loaded : List ℕ

-- what is told before any line
abbrev pub first_trace : Lists → Trace
first_trace lists = record { told = first_told lists; since = None; units = []; made = []; loaded = [] }

-- ---- one line

-- the first row after a note that is a mark is the next one
abbrev pub since_note : ℕ → Note → Option ℕ → Option ℕ
since_note next (BoundRow id) since = Some next
since_note next (Load trues ids) (Some k) = Some next
since_note next (Learn id decisions l) (Some k) = Some next
since_note next note since = since

-- the first row after a `soli` line is the one after its own
abbrev pub since_line : ℕ → Line → Option ℕ → Option ℕ
since_line next (Soli ls) (Some k) = Some (next + 1)
since_line next line since = since

-- since when rows count after a line, which is a note, or another line that has a spelling, or neither
abbrev pub since_after : Place → Option Line → Option Note → Option ℕ → Option ℕ
since_after (Proving s) line (Some note) since = since_note s.next note since
since_after (Proving s) (Some line) None since = since_line s.next line since
since_after place line _ since = since

-- the variables of a row, if there is one
abbrev pub variables_of : Option PlainRow → List ℕ
variables_of None = []
variables_of (Some row) = map (λ t. t.lit.var) row.terms

-- a unit note names the row of a pair
abbrev pub units_after : Place → Option Note → List ℕ → List ℕ
units_after (Proving s) (Some (UnitRow id)) units = units ++ variables_of (row_of id.0 s.live)
units_after place _ units = units

-- a `pol` line makes the next row
abbrev pub made_after : Place → Option Line → List ℕ → List ℕ
made_after (Proving s) (Some (Pol steps)) made = made ++ s.next ∷ []
made_after place line made = made

-- a load note names rows
abbrev pub loaded_after : Option Note → List ℕ → List ℕ
loaded_after (Some (Load trues ids)) loaded = loaded ++ row_numbers ids
loaded_after _ loaded = loaded

-- what is told after a line
abbrev pub trace_after : Formula → Trace → List ℕ → Trace
trace_after f t text = record {
  told = told_after f t.told text;
  since = since_after t.told.place (read_line text) (note_in text) t.since;
  units = units_after t.told.place (note_in text) t.units;
  made = made_after t.told.place (read_line text) t.made;
  loaded = loaded_after (note_in text) t.loaded;
}

-- what is told after lines
abbrev pub trace_by : Formula → Trace → List (List ℕ) → Trace
trace_by f t [] = t
trace_by f t (text ∷ texts) = trace_by f (trace_after f t text) texts

-- what is told after the whole lines of a text
abbrev pub trace_of : Lists → List ℕ → Trace
trace_of lists bytes = trace_by (formula lists) (first_trace lists) (cut bytes).whole

-- ---- the law

-- the step names no row, or one that is held or has at least this number
abbrev pub IsKnownStep : Held → ℕ → PolStep → Type 0
IsKnownStep held k (Id id) = IsTrue (is_held held id.0 || nat_le k id.0)
IsKnownStep held k step = Unit {0}

-- how many rows may be made between two marks: 4n + 4, n the number of pairs
abbrev pub most_between : Lists → ℕ
most_between lists = 4 * pair_count lists + 4

-- from the bound note on, the steps name rows that are held or were made since the last mark, and their row isn't one too many
abbrev pub IsLawfulPol : Lists → ℕ → Held → Option ℕ → List PolStep → Type 0
IsLawfulPol lists next held None steps = Unit {0}
IsLawfulPol lists next held (Some k) steps = All (IsKnownStep held k) steps × (next < k + most_between lists)

-- no `rup` line stands behind the bound note, and the row of a `soli` line is no row of the model
abbrev pub IsLawfulLine : Lists → State → Trace → Line → Type 0
IsLawfulLine lists s t (Pol steps) = IsLawfulPol lists s.next t.told.held t.since steps
IsLawfulLine lists s t (Rup w) = t.since ≡ None
IsLawfulLine lists s t (Soli ls) = length (rows lists) < s.next
IsLawfulLine lists s t line = Unit {0}

-- the row with this number says that the variable of the pair is 0; the pair is gone, and no unit note named a row of it before
pub record NamesGone (lists : Lists) (live : List NumberedRow) (units : List ℕ) (id : RowNo) : Type 0 where
  pub pair : ℕ
  pub gone : Gone lists pair
  pub new : IsFalse (is_in pair units)
  pub row : row_of id.0 live ≡ Some (unit_row pair)

-- the row with this number says that the objective is at least minus the ceiling
pub record NamesCeiling (lists : Lists) (live : List NumberedRow) (id : RowNo) : Type 0 where
  pub gone : Pairs
  pub are : AreGone lists gone
  pub row : row_of id.0 live ≡ Some (at_least_row (formula lists) (neg_ℤ (pos (ceiling lists gone))))

-- Unit notes are of pairs that are gone, one for each. There is one bound note, of the ceiling, and none where there is no pair.
-- Rows are loaded and learned behind it, and a learned row was made by a `pol` line. But for loaded ones they are no rows of the
-- model.
abbrev pub IsLawfulNote : Lists → State → Trace → Note → Type 0
IsLawfulNote lists s t (UnitRow id) = (length (rows lists) < id.0) × NamesGone lists s.live t.units id
IsLawfulNote lists s t (BoundRow id) = (length (rows lists) < id.0) × (0 < pair_count lists) × (t.since ≡ None) × NamesCeiling lists s.live id
IsLawfulNote lists s t (Load trues ids) = IsTrue (is_some t.since)
IsLawfulNote lists s t (Learn id decisions l) = (length (rows lists) < id.0) × IsTrue (is_some t.since) × IsTrue (is_in id.0 t.made)
IsLawfulNote lists s t (Drop id) = Unit {0}

-- among the steps a note or another line keeps the law, and no held row and no row of the model is deleted; elsewhere is no note
abbrev pub IsLawfulAt : Lists → Trace → Place → Option Line → Option Note → Type 0
IsLawfulAt lists t (Proving s) line (Some note) = NoneIsDeleted lists s.live t.told.held × IsLawfulNote lists s t note
IsLawfulAt lists t (Proving s) (Some line) None = NoneIsDeleted lists s.live t.told.held × IsLawfulLine lists s t line
IsLawfulAt lists t place line (Some note) = ⊥
IsLawfulAt lists t place line None = Unit {0}

-- lines keep the law one after another
abbrev pub AreLawful : Lists → Trace → List (List ℕ) → Type 0
AreLawful lists t [] = Unit {0}
AreLawful lists t (text ∷ texts) = IsLawfulAt lists t t.told.place (read_line text) (note_in text) × AreLawful lists (trace_after (formula lists) t text) texts

-- the lines of the bytes keep the law
abbrev pub IsLawfulText : Lists → List ℕ → Type 0
IsLawfulText lists bytes = AreLawful lists (first_trace lists) (cut bytes).whole

-- each pair that is gone is one of these
abbrev pub AreAllGone : Lists → List ℕ → Type 0
AreAllGone lists units = (p : ℕ) → Gone lists p → IsTrue (is_in p units)

-- A whole proof: its lines keep the law, each pair that is gone has its unit note, and where there is a pair there is a bound note.
pub record IsLawfulProof (lists : Lists) (bytes : List ℕ) : Type 0 where
  pub lawful : IsLawfulText lists bytes
  pub units : AreAllGone lists (trace_of lists bytes).units
  pub bound : 0 < pair_count lists → IsTrue (is_some (trace_of lists bytes).since)

-- ---- what the law gives

-- each row of a pair that is held is one of these
abbrev pub AreLoadedIn : Lists → Held → List ℕ → Type 0
AreLoadedIn lists held loaded = (p : ℕ) → IsPairNo lists p → IsTrue (is_held held (pair_row_no lists p)) → IsTrue (is_in (pair_row_no lists p) loaded)

-- whatever lines keep the law, each row of a pair that is held after them was named by a load note
abbrev pub HeldRowsAreLoaded : Type 0
HeldRowsAreLoaded = (lists : Lists) (bytes : List ℕ) → IsLawfulText lists bytes → AreLoadedIn lists (trace_of lists bytes).told.held (trace_of lists bytes).loaded

-- a row that is fresh says more than propagation over the held rows: it is open under their closure
abbrev pub FreshRowsAreOpen : Type 0
FreshRowsAreOpen = (vars : ℕ) (held : List PlainRow) (row : PlainRow) (decisions : List Lit) (l : Lit) (fresh : Fresh vars held row decisions l) → Keeps fresh.set row → ⊥
