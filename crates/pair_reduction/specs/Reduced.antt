-- What a reduction leaves.
use Rattle.std.specs.Prelude.{All, ◌||◌, ◌^◌, [], ◌∷◌, ◌++◌, ◌-◌, slice_set, Bool, ◌&&◌, nat_lt, count_by, ◌≡◌, ℕ, ◌+◌, ◌*◌, ◌≤◌, true, false, ◌⊎◌, List, length, Some}
use Rattle.pb_rows.specs.Terms.{PlainRow}
use Rattle.hrt_base.specs.declared.numbered.RowNo.{RowNo}
use Rattle.pb_rows.specs.Formula.{NumberedRow, is_numbered, row_of}
use Rattle.rank_tables.specs.Numbers.{is_distinct, is_in}
use Rattle.rank_tables.specs.Instance.{Lists, capacity_of, pair_at, pair_count, rising_pairs_of_hospital, rank_by_hospital}
use Rattle.rank_tables.specs.Tables.{IsPairNo}
use Rattle.stability_model.specs.Gone.{Gone, rule_a, rule_b}
use Rattle.rank_tables.specs.Stability.{is_weakly_stable}
use Rattle.proof_lines.specs.declared.line.Line.TheVariants.{Rup}
use Rattle.proof_lines.specs.declared.note.Note.TheVariants.{Unit as UnitRow}
use Rattle.proof_lines.specs.Spelling.{row_no}
use Rattle.proof_lines.specs.Texts.{line_text}
use Rattle.proof_rules.specs.Held.{keeping, row_numbers}
use Rattle.derivation.specs.Deletions.{AreUnitRows, Deletions, deleted_count, is_deleted, unit_row_no, unit_row}
use Rattle.derivation.specs.Derived.{Derived, StaysValid}
use Rattle.derivation.specs.Pieces.{TakesLine, TakesNote}
use Rattle.derivation.specs.Ready.{IsReady, IsSpare}
use Rattle.derivation.specs.Steps.{with_new_row, with_note, written_of}
use Rattle.pair_reduction.specs.Added.{AddsNotes, LeavesOnly, unit_notes}
use Rattle.pair_reduction.specs.Offers.{offer_row}

-- no weakly stable matching has a pair that is deleted
abbrev pub AreInNone : Lists → Deletions → Type 0
AreInNone lists deletions = (m : List ℕ) (p : ℕ) → is_weakly_stable lists m ≡ true → is_deleted deletions p ≡ true → is_in p m ≡ false

-- each row that was live is live
abbrev pub KeepsLive : Derived → Derived → Type 0
KeepsLive old new = (n : ℕ) (row : PlainRow) → row_of n old.state.live ≡ Some row → row_of n new.state.live ≡ Some row

-- the derivation went on by more lines, which log and conclude nothing
pub record GoesOn (old new : Derived) : Type 0 where
  pub more : (text : List ℕ) × (new.pending ≡ old.pending ++ text)
  pub later : old.state.next ≤ new.state.next
  pub lists : new.lists ≡ old.lists
  pub claim : new.claim ≡ old.claim
  pub least : new.state.least ≡ old.state.least
  pub valid : StaysValid old new

-- The rows of the deleted pairs, one for each and each of them new, are held from here on, and no other row. Lines that keep the law
-- of a written proof were added, with a unit note of each pair and no other note. The rows are live, and no other row is that wasn't
-- live before.
pub record HoldsUnits (old new : Derived) (deletions : Deletions) : Type 0 where
  pub ids : List ℕ
  pub later : (n : ℕ) → is_in n ids ≡ true → (old.state.next ≤ n) × (n + 1 ≤ new.state.next)
  pub held : new.held ≡ keeping ids old.held
  pub notes : AddsNotes [] deletions (unit_notes ids) old new
  pub only : LeavesOnly ids old new
  pub count : length ids ≡ deleted_count deletions
  pub each : (n : ℕ) → is_in n ids ≡ true → (p : ℕ) × (unit_row_no deletions p ≡ Some (record { 0 = n }))
  pub all : (p : ℕ) (id : RowNo) → unit_row_no deletions p ≡ Some id → is_in id.0 ids ≡ true

-- at most 20,001 rows were made for each of so many pairs
abbrev pub MakesFew : ℕ → Derived → Derived → Type 0
MakesFew pairs old new = new.state.next ≤ old.state.next + 20001 * pairs

-- the unit row of a pair was made by a `rup` line
abbrev pub with_unit_row : ℕ → Derived → Derived
with_unit_row p d = with_new_row (unit_row p) (line_text (Rup (written_of (unit_row p)))) d

-- the unit row of a pair was made by a `rup` line, and a note names it
abbrev pub with_unit : ℕ → Derived → Derived
with_unit p d = with_note (UnitRow (row_no d.state.next)) (with_unit_row p d)

-- the line was added that makes the unit row of a pair, and then the note that names it
pub record AddsUnit (p : ℕ) (old new : Derived) : Type 0 where
  pub line : TakesLine (Rup (written_of (unit_row p))) old (with_unit_row p old)
  pub note : TakesNote (UnitRow (row_no old.state.next)) (with_unit_row p old) new

-- where memory was wanting nothing was done, or all but the note
abbrev pub StopsAtUnit : ℕ → Derived → Derived → Type 0
StopsAtUnit p old new = (new ≡ old) ⊎ (new ≡ with_unit_row p old)

-- ---- rows that are made for a while

-- the numbers of rows that were made: each once, each new and live
pub record AreMade (old new : Derived) (ids : List RowNo) : Type 0 where
  pub distinct : is_distinct (row_numbers ids) ≡ true
  pub each : (n : ℕ) → is_in n (row_numbers ids) ≡ true → (old.state.next ≤ n) × (n + 1 ≤ new.state.next) × (is_numbered n new.state.live ≡ true)

-- of the pairs that the hospital of p strictly prefers to p, at least as many as it has posts are offering, and the row of
-- each pair that is offering is live
pub record HasOffers (lists : Lists) (p : ℕ) (live : List NumberedRow) : Type 0 where
  pub offered : ℕ → Bool
  pub enough : capacity_of lists (pair_at lists p).hospital ≤ count_by (λ q. nat_lt (rank_by_hospital lists q) (rank_by_hospital lists p) && offered q) (rising_pairs_of_hospital lists (pair_at lists p).hospital)
  pub rows : (q : ℕ) → IsPairNo lists q → offered q ≡ true → (n : ℕ) × (row_of n live ≡ Some (offer_row lists q))

-- these rows can be forgotten
pub record CanForget (ids : List RowNo) (d : Derived) : Type 0 where
  pub distinct : is_distinct (row_numbers ids) ≡ true
  pub live : (n : ℕ) → is_in n (row_numbers ids) ≡ true → is_numbered n d.state.live ≡ true
  pub spare : All (IsSpare d) ids

-- these rows were forgotten, and nothing else was done
pub record Forgets (ids : List RowNo) (old new : Derived) : Type 0 where
  pub goes_on : GoesOn old new
  pub held : new.held ≡ old.held
  pub next : new.state.next ≡ old.state.next
  pub notes : (deletions : Deletions) → AddsNotes deletions deletions [] old new
  pub others : (n : ℕ) → is_in n (row_numbers ids) ≡ false → row_of n new.state.live ≡ row_of n old.state.live
  pub only : (n : ℕ) → is_numbered n new.state.live ≡ true → (is_numbered n old.state.live ≡ true) × (is_in n (row_numbers ids) ≡ false)

-- ---- one pair

-- pair p was deleted: its row is live, is marked and is held, and nothing else is left of what was made
pub record Deletes (old new : Derived) (before after : Deletions) (p : ℕ) : Type 0 where
  pub id : ℕ
  pub later : (old.state.next ≤ id) × (id + 1 ≤ new.state.next)
  pub goes_on : GoesOn old new
  pub kept : KeepsLive old new
  pub ready : IsReady new
  pub held : new.held ≡ keeping (id ∷ []) old.held
  pub notes : AddsNotes before after (unit_notes (id ∷ [])) old new
  pub only : LeavesOnly (id ∷ []) old new
  pub marked : after ≡ slice_set before (p - 1) (Some (row_no id))
  pub row : row_of id new.state.live ≡ Some (unit_row p)

-- ---- several pairs

-- what is asked for before more pairs are deleted
pub record CanReduce (lists : Lists) (d : Derived) (deletions : Deletions) : Type 0 where
  pub same : lists ≡ d.lists
  pub ready : IsReady d
  pub units : AreUnitRows d.state.live deletions
  pub pairs : length deletions ≡ pair_count lists
  pub gone : (p : ℕ) → is_deleted deletions p ≡ true → Gone lists p

-- a row can be made for each pair that is left, and so many more
abbrev pub HasRoom : ℕ → Lists → Derived → Deletions → Type 0
HasRoom more lists d deletions = d.state.next + (pair_count lists - deleted_count deletions) + more ≤ 10 ^ 18

-- Some pairs were deleted: the rows of those are held, one for each, and those from before are as they were. Some offers were made
-- for it: their rows are live too, and no other row is that wasn't live before.
pub record Reduces (lists : Lists) (old new : Derived) (before after : Deletions) (made : List RowNo) : Type 0 where
  pub can : CanReduce lists new after
  pub goes_on : GoesOn old new
  pub kept : KeepsLive old new
  pub few : new.state.next + deleted_count before ≤ old.state.next + deleted_count after + length made
  pub stays : (p : ℕ) (id : RowNo) → unit_row_no before p ≡ Some id → unit_row_no after p ≡ Some id
  pub ids : List ℕ
  pub later : (n : ℕ) → is_in n ids ≡ true → (old.state.next ≤ n) × (n + 1 ≤ new.state.next)
  pub held : new.held ≡ keeping ids old.held
  pub notes : AddsNotes before after (unit_notes ids) old new
  pub offers : AreMade old new made
  pub apart : (n : ℕ) → is_in n ids ≡ true → is_in n (row_numbers made) ≡ true → ⊥
  pub only : (n : ℕ) → is_numbered n new.state.live ≡ true → is_in n ids ≡ false → is_in n (row_numbers made) ≡ false → is_numbered n old.state.live ≡ true
  pub count : length ids + deleted_count before ≡ deleted_count after
  pub each : (n : ℕ) → is_in n ids ≡ true → (p : ℕ) × (unit_row_no after p ≡ Some (row_no n))
  pub all : (p : ℕ) (id : RowNo) → unit_row_no after p ≡ Some id → (unit_row_no before p ≡ Some id) ⊎ (is_in id.0 ids ≡ true)

-- where a rule shows the pair, it is deleted
abbrev pub IsClosedTo : Lists → Deletions → ℕ → Type 0
IsClosedTo lists deletions p = (rule_a lists (is_deleted deletions) p || rule_b lists (is_deleted deletions) p) ≡ true → is_deleted deletions p ≡ true
