-- The bound row, and what making it does to a derivation.
use Rattle.std.specs.Prelude.{◌≡◌, ◌<◌, ◌⊎◌, List, [], ◌∷◌, Option, Some, None, pos, neg_ℤ}
use Rattle.hrt_base.specs.declared.numbered.RowNo.{RowNo}
use Rattle.pb_rows.specs.Terms.{PlainRow}
use Rattle.rank_tables.specs.Instance.{Lists, pair_count}
use Rattle.stability_model.specs.Model.{formula}
use Rattle.stability_model.specs.Gone.{AreGone, ceiling}
use Rattle.proof_lines.specs.declared.line.PolStep.{PolStep}
use Rattle.proof_lines.specs.declared.line.Line.TheVariants.{Pol}
use Rattle.proof_lines.specs.declared.note.Note.TheVariants.{Bound as BoundRow}
use Rattle.proof_lines.specs.Spelling.{row_no}
use Rattle.proof_lines.specs.Texts.{line_text}
use Rattle.proof_rules.specs.Claims.{at_least_row}
use Rattle.derivation.specs.Deletions.{Deletions, is_deleted}
use Rattle.derivation.specs.Derived.{Derived}
use Rattle.derivation.specs.Pieces.{ALine, ANote, AddsLawfully}
use Rattle.derivation.specs.Steps.{with_new_row, with_note}
use Rattle.derivation.specs.Traces.{Trace}
use Rattle.capacity_bound.specs.Steps.{AddsRows, bound_operands}

-- the objective is at least minus the ceiling
abbrev pub bound_row : Lists → Deletions → PlainRow
bound_row lists deletions = at_least_row (formula lists) (neg_ℤ (pos (ceiling lists (is_deleted deletions))))

-- one line of these steps makes the row
abbrev pub with_bound_row : Lists → Deletions → List PolStep → Derived → Derived
with_bound_row lists deletions steps d = with_new_row (bound_row lists deletions) (line_text (Pol steps)) d

-- and one note names it
abbrev pub with_bound : Lists → Deletions → List PolStep → Derived → Derived
with_bound lists deletions steps d = with_note (BoundRow (row_no d.state.next)) (with_bound_row lists deletions steps d)

-- the row was made and noted
pub record HasBound (lists : Lists) (deletions : Deletions) (id : RowNo) (old new : Derived) : Type 0 where
  pub some : 0 < pair_count lists
  pub number : id ≡ row_no old.state.next
  pub steps : List PolStep
  pub adds : AddsRows (bound_operands lists deletions) steps
  pub is : new ≡ with_bound lists deletions steps old

-- an instance without pairs has no bound row
abbrev pub DerivesBound : Lists → Deletions → Option RowNo → Derived → Derived → Type 0
DerivesBound lists deletions None old new = (pair_count lists ≡ 0) × (new ≡ old)
DerivesBound lists deletions (Some id) old new = HasBound lists deletions id old new

-- the row was made, and isn't noted
pub record LacksNote (lists : Lists) (deletions : Deletions) (old new : Derived) : Type 0 where
  pub steps : List PolStep
  pub adds : AddsRows (bound_operands lists deletions) steps
  pub is : new ≡ with_bound_row lists deletions steps old

-- where memory was wanting nothing was done, or all but the note
abbrev pub StopsEarly : Lists → Deletions → Derived → Derived → Type 0
StopsEarly lists deletions old new = (new ≡ old) ⊎ LacksNote lists deletions old new

-- ---- the law

-- a `pol` line and a bound note of this row were added, which keep the law of a written proof, and the note is told
pub record AddsBound (id : RowNo) (old new : Derived) (t : Trace) : Type 0 where
  pub steps : List PolStep
  pub told : Trace
  pub lawful : AddsLawfully (ALine (Pol steps) ∷ ANote (BoundRow id) ∷ []) old t new told
  pub since : told.since ≡ Some new.state.next
  pub units : told.units ≡ t.units

-- so it is wherever no bound note was told of before and exactly the pairs that are gone are deleted; without pairs nothing is done
abbrev pub AddsBoundLawfully : Lists → Deletions → Option RowNo → Derived → Derived → Type 0
AddsBoundLawfully lists deletions None old new = new ≡ old
AddsBoundLawfully lists deletions (Some id) old new = AreGone lists (is_deleted deletions) → (t : Trace) → t.since ≡ None → AddsBound id old new t
