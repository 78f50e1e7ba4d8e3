-- Slots, which hold the live rows. An empty one held a row that was removed, or was made for one that couldn't be added.
use Rattle.std.specs.Prelude.{◌≡◌, ◌≤◌, ◌<◌, ◌+◌, ◌++◌, ◌^◌, ◌⊎◌, ℕ, List, [], ◌∷◌, Option, Some, None, slice_index_or}
use Rattle.std.specs.List.{All, Contains}
use Rattle.hrt_base.specs.declared.literal.Term.{Term}
use Rattle.pb_rows.specs.Terms.{PlainRow, coef_sum, positive_part}
use Rattle.pb_rows.specs.Closure.{Keeps, Literals}
use Rattle.pb_rows.specs.Formula.{NumberedRow}
use Rattle.rup_engine.specs.declared.store.Slot.{Slot}
use Rattle.propagation.specs.Following.{IsOver}
use Rattle.rup_engine.specs.Propagation.{IsSteady}

-- each slot holds a live row with its number, or is empty
abbrev pub Slots : Type 0
Slots = List (Option Slot)

-- the row in a slot, with its number
abbrev pub entry_of : Slot → NumberedRow
entry_of s = record { number = s.number.0; row = s.row }

-- the rows in the slots that aren't empty, with their numbers
abbrev pub entries_of : Slots → List NumberedRow
entries_of [] = []
entries_of (None ∷ slots) = entries_of slots
entries_of (Some s ∷ slots) = entry_of s ∷ entries_of slots

-- the slot at a place, empty past the end
abbrev pub slot_at : Slots → ℕ → Option Slot
slot_at slots k = slice_index_or slots k None

-- the terms of the row in a slot, none where it is empty
abbrev pub terms_of : Option Slot → List Term
terms_of None = []
terms_of (Some s) = s.row.terms

-- ---- facts about what a slot holds, if anything

-- Of the row each term is among the heads or has a coefficient that, with the degree, is at most rest; of each it is at most
-- bound. The heads are terms of the row.
pub record IsShort (heads : List Term) (rest bound : ℕ) (r : PlainRow) : Type 0 where
  pub within : All (Contains r.terms) heads
  pub reached : r.degree ≤ rest
  pub others : All (λ t. Contains heads t ⊎ (r.degree + positive_part t.coef ≤ rest)) r.terms
  pub unfalsified : r.degree ≤ bound
  pub all : All (λ t. r.degree + positive_part t.coef ≤ bound) r.terms

-- the term is added where its coefficient exceeds a number
abbrev pub Picks : ℕ → Term → List Term → List Term → Type 0
Picks least t old new = ((least < positive_part t.coef) × (new ≡ old ++ t ∷ [])) ⊎ ((positive_part t.coef ≤ least) × (new ≡ old))

-- if it holds a row, its heads and bounds are right
abbrev pub IsShortSlot : Option Slot → Type 0
IsShortSlot None = Unit {0}
IsShortSlot (Some s) = IsShort s.heads.items s.rest s.bound s.row

-- if it holds a row, the row's variables are from 1 to vars
abbrev pub IsOverSlot : ℕ → Option Slot → Type 0
IsOverSlot vars None = Unit {0}
IsOverSlot vars (Some s) = IsOver vars s.row

-- it holds a row, whose number is n
abbrev pub HasNumber : ℕ → Option Slot → Type 0
HasNumber n None = ⊥
HasNumber n (Some s) = s.number.0 ≡ n

-- it holds a row that has the terms of this one, and at least its degree
abbrev pub IsStrongSlot : PlainRow → Option Slot → Type 0
IsStrongSlot row None = ⊥
IsStrongSlot row (Some s) = (s.row.terms ≡ row.terms) × (row.degree ≤ s.row.degree)

-- if it holds a row, this isn't falsified under the set, which holds every literal that the row propagates
abbrev pub KeepsSlot : Literals → Option Slot → Type 0
KeepsSlot set None = Unit {0}
KeepsSlot set (Some s) = Keeps set s.row

-- no row in the slots is falsified under the set, which holds every literal that one of them propagates
abbrev pub KeepsSlots : Literals → Slots → Type 0
KeepsSlots set slots = All (KeepsSlot set) slots

-- if it holds a row, the sum reaches the row's degree, and the row has nothing left to propagate
abbrev pub IsSteadySlot : Literals → ℕ → Option Slot → Type 0
IsSteadySlot set sum None = Unit {0}
IsSteadySlot set sum (Some s) = IsSteady set sum s.row

-- the rows are over the variables, no two have one number, their coefficients fit, and their heads and bounds are right
pub record AreSlots (vars : ℕ) (slots : Slots) : Type 0 where
  pub covered : All (IsOverSlot vars) slots
  pub distinct : (j k n : ℕ) → HasNumber n (slot_at slots j) → HasNumber n (slot_at slots k) → j ≡ k
  pub fits : (k : ℕ) → coef_sum (terms_of (slot_at slots k)) ≤ 2 ^ 120
  pub short : All IsShortSlot slots
