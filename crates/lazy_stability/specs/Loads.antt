-- What loading the rows of pairs does.
use Rattle.std.specs.Prelude.{◌≡◌, ◌++◌, ℕ, IsFalse, List, [], ◌∷◌, length, map, take}
use Rattle.std.specs.List.{All}
use Rattle.hrt_base.specs.declared.numbered.PairNo.{PairNo}
use Rattle.hrt_base.specs.declared.numbered.RowNo.{RowNo}
use Rattle.pb_rows.specs.Rows.{in_normal_form}
use Rattle.pb_rows.specs.Closure.{Falsified, Literals}
use Rattle.rank_tables.specs.Instance.{Lists}
use Rattle.stability_model.specs.Model.{pair_row, pair_row_no}
use Rattle.proof_lines.specs.Spelling.{row_no}
use Rattle.proof_lines.specs.declared.note.Note.{Note}
use Rattle.proof_lines.specs.declared.note.Note.TheVariants.{Load}
use Rattle.proof_rules.specs.Held.{Held as HeldNumbers, is_held as is_number_held}
use Rattle.row_arena.specs.Held.{Held}
use Rattle.row_arena.specs.declared.arena.Place.{Place}
use Rattle.pb_propagate.specs.Engines.{EngineState}

-- ---- the note

-- the numbers of the rows of pairs
abbrev pub row_numbers_of : Lists → List PairNo → List RowNo
row_numbers_of lists pairs = map (λ p. row_no (pair_row_no lists p.0)) pairs

-- the note that at the point of a matching the rows of these pairs don't hold, and are held from here on
abbrev pub load_note : Lists → List ℕ → List PairNo → Note
load_note lists m pairs = Load m (row_numbers_of lists pairs)

-- ---- the rows

-- places as plain numbers
abbrev pub place_numbers : List Place → List ℕ
place_numbers places = map (λ place. place.0) places

-- the rows of pairs at places, one at each, under their numbers
abbrev pub rows_at : Lists → List PairNo → List ℕ → List Held
rows_at lists (p ∷ pairs) (place ∷ places) = record { place = place; row = in_normal_form (pair_row lists p.0); tag = pair_row_no lists p.0 } ∷ rows_at lists pairs places
rows_at lists pairs places = []

-- the rows of the pairs were added behind all others, at these places, and are due; nothing else of the engine changed
pub record LoadsRows (lists : Lists) (pairs : List PairNo) (places : List Place) (old new : EngineState) : Type 0 where
  pub is : new ≡ record old { held = old.held ++ rows_at lists pairs (place_numbers places); due_rows = old.due_rows ++ place_numbers places }
  pub count : length places ≡ length pairs

-- the rows of the first of the pairs were added
pub record LoadsFront (lists : Lists) (pairs : List PairNo) (old new : EngineState) : Type 0 where
  pub count : ℕ
  pub places : List Place
  pub loads : LoadsRows lists (take count pairs) places old new

-- ---- before

-- no row of these pairs is held
abbrev pub AreNotHeld : Lists → HeldNumbers → List PairNo → Type 0
AreNotHeld lists held pairs = All (λ p. IsFalse (is_number_held held (pair_row_no lists p.0))) pairs

-- the row of each of these pairs is falsified
abbrev pub AreFalsified : Lists → Literals → List PairNo → Type 0
AreFalsified lists set pairs = All (λ p. Falsified set (in_normal_form (pair_row lists p.0))) pairs
