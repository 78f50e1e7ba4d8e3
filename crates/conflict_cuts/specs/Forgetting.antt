-- Rows that are forgotten.
use Rattle.std.specs.Prelude.{◌≡◌, ◌≤◌, ◌<◌, ◌-◌, ◌&&◌, ℕ, nat_le, nat_lt, IsFalse, IsTrue, List, length, All}
use Rattle.hrt_base.specs.declared.numbered.RowNo.{RowNo}
use Rattle.pb_rows.specs.Formula.{is_numbered, row_of}
use Rattle.rank_tables.specs.Numbers.{is_distinct, is_in}
use Rattle.stability_model.specs.Model.{rows}
use Rattle.proof_rules.specs.Held.{is_held, row_numbers}
use Rattle.derivation.specs.Derived.{Derived, StaysValid}
use Rattle.derivation.specs.Pieces.{Adds, IsCutPiece, Piece}
use Rattle.derivation.specs.Ready.{IsReady}

-- The rows with numbers from `first` to one below `last` were deleted, and no others.
pub record ForgetsBetween (first last : ℕ) (old new : Derived) : Type 0 where
  pub pieces : List Piece
  pub adds : Adds pieces old new
  pub cuts : All (IsCutPiece old.held first) pieces
  pub valid : StaysValid old new
  pub ready : IsReady new
  pub held : new.held ≡ old.held
  pub lists : new.lists ≡ old.lists
  pub least : new.state.least ≡ old.state.least
  pub next : new.state.next ≡ old.state.next
  pub below : (n : ℕ) → n < first → row_of n new.state.live ≡ row_of n old.state.live
  pub above : (n : ℕ) → last ≤ n → row_of n new.state.live ≡ row_of n old.state.live
  pub gone : (n : ℕ) → first ≤ n → IsTrue (is_numbered n new.state.live) → (last ≤ n) × IsTrue (is_numbered n old.state.live)

-- row numbers from `first` to one below `last`, each once
pub record AreBetween (first last : ℕ) (ids : List RowNo) : Type 0 where
  pub each : (n : ℕ) → is_in n (row_numbers ids) ≡ (nat_le first n && nat_lt n last)
  pub distinct : IsTrue (is_distinct (row_numbers ids))
  pub count : length ids ≡ last - first

-- each row of these numbers is live, isn't held, and is no row of the model
pub record CanForgetBetween (first last : ℕ) (d : Derived) : Type 0 where
  pub live : (n : ℕ) → first ≤ n → n < last → IsTrue (is_numbered n d.state.live)
  pub not_held : (n : ℕ) → first ≤ n → IsFalse (is_held d.held n)
  pub behind_model : length (rows d.lists) < first
