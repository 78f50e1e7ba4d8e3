-- Engines to which the rows of a derivation are added, one after another.
use Rattle.std.specs.Prelude.{◌≡◌, ℕ, IsTrue, List, [], ◌∷◌, ◌++◌, Some}
use Rattle.std.specs.List.{All}
use Rattle.pb_rows.specs.Terms.{PlainRow}
use Rattle.pb_rows.specs.Formula.{row_of}
use Rattle.rank_tables.specs.Instance.{pair_count}
use Rattle.stability_model.specs.Model.{IsShortRow}
use Rattle.proof_rules.specs.Held.{is_held}
use Rattle.derivation.specs.Derived.{Derived}
use Rattle.pb_propagate.specs.Engines.{EngineState}
use Rattle.agreement.specs.Agreement.{IsHeldIn, tags}

-- the number is held, and its row is short: an engine takes it
pub record CanHold (d : Derived) (n : ℕ) : Type 0 where
  pub held : IsTrue (is_held d.held n)
  pub short : (row : PlainRow) → row_of n d.state.live ≡ Some row → IsShortRow (pair_count d.lists) row

-- the engine, its trail empty, holds the rows with these numbers
pub record HasRows (d : Derived) (e : EngineState) (numbers : List ℕ) : Type 0 where
  pub vars : e.vars ≡ pair_count d.lists
  pub rows : All (IsHeldIn d) e.held
  pub are : tags e.held ≡ numbers
  pub start : e.trail ≡ []

-- the row with this number was added
abbrev pub HasOneMore : Derived → ℕ → EngineState → EngineState → Type 0
HasOneMore d n old new = (numbers : List ℕ) → HasRows d old numbers → HasRows d new (numbers ++ n ∷ [])
