-- Weakenings that wait for the step behind them.
use Rattle.std.specs.Prelude.{◌≡◌, ℕ, Bool, true, false, List, [], ◌∷◌, Ok}
use Rattle.pb_rows.specs.Terms.{PlainRow}
use Rattle.pb_rows.specs.Rows.{weaken, weaken_all}
use Rattle.proof_rules.specs.Pol.{on_top}

-- the rows, the first of them weakened by the variables
abbrev pub weakened : List ℕ → List PlainRow → List PlainRow
weakened vars [] = []
weakened vars (row ∷ rows) = weaken_all vars row ∷ rows

-- it is told whether there is a top row, which is weakened
abbrev pub WeakensTop : ℕ → Bool → List PlainRow → List PlainRow → Type 0
WeakensTop v true before after = on_top (weaken v) before ≡ Ok after
WeakensTop v false before after = before ≡ []
