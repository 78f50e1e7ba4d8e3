-- What logging a matching and closing the bound do to a derivation.
use Rattle.std.specs.Prelude.{◌≡◌, ◌≤◌, ◌<◌, ℕ, List, [], ◌∷◌, pos, neg_ℤ, ◌-ℤ◌, ℤ, Bool}
use Rattle.hrt_base.specs.declared.literal.Lit.{Lit}
use Rattle.hrt_base.specs.declared.numbered.PairNo.{PairNo}
use Rattle.hrt_base.specs.declared.numbered.RowNo.{RowNo}
use Rattle.pb_rows.specs.Terms.{PlainRow, coef_sum}
use Rattle.pb_rows.specs.Points.{point_of}
use Rattle.pb_rows.specs.Rows.{add}
use Rattle.rank_tables.specs.Numbers.{is_in}
use Rattle.rank_tables.specs.Instance.{Lists}
use Rattle.rank_tables.specs.Tables.{numbers_of}
use Rattle.stability_model.specs.Model.{formula, objective}
use Rattle.proof_lines.specs.declared.line.Line.TheVariants.{Pol, Soli}
use Rattle.proof_lines.specs.declared.line.PolStep.TheVariants.{Id, Add}
use Rattle.proof_rules.specs.Claims.{at_least_row}
use Rattle.proof_rules.specs.States.{at_most_row}
use Rattle.derivation.specs.Derived.{Derived}
use Rattle.derivation.specs.Pieces.{TakesLine}
use Rattle.derivation.specs.Steps.{with_new_row, with_solution}

-- a matching of so many pairs, as a value of the objective
abbrev pub value_of : ℕ → ℤ
value_of n = neg_ℤ (pos n)

-- the array makes exactly the variables of these pairs true
abbrev pub IsPointOf : ℕ → List PairNo → List Bool → Type 0
IsPointOf vars pairs bits = (v : ℕ) → 1 ≤ v → v ≤ vars → point_of bits v ≡ is_in v (numbers_of pairs)

-- the row that at most so many pairs are taken
abbrev pub ceiling_row : Lists → ℕ → PlainRow
ceiling_row lists n = at_least_row (formula lists) (value_of n)

-- the row that more than so many pairs are taken
abbrev pub larger_row : Lists → ℕ → PlainRow
larger_row lists size = at_most_row (objective lists) (value_of size -ℤ pos 1)

-- a matching of so many pairs was logged, and the row with this number asks for a larger one
pub record Logs (size : ℕ) (id : RowNo) (old new : Derived) : Type 0 where
  pub number : id.0 ≡ old.state.next
  pub text : List ℕ
  pub is : new ≡ with_solution (value_of size) (larger_row old.lists size) text old
  pub adds : (literals : List Lit) × TakesLine (Soli literals) old new

-- The row that at most so many pairs are taken and the row that more are taken were added up, and the sum has this number. Its coefficients
-- sum to less than its degree, so it holds nowhere.
pub record Closes (size : ℕ) (bound larger id : RowNo) (old new : Derived) : Type 0 where
  pub number : id.0 ≡ old.state.next
  pub text : List ℕ
  pub is : new ≡ with_new_row (add (ceiling_row old.lists size) (larger_row old.lists size)) text old
  pub adds : TakesLine (Pol (Id bound ∷ Id larger ∷ Add ∷ [])) old new
  pub contradicts : coef_sum (add (ceiling_row old.lists size) (larger_row old.lists size)).terms < (add (ceiling_row old.lists size) (larger_row old.lists size)).degree
