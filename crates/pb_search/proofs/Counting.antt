-- What the row of the ceiling and the row that asks for a larger matching say of a point.
use Rattle.std.proofs.Common.{◌≡◌, ℕ, nat_le, nat_lt, length, pos, neg_ℤ, int_le, ap, ◌∙◌, arith}
use Rattle.std.specs.Prelude.{◌-ℤ◌}
use Rattle.std.proofs.lemmas.Bool.Decides.{nat_tests}
use Rattle.std.proofs.lemmas.Int.{ints}
use Rattle.pb_rows.specs.Points.{Point}
use Rattle.pb_rows.specs.Rows.{holds}
use Rattle.pb_rows.proofs.ByNets.{holds-normal_form}
use Rattle.rank_tables.specs.Instance.{Lists}
use Rattle.stability_model.specs.Model.{objective, pairs_of_point}
use Rattle.stability_model.proofs.ModelExact.{ObjectiveExact}
use Rattle.proof_rules.specs.States.{minus_terms}
use Rattle.proof_rules.proofs.Steps.{value-negated}
use Rattle.matching_log.specs.Logged.{ceiling_row, larger_row, value_of}

le_values : (n k : ℕ) → int_le (neg_ℤ (pos n)) (neg_ℤ (pos k)) ≡ nat_le k n
le_values n k = grind (arith, ints, nat_tests)

lt_values : (n k : ℕ) → int_le (neg_ℤ (neg_ℤ (pos n) -ℤ pos 1)) (neg_ℤ (neg_ℤ (pos k))) ≡ nat_lt n k
lt_values n k = grind (arith, ints, nat_tests)

-- at most so many pairs are taken
pub ceiling_says : (lists : Lists) (p : Point) (n : ℕ) → holds p (ceiling_row lists n) ≡ nat_le (length (pairs_of_point lists p)) n
ceiling_says lists p n = holds-normal_form p (objective lists) (value_of n) ∙ ap (int_le (value_of n)) (ObjectiveExact lists p) ∙ le_values n (length (pairs_of_point lists p))

-- more than so many are
pub larger_says : (lists : Lists) (p : Point) (n : ℕ) → holds p (larger_row lists n) ≡ nat_lt n (length (pairs_of_point lists p))
larger_says lists p n =
    holds-normal_form p (minus_terms (objective lists)) (neg_ℤ (value_of n -ℤ pos 1))
    ∙ ap (int_le (neg_ℤ (value_of n -ℤ pos 1))) (value-negated p (objective lists) ∙ ap neg_ℤ (ObjectiveExact lists p)) ∙ lt_values n (length (pairs_of_point lists p))
