-- How large the rows are that a proof makes beside those of its model.
use Rattle.std.specs.Prelude.{ℕ, ◌≤◌, pos, neg_ℤ, ◌-ℤ◌}
use Rattle.pb_rows.specs.Points.{Point, value_at}
use Rattle.rank_tables.specs.Instance.{Lists, pair_count}
use Rattle.rank_tables.specs.Tables.{IsPairNo}
use Rattle.rank_tables.specs.WellFormed.{most_pairs}
use Rattle.stability_model.specs.Model.{IsShortRow, formula, objective}
use Rattle.proof_rules.specs.Claims.{at_least_row}
use Rattle.proof_rules.specs.States.{at_most_row}
use Rattle.derivation.specs.Deletions.{unit_row}

-- The row of a pair that is gone, the row that says how many pairs there are at most, and the row that asks for a larger matching
-- than that of a point: each is well-formed, over the variables of the pairs, and its numbers are at most 2^60.
pub record MadeRowsAreShort : Type 0 where
  pub unit : (lists : Lists) (p : ℕ) → IsPairNo lists p → IsShortRow (pair_count lists) (unit_row p)
  pub bound : (lists : Lists) (most : ℕ) → pair_count lists ≤ most_pairs → most ≤ pair_count lists → IsShortRow (pair_count lists) (at_least_row (formula lists) (neg_ℤ (pos most)))
  pub improvement : (lists : Lists) (point : Point) → pair_count lists ≤ most_pairs → IsShortRow (pair_count lists) (at_most_row (objective lists) (value_at point (objective lists) -ℤ pos 1))
