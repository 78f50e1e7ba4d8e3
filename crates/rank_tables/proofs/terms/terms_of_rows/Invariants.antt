use Rattle.std.proofs.Common.{◌≡◌, ◌+◌, ◌*◌, ◌≤◌, sum_by}
use Rattle.rank_tables.specs.Numbers.{below}
use Rattle.rank_tables.specs.WellFormed.{most_pairs}
use Rattle.rank_tables.specs.Building.{row_at}
use Rattle.rank_tables.specs.Counting.{ranked_row, counting, as_high}
use Rattle.rank_tables.proofs.terms.terms_of_rows.Given as goal

abbrev pub invariant-loop-row : goal.invariant-loop-row
invariant-loop-row l = record {
  met : l.terms + sum_by (λ k. counting (ranked_row l.side l.hospitals l.entries (row_at l.rows k))) (below l.row-index)
      ≡ sum_by (λ k. as_high (ranked_row l.side l.hospitals l.entries (row_at l.rows k))) (below l.row-index);
  few : l.terms ≤ l.row-index * (most_pairs * most_pairs);
}
