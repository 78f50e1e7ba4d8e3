use Rattle.std.proofs.Common.{◌≡◌, ◌<◌, ℕ, [], length, filter}
use Rattle.rank_tables.specs.Building.{row_at}
use Rattle.rank_tables.specs.Instance.{resident_names}
use Rattle.rank_tables.specs.Numbers.{below}
use Rattle.instance_gen.proofs.choosers.choosers_of.Given as goal

abbrev pub invariant-loop-number : goal.invariant-loop-number
invariant-loop-number l = record {
  many : length l.rows.items ≡ l.hospitals;
  each : (h : ℕ) → h < l.hospitals → row_at l.rows.items h ≡ filter (λ i. resident_names (record { residents = l.residents; hospitals = [] }) i h) (below l.number);
}
