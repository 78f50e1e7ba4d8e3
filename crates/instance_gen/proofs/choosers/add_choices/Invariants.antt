use Rattle.std.proofs.Common.{◌≡◌, ◌<◌, ◌++◌, ℕ, length, take}
use Rattle.std.specs.List.{concat}
use Rattle.rank_tables.specs.Building.{row_at}
use Rattle.rank_tables.specs.Numbers.{is_in}
use Rattle.instance_gen.specs.Rows.{with_chooser}
use Rattle.instance_gen.proofs.choosers.add_choices.Given as goal

abbrev pub invariant-loop-k : goal.invariant-loop-k
invariant-loop-k l = record {
  many : length l.rows.items ≡ length l.fn.rows.items;
  each : (h : ℕ) → h < length l.fn.rows.items → row_at l.rows.items h ≡ with_chooser l.number (is_in h (concat (take l.k l.groups))) (row_at l.fn.rows.items h);
}

abbrev pub invariant-loop-hospital : goal.invariant-loop-hospital
invariant-loop-hospital l = record {
  many : length l.rows.items ≡ length l.fn.rows.items;
  each : (h : ℕ) → h < length l.fn.rows.items → row_at l.rows.items h ≡ with_chooser l.number (is_in h (concat (take l.k l.groups) ++ take l.hospital-index l.hospital-items)) (row_at l.fn.rows.items h);
}
