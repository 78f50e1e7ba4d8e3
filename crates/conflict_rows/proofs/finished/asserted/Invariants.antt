use Rattle.std.proofs.Common.{◌≡◌, ◌+◌, ◌&&◌, not, nat_lt, false, take}
use Rattle.std.specs.List.{list_any}
use Rattle.pb_rows.specs.Terms.{opposite_lit, positive_part}
use Rattle.conflict_rows.specs.Marks.{set_up_to}
use Rattle.conflict_rows.proofs.finished.asserted.Given as goal

abbrev pub invariant-loop-k : goal.invariant-loop-k
invariant-loop-k l = list_any (λ t. (not (set_up_to l.marks l.level t.lit) && not (set_up_to l.marks l.level (opposite_lit t.lit))) && nat_lt l.sum (l.degree + positive_part t.coef)) (take l.k l.terms) ≡ false
