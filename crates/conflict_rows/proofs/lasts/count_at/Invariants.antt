use Rattle.std.proofs.Common.{◌≡◌, ◌≤◌, take, count_by}
use Rattle.pb_rows.specs.Terms.{opposite_lit}
use Rattle.conflict_rows.specs.Marks.{set_of_level}
use Rattle.conflict_rows.proofs.lasts.count_at.Given as goal

abbrev pub invariant-loop-u : goal.invariant-loop-u
invariant-loop-u l = l.count ≡ count_by (λ u. set_of_level l.marks l.level (opposite_lit u.lit)) (take l.u-index l.terms)
