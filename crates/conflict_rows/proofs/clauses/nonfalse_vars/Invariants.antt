use Rattle.std.proofs.Common.{◌≡◌, take}
use Rattle.conflict_rows.specs.Weakening.{vars_where}
use Rattle.conflict_rows.specs.ClauseRows.{is_nonfalse}
use Rattle.conflict_rows.specs.Marks.{set_now}
use Rattle.conflict_rows.proofs.clauses.nonfalse_vars.Given as goal

abbrev pub invariant-loop-u : goal.invariant-loop-u
invariant-loop-u l = l.vars.items ≡ vars_where (is_nonfalse (set_now l.marks)) (take l.u-index l.terms)
