use Rattle.std.proofs.Common.{◌≡◌, take}
use Rattle.conflict_rows.specs.Weakening.{vars_where}
use Rattle.conflict_rows.specs.ClauseRows.{is_other}
use Rattle.conflict_rows.specs.Marks.{set_before}
use Rattle.conflict_rows.proofs.clauses.other_vars.Given as goal

abbrev pub invariant-loop-u : goal.invariant-loop-u
invariant-loop-u l = l.vars.items ≡ vars_where (is_other (set_before l.marks l.k) l.t) (take l.u-index l.terms)
