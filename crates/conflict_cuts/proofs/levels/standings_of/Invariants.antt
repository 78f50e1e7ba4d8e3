use Rattle.std.proofs.Common.{take}
use Rattle.conflict_rows.specs.Marks.{set_up_to}
use Rattle.level_sweep.specs.Rows.{StandFor}
use Rattle.conflict_cuts.proofs.levels.standings_of.Given as goal

abbrev pub invariant-loop-t : goal.invariant-loop-t
invariant-loop-t l = StandFor (set_up_to l.marks) (take l.t-index l.terms) l.stands.items
