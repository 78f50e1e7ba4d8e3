use Rattle.std.proofs.Common.{◌-◌, filter}
use Rattle.rank_tables.specs.Numbers.{numbers_to}
use Rattle.lazy_stability.specs.Candidates.{point_of_trail}
use Rattle.lazy_stability.specs.Table.{ArePosts}
use Rattle.lazy_stability.proofs.table.Table.fill.Given as goal

abbrev pub invariant-loop-taken : goal.invariant-loop-taken
invariant-loop-taken l = ArePosts l.inst (filter (point_of_trail l.engine.trail) (numbers_to (l.taken - 1))) l.self.best.items l.self.worst.items l.self.free.items
