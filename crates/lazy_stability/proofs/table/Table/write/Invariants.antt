use Rattle.std.proofs.Common.{◌≡◌, ◌<◌, ◌-◌, drop, filter, length, take}
use Rattle.rank_tables.specs.Numbers.{numbers_to}
use Rattle.rank_tables.specs.Stability.{blocks}
use Rattle.rank_tables.specs.Tables.{numbers_of}
use Rattle.lazy_stability.specs.Candidates.{point_of_trail}
use Rattle.stability_model.specs.Model.{pairs_of_point}
use Rattle.lazy_stability.proofs.table.Table.write.Given as goal

abbrev pub invariant-loop-p : goal.invariant-loop-p
invariant-loop-p l =
    let lists = l.inst in
    record {
      room : l.count < length l.out;
      size : length l.out ≡ length l.fn.out;
      written : numbers_of (take l.count l.out) ≡ filter (blocks lists (pairs_of_point lists (point_of_trail l.engine.trail))) (numbers_to (l.p - 1));
      rest : drop l.count l.out ≡ drop l.count l.fn.out;
    }
