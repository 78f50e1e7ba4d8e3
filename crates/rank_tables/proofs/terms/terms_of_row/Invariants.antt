use Rattle.std.proofs.Common.{take, drop}
use Rattle.rank_tables.specs.Counting.{ranked_row, IsRising, IsRun, IsSmall}
use Rattle.rank_tables.proofs.terms.terms_of_row.Given as goal

abbrev pub invariant-loop-p : goal.invariant-loop-p
invariant-loop-p l = record {
  met : IsRun l.run (take l.p-index (ranked_row l.side l.hospitals l.entries l.row));
  small : IsSmall l.run;
  later : IsRising l.run.rank (drop l.p-index (ranked_row l.side l.hospitals l.entries l.row));
}
