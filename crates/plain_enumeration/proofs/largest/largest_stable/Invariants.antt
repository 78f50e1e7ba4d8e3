use Rattle.std.proofs.Common.{◌≡◌}
use Rattle.rank_tables.specs.Tables.{numbers_of}
use Rattle.stability_audit.specs.Verdict.{sizes_of}
use Rattle.plain_enumeration.proofs.Trials.{IsLongest}
use Rattle.plain_enumeration.proofs.largest.largest_stable.Given as goal

-- the auditor stays fit for the instance, and no longer stable list was passed over
abbrev pub invariant-loop-set : goal.invariant-loop-set
invariant-loop-set l = record {
  sizes : l.auditor ≡ sizes_of l.inst;
  so_far : IsLongest l.inst l.set (numbers_of l.best.items);
}
