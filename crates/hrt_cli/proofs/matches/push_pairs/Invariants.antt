use Rattle.std.proofs.Common.{◌≡◌, ◌++◌, flat_map, take}
use Rattle.rank_tables.specs.Tables.{numbers_of}
use Rattle.hrt_cli.specs.Reports.{pair_line}
use Rattle.hrt_cli.proofs.matches.push_pairs.Given as goal

abbrev pub invariant-loop-pair : goal.invariant-loop-pair
invariant-loop-pair l = l.report ≡ l.initial.report ++ flat_map (pair_line l.inst) (numbers_of (take l.pair-index l.pairs))
