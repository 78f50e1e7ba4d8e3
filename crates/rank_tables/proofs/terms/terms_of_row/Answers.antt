use Rattle.std.proofs.Common.{ℕ, ◌+◌, List, drop, sym, subst}
use Rattle.rank_tables.specs.declared.terms.Ranked.{Ranked}
use Rattle.rank_tables.specs.Counting.{ranked_row, IsRising, IsRun}
use Rattle.rank_tables.proofs.RowCounts.{row_step}
use Rattle.rank_tables.proofs.terms.terms_of_row.Goals as goal

pub extended-run-requires-clause-rising : goal.extended-run-requires-clause-rising
extended-run-requires-clause-rising c =
    let step = row_step c.args.side c.args.hospitals.now c.args.entries.now c.args.row.now c.loop-p.p-index c.ranking.result (record { 0 = 0 }) c.loop-p-test.true c.ranking.ensures in
    (subst (IsRising c.loop-p.run.rank) step.after c.loop-p.invariant.later).0

pub loop-p-preserved : goal.loop-p-preserved
loop-p-preserved c =
    let step = row_step c.args.side c.args.hospitals.now c.args.entries.now c.args.row.now c.loop-p.p-index c.ranking.result (record { 0 = 0 }) c.loop-p-test.true c.ranking.ensures in
    let row : List Ranked = ranked_row c.args.side c.args.hospitals.now c.args.entries.now c.args.row.now in
    record {
      met = subst (IsRun c.extended-run.result) (sym step.before) (c.extended-run.ensures.run _ c.loop-p.invariant.met);
      small = c.extended-run.ensures.small;
      later = subst (λ (rank : ℕ). IsRising rank (drop (c.loop-p.p-index + 1) row)) (sym c.extended-run.ensures.rank) ((subst (IsRising c.loop-p.run.rank) step.after c.loop-p.invariant.later).1);
    }
