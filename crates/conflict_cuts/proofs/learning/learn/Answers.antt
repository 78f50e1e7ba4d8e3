use Rattle.std.proofs.Common.{refl, subst}
use Rattle.conflict_rows.specs.Marks.{set_up_to}
use Rattle.level_sweep.specs.Rows.{IsLowestUnder}
use Rattle.conflict_cuts.proofs.Asserting.{asserts_there, is_open_somewhere, not_none, propagates_some_there, row_covered}
use Rattle.conflict_cuts.proofs.learning.learn.Goals as goal

pub lowest_level-requires : goal.lowest_level-requires
lowest_level-requires c = row_covered c.args.engine.now c.args.marks.now c.args.last.row c.requires.order c.requires.table c.requires.size c.requires.few c.requires.end

pub unreachable-requires : goal.unreachable-requires
unreachable-requires c =
    is_open_somewhere c.args.engine.now c.args.marks.now c.args.last.row c.requires.order c.requires.table c.requires.size c.requires.few c.requires.end
    (not_none c.args.last.row.terms c.terms.result.now c.is_empty.result c.terms.ensures.terms c.is_empty.ensures c.if-is_empty.false) c.in_ok-level.field-0 c.in_ok-level.ensures c.in_default.is

pub asserted-requires : goal.asserted-requires
asserted-requires c = row_covered c.args.engine.now c.args.marks.now c.args.last.row c.requires.order c.requires.table c.requires.size c.requires.few c.requires.end

pub unreachable-requires-in_default-asserted : goal.unreachable-requires-in_default-asserted
unreachable-requires-in_default-asserted c =
    propagates_some_there c.args.engine.now c.args.marks.now c.args.last.row c.requires.order c.requires.table c.requires.size c.requires.few c.requires.end
    (not_none c.args.last.row.terms c.terms.result.now c.is_empty.result c.terms.ensures.terms c.is_empty.ensures c.if-is_empty.false) c.in-Some.level (subst (IsLowestUnder (set_up_to c.args.marks.now) c.args.last.row) c.in-Some.is c.in_ok-level.ensures) c.in_default-asserted.ensures.none

pub returns : goal.returns
returns c = (
  refl,
  refl,
  asserts_there c.args.engine.now c.args.marks.now c.args.last.row c.requires.order c.requires.table c.requires.size c.requires.few c.requires.end
      (not_none c.args.last.row.terms c.terms.result.now c.is_empty.result c.terms.ensures.terms c.is_empty.ensures c.if-is_empty.false) c.in-Some.level c.in-Some-asserted.asserts (subst (IsLowestUnder (set_up_to c.args.marks.now) c.args.last.row) c.in-Some.is c.in_ok-level.ensures) c.in-Some-asserted.ensures.some,
)
