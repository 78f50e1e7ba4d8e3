use Rattle.std.proofs.Common.{ℕ, Bool, sym, ◌∙◌, arith}
use Rattle.conflict_rows.specs.Trail.{propagates_some}
use Rattle.conflict_rows.specs.Marks.{set_up_to}
use Rattle.conflict_rows.proofs.FinishedAt.{least_from, least_none}
use Rattle.conflict_rows.proofs.finished.least_level.Goals as goal

pub returns-then-propagates_some : goal.returns-then-propagates_some
returns-then-propagates_some c =
    let test : ℕ → Bool = λ k. propagates_some (set_up_to c.args.marks.now k) c.args.row.now in
    sym (least_from test c.args.newest c.loop-level.level (record {
      below = omega arith;
      passes = sym c.propagates_some.ensures ∙ c.if-propagates_some.true;
      first = λ j l. least_none test c.loop-level.level j c.loop-level.invariant l;
    }))
