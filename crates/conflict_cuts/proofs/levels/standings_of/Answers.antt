use Rattle.std.proofs.Common.{◌+◌, List, take, subst, sym}
use Rattle.std.proofs.lemmas.List.{take_all}
use Rattle.hrt_base.specs.declared.literal.Term.{Term}
use Rattle.conflict_rows.specs.Marks.{set_up_to}
use Rattle.level_sweep.specs.declared.sweeping.Standing.{Standing}
use Rattle.level_sweep.specs.Rows.{StandFor}
use Rattle.level_sweep.proofs.Rows.{stand-more}
use Rattle.conflict_cuts.proofs.levels.standings_of.Goals as goal

pub loop-t-preserved : goal.loop-t-preserved
loop-t-preserved c =
    subst (λ (xs : List Standing). StandFor (set_up_to c.args.marks.now) (take (c.loop-t.t-index + 1) c.args.terms.now) xs) (sym c.in_ok-push.ensures.items)
    (stand-more (set_up_to c.args.marks.now) c.args.terms.now c.loop-t.t-index _ c.loop-t.stands.items c.standing_of.result c.loop-t-test.true c.loop-t.invariant c.standing_of.ensures)

pub returns : goal.returns
returns c = subst (λ (ts : List Term). StandFor (set_up_to c.args.marks.now) ts c.loop-t.stands.items) (take_all c.loop-t.t-index c.args.terms.now c.loop-t-test.false) c.loop-t.invariant
