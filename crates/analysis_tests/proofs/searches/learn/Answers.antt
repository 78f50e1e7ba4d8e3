use Rattle.std.proofs.Common.{subst}
use Rattle.conflict_cuts.specs.declared.learning.Learned.{Learned}
use Rattle.conflict_cuts.specs.Learned.{Learns}
use Rattle.row_arena.specs.Held.{row_at}
use Rattle.analysis_tests.proofs.Learning.{analyzed_system, learned_new, root_live}
use Rattle.analysis_tests.proofs.searches.learn.Goals as goal

pub is_contradiction-requires-clause-live : goal.is_contradiction-requires-clause-live
is_contradiction-requires-clause-live g c =
    root_live c.args.deriv.now c.analyze.new.deriv c.in-Root.id (subst (λ (l : Learned). Learns c.args.engine.now (row_at c.args.conflict.0 c.args.engine.now.held) c.args.deriv.now c.analyze.new.deriv l) c.in-Root.is c.in_ok-id.ensures.learned)

pub hold-requires-clause-system : goal.hold-requires-clause-system
hold-requires-clause-system g c = analyzed_system c.args.model.now c.args.engine.now c.args.deriv.now c.analyze.new.deriv c.requires.system c.next-next.ensures.in_order c.in_ok-id.ensures.lines

pub hold-requires-clause-new : goal.hold-requires-clause-new
hold-requires-clause-new g c =
    let learns = subst (λ (l : Learned). Learns c.args.engine.now (row_at c.args.conflict.0 c.args.engine.now.held) c.args.deriv.now c.analyze.new.deriv l) c.in-Clause.is c.in_ok-id.ensures.learned in
    learned_new c.args.model.now c.args.engine.now c.args.deriv.now c.analyze.new.deriv c.in-Clause.id c.in-Clause.row c.requires.system c.next-next.ensures.in_order c.in_ok-id.ensures.lines learns.left

pub returns-in_ok-is_contradiction-in-Root : goal.returns-in_ok-is_contradiction-in-Root
returns-in_ok-is_contradiction-in-Root g c = analyzed_system c.args.model.now c.args.engine.now c.args.deriv.now c.analyze.new.deriv c.requires.system c.next-next.ensures.in_order c.in_ok-id.ensures.lines
