use Rattle.row_arena.specs.Held.{row_at}
use Rattle.conflict_cuts.proofs.Analyzed.{analyzes, can_forget, clause_ends, few_vars, is_left, learns_by}
use Rattle.conflict_cuts.proofs.analysis.analyze.Goals as goal

pub forget_between-requires-clause-can : goal.forget_between-requires-clause-can
forget_between-requires-clause-can c =
    can_forget c.args.deriv.now c.last_clause.new.deriv c.next-first.result c.in_ok-last.last.id c.in_ok-last.last.row c.next-first.ensures.number c.requires.ready c.next-first.ensures.in_order c.in_ok-last.ensures.lays c.in_ok-last.ensures.last.newest

pub learn-requires-clause-end : goal.learn-requires-clause-end
learn-requires-clause-end c =
    clause_ends c.args.engine.now c.args.conflict.0 c.in_ok-last.last.row c.level-level.ensures.order
    (few_vars c.args.engine.now.vars c.pairs-pairs.result c.instance.result.now c.args.model.now c.args.deriv.now.lists c.requires.agree.vars c.requires.same c.instance.ensures c.pairs-pairs.ensures.count c.pairs-pairs.ensures.few) c.requires.held c.requires.falsified c.in_ok-last.ensures.last.last

pub returns-clause-learned : goal.returns-clause-learned
returns-clause-learned c =
    learns_by c.args.engine.now (row_at c.args.conflict.0 c.args.engine.now.held) c.args.deriv.now c.forget_between.new.deriv c.in_ok-last.last c.in_ok-learned.learned c.in_ok-learned.ensures
    (is_left c.args.engine.now (row_at c.args.conflict.0 c.args.engine.now.held) c.args.deriv.now c.last_clause.new.deriv c.forget_between.new.deriv c.next-first.result c.in_ok-last.last c.next-first.ensures.number c.in_ok-last.ensures.last c.in_ok-forget_between.ensures.forgets)
    c.in_ok-last.ensures.last.last

pub returns-clause-lines : goal.returns-clause-lines
returns-clause-lines c =
    analyzes c.args.engine.now c.args.deriv.now c.last_clause.new.deriv c.forget_between.new.deriv c.next-first.result c.in_ok-last.last.id.0 c.next-first.ensures.number c.requires.agree.vars c.in_ok-last.ensures.lays c.in_ok-last.ensures.few c.in_ok-forget_between.ensures.forgets

pub returns-in_err-learned-clause-lines : goal.returns-in_err-learned-clause-lines
returns-in_err-learned-clause-lines c =
    analyzes c.args.engine.now c.args.deriv.now c.last_clause.new.deriv c.forget_between.new.deriv c.next-first.result c.in_ok-last.last.id.0 c.next-first.ensures.number c.requires.agree.vars c.in_ok-last.ensures.lays c.in_ok-last.ensures.few c.in_ok-forget_between.ensures.forgets
