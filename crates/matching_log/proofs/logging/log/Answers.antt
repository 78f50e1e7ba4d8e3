use Rattle.std.proofs.Common.{◌∙◌, ap, arith, length}
use Rattle.rank_tables.specs.Instance.{pair_count}
use Rattle.matching_log.proofs.LoggedMatching.{larger_live, logs}
use Rattle.matching_log.proofs.Points.{point_as, point_solves, point_value, solution_writable}
use Rattle.pb_rows.specs.Points.{point_of}
use Rattle.matching_log.proofs.logging.log.Goals as goal

pub solution-requires-clause-writable : goal.solution-requires-clause-writable
solution-requires-clause-writable c = solution_writable (length c.deref.result.now) (point_of c.deref.result.now) (omega (arith, ap length c.deref.ensures.value, c.in_ok-point.ensures.full, c.pairs.ensures.count, c.pairs.ensures.few))

pub solution-requires-clause-solves : goal.solution-requires-clause-solves
solution-requires-clause-solves c =
    point_solves c.args.deriv.now.lists c.args.pairs.now c.deref.result.now
    (point_as c.args.deriv.now.lists c.args.pairs.now c.in_ok-point.point.items c.deref.result.now c.pairs.result c.deref.ensures.value (c.pairs.ensures.count ∙ ap pair_count (c.instance.ensures ∙ c.requires.same)) c.in_ok-point.ensures.is)
    c.requires.stable

pub returns-clause-logged : goal.returns-clause-logged
returns-clause-logged c =
    let is = point_as c.args.deriv.now.lists c.args.pairs.now c.in_ok-point.point.items c.deref.result.now c.pairs.result c.deref.ensures.value (c.pairs.ensures.count ∙ ap pair_count (c.instance.ensures ∙ c.requires.same)) c.in_ok-point.ensures.is in
    logs (length c.args.pairs.now) (length c.deref.result.now) (point_of c.deref.result.now) c.in_ok-id.id c.args.deriv.now c.solution.new.self
    (ap length c.deref.ensures.value ∙ c.in_ok-point.ensures.full ∙ c.pairs.ensures.count ∙ ap pair_count (c.instance.ensures ∙ c.requires.same))
    (point_value c.args.deriv.now.lists c.args.pairs.now c.deref.result.now is c.requires.stable) c.in_ok-id.ensures.id (solution_writable (length c.deref.result.now) (point_of c.deref.result.now) (omega (arith, ap length c.deref.ensures.value, c.in_ok-point.ensures.full, c.pairs.ensures.count, c.pairs.ensures.few))) c.requires.unconcluded c.in_ok-id.ensures.step

pub returns-clause-larger : goal.returns-clause-larger
returns-clause-larger c =
    let made : goal.returns-clause-logged = returns-clause-logged in
    larger_live (length c.args.pairs.now) c.in_ok-id.id c.args.deriv.now c.solution.new.self (made c) c.next-next.ensures.in_order
