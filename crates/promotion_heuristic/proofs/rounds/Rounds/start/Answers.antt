use Rattle.std.proofs.Common.{◌≡◌, ◌∙◌, subst, sym, rules}
use Rattle.promotion_heuristic.specs.Promotion.{start}
use Rattle.promotion_heuristic.specs.Rounds.{IsKept}
use Rattle.promotion_heuristic.proofs.Keeping.{kept-start}
use Rattle.promotion_heuristic.proofs.rounds.Rounds.start.Goals as goal

pub returns-clause-kept : goal.returns-clause-kept
returns-clause-kept c =
    let e : c.in_ok-standings.standings.items ≡ start c.args.inst.now = search rules in
    subst (λ s. IsKept c.args.inst.now s c.in_ok-queues.queues) (sym e)
    (kept-start c.args.inst.now c.in_ok-queues.queues (c.in_ok-queues.ensures.count ∙ c.hospitals.ensures.count) c.in_ok-queues.ensures.empty)
