use Rattle.std.proofs.Common.{subst, sym, ap, ◌∙◌}
use Rattle.rank_tables.specs.Instance.{pair_at}
use Rattle.promotion_heuristic.specs.Promotion.{standing_of, turned_away}
use Rattle.promotion_heuristic.specs.Rounds.{IsKept}
use Rattle.promotion_heuristic.proofs.Chains.{unassigned-still, proposer-unassigned, proposer-declared}
use Rattle.promotion_heuristic.proofs.Keeping.{kept-refused}
use Rattle.promotion_heuristic.proofs.rounds.Rounds.propose.Goals as goal

pub take-requires-clause-unassigned : goal.take-requires-clause-unassigned
take-requires-clause-unassigned c = proposer-unassigned c.args.inst.now c.args.self.now.standings.items c.args.p.0 c.requires.proposal

pub take-requires-in-Some-clause-unassigned : goal.take-requires-in-Some-clause-unassigned
take-requires-in-Some-clause-unassigned c =
    ap (λ s. (standing_of s (pair_at c.args.inst.now c.args.p.0).resident).assigned) c.put_out.ensures.standings
    ∙ unassigned-still c.args.inst.now c.args.self.now.standings.items c.args.p.0 c.in-Some.w.0 c.requires.proposal c.in-Some.ensures.worst

pub returns-clause-kept : goal.returns-clause-kept
returns-clause-kept c =
    let lists = c.args.inst.now in
    let s = c.args.self.now.standings.items in
    let p = c.args.p.0 in
    subst (λ t. IsKept lists t c.turn_away.new.self.queues) (sym c.turn_away.ensures.standings)
    (subst (λ rows. IsKept lists (turned_away lists s p) rows) (sym c.turn_away.ensures.queues)
    (kept-refused lists s c.args.self.now.queues p c.requires.kept (proposer-declared lists s p c.requires.kept.residents c.requires.proposal) (proposer-unassigned lists s p c.requires.proposal)))
