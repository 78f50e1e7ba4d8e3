use Rattle.std.proofs.Common.{subst, sym}
use Rattle.promotion_heuristic.specs.Promotion.{turned_away}
use Rattle.promotion_heuristic.specs.Rounds.{IsKept}
use Rattle.promotion_heuristic.proofs.KeptWorst.{kept-popped}
use Rattle.promotion_heuristic.proofs.rounds.Rounds.put_out.Goals as goal

pub returns-clause-kept : goal.returns-clause-kept
returns-clause-kept c =
    let lists = c.args.inst.now in
    let s = c.args.self.now.standings.items in
    subst (λ t. IsKept lists t c.turn_away.new.self.queues) (sym c.turn_away.ensures.standings)
    (subst (λ rows. IsKept lists (turned_away lists s c.args.w.0) rows) (sym c.turn_away.ensures.queues)
    (kept-popped lists s c.args.self.now.queues c.pop-worst.new.self c.args.h c.args.w.0 c.pop-worst.result c.requires.kept c.requires.worst c.pop-worst.ensures))
