use Rattle.promotion_heuristic.specs.Rounds.{IsKept, IsReached, AreSettled}
use Rattle.promotion_heuristic.proofs.first.promote.Given as goal

abbrev pub invariant-loop-r : goal.invariant-loop-r
invariant-loop-r l = record {
  kept : IsKept l.inst l.rounds.standings.items l.rounds.queues;
  reached : IsReached l.inst l.rounds.standings.items;
  settled : AreSettled l.inst l.rounds.standings.items l.r;
}
