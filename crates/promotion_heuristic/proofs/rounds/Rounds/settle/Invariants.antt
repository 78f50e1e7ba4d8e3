use Rattle.std.proofs.Common.{◌+◌, is_some}
use Rattle.promotion_heuristic.specs.Rounds.{IsKept, IsReached}
use Rattle.promotion_heuristic.proofs.Counting.{one_if}
use Rattle.promotion_heuristic.proofs.Chains.{IsChain}
use Rattle.promotion_heuristic.proofs.Steps.{tries_left}
use Rattle.promotion_heuristic.proofs.rounds.Rounds.settle.Given as goal

abbrev pub invariant-chain : goal.invariant-chain
invariant-chain l = record {
  kept : IsKept l.inst l.self.standings.items l.self.queues;
  reached : IsReached l.inst l.self.standings.items;
  chain : IsChain l.inst l.self.standings.items l.r l.named;
}

-- each pass has one proposal fewer to come, or names no resident more
abbrev pub decreases-chain : goal.decreases-chain
decreases-chain l = tries_left l.inst l.self.standings.items + one_if (is_some l.named)
