use Rattle.std.proofs.Common.{take}
use Rattle.std.specs.List.{All}
use Rattle.search_guides.specs.Picks.{IsFree}
use Rattle.search_guides.proofs.ranked.first_free.Given as goal

abbrev pub invariant-loop-entry : goal.invariant-loop-entry
invariant-loop-entry l = All (λ e. IsFree l.engine e.pair → ⊥) (take l.entry-index l.order)
