use Rattle.pb_search.proofs.Decisions.{HasPassed}
use Rattle.pb_search.proofs.learning.first_decisions.Given as goal

abbrev pub invariant-loop-k : goal.invariant-loop-k
invariant-loop-k l = HasPassed l.engine.trail l.level l.k l.left l.decisions
