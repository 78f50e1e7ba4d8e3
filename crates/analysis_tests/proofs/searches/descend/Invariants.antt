use Rattle.std.proofs.Common.{◌≡◌}
use Rattle.pb_propagate.specs.Engines.{AreKeptBelow}
use Rattle.analysis_tests.proofs.searches.descend.Given as goal

abbrev pub invariant-loop : goal.invariant-loop
invariant-loop g l = record {
  kept : AreKeptBelow l.engine;
  held : l.engine.held ≡ l.fn.engine.held;
  vars : l.engine.vars ≡ l.fn.engine.vars;
}
