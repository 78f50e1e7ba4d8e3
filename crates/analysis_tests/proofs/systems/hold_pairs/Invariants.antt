use Rattle.std.proofs.Common.{◌≡◌}
use Rattle.stability_model.specs.Model.{pair_row_no}
use Rattle.analysis_tests.specs.Systems.{IsBelow, IsSystem}
use Rattle.analysis_tests.proofs.systems.hold_pairs.Given as goal

abbrev pub invariant-loop-p : goal.invariant-loop-p
invariant-loop-p l = record {
  system : IsSystem l.fn.model l.engine l.deriv;
  below : IsBelow (pair_row_no l.fn.model l.p) l.deriv;
  trail : l.engine.trail ≡ l.fn.engine.trail;
}
