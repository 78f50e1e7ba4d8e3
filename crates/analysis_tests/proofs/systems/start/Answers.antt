use Rattle.std.proofs.Common.{subst, sym, ap}
use Rattle.derivation.specs.Derived.{Derived}
use Rattle.stability_model.specs.Model.{pair_row_no}
use Rattle.analysis_tests.specs.Systems.{IsBelow}
use Rattle.analysis_tests.proofs.Holding.{first_below}
use Rattle.analysis_tests.proofs.systems.start.Goals as goal

pub returns-clause-system : goal.returns-clause-system
returns-clause-system c = record { agree = c.in_ok-engine.ensures.agree; ready = c.in_ok-deriv.ensures.ready; same = sym (ap (λ (d : Derived). d.lists) c.in_ok-deriv.ensures.is) }

pub returns-clause-below : goal.returns-clause-below
returns-clause-below c = subst (IsBelow (pair_row_no c.args.model.now 1)) (sym c.in_ok-deriv.ensures.is) (first_below c.args.model.now)
