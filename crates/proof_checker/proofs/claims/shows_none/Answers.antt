use Rattle.std.proofs.Common.{sym, ap, ◌∙◌}
use Rattle.std.specs.Prelude.{is_some}
use Rattle.proof_checker.proofs.Showing.{none_shown, not_some}
use Rattle.proof_checker.proofs.claims.shows_none.Goals as goal

pub returns-clause-shown : goal.returns-clause-shown
returns-clause-shown c =
    none_shown c.in_ok-refuted.refuted c.args.state.now.state _ (not_some c.args.state.now.state.least (ap is_some (sym c.least.ensures) ∙ (sym c.is_some.ensures ∙ c.if-is_some.false))) c.in_ok-refuted.ensures.is
