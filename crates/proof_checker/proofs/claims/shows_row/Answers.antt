use Rattle.std.proofs.Common.{sym, ◌∙◌}
use Rattle.std.proofs.lemmas.Bool.{false≢true}
use Rattle.proof_checker.proofs.Showing.{or_other}
use Rattle.proof_checker.proofs.claims.shows_row.Goals as goal

pub returns-clause-shown : goal.returns-clause-shown
returns-clause-shown c = or_other c.in_ok-implied.implied _ _ c.in_ok-implied.ensures.is (λ h. false≢true (sym c.if-has_stronger.false ∙ c.has_stronger.ensures.1 h))
