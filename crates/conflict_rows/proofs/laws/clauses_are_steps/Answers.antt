use Rattle.conflict_rows.proofs.Tabled.{clauses_are_steps}
use Rattle.conflict_rows.proofs.laws.clauses_are_steps.Goals as goal

pub returns : goal.returns
returns c = clauses_are_steps
