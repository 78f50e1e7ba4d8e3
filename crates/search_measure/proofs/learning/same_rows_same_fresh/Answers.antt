use Rattle.search_measure.proofs.Agreeing.{same_fresh}
use Rattle.search_measure.proofs.learning.same_rows_same_fresh.Goals as goal

pub returns : goal.returns
returns c = same_fresh
