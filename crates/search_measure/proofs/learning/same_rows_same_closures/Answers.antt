use Rattle.search_measure.proofs.Agreeing.{same_closures}
use Rattle.search_measure.proofs.learning.same_rows_same_closures.Goals as goal

pub returns : goal.returns
returns c = same_closures
