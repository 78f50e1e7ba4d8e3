use Rattle.search_measure.proofs.Agreeing.{same_sizes}
use Rattle.search_measure.proofs.learning.same_rows_same_sizes.Goals as goal

pub returns : goal.returns
returns c = same_sizes
