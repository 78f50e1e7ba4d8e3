use Rattle.search_measure.proofs.Agreeing.{unrefuted}
use Rattle.search_measure.proofs.learning.held_above_ground.Goals as goal

pub returns : goal.returns
returns c = unrefuted
