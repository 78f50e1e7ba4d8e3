use Rattle.search_measure.proofs.Recorded.{pieces_go_on}
use Rattle.search_measure.proofs.texts.pieces_go_on.Goals as goal

pub returns : goal.returns
returns c = pieces_go_on
