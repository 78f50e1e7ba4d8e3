use Rattle.search_measure.proofs.Learned.{counted_bounded}
use Rattle.search_measure.proofs.texts.counted_is_bounded.Goals as goal

pub returns : goal.returns
returns c = counted_bounded
