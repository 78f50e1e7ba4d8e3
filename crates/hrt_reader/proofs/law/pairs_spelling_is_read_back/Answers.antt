use Rattle.hrt_reader.proofs.PairsBack.{pairs_spelled_back}
use Rattle.hrt_reader.proofs.law.pairs_spelling_is_read_back.Goals as goal

pub returns : goal.returns
returns c = pairs_spelled_back
