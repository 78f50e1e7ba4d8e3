use Rattle.hrt_reader.proofs.RoundTrip.{spelled_back}
use Rattle.hrt_reader.proofs.law.spelling_is_read_back.Goals as goal

pub returns : goal.returns
returns c = spelled_back
