use Rattle.pb_search.proofs.Steps.{starts}
use Rattle.pb_search.proofs.laws.search_starts.Goals as goal

pub returns : goal.returns
returns c = starts
