use Rattle.pb_search.proofs.Steps.{comes_to_rest}
use Rattle.pb_search.proofs.laws.search_comes_to_rest.Goals as goal

pub returns : goal.returns
returns c = comes_to_rest
