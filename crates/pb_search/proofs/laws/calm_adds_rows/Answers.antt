use Rattle.pb_search.proofs.Steps.{adds_rows}
use Rattle.pb_search.proofs.laws.calm_adds_rows.Goals as goal

pub returns : goal.returns
returns c = adds_rows
