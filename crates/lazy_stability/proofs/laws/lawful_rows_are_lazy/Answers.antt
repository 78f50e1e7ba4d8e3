use Rattle.lazy_stability.proofs.Lazy.{lawful_lazy}
use Rattle.lazy_stability.proofs.laws.lawful_rows_are_lazy.Goals as goal

pub returns : goal.returns
returns c = lawful_lazy c.held_rows_are_loaded.ensures
