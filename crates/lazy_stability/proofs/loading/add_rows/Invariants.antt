use Rattle.std.proofs.Common.{take}
use Rattle.lazy_stability.specs.Loads.{LoadsRows}
use Rattle.lazy_stability.proofs.loading.add_rows.Given as goal

abbrev pub invariant-loop-p : goal.invariant-loop-p
invariant-loop-p l = LoadsRows l.model (take l.p-index l.pairs) l.places.items l.fn.engine l.engine
