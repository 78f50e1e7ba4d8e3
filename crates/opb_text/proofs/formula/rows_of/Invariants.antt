use Rattle.std.proofs.Common.{◌≡◌, take}
use Rattle.stability_model.specs.Model.{rows}
use Rattle.opb_text.proofs.formula.rows_of.Given as goal

abbrev pub invariant-loop-k : goal.invariant-loop-k
invariant-loop-k l = l.made.items ≡ take l.k (rows l.model)
