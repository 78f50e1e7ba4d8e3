use Rattle.std.proofs.Common.{◌≡◌, take}
use Rattle.pb_rows.specs.Normal.{sizes}
use Rattle.opb_text.proofs.limits.are_small.Given as goal

abbrev pub invariant-loop-term : goal.invariant-loop-term
invariant-loop-term l = l.sum ≡ sizes (take l.term-index l.terms)
