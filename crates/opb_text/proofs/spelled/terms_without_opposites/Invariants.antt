use Rattle.std.proofs.Common.{◌≡◌, map, take}
use Rattle.opb_text.specs.Spelling.{without_opposite}
use Rattle.opb_text.proofs.spelled.terms_without_opposites.Given as goal

abbrev pub invariant-loop-term : goal.invariant-loop-term
invariant-loop-term l = l.terms.items ≡ map without_opposite (take l.term-index l.term-items)
