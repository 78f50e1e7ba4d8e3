use Rattle.std.proofs.Common.{◌≡◌, take}
use Rattle.pb_rows.specs.Joined.{signless_all}
use Rattle.pb_rows.proofs.normal.without_signs.Given as goal

abbrev pub invariant-loop-t : goal.invariant-loop-t
invariant-loop-t l = l.positive.items ≡ signless_all (take l.t-index l.terms)
