-- Worked cases of sizes: over two variables there are three lists of sizes, which rise in this order.
use Rattle.std.proofs.Common.{◌≡◌, false, true, [], ◌∷◌, refl}
use Rattle.proof_rules.specs.Notes.{is_greater}
use Rattle.conflict_bound.specs.Sizes.{distance}

-- a decision from nothing, then a literal behind it and one that follows from it
farthest : distance 2 (0 ∷ 2 ∷ []) ≡ 3
farthest = refl

-- a literal from nothing
next : distance 2 (1 ∷ []) ≡ 2
next = refl

-- a literal behind another one
last : distance 2 (2 ∷ []) ≡ 1
last = refl

next_greater : is_greater (1 ∷ []) (0 ∷ 2 ∷ []) ≡ true
next_greater = refl

-- the same sizes aren't greater
same_not_greater : is_greater (0 ∷ 2 ∷ []) (0 ∷ 2 ∷ []) ≡ false
same_not_greater = refl
