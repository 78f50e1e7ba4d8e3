-- Drawing, step by step.
use Rattle.std.proofs.Common.{◌≡◌, ◌+◌, ◌-◌, ◌<◌, ℕ, zero, suc, List, [], ◌∷◌, Bool, true, false, length, refl, arith, nat_lt, length-append}
use Rattle.std.specs.List.{swap}
use Rattle.rand_pcg.specs.Lcg.{Lcg}
use Rattle.rank_tables.specs.Groups.{tied_on, tied_to}
use Rattle.instance_gen.specs.Draws.{after_draw, drawn, shuffled, with_next}

-- one step, where some are left
pub shuffled_next : (left t : ℕ) (xs : List ℕ) (g : Lcg) → 0 < left → shuffled left t xs g ≡ shuffled (left - 1) (t + 1) (swap xs t (t + drawn (length xs - t) g)) (after_draw g)
shuffled_next zero t xs g h = absurd (omega (arith, h))
shuffled_next (suc left) t xs g h = let e : suc left - 1 ≡ left = omega arith in rw e refl

-- ---- groups

some_to : (group : List ℕ) (groups : List (List ℕ)) (x : ℕ) → 0 < length (tied_to group groups x)
some_to group [] x = omega arith
some_to group (next ∷ groups) x = omega arith

some_on : (groups : List (List ℕ)) (x : ℕ) → 0 < length groups → 0 < length (tied_on groups x)
some_on [] x h = h
some_on (group ∷ groups) x h = some_to group groups x

-- some group stands there with one number more
pub some_next : (percent x : ℕ) (groups : List (List ℕ)) (g : Lcg) → 0 < length groups → 0 < length (with_next percent groups x g)
some_next percent x groups g h = by (nat_lt (drawn 100 g) percent) refl
  where
    by : (b : Bool) → nat_lt (drawn 100 g) percent ≡ b → 0 < length (with_next percent groups x g)
    by true e = rw e (some_on groups x h)
    by false e = rw e (omega (arith, length-append groups ((x ∷ []) ∷ []), h))
