-- Sorted literals.
use Rattle.std.proofs.Common.{◌≡◌, ◌≤◌, ◌<◌, ◌+◌, ℕ, suc, List, [], ◌∷◌, length, get_or, drop, arith, refl, add-one, drop-cons}
use Rattle.std.specs.List.Sorted.{IsNonDecreasingBy}
use Rattle.std.proofs.lemmas.List.Elements.{recursion_from_All}
use Rattle.level_sweep.specs.declared.sweeping.Standing.{Standing}
use Rattle.level_sweep.specs.Sweeps.{AreFalling, late}

pub falls : (xs : List Standing) → IsNonDecreasingBy (λ (s : Standing). late s.stand) xs → AreFalling xs
falls [] h = tt
falls (s ∷ xs) h = (
  recursion_from_All (λ (y : Standing). late s.stand ≤ late y.stand) xs (λ k d l. h 0 (suc k) d (omega arith) (omega (arith, l))),
  falls xs (λ i j d a b. h (suc i) (suc j) d (omega (arith, a)) (omega (arith, b))),
)

-- the literals that are left at a place
pub drop-here : (xs : List Standing) (k : ℕ) (s : Standing) → k < length xs → drop k xs ≡ get_or xs k s ∷ drop (k + 1) xs
drop-here xs k s h = rw (add-one, drop-cons xs k s) refl
