-- How far lists of sizes are from the last one.
use Rattle.std.proofs.Common.{◌≡◌, ℕ, ◌+◌, ◌-◌, ◌^◌, ◌<◌, ◌≤◌, true, List, [], ◌∷◌, inl, inr, ap, arith, subst}
use Rattle.std.proofs.lemmas.Nat.{pow_below, pow_pos}
use Rattle.std.proofs.Math.Nat.{pow-le-pow_right}
use Rattle.std.proofs.lemmas.Grind.{pow_more}
use Rattle.proof_rules.specs.Notes.{is_greater}
use Rattle.proof_rules.proofs.Learned.{greater-cases}
use Rattle.conflict_bound.specs.Sizes.{DistancesAreBounded, DistancesFall, RiseFrom, distance}

-- ---- powers of two

half : (n s : ℕ) → s < n → 2 ^ (n - s) ≡ 2 ^ (n - (s + 1)) + 2 ^ (n - (s + 1))
half n s h = subst (λ (k : ℕ). 2 ^ k ≡ 2 ^ (n - (s + 1)) + 2 ^ (n - (s + 1))) e (omega (arith, pow_more 2 (n - (s + 1))))
  where
    e : (n - (s + 1)) + 1 ≡ n - s
    e = omega arith

falls : (n s t : ℕ) → s < t → t ≤ n → 2 ^ (n - t) < 2 ^ (n - s)
falls n s t h k = pow_below (n - t) (n - s) (omega arith)

falls_or_same : (n s t : ℕ) → s ≤ t → 2 ^ (n - t) ≤ 2 ^ (n - s)
falls_or_same n s t h = pow-le-pow_right {n = 2} (omega arith) {i = n - t} {j = n - s} (omega arith)

-- ---- bounds

pub rise-below : (n low : ℕ) (xs : List ℕ) → RiseFrom n low xs → low < n
rise-below n low [] h = absurd h
rise-below n low (s ∷ []) h = omega (arith, h.0, h.1)
rise-below n low (s ∷ t ∷ more) h = omega (arith, h.0, rise-below n (s + 1) (t ∷ more) h.1)

pub distance-positive : (n low : ℕ) (xs : List ℕ) → RiseFrom n low xs → 0 < distance n xs
distance-positive n low [] h = absurd h
distance-positive n low (s ∷ []) h = pow_pos (n - s)
distance-positive n low (s ∷ t ∷ more) h = omega (arith, distance-positive n (s + 1) (t ∷ more) h.1)

pub distance-below : (n low : ℕ) (xs : List ℕ) → RiseFrom n low xs → distance n xs < 2 ^ (n - low)
distance-below n low [] h = absurd h
distance-below n low (s ∷ []) h = falls n low s h.0 h.1
distance-below n low (s ∷ t ∷ more) h = omega (arith, distance-below n (s + 1) (t ∷ more) h.1, half n s (omega (arith, rise-below n (s + 1) (t ∷ more) h.1)), falls_or_same n low s h.0)

-- ---- dictionary order

-- a greater first size
first_greater : (n low low' s t : ℕ) (xs ys : List ℕ) → RiseFrom n low (s ∷ xs) → RiseFrom n low' (t ∷ ys) → s < t → distance n (t ∷ ys) < distance n (s ∷ xs)
first_greater n low low' s t [] [] rx ry h = falls n s t h ry.1
first_greater n low low' s t [] (u ∷ ys) rx ry h =
    let below = rise-below n (t + 1) (u ∷ ys) ry.1 in
    omega (arith, distance-below n (t + 1) (u ∷ ys) ry.1, half n t (omega (arith, below)), falls n s t h (omega (arith, below)))
first_greater n low low' s t (v ∷ xs) [] rx ry h =
    omega (arith, distance-positive n (s + 1) (v ∷ xs) rx.1, falls_or_same n (s + 1) t (omega arith))
first_greater n low low' s t (v ∷ xs) (u ∷ ys) rx ry h =
    let below = rise-below n (t + 1) (u ∷ ys) ry.1 in
    omega (arith, distance-below n (t + 1) (u ∷ ys) ry.1, half n t (omega (arith, below)), distance-positive n (s + 1) (v ∷ xs) rx.1, falls_or_same n (s + 1) t (omega arith))

-- the distance falls where lists rise
pub distance-falls : (n low low' : ℕ) (xs ys : List ℕ) → RiseFrom n low xs → RiseFrom n low' ys → is_greater ys xs ≡ true → distance n ys < distance n xs
distance-falls n low low' xs [] rx ry g = absurd ry
distance-falls n low low' [] (t ∷ ys) rx ry g = absurd rx
distance-falls n low low' (s ∷ []) (t ∷ []) rx ry g = elim (greater-cases t s [] [] g) [
  | inl h ↦ first_greater n low low' s t [] [] rx ry h
  | inr e ↦ absurd (cc (e.1))
]
distance-falls n low low' (s ∷ []) (t ∷ u ∷ ys) rx ry g = elim (greater-cases t s (u ∷ ys) [] g) [
  | inl h ↦ first_greater n low low' s t [] (u ∷ ys) rx ry h
  | inr e ↦
      let below = rise-below n (t + 1) (u ∷ ys) ry.1 in
      omega (arith, distance-below n (t + 1) (u ∷ ys) ry.1, half n t (omega (arith, below)), ap (λ (k : ℕ). 2 ^ (n - k)) e.0)
]
distance-falls n low low' (s ∷ v ∷ xs) (t ∷ []) rx ry g = elim (greater-cases t s [] (v ∷ xs) g) [
  | inl h ↦ first_greater n low low' s t (v ∷ xs) [] rx ry h
  | inr e ↦ absurd (cc (e.1))
]
distance-falls n low low' (s ∷ v ∷ xs) (t ∷ u ∷ ys) rx ry g = elim (greater-cases t s (u ∷ ys) (v ∷ xs) g) [
  | inl h ↦ first_greater n low low' s t (v ∷ xs) (u ∷ ys) rx ry h
  | inr e ↦ omega (arith, distance-falls n (s + 1) (t + 1) (v ∷ xs) (u ∷ ys) rx.1 ry.1 e.1, ap (λ (k : ℕ). 2 ^ (n - (k + 1))) e.0)
]

pub distances_fall : DistancesFall
distances_fall n before after rises falls greater = distance-falls n 0 0 before after rises falls greater

pub distances_bounded : DistancesAreBounded
distances_bounded n sizes rises =
    let e : n - 0 ≡ n = omega arith in
    (distance-positive n 0 sizes rises, omega (arith, distance-below n 0 sizes rises, ap (λ (k : ℕ). 2 ^ k) e))
