-- The sequence by which restarts are spaced, place by place.
use Rattle.std.proofs.Common.{◌≡◌, ◌⊎◌, ◌+◌, ◌-◌, ◌*◌, ◌<◌, ◌≤◌, ℕ, zero, suc, refl, sym, ap, subst, ◌∙◌, arith, true, false, if◌then◌else◌, inl, inr, nat_eq, nat_lt}
use Rattle.std.specs.Prelude.{◌^◌}
use Rattle.std.proofs.lemmas.Bool.Decides.{nat_tests}
use Rattle.std.proofs.lemmas.Grind.{pow_more}
use Rattle.std.proofs.lemmas.Nat.{pow_pos}
use Rattle.search_guides.specs.Luby.{luby, luby_within}

-- ---- one level

-- what stands at a place, by the half of the level, and the numbers of the level below at two places
abbrev at : ℕ → ℕ → ℕ → ℕ → ℕ
at half i low high = if nat_eq (i + 1) (2 * half) then half else (if nat_lt i half then low else high)

at_last : (half i low high : ℕ) → i + 1 ≡ 2 * half → at half i low high ≡ half
at_last half i low high h = let e : nat_eq (i + 1) (2 * half) ≡ true = grind (arith, nat_tests) in rw e refl

at_low : (half i low high : ℕ) → i < half → at half i low high ≡ low
at_low half i low high h =
    let e : nat_eq (i + 1) (2 * half) ≡ false = grind (arith, nat_tests) in
    let f : nat_lt i half ≡ true = grind (arith, nat_tests) in
    rw (e, f) refl

at_high : (half i low high : ℕ) → half ≤ i → i + 1 < 2 * half → at half i low high ≡ high
at_high half i low high h g =
    let e : nat_eq (i + 1) (2 * half) ≡ false = grind (arith, nat_tests) in
    let f : nat_lt i half ≡ false = grind (arith, nat_tests) in
    rw (e, f) refl

-- at a level from 1 on
pub level_is : (k i : ℕ) → 0 < k → luby_within k i ≡ at (2 ^ (k - 1)) i (luby_within (k - 1) i) (luby_within (k - 1) (i + 1 - 2 ^ (k - 1)))
unfolding luby_within
level_is zero i h = absurd (omega (arith, h))
level_is (suc k) i h = let e : suc k - 1 ≡ k = omega arith in rw e refl

-- the same, by the half
level_with : (k i half : ℕ) → 0 < k → half ≡ 2 ^ (k - 1) → luby_within k i ≡ at half i (luby_within (k - 1) i) (luby_within (k - 1) (i + 1 - half))
level_with k i half s e = subst (λ (h : ℕ). luby_within k i ≡ at h i (luby_within (k - 1) i) (luby_within (k - 1) (i + 1 - h))) (sym e) (level_is k i s)

pub level_last : (k i half : ℕ) → 0 < k → half ≡ 2 ^ (k - 1) → i + 1 ≡ 2 * half → half ≡ luby_within k i
level_last k i half s e h = sym (level_with k i half s e ∙ at_last half i _ _ h)

pub level_low : (k i half : ℕ) → 0 < k → half ≡ 2 ^ (k - 1) → i < half → luby_within (k - 1) i ≡ luby_within k i
level_low k i half s e h = sym (level_with k i half s e ∙ at_low half i _ _ h)

pub level_high : (k i half : ℕ) → 0 < k → half ≡ 2 ^ (k - 1) → half ≤ i → i + 1 < 2 * half → luby_within (k - 1) (i + 1 - half) ≡ luby_within k i
level_high k i half s e h g = sym (level_with k i half s e ∙ at_high half i _ _ h g)

-- a level with a place isn't the lowest
pub some_level : (k i : ℕ) → 1 ≤ i → i < 2 ^ k → 0 < k
some_level zero i h g = absurd (let one : 2 ^ zero ≡ 1 = refl in omega (arith, h, g, one))
some_level (suc k) i h g = omega arith

twice : (k : ℕ) → 2 ^ (k + 1) ≡ 2 * 2 ^ k
twice k = let e : 2 ^ (k + 1) ≡ 2 ^ k * 2 = pow_more 2 k in omega (arith, e)

pub twice_before : (k : ℕ) → 0 < k → 2 * 2 ^ (k - 1) ≡ 2 ^ k
twice_before k h = let e : k ≡ (k - 1) + 1 = omega (arith, h) in sym (ap (λ n. 2 ^ n) e ∙ twice (k - 1))

-- ---- levels above

pub grows : (j k : ℕ) → j ≤ k → 2 ^ j ≤ 2 ^ k
grows j zero h = let e : j ≡ zero = omega arith in subst (λ (n : ℕ). 2 ^ n ≤ 2 ^ zero) (sym e) (omega arith)
grows j (suc k) h = by (cases j k h) (grows j k)
  where
    cases : (j k : ℕ) → j ≤ suc k → (j ≤ k) ⊎ (j ≡ suc k)
    cases j k h = grind arith

    by : (j ≤ k) ⊎ (j ≡ suc k) → (j ≤ k → 2 ^ j ≤ 2 ^ k) → 2 ^ j ≤ 2 ^ suc k
    by (inl below) rest =
        let low : 2 ^ j ≤ 2 ^ k = rest below in
        let e : 2 ^ (k + 1) ≡ 2 * 2 ^ k = twice k in
        let f : suc k ≡ k + 1 = omega arith in
        subst (λ (n : ℕ). 2 ^ j ≤ 2 ^ n) (sym f) (omega (arith, low, e))
    by (inr same) rest = subst (λ (n : ℕ). 2 ^ j ≤ 2 ^ n) same (omega arith)

-- a place of a level has the same number at each level above
level_up : (k i : ℕ) → luby_within (suc k) i ≡ at (2 ^ k) i (luby_within k i) (luby_within k (i + 1 - 2 ^ k))
unfolding luby_within
level_up k i = refl

pub same_above : (top k i : ℕ) → k ≤ top → i < 2 ^ k → luby_within top i ≡ luby_within k i
same_above zero k i h g = let e : k ≡ zero = omega arith in subst (λ (n : ℕ). luby_within zero i ≡ luby_within n i) (sym e) refl
same_above (suc top) k i h g = by (cases k top h) (same_above top k i)
  where
    cases : (k top : ℕ) → k ≤ suc top → (k ≤ top) ⊎ (k ≡ suc top)
    cases k top h = grind arith

    by : (k ≤ top) ⊎ (k ≡ suc top) → (k ≤ top → i < 2 ^ k → luby_within top i ≡ luby_within k i) → luby_within (suc top) i ≡ luby_within k i
    by (inl below) rest =
        let up : 2 ^ k ≤ 2 ^ top = grows k top below in
        level_up top i ∙ at_low (2 ^ top) i (luby_within top i) (luby_within top (i + 1 - 2 ^ top)) (omega (arith, up, g)) ∙ rest below g
    by (inr same) rest = subst (λ (n : ℕ). luby_within (suc top) i ≡ luby_within n i) (sym same) refl

-- ---- the two sentences

pub luby_is : (i : ℕ) → luby i ≡ luby_within 41 i
unfolding luby
luby_is i = refl

pub luby_full : (k : ℕ) → k < 41 → luby (2 ^ (k + 1) - 1) ≡ 2 ^ k
luby_full k h =
    let size : 2 ^ (k + 1) ≡ 2 * 2 ^ k = twice k in
    let some : 0 < 2 ^ k = pow_pos k in
    let f : k + 1 ≡ suc k = omega arith in
    luby_is (2 ^ (k + 1) - 1) ∙ same_above 41 (k + 1) (2 ^ (k + 1) - 1) (omega arith) (omega (arith, size, some))
    ∙ subst (λ (n : ℕ). luby_within n (2 ^ (k + 1) - 1) ≡ 2 ^ k) (sym f)
    (level_up k (2 ^ (k + 1) - 1) ∙ at_last (2 ^ k) (2 ^ (k + 1) - 1) (luby_within k (2 ^ (k + 1) - 1)) (luby_within k (2 ^ (k + 1) - 1 + 1 - 2 ^ k)) (omega (arith, size, some)))

pub luby_part : (k i : ℕ) → k < 41 → 2 ^ k ≤ i → i + 1 < 2 ^ (k + 1) → luby i ≡ luby (i + 1 - 2 ^ k)
luby_part k i h low high =
    let size : 2 ^ (k + 1) ≡ 2 * 2 ^ k = twice k in
    luby_is i ∙ same_above 41 (k + 1) i (omega arith) (omega arith)
    ∙ (let f : k + 1 ≡ suc k = omega arith in subst (λ (n : ℕ). luby_within n i ≡ luby_within k (i + 1 - 2 ^ k)) (sym f)
    (level_up k i ∙ at_high (2 ^ k) i (luby_within k i) (luby_within k (i + 1 - 2 ^ k)) low (omega (arith, high, size))))
    ∙ sym (luby_is (i + 1 - 2 ^ k) ∙ same_above 41 k (i + 1 - 2 ^ k) (omega arith) (omega (arith, high, size)))
