-- Swaps, one after another, and back.
use Rattle.std.proofs.Common.{◌≡◌, ◌⊎◌, inl, inr, ◌+◌, ◌<◌, ◌≤◌, ◌++◌, ℕ, zero, suc, List, [], ◌∷◌, length, get_or, take, refl, sym, ap, ◌∙◌, arith}
use Rattle.std.specs.List.{All, swap}
use Rattle.std.proofs.Common.{length-append}
use Rattle.std.proofs.lemmas.List.Elements.{All-nil, All-push}
use Rattle.std.proofs.lemmas.List.{length-take-le, same_lists, take_more}
use Rattle.std.proofs.lemmas.List.Edits.{Swapped, length-swap, swapped_from_swap}
use Rattle.instance_gen.specs.Swaps.{AreSwaps, swapped}

-- ---- one swap

cases : (k i j : ℕ) → (k ≡ i) ⊎ ((k ≡ j) ⊎ ((k ≡ i → ⊥) × (k ≡ j → ⊥)))
cases k i j = by (is k i) (is k j)
  where
    is : (k i : ℕ) → (k ≡ i) ⊎ (k ≡ i → ⊥)
    is k i = grind arith

    by : (k ≡ i) ⊎ (k ≡ i → ⊥) → (k ≡ j) ⊎ (k ≡ j → ⊥) → (k ≡ i) ⊎ ((k ≡ j) ⊎ ((k ≡ i → ⊥) × (k ≡ j → ⊥)))
    by (inl a) b = inl a
    by (inr a) (inl b) = inr (inl b)
    by (inr a) (inr b) = inr (inr (a, b))

pub swap_twice : (xs : List ℕ) (i j : ℕ) → i < length xs → j < length xs → swap (swap xs i j) i j ≡ xs
swap_twice xs i j h g =
    same_lists (swap (swap xs i j) i j) xs (length-swap (swap xs i j) i j ∙ length-swap xs i j) (λ k d lt.
    by k d (cases k i j) (swapped_from_swap xs (swap xs i j) i j d h g refl)
    (swapped_from_swap (swap xs i j) (swap (swap xs i j) i j) i j d (omega (arith, h, length-swap xs i j)) (omega (arith, g, length-swap xs i j)) refl))
  where
    by : (k d : ℕ) → (k ≡ i) ⊎ ((k ≡ j) ⊎ ((k ≡ i → ⊥) × (k ≡ j → ⊥)))
        → Swapped (λ n. get_or xs n d) (λ n. get_or (swap xs i j) n d) i j
        → Swapped (λ n. get_or (swap xs i j) n d) (λ n. get_or (swap (swap xs i j) i j) n d) i j
        → get_or (swap (swap xs i j) i j) k d ≡ get_or xs k d
    by k d (inl a) (once_i, once_j, once_k) (again_i, again_j, again_k) = rw a (again_i ∙ once_j)
    by k d (inr (inl b)) (once_i, once_j, once_k) (again_i, again_j, again_k) = rw b (again_j ∙ once_i)
    by k d (inr (inr (a, b))) (once_i, once_j, once_k) (again_i, again_j, again_k) = again_k k a b ∙ once_k k a b

-- ---- one after another

pub length-swapped : (t : ℕ) (ps xs : List ℕ) → length (swapped t ps xs) ≡ length xs
length-swapped t [] xs = refl
length-swapped t (p ∷ ps) xs = length-swapped (suc t) ps (swap xs t p) ∙ length-swap xs t p

pub swapped_more : (t : ℕ) (ps : List ℕ) (p : ℕ) (xs : List ℕ) → swapped t (ps ++ p ∷ []) xs ≡ swap (swapped t ps xs) (t + length ps) p
swapped_more t [] p xs = let e : t + zero ≡ t = omega arith in rw e refl
swapped_more t (q ∷ qs) p xs =
    let e : t + suc (length qs) ≡ suc t + length qs = omega arith in
    rw e (swapped_more (suc t) qs p (swap xs t q))

-- a list with one more of its first places swapped
pub swaps_more : (before ps after : List ℕ) (p : ℕ) → AreSwaps before ps after → p < length before → length ps < length before → AreSwaps before (ps ++ p ∷ []) (swap after (length ps) p)
swaps_more before ps after p s within few =
    let place : 0 + length ps ≡ length ps = omega arith in
    record {
      within = All-push (λ q. q < length before) ps p s.within within;
      few = omega (arith, few, length-append ps (p ∷ []));
      made = ap (λ (xs : List ℕ). swap xs (length ps) p) s.made ∙ sym (swapped_more 0 ps p before ∙ ap (λ (n : ℕ). swap (swapped 0 ps before) n p) place);
    }

pub no_swaps : (before : List ℕ) → AreSwaps before [] before
no_swaps before = record { within = All-nil (λ q. q < length before); few = omega arith; made = refl }

pub length-swaps : (before ps after : List ℕ) → AreSwaps before ps after → length after ≡ length before
length-swaps before ps after s = ap length s.made ∙ length-swapped 0 ps before

-- the last of the swaps is taken back
pub one_back : (before ps now : List ℕ) (left : ℕ) (d : ℕ) → All (λ p. p < length before) ps → length ps ≤ length before → left < length ps
    → now ≡ swapped 0 (take (left + 1) ps) before → swap now left (get_or ps left d) ≡ swapped 0 (take left ps) before
one_back before ps now left d within few h e =
    let xs = swapped 0 (take left ps) before in
    let p = get_or ps left d in
    let place : 0 + length (take left ps) ≡ left = omega (arith, length-take-le left ps (omega arith)) in
    let swapped_now : now ≡ swap xs left p =
    e ∙ ap (λ (l : List ℕ). swapped 0 l before) (take_more ps left d h) ∙ swapped_more 0 (take left ps) p before ∙ ap (λ (n : ℕ). swap xs n p) place in
    ap (λ (l : List ℕ). swap l left p) swapped_now
    ∙ swap_twice xs left p (omega (arith, h, few, length-swapped 0 (take left ps) before)) (omega (arith, within left d h, length-swapped 0 (take left ps) before))
