-- The moves of a search keep its trail ahead of the last learned row.
use Rattle.std.proofs.Common.{◌≡◌, ℕ, zero, suc, ◌+◌, ◌<◌, ◌≤◌, true, List, [], ◌∷◌, ◌++◌, length, take, get_or, ◌⊎◌, inl, inr, refl, sym, ap, subst, arith}
use Rattle.std.proofs.lemmas.List.{length-append}
use Rattle.std.proofs.lemmas.Bool.{cases_lt, cases_eq}
use Rattle.proof_rules.specs.Notes.{is_greater}
use Rattle.proof_rules.proofs.Learned.{greater-from, greater-transitive}
use Rattle.search_measure.specs.Ahead.{IsAhead, IsAtLeast, IsLevel, sizes_at}

-- ---- dictionary order

-- a longer list
pub greater-longer : (xs : List ℕ) (y : ℕ) (more : List ℕ) → is_greater (xs ++ y ∷ more) xs ≡ true
greater-longer [] y more = refl
greater-longer (x ∷ xs) y more = greater-from x x (xs ++ y ∷ more) xs (inr (refl, greater-longer xs y more))

-- the same front, then a larger size
pub greater-behind : (xs : List ℕ) (y z : ℕ) (ys zs : List ℕ) → y < z → is_greater (xs ++ z ∷ zs) (xs ++ y ∷ ys) ≡ true
greater-behind [] y z ys zs h = greater-from z y zs ys (inl h)
greater-behind (x ∷ xs) y z ys zs h = greater-from x x (xs ++ z ∷ zs) (xs ++ y ∷ ys) (inr (refl, greater-behind xs y z ys zs h))

pub greater-least : (xs ys zs : List ℕ) → is_greater xs ys ≡ true → IsAtLeast ys zs → is_greater xs zs ≡ true
greater-least xs ys zs h (inl e) = subst (λ (l : List ℕ). is_greater xs l ≡ true) e h
greater-least xs ys zs h (inr g) = greater-transitive xs ys zs h g

-- anything is greater than no sizes
pub greater-nothing : (xs : List ℕ) (y : ℕ) (more : List ℕ) → is_greater (xs ++ y ∷ more) [] ≡ true
greater-nothing [] y more = refl
greater-nothing (x ∷ xs) y more = refl

-- ---- lengths up to levels

-- a row at a level is later than one at a higher level
sizes-lower : (below : List ℕ) (j x : ℕ) → j < length below → is_greater (sizes_at below j) (below ++ x ∷ []) ≡ true
sizes-lower [] j x h = absurd (omega arith)
sizes-lower (b ∷ below) zero x h = greater-from (b + 1) b [] (below ++ x ∷ []) (inl (omega arith))
sizes-lower (b ∷ below) (suc j) x h = greater-from b b (sizes_at below j) (below ++ x ∷ []) (inr (refl, sizes-lower below j x (omega arith)))

-- a lower level of a shorter trail
sizes-front : (below : List ℕ) (k j : ℕ) → j < k → k < length below → sizes_at (take k below) j ≡ sizes_at below j
sizes-front [] k j h i = absurd (omega arith)
sizes-front (b ∷ below) zero j h i = absurd (omega arith)
sizes-front (b ∷ below) (suc k) zero h i = refl
sizes-front (b ∷ below) (suc k) (suc j) h i = ap (λ (l : List ℕ). b ∷ l) (sizes-front below k j (omega arith) (omega arith))

-- a level of a longer trail
sizes-longer : (below : List ℕ) (whole j : ℕ) → j < length below → sizes_at (below ++ whole ∷ []) j ≡ sizes_at below j
sizes-longer [] whole j h = absurd (omega arith)
sizes-longer (b ∷ below) whole zero h = refl
sizes-longer (b ∷ below) whole (suc j) h = ap (λ (l : List ℕ). b ∷ l) (sizes-longer below whole j (omega arith))

-- the level just above
sizes-top : (below : List ℕ) (whole : ℕ) → sizes_at (below ++ whole ∷ []) (length below) ≡ below ++ (whole + 1) ∷ []
sizes-top [] whole = refl
sizes-top (b ∷ below) whole = ap (λ (l : List ℕ). b ∷ l) (sizes-top below whole)

length-front : (below : List ℕ) (k : ℕ) → k ≤ length below → length (take k below) ≡ k
length-front [] zero h = refl
length-front [] (suc k) h = absurd (omega arith)
length-front (b ∷ below) zero h = refl
length-front (b ∷ below) (suc k) h = ap suc (length-front below k (omega arith))

-- ---- moves

-- at the start and after a restart no row has to be passed
pub ahead-start : (below : List ℕ) (whole : ℕ) (O : Type 0) → IsAhead below whole O []
ahead-start below whole O = record { later_below = λ level h. greater-nothing (take level below) (get_or below level 0 + 1) []; reached = inl (inr (greater-nothing below whole [])) }

-- longer than what was reached
grown : (below : List ℕ) (whole more : ℕ) (O : Type 0) (last : List ℕ) → whole < more → IsAtLeast (below ++ whole ∷ []) last ⊎ (O × IsAtLeast (below ++ (whole + 1) ∷ []) last) → IsAtLeast (below ++ more ∷ []) last
grown below whole more O last h (inl r) = inr (greater-least (below ++ more ∷ []) (below ++ whole ∷ []) last (greater-behind below whole more [] [] h) r)
grown below whole more O last h (inr r) = elim (cases_eq (whole + 1) more) [
  | inl e ↦ subst (λ (n : ℕ). IsAtLeast (below ++ n ∷ []) last) e r.1
  | inr ne ↦ inr (greater-least (below ++ more ∷ []) (below ++ (whole + 1) ∷ []) last (greater-behind below (whole + 1) more [] [] (above (whole + 1) more (omega arith) ne)) r.1)
]
  where
    above : (a b : ℕ) → a ≤ b → (a ≡ b → ⊥) → a < b
    above a b l ne = elim (cases_lt a b) [ inl lt ↦ lt | inr le ↦ absurd (ne (omega (arith, l, le))) ]

-- literals come onto the trail; where none does, what was open is open still
pub ahead-visited : (below : List ℕ) (whole more : ℕ) (O P : Type 0) (last : List ℕ) → whole ≤ more → (whole ≡ more → O → P) → IsAhead below whole O last → IsAhead below more P last
ahead-visited below whole more O P last h keeps a = record { later_below = a.later_below; reached = by (cases_lt whole more) a.reached }
  where
    by : (whole < more) ⊎ (more ≤ whole) → IsAtLeast (below ++ whole ∷ []) last ⊎ (O × IsAtLeast (below ++ (whole + 1) ∷ []) last) → IsAtLeast (below ++ more ∷ []) last ⊎ (P × IsAtLeast (below ++ (more + 1) ∷ []) last)
    by (inl lt) r = inl (grown below whole more O last lt r)
    by (inr le) (inl r) = let e : whole ≡ more = omega arith in inl (subst (λ (n : ℕ). IsAtLeast (below ++ n ∷ []) last) e r)
    by (inr le) (inr r) = let e : whole ≡ more = omega arith in inr (keeps e r.0, subst (λ (n : ℕ). IsAtLeast (below ++ (n + 1) ∷ []) last) e r.1)

-- at the end nothing is open
pub ahead-quiet : (below : List ℕ) (whole more : ℕ) (O : Type 0) (last : List ℕ) → whole ≤ more → (whole ≡ more → O → ⊥) → IsAhead below whole O last → IsLevel below more last
ahead-quiet below whole more O last h closed a = record { later_below = a.later_below; reached = by (ahead-visited below whole more O ⊥ last h closed a).reached }
  where
    by : IsAtLeast (below ++ more ∷ []) last ⊎ (⊥ × IsAtLeast (below ++ (more + 1) ∷ []) last) → IsAtLeast (below ++ more ∷ []) last
    by (inl r) = r
    by (inr r) = absurd r.0

-- a decision opens a level
pub level-decided : (below : List ℕ) (whole : ℕ) (O : Type 0) (last : List ℕ) → IsLevel below whole last → IsAhead (below ++ whole ∷ []) (whole + 1) O last
level-decided below whole O last a = record {
  later_below = λ j h. by j h (cases_lt j (length below));
  reached = inl (inr (greater-least ((below ++ whole ∷ []) ++ (whole + 1) ∷ []) (below ++ whole ∷ []) last (greater-longer (below ++ whole ∷ []) (whole + 1) []) a.reached));
}
  where
    by : (j : ℕ) → j < length (below ++ whole ∷ []) → (j < length below) ⊎ (length below ≤ j) → is_greater (sizes_at (below ++ whole ∷ []) j) last ≡ true
    by j h (inl lt) = subst (λ (l : List ℕ). is_greater l last ≡ true) (sym (sizes-longer below whole j lt)) (a.later_below j lt)
    by j h (inr le) =
        let e : length below ≡ j = omega (arith, length-append below (whole ∷ [])) in
        subst (λ (k : ℕ). is_greater (sizes_at (below ++ whole ∷ []) k) last ≡ true) e
        (subst (λ (l : List ℕ). is_greater l last ≡ true) (sym (sizes-top below whole))
        (greater-least (below ++ (whole + 1) ∷ []) (below ++ whole ∷ []) last (greater-behind below whole (whole + 1) [] [] (omega arith)) a.reached))

-- a row is learned at a level, and the trail goes back to it, where the row is open
pub ahead-learned : (below : List ℕ) (level : ℕ) (O : Type 0) (last : List ℕ) → level < length below → O → IsAhead (take level below) (get_or below level 0) O (sizes_at below level)
ahead-learned below level O last h o = record {
  later_below = λ j lt. sizes-lower (take level below) j (get_or below level 0 + 1) lt;
  reached = inr (o, inl refl);
}

-- rows are added to a quiet engine, and the trail goes back to the lowest level at which one of them is open
pub level-added : (below : List ℕ) (whole level : ℕ) (O : Type 0) (last : List ℕ) → level < length below → IsLevel below whole last → O → IsAhead (take level below) (get_or below level 0) O last
level-added below whole level O last h a o = record {
  later_below = λ j lt. subst (λ (l : List ℕ). is_greater l last ≡ true) (sym (sizes-front below level j (in_front j lt) h)) (a.later_below j (omega (arith, in_front j lt)));
  reached = inr (o, inr (a.later_below level h));
}
  where
    in_front : (j : ℕ) → j < length (take level below) → j < level
    in_front j lt = omega (arith, length-front below level (omega arith))

-- or stays at its level
pub level-stayed : (below : List ℕ) (whole : ℕ) (O : Type 0) (last : List ℕ) → IsLevel below whole last → IsAhead below whole O last
level-stayed below whole O last a = record { later_below = a.later_below; reached = inl a.reached }
