-- Places none of which stands twice.
use Rattle.std.proofs.Common.{◌≡◌, ◌==◌, ◌||◌, ◌+◌, ℕ, Bool, false, not, List, [], ◌∷◌, ◌++◌, map, filter, length, take, get_or, refl, sym, ◌∙◌, ap, arith, subst, inl, inr}
use Rattle.std.specs.Cmp.{IsEquivalence}
use Rattle.std.specs.List.{AllByRecursion, IsDistinct, list_any}
use Rattle.std.proofs.lemmas.Bool.{cases_Bool, cases_eq, eq-eqb, eqb-true, ne_eqb}
use Rattle.std.proofs.lemmas.List.Elements.{All-from_recursion}
use Rattle.std.proofs.lemmas.Map.Keys.{IsDistinct-push}
use Rattle.row_arena.specs.declared.arena.Place.{Place}
use Rattle.pb_propagate.specs.Parts.{AreDistinct}

eqb-flips : (a b : ℕ) → (a == b) ≡ (b == a)
eqb-flips a b = elim (cases_eq a b) [
  | inl e ↦ eq-eqb a b e ∙ sym (eq-eqb b a (sym e))
  | inr ne ↦ ne_eqb a b ne ∙ sym (ne_eqb b a (λ e. ne (sym e)))
]

by_number : IsEquivalence (λ (a b : Place). a.0 == b.0)
by_number = record {
  refl = λ a. eq-eqb a.0 a.0 refl;
  symm = λ a b. eqb-flips a.0 b.0;
  congr = λ a b c e. let f : a.0 ≡ b.0 = eqb-true a.0 b.0 e in rw f refl;
}

pub among-numbers : (p : ℕ) (places : List Place) → list_any (λ (q : Place). p == q.0) places ≡ list_any (λ (n : ℕ). p == n) (map (λ (q : Place). q.0) places)
among-numbers p [] = refl
among-numbers p (q ∷ places) = ap (λ b. (p == q.0) || b) (among-numbers p places)

pub distinct_none : (places : List Place) → places ≡ [] → AreDistinct places
unfolding IsDistinct
distinct_none places e = subst AreDistinct (sym e) tt

-- one more place
pub distinct-push : (places : List Place) (p : Place) → AreDistinct places → list_any (λ (n : ℕ). p.0 == n) (map (λ (q : Place). q.0) places) ≡ false → AreDistinct (places ++ p ∷ [])
distinct-push places p d none = IsDistinct-push by_number places p d (among-numbers p.0 places ∙ none)

all-filter : {X : Type 0} (P : X → Type 0) (f : X → Bool) (xs : List X) → AllByRecursion P xs → AllByRecursion P (filter f xs)
all-filter P f [] a = tt
all-filter P f (x ∷ xs) a = elim (cases_Bool (f x)) [
  | inl e ↦ rw e (a.0, all-filter P f xs a.1)
  | inr e ↦ rw e (all-filter P f xs a.1)
]

-- fewer places
pub distinct-filter : (f : Place → Bool) (places : List Place) → AreDistinct places → AreDistinct (filter f places)
unfolding IsDistinct
distinct-filter f [] d = tt
distinct-filter f (p ∷ places) d = elim (cases_Bool (f p)) [
  | inl e ↦ rw e (all-filter (λ (q : Place). (p.0 == q.0) ≡ false) f places d.0, distinct-filter f places d.1)
  | inr e ↦ rw e (distinct-filter f places d.1)
]

-- without the last place
pub last-off : (x : Place) (xs : List Place) (p : Place) (d : Place) → AreDistinct (x ∷ xs) → (get_or (x ∷ xs) (length xs) d).0 ≡ p.0
    → filter (λ (q : Place). not (p.0 == q.0)) (x ∷ xs) ≡ take (length xs) (x ∷ xs)
unfolding IsDistinct
last-off x [] p d a h = rw (eq-eqb p.0 x.0 (sym h)) refl
last-off x (y ∷ xs) p d a h =
    let apart : (x.0 == (get_or (y ∷ xs) (length xs) d).0) ≡ false = All-from_recursion (λ (q : Place). (x.0 == q.0) ≡ false) (y ∷ xs) a.0 (length xs) d (omega arith) in
    let other : (p.0 == x.0) ≡ false = eqb-flips p.0 x.0 ∙ ap (λ (n : ℕ). x.0 == n) (sym h) ∙ apart in
    rw other (ap (λ (qs : List Place). x ∷ qs) (last-off y xs p d a.1 h))

pub off-last : (places : List Place) (p : Place) (front : ℕ) → AreDistinct places → front + 1 ≡ length places → (get_or places front p).0 ≡ p.0 → take front places ≡ filter (λ (q : Place). not (p.0 == q.0)) places
off-last [] p front a n h = absurd (omega (arith, n))
off-last (x ∷ xs) p front a n h =
    let same : front ≡ length xs = omega (arith, n) in
    ap (λ (k : ℕ). take k (x ∷ xs)) same ∙ sym (last-off x xs p p a (ap (λ (k : ℕ). (get_or (x ∷ xs) k p).0) (sym same) ∙ h))
