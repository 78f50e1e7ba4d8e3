-- Looking for a variable among rising ones.
use Rattle.std.proofs.Common.{◌≡◌, ◌⊎◌, ◌≤◌, ◌<◌, ◌+◌, ℕ, zero, suc, true, false, List, [], ◌∷◌, length, get_or, refl, ◌∙◌, inl, inr, arith}
use Rattle.std.proofs.lemmas.Bool.{cases_lt}
use Rattle.std.proofs.lemmas.List.Elements.{All-from_recursion, recursion_from_All}
use Rattle.hrt_base.specs.declared.literal.Lit.{Lit}
use Rattle.hrt_base.specs.declared.literal.Term.{Term}
use Rattle.pb_rows.specs.Terms.{IsRisingFrom, positive_part}
use Rattle.pb_rows.specs.Closure.{is_same_lit}
use Rattle.propagation.proofs.Sets.{lit_cases, lit_itself}
use Rattle.conflict_rows.specs.Trail.{weight_of}
use Rattle.conflict_rows.proofs.Literals.{IsOnly, has_each, only_term, rising_above, weight_here, weight_there}

-- variables rise with the places
pub rises : (low : ℕ) (ts : List Term) (i j : ℕ) (d e : Term) → IsRisingFrom low ts → i < j → j < length ts → (get_or ts i d).lit.var < (get_or ts j e).lit.var
rises low [] i j d e r l h = absurd (omega arith)
rises low (t ∷ ts) zero zero d e r l h = absurd (omega arith)
rises low (t ∷ ts) zero (suc j) d e r l h = let a = All-from_recursion (λ u. t.lit.var + 1 ≤ u.lit.var) ts (rising_above (t.lit.var + 1) ts r.2) j e (omega arith) in omega (arith, a)
rises low (t ∷ ts) (suc i) zero d e r l h = absurd (omega arith)
rises low (t ∷ ts) (suc i) (suc j) d e r l h = rises (t.lit.var + 1) ts i j d e r.2 (omega arith) (omega arith)

-- the terms with this variable stand from low on, and before high
pub record IsBetween (ts : List Term) (v low high : ℕ) : Type 0 where
  pub below : (i : ℕ) (d : Term) → i < low → i < length ts → (get_or ts i d).lit.var < v
  pub above : (i : ℕ) (d : Term) → high ≤ i → i < length ts → v < (get_or ts i d).lit.var

pub from_start : (ts : List Term) (v : ℕ) → IsBetween ts v 0 (length ts)
from_start ts v = record { below = λ i d l h. absurd (omega arith); above = λ i d l h. absurd (omega arith) }

at_same : (ts : List Term) (m i : ℕ) (d e : Term) → m ≡ i → i < length ts → (get_or ts m d).lit.var ≡ (get_or ts i e).lit.var
at_same [] m i d e q k = absurd (omega arith)
at_same (t ∷ ts) zero zero d e q k = refl
at_same (t ∷ ts) zero (suc i) d e q k = absurd (omega arith)
at_same (t ∷ ts) (suc m) zero d e q k = absurd (omega arith)
at_same (t ∷ ts) (suc m) (suc i) d e q k = at_same ts m i d e (omega arith) (omega arith)

pub from_next : (ts : List Term) (v low high m : ℕ) (d : Term) → IsRisingFrom 0 ts → m < length ts → (get_or ts m d).lit.var < v → IsBetween ts v low high → IsBetween ts v (m + 1) high
from_next ts v low high m d r h less b = record {
  below = λ i e l k. elim (cases_lt i m) [
    | inl s ↦ omega (arith, rises 0 ts i m e d r s h)
    | inr s ↦ omega (arith, at_same ts m i d e (omega arith) k)
  ];
  above = b.above;
}

pub up_to_here : (ts : List Term) (v low high m : ℕ) (d : Term) → IsRisingFrom 0 ts → m < length ts → v < (get_or ts m d).lit.var → IsBetween ts v low high → IsBetween ts v low m
up_to_here ts v low high m d r h more b = record {
  below = b.below;
  above = λ i e l k. elim (cases_lt m i) [
    | inl s ↦ omega (arith, rises 0 ts m i d e r s k)
    | inr s ↦ omega (arith, at_same ts m i d e (omega arith) k)
  ];
}

at_least : (ts : List Term) (m : ℕ) (d : Term) (l : Lit) → m < length ts → l ≡ (get_or ts m d).lit → positive_part (get_or ts m d).coef ≤ weight_of l ts
at_least [] m d l h s = absurd (omega arith)
at_least (t ∷ ts) zero d l h s = omega (arith, weight_here l t ts s)
at_least (t ∷ ts) (suc m) d l h s = elim (lit_cases l t.lit) [
  | inl e ↦ omega (arith, weight_here l t ts e, at_least ts m d l (omega arith) s)
  | inr e ↦ omega (arith, weight_there l t ts e, at_least ts m d l (omega arith) s)
]

not_same : (a b : Lit) → b ≡ a → is_same_lit a b ≡ false → ⊥
not_same a b e s = (let y : is_same_lit a b ≡ true = rw e (lit_itself a) in cc)

-- nothing between: the literal doesn't stand there
pub none_between : (ts : List Term) (l : Lit) (low high : ℕ) → high ≤ low → IsBetween ts l.var low high → 0 ≡ weight_of l ts
none_between ts l low high h b = elim (cases_lt 0 (weight_of l ts)) [
  | inl p ↦ absurd (has_each (λ k. k.var ≡ l.var → ⊥) l ts (recursion_from_All (λ t. t.lit.var ≡ l.var → ⊥) ts (λ i d k e. apart i d k e)) p refl)
  | inr p ↦ omega arith
]
  where
    apart : (i : ℕ) (d : Term) → i < length ts → (get_or ts i d).lit.var ≡ l.var → ⊥
    apart i d k e = elim (cases_lt i low) [ inl s ↦ omega (arith, b.below i d s k) | inr s ↦ omega (arith, b.above i d (omega arith) k) ]

-- the term with the variable settles it
pub found : (ts : List Term) (l : Lit) (m : ℕ) (d : Term) → IsRisingFrom 0 ts → m < length ts → (get_or ts m d).lit.var ≡ l.var → weight_of l (get_or ts m d ∷ []) ≡ weight_of l ts
found ts l m d r h e = elim (lit_cases l (get_or ts m d).lit) [
  | inl s ↦ weight_here l (get_or ts m d) [] s ∙ omega arith ∙ own s (cases_lt 0 (weight_of l ts))
  | inr s ↦ weight_there l (get_or ts m d) [] s ∙ other s (cases_lt 0 (weight_of l ts))
]
  where
    only : 0 < weight_of l ts → IsOnly l (weight_of l ts) (get_or ts m d)
    only p = All-from_recursion (IsOnly l (weight_of l ts)) ts (only_term l 0 ts r p) m d h

    stands : l ≡ (get_or ts m d).lit → positive_part (get_or ts m d).coef ≤ weight_of l ts
    stands s = at_least ts m d l h s

    own : l ≡ (get_or ts m d).lit → (0 < weight_of l ts) ⊎ (weight_of l ts ≤ 0) → positive_part (get_or ts m d).coef ≡ weight_of l ts
    own s (inl p) = (let o = only p in elim o [ inl f ↦ absurd (f e) | inr f ↦ f.1 ])
    own s (inr p) = (let k = stands s in omega arith)

    other : is_same_lit l (get_or ts m d).lit ≡ false → (0 < weight_of l ts) ⊎ (weight_of l ts ≤ 0) → 0 ≡ weight_of l ts
    other s (inr p) = omega arith
    other s (inl p) = (let o = only p in elim o [ inl f ↦ absurd (f e) | inr f ↦ absurd (not_same l (get_or ts m d).lit f.0 s) ])
