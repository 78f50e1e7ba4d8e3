-- Literals that became false at the last level.
use Rattle.std.proofs.Common.{◌≡◌, ◌<◌, ◌-◌, ℕ, Bool, true, false, not, List, [], ◌∷◌, ◌++◌, refl, ◌∙◌, ap, arith, inl, inr, append-nil}
use Rattle.std.proofs.lemmas.Bool.{cases_Bool, cases_lt, false_from_ne_true}
use Rattle.hrt_base.specs.declared.literal.Lit.{Lit}
use Rattle.pb_rows.specs.Terms.{opposite_lit}
use Rattle.propagation.proofs.Sets.{lit_itself}
use Rattle.pb_propagate.specs.Entries.{Entry, IsNewlyFalse, is_decision, level_of, set_of, up_to}
use Rattle.pb_propagate.proofs.Levels.{AreReasoned, level-append, level-more, set-append, set-within, up_to-above, up_to-below, up_to-within}
use Rattle.std.proofs.lemmas.Bool.{or_right, or_left}

abbrev lit_as : ℕ → Bool → Lit
lit_as v n = record { var = v; neg = n }

twice-not : (b : Bool) → not (not b) ≡ b
twice-not true = refl
twice-not false = refl

pub twice : (l : Lit) → opposite_lit (opposite_lit l) ≡ l
twice l = ap (lit_as l.var) (twice-not l.neg)

-- a literal that became false is still so once more literals are propagated
pub new-kept : (es fs : List Entry) → AreReasoned fs → (a : Lit) → IsNewlyFalse es a → IsNewlyFalse (es ++ fs) a
new-kept es fs r a n = record {
  now = set-within es fs (opposite_lit a) n.now;
  below = λ k h.
      let low : k < level_of es = omega (arith, h, level-more es fs r) in
      ap (λ (t : List Entry). set_of t (opposite_lit a)) (up_to-below k es fs low) ∙ n.below k low;
}

pub false-front : (k : ℕ) (es : List Entry) (l : Lit) → set_of es l ≡ false → set_of (up_to k es) l ≡ false
false-front k es l h = false_from_ne_true _ (λ e. let f = up_to-within k es l e in cc)

level-one : (e : Entry) (k : ℕ) → k < level_of (e ∷ []) → (is_decision e ≡ true) × (k ≡ 0)
level-one e k h = elim (cases_Bool (is_decision e)) [
  | inl d ↦ let g = (rw d at h) in (d, omega (arith, g))
  | inr r ↦ let g = (rw r at h) in absurd (omega (arith, g))
]

-- where a literal comes onto the trail, its opposite became false
pub new-pushed : (es : List Entry) (e : Entry) → set_of es e.lit ≡ false → IsNewlyFalse (es ++ e ∷ []) (opposite_lit e.lit)
new-pushed es e out = record {
  now = ap (set_of (es ++ e ∷ [])) (twice e.lit) ∙ set-append es (e ∷ []) e.lit ∙ or_right _ _ (or_left _ _ (lit_itself e.lit));
  below = λ k h. ap (set_of (up_to k (es ++ e ∷ []))) (twice e.lit) ∙ elim (cases_lt k (level_of es)) [
    | inl low ↦ ap (λ (t : List Entry). set_of t e.lit) (up_to-below k es (e ∷ []) low) ∙ false-front k es e.lit out
    | inr high ↦
        let one = level-one e (k - level_of es) (omega (arith, h, level-append es (e ∷ []))) in
        let none : up_to (k - level_of es) (e ∷ []) ≡ [] = rw (one.1, one.0) refl in
        ap (λ (t : List Entry). set_of t e.lit) (up_to-above k es (e ∷ []) high ∙ ap (λ (t : List Entry). es ++ t) none ∙ append-nil es) ∙ out
  ];
}
