-- Levels of a trail, and what stands up to one.
use Rattle.std.proofs.Common.{◌≡◌, ◌==◌, ◌||◌, ◌<◌, ◌≤◌, ◌+◌, ◌-◌, ℕ, true, false, List, [], ◌∷◌, ◌++◌, refl, sym, ◌∙◌, ap, arith, inl, inr, append-nil}
use Rattle.std.specs.List.{All}
use Rattle.std.proofs.lemmas.Bool.{cases_Bool, cases_lt, eq-eqb, ne_eqb, or_cases, or_left, or_right}
use Rattle.std.proofs.lemmas.List.Folds.{list_any-append}
use Rattle.std.proofs.lemmas.List.Elements.{All-head, All-tail}
use Rattle.std.proofs.lemmas.List.{map-append}
use Rattle.hrt_base.specs.declared.literal.Lit.{Lit}
use Rattle.pb_rows.specs.Closure.{among, is_same_lit}
use Rattle.propagation.proofs.Following.{Within}
use Rattle.pb_propagate.specs.Entries.{Entry, decisions_of, is_decision, level_of, lits_of, set_of, up_to}

-- every entry has a reason
abbrev pub AreReasoned : List Entry → Type 0
AreReasoned entries = All (λ (e : Entry). is_decision e ≡ false) entries

abbrev behind : Entry → List Entry → List Entry
behind e es = e ∷ es

at_zero : (k : ℕ) → k ≤ 0 → (k == 0) ≡ true
at_zero k h = eq-eqb k 0 (omega (arith, h))

above_zero : (k : ℕ) → 0 < k → (k == 0) ≡ false
above_zero k h = ne_eqb k 0 (λ e. absurd (omega (arith, h, e)))

-- ---- levels

pub level-append : (es fs : List Entry) → level_of (es ++ fs) ≡ level_of es + level_of fs
level-append [] fs = omega arith
level-append (e ∷ es) fs = omega (arith, level-append es fs)

pub level-reasoned : (fs : List Entry) → AreReasoned fs → level_of fs ≡ 0
level-reasoned [] a = refl
level-reasoned (e ∷ fs) a =
    let h = All-head (λ (x : Entry). is_decision x ≡ false) e fs a in
    let t = level-reasoned fs (All-tail (λ (x : Entry). is_decision x ≡ false) e fs a) in
    rw h (omega (arith, t))

pub level-more : (es fs : List Entry) → AreReasoned fs → level_of (es ++ fs) ≡ level_of es
level-more es fs a = omega (arith, level-append es fs, level-reasoned fs a)

-- ---- up to a level

pub up_to-reasoned : (k : ℕ) (fs : List Entry) → AreReasoned fs → up_to k fs ≡ fs
up_to-reasoned k [] a = refl
up_to-reasoned k (e ∷ fs) a =
    rw (All-head (λ (x : Entry). is_decision x ≡ false) e fs a)
    (ap (behind e) (up_to-reasoned k fs (All-tail (λ (x : Entry). is_decision x ≡ false) e fs a)))

pub up_to-below : (k : ℕ) (es fs : List Entry) → k < level_of es → up_to k (es ++ fs) ≡ up_to k es
up_to-below k [] fs h = absurd (omega arith)
up_to-below k (e ∷ es) fs h = elim (cases_Bool (is_decision e)) [
  | inl d ↦
      let g = (rw d at h) in
      elim (cases_lt 0 k) [
        | inl p ↦ rw (d, above_zero k p) (ap (behind e) (up_to-below (k - 1) es fs (omega (arith, g, p))))
        | inr z ↦ rw (d, at_zero k z) refl
      ]
  | inr r ↦ let g = (rw r at h) in rw r (ap (behind e) (up_to-below k es fs (omega (arith, g))))
]

pub up_to-above : (k : ℕ) (es fs : List Entry) → level_of es ≤ k → up_to k (es ++ fs) ≡ es ++ up_to (k - level_of es) fs
up_to-above k [] fs h = let e : k ≡ k - 0 = omega arith in ap (λ (j : ℕ). up_to j fs) e
up_to-above k (e ∷ es) fs h = elim (cases_Bool (is_decision e)) [
  | inl d ↦
      let g = (rw d at h) in
      let p : 0 < k = omega (arith, g) in
      let same : (k - 1) - level_of es ≡ k - (1 + level_of es) = omega arith in
      rw (d, above_zero k p) (ap (behind e) (up_to-above (k - 1) es fs (omega (arith, g)) ∙ ap (λ (j : ℕ). es ++ up_to j fs) same))
  | inr r ↦
      let g = (rw r at h) in
      let same : k - level_of es ≡ k - (0 + level_of es) = omega arith in
      rw r (ap (behind e) (up_to-above k es fs (omega (arith, g)) ∙ ap (λ (j : ℕ). es ++ up_to j fs) same))
]

pub up_to-all : (k : ℕ) (es : List Entry) → level_of es ≤ k → up_to k es ≡ es
up_to-all k es h = ap (up_to k) (sym (append-nil es)) ∙ up_to-above k es [] h ∙ append-nil es

-- with propagated entries behind: nothing changes below, and all is kept from the last level on
pub up_to-more : (k : ℕ) (es fs : List Entry) → AreReasoned fs → level_of es ≤ k → up_to k (es ++ fs) ≡ es ++ fs
up_to-more k es fs a h = up_to-all k (es ++ fs) (omega (arith, level-more es fs a, h))

-- what stands up to a level is a front of all
pub up_to-front : (k : ℕ) (es : List Entry) → (rest : List Entry) × (es ≡ up_to k es ++ rest)
up_to-front k [] = ([], refl)
up_to-front k (e ∷ es) = elim (cases_Bool (is_decision e)) [
  | inl d ↦ elim (cases_lt 0 k) [
    | inl p ↦ let r = up_to-front (k - 1) es in (r.0, rw (d, above_zero k p) (ap (behind e) r.1))
    | inr z ↦ (e ∷ es, rw (d, at_zero k z) refl)
  ]
  | inr r ↦ let f = up_to-front k es in (f.0, rw r (ap (behind e) f.1))
]

pub level-up_to : (k : ℕ) (es : List Entry) → k ≤ level_of es → level_of (up_to k es) ≡ k
level-up_to k [] h = omega (arith, h)
level-up_to k (e ∷ es) h = elim (cases_Bool (is_decision e)) [
  | inl d ↦
      let g = (rw d at h) in
      elim (cases_lt 0 k) [
        | inl p ↦ let r = level-up_to (k - 1) es (omega (arith, g)) in rw (d, above_zero k p, d) (omega (arith, r, p))
        | inr z ↦ rw (d, at_zero k z) (omega (arith, z))
      ]
  | inr r ↦ let g = (rw r at h) in let t = level-up_to k es (omega (arith, g)) in rw (r, r) (omega (arith, t))
]

pub up_to-up_to : (j k : ℕ) (es : List Entry) → j ≤ k → up_to j (up_to k es) ≡ up_to j es
up_to-up_to j k es h = elim (cases_lt j (level_of (up_to k es))) [
  | inl low ↦
      let f = up_to-front k es in
      sym (ap (up_to j) f.1 ∙ up_to-below j (up_to k es) f.0 low)
  | inr high ↦ up_to-all j (up_to k es) high ∙ elim (cases_lt k (level_of es)) [
    | inl inside ↦
        let same : k ≡ j = let l = level-up_to k es (omega (arith, inside)) in omega (arith, l, high, h) in
        ap (λ (i : ℕ). up_to i es) same
    | inr past ↦
        let whole = up_to-all k es past in
        let l = ap level_of whole in
        whole ∙ sym (up_to-all j es (omega (arith, l, high)))
  ]
]

-- ---- sets

pub lits-append : (es fs : List Entry) → lits_of (es ++ fs) ≡ lits_of es ++ lits_of fs
lits-append es fs = map-append (λ (e : Entry). e.lit) es fs

pub set-append : (es fs : List Entry) (l : Lit) → set_of (es ++ fs) l ≡ (set_of es l || set_of fs l)
set-append es fs l = ap (λ (ls : List Lit). among ls l) (lits-append es fs) ∙ list_any-append (is_same_lit l) (lits_of es) (lits_of fs)

pub set-within : (es fs : List Entry) → Within (set_of es) (set_of (es ++ fs))
set-within es fs l h = set-append es fs l ∙ or_left _ _ h

pub up_to-within : (k : ℕ) (es : List Entry) → Within (set_of (up_to k es)) (set_of es)
up_to-within k es l h =
    let f = up_to-front k es in
    ap (λ (all : List Entry). set_of all l) f.1 ∙ set-within (up_to k es) f.0 l h

-- a decision is true
pub decisions-within : (es : List Entry) (l : Lit) → among (decisions_of es) l ≡ true → set_of es l ≡ true
decisions-within [] l h = absurd (cc)
decisions-within (e ∷ es) l h = elim (cases_Bool (is_decision e)) [
  | inl d ↦
      let g = (rw d at h) in
      elim (or_cases (is_same_lit l e.lit) (among (decisions_of es) l) g) [
        | inl here ↦ or_left _ _ here
        | inr there ↦ or_right _ _ (decisions-within es l there)
      ]
  | inr r ↦ let g = (rw r at h) in or_right _ _ (decisions-within es l g)
]

pub decisions-reasoned : (fs : List Entry) → AreReasoned fs → decisions_of fs ≡ []
decisions-reasoned [] a = refl
decisions-reasoned (e ∷ fs) a =
    rw (All-head (λ (x : Entry). is_decision x ≡ false) e fs a) (decisions-reasoned fs (All-tail (λ (x : Entry). is_decision x ≡ false) e fs a))

pub decisions-more : (es fs : List Entry) → AreReasoned fs → decisions_of (es ++ fs) ≡ decisions_of es
decisions-more [] fs a = decisions-reasoned fs a
decisions-more (e ∷ es) fs a = elim (cases_Bool (is_decision e)) [
  | inl d ↦ rw d (ap (λ (ls : List Lit). e.lit ∷ ls) (decisions-more es fs a))
  | inr r ↦ rw r (decisions-more es fs a)
]

-- what stands up to a level has at most that level
pub level-most : (k : ℕ) (es : List Entry) → level_of (up_to k es) ≤ k
level-most k es = elim (cases_lt k (level_of es)) [
  | inl low ↦ let l = level-up_to k es (omega (arith, low)) in omega (arith, l)
  | inr high ↦ let l = ap level_of (up_to-all k es high) in omega (arith, l, high)
]
