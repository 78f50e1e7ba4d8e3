-- What follows from rows, one step at a time.
use Rattle.std.proofs.Common.{◌≡◌, ◌∙◌, ◌≤◌, ◌<◌, ◌+◌, ℕ, suc, zero, Bool, true, false, if◌then◌else◌, List, [], ◌∷◌, ◌++◌, length, get_or, refl, sym, ap, subst, arith, inl, inr, append_assoc}
use Rattle.std.specs.List.{Contains}
use Rattle.std.proofs.lemmas.Bool.{cases_Bool, false_from_ne_true, or_left}
use Rattle.std.proofs.lemmas.List.Folds.{list_any-append}
use Rattle.std.proofs.lemmas.List.Elements.{All-contains}
use Rattle.hrt_base.specs.declared.literal.Lit.{Lit}
use Rattle.hrt_base.specs.declared.literal.Term.{Term}
use Rattle.pb_rows.specs.Terms.{PlainRow, opposite_lit, positive_part}
use Rattle.pb_rows.specs.Closure.{Keeps, Literals, Refuted, among, is_same_lit, nonfalse_share, nonfalse_sum}
use Rattle.propagation.specs.Following.{Follows, Grows, IsOpenTerm, IsSettledAt}
use Rattle.propagation.proofs.Sets.{among-cases}

-- s is part of t
abbrev pub Within : Literals → Literals → Type 0
Within s t = (l : Lit) → s l ≡ true → t l ≡ true

share_anti : (b c : Bool) (n : ℕ) → (b ≡ true → c ≡ true) → (if c then 0 else n) ≤ (if b then 0 else n)
share_anti true true n h = omega arith
share_anti true false n h = absurd (let e : false ≡ true = h refl in cc)
share_anti false true n h = omega arith
share_anti false false n h = omega arith

module _ (s t : Literals) (within : Within s t) where
  -- a greater set makes more literals false
  pub nonfalse_sum-anti : (ts : List Term) → nonfalse_sum t ts ≤ nonfalse_sum s ts
  nonfalse_sum-anti [] = omega arith
  nonfalse_sum-anti (x ∷ ts) = omega (arith, share_anti (s (opposite_lit x.lit)) (t (opposite_lit x.lit)) (positive_part x.coef) (within (opposite_lit x.lit)), nonfalse_sum-anti ts)

  -- where it makes a term's literal false that the smaller one leaves, the sum falls by the coefficient
  nonfalse_sum-less : (ts : List Term) (k : ℕ) (x : Term) → k < length ts → get_or ts k x ≡ x → s (opposite_lit x.lit) ≡ false → t (opposite_lit x.lit) ≡ true
      → nonfalse_sum t ts + positive_part x.coef ≤ nonfalse_sum s ts
  nonfalse_sum-less [] k x h at a b = absurd (omega arith)
  nonfalse_sum-less (y ∷ ts) zero x h at a b =
      let same : y ≡ x = at in
      let low : nonfalse_share t x ≡ 0 = rw b refl in
      let high : nonfalse_share s x ≡ positive_part x.coef = rw a refl in
      rw same (omega (arith, low, high, nonfalse_sum-anti ts))
  nonfalse_sum-less (y ∷ ts) (suc k) x h at a b =
      omega (arith, share_anti (s (opposite_lit y.lit)) (t (opposite_lit y.lit)) (positive_part y.coef) (within (opposite_lit y.lit)), nonfalse_sum-less ts k x (omega arith) at a b)

  -- what a row propagates is in each greater set that keeps the row
  pub open_within : (r : PlainRow) (sum : ℕ) (x : Term) → Keeps t r → Contains r.terms x → nonfalse_sum s r.terms ≤ sum → IsOpenTerm s sum r.degree x → t x.lit ≡ true
  open_within r sum x kept c below o = elim (cases_Bool (t (opposite_lit x.lit))) [
    | inl e ↦ absurd (omega (arith, o.exceeds, kept.unfalsified, nonfalse_sum-less r.terms c.0 x c.1 c.2 o.unfalse e))
    | inr e ↦ All-contains (λ (y : Term). t (opposite_lit y.lit) ≡ false → nonfalse_sum t r.terms < r.degree + positive_part y.coef → t y.lit ≡ true) r.terms x kept.settled c e
        (omega (arith, o.exceeds, nonfalse_sum-anti r.terms))
  ]

-- ---- one step

pub follows-falsified : (rows : List PlainRow) (given s : Literals) (r : PlainRow) (sum : ℕ) → Contains rows r → nonfalse_sum s r.terms ≤ sum → sum < r.degree
    → Follows rows given s → Refuted rows given
follows-falsified rows given s r sum c below less f t q =
    let kept : Keeps t r = All-contains (Keeps t) rows r q.kept c in
    absurd (omega (arith, kept.unfalsified, nonfalse_sum-anti s t (f.holds t q) r.terms))

pub follows-open : (rows : List PlainRow) (given : Literals) (ls : List Lit) (r : PlainRow) (sum : ℕ) (x : Term) → Contains rows r → Contains r.terms x
    → nonfalse_sum (among ls) r.terms ≤ sum → IsOpenTerm (among ls) sum r.degree x → Follows rows given (among ls) → Follows rows given (among (ls ++ x.lit ∷ []))
follows-open rows given ls r sum x c d below o f = record {
  holds = λ t q l h. elim (among-cases ls x.lit l h) [
    | inl old ↦ f.holds t q l old
    | inr new ↦ subst (λ (a : Lit). t a ≡ true) (sym new) (open_within (among ls) t (f.holds t q) r sum x (All-contains (Keeps t) rows r q.kept c) d below o)
  ];
}

-- ---- growing

pub grows-more : (a b c : List Lit) → Grows a b → Grows b c → Grows a c
grows-more a b c f g = record { more = f.more ++ g.more; is = g.is ∙ ap (λ x. x ++ g.more) f.is ∙ append_assoc a f.more g.more }

pub grows-within : (a b : List Lit) → Grows a b → Within (among a) (among b)
grows-within a b g l h = ap (λ x. among x l) g.is ∙ kept a g.more l h
  where
    kept : (a m : List Lit) (l : Lit) → among a l ≡ true → among (a ++ m) l ≡ true
    kept a m l h = list_any-append (is_same_lit l) a m ∙ or_left _ _ h

pub settled-more : (s t : Literals) → Within s t → (sum degree : ℕ) (x : Term) → IsSettledAt s sum degree x → IsSettledAt t sum degree x
settled-more s t w sum degree x h unfalse exceeds = w x.lit (h (false_from_ne_true (s (opposite_lit x.lit)) (λ e. let f = w (opposite_lit x.lit) e in cc)) exceeds)
