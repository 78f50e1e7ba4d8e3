-- Where a row is finished: the least level below that of its newest false literal, at which it is open there and nowhere below.
use Rattle.std.proofs.Common.{◌≡◌, ◌⊎◌, ◌≤◌, ◌<◌, ◌+◌, ℕ, zero, suc, Bool, true, false, ◌||◌, if◌then◌else◌, List, [], ◌∷◌, ◌++◌, refl, sym, ◌∙◌, ap, subst, inl, inr, arith}
use Rattle.std.specs.Prelude.{Option, Some, None}
use Rattle.std.specs.List.{list_any}
use Rattle.std.proofs.lemmas.Bool.{and_from, cases_lt, false_from_ne_true, lt-ltb, not_from_false, or_cases, or_left, or_right}
use Rattle.hrt_base.specs.declared.literal.Lit.{Lit}
use Rattle.hrt_base.specs.declared.literal.Term.{Term}
use Rattle.pb_rows.specs.Terms.{IsRisingFrom, PlainRow, opposite_lit, positive_part}
use Rattle.pb_rows.specs.Closure.{Literals, is_same_lit, nonfalse_sum}
use Rattle.propagation.proofs.Sets.{lit_cases, lit_is, lit_itself}
use Rattle.conflict_rows.specs.Trail.{IsTrail, PropagatesLiteral, Placed, has, propagates_some, propagates_term, on, top_level, up_to, weight_of}
use Rattle.conflict_rows.specs.CutRows.{finished_level, least_below, newest_level, or_else}
use Rattle.conflict_rows.proofs.Literals.{Each, IsOnly, has_each, has_true, only_term, opposite-opposite, weight_there}
use Rattle.conflict_rows.proofs.Trails.{fresh_behind, on-head, on-tail, trail_rest, up_to-decision}
use Rattle.conflict_rows.proofs.Nets.{Lits}

-- ---- least numbers

or_else_none : (a b : Option ℕ) → or_else a b ≡ None → (a ≡ None) × (b ≡ None)
or_else_none None b e = (refl, e)
or_else_none (Some k) b e = absurd (cc)

none_at : (b : Bool) (n : ℕ) → (if b then Some n else None) ≡ None → b ≡ false
none_at true n e = cc
none_at false n e = refl

pub least_none : (test : ℕ → Bool) (n k : ℕ) → least_below test n ≡ None → k < n → test k ≡ false
least_none test zero k e l = absurd (omega arith)
least_none test (suc n) k e l =
    let p = or_else_none (least_below test n) (if test n then Some n else None) e in
    elim (cases_lt k n) [
      | inl h ↦ least_none test n k p.0 h
      | inr h ↦ let same : n ≡ k = omega arith in subst (λ (j : ℕ). test j ≡ false) same (none_at (test n) n p.1)
    ]

-- the number is the least below n that passes
pub record IsLeast (test : ℕ → Bool) (n k : ℕ) : Type 0 where
  pub below : k < n
  pub passes : test k ≡ true
  pub first : (j : ℕ) → j < k → test j ≡ false

pub least_some : (test : ℕ → Bool) (n k : ℕ) → least_below test n ≡ Some k → IsLeast test n k
least_some test zero k e = absurd (cc)
least_some test (suc n) k e = by (least_some test n k) (least_below test n) refl
  where
    here : (b : Bool) → test n ≡ b → least_below test n ≡ None → (if b then Some n else None) ≡ Some k → IsLeast test (suc n) k
    here true t z f =
        let same : n ≡ k = cc in
        record { below = omega arith; passes = subst (λ (j : ℕ). test j ≡ true) same t; first = λ j l. least_none test n j z (omega arith) }
    here false t z f = absurd (cc)

    by : (least_below test n ≡ Some k → IsLeast test n k) → (o : Option ℕ) → least_below test n ≡ o → IsLeast test (suc n) k
    by again None f = here (test n) refl f (let g : or_else (least_below test n) (if test n then Some n else None) ≡ Some k = e in rw f at g)
    by again (Some j) f =
        let g : Some j ≡ Some k = (let h : or_else (least_below test n) (if test n then Some n else None) ≡ Some k = e in rw f at h) in
        let same : j ≡ k = cc in
        let r = again (f ∙ ap (λ (i : ℕ). Some i) same) in
        record { below = omega (arith, r.below); passes = r.passes; first = r.first }

pub least_from : (test : ℕ → Bool) (n k : ℕ) → IsLeast test n k → least_below test n ≡ Some k
least_from test zero k h = absurd (omega (arith, h.below))
least_from test (suc n) k h = by (least_below test n) refl
  where
    by : (o : Option ℕ) → least_below test n ≡ o → least_below test (suc n) ≡ Some k
    by (Some j) f =
        let r = least_some test n j f in
        let same : j ≡ k = elim (cases_lt j k) [
          | inl l ↦ (let a = h.first j l in let b = r.passes in absurd (cc))
          | inr l ↦ elim (cases_lt k j) [ inl m ↦ (let a = r.first k m in let b = h.passes in absurd (cc)) | inr m ↦ omega arith ]
        ] in
        rw f (ap (λ (i : ℕ). Some i) same)
    by None f = elim (cases_lt k n) [
      | inl l ↦ (let a = least_none test n k f l in let b = h.passes in absurd (cc))
      | inr l ↦
          let same : k ≡ n = omega (arith, h.below) in
          let t : test n ≡ true = subst (λ (j : ℕ). test j ≡ true) same h.passes in
          rw (f, t) (ap (λ (i : ℕ). Some i) (sym same))
    ]

-- ---- a literal that a row makes true

some_term : (set : Literals) (r : PlainRow) (l : Lit) (ts : List Term) → IsRisingFrom 0 r.terms → PropagatesLiteral set r l →
    Each (IsOnly l (weight_of l r.terms)) ts → 0 < weight_of l ts → list_any (propagates_term set r) ts ≡ true
some_term set r l [] n m o h = absurd (omega arith)
some_term set r l (t ∷ ts) n m o h = elim (lit_cases l t.lit) [
  | inl e ↦ or_left _ _ (here o.0 e)
  | inr e ↦ or_right _ _ (some_term set r l ts n m o.1 (omega (arith, weight_there l t ts e)))
]
  where
    here : IsOnly l (weight_of l r.terms) t → l ≡ t.lit → propagates_term set r t ≡ true
    here (inl f) e = absurd (f (ap (λ (k : Lit). k.var) (sym e)))
    here (inr f) e =
        let a : set t.lit ≡ false = subst (λ (k : Lit). set k ≡ false) e m.untrue in
        let b : set (opposite_lit t.lit) ≡ false = subst (λ (k : Lit). set (opposite_lit k) ≡ false) e m.unfalse in
        and_from _ _ (and_from _ _ (not_from_false _ a) (not_from_false _ b)) (lt-ltb _ _ (omega (arith, m.exceeds, f.1)))

-- a row that makes a literal true makes some
pub propagates_some-from : (set : Literals) (r : PlainRow) (l : Lit) → IsRisingFrom 0 r.terms → PropagatesLiteral set r l → propagates_some set r ≡ true
propagates_some-from set r l n m = some_term set r l r.terms n m (only_term l 0 r.terms n m.stands) m.stands

-- ---- the newest false literal

-- a literal whose opposite stands in the row is false now, and so it is one of those that were there
met_before : (now before : Literals) (c : PlainRow) → Lits (λ l. now (opposite_lit l) ≡ true → before (opposite_lit l) ≡ true) c.terms → (l : Lit) → now l ≡ true → has (opposite_lit l) c.terms ≡ true → before l ≡ true
met_before now before c o l n h =
    let k = has_each (λ m. now (opposite_lit m) ≡ true → before (opposite_lit m) ≡ true) (opposite_lit l) c.terms o (has_true (opposite_lit l) c.terms h) in
    subst (λ (m : Lit). before m ≡ true) (opposite-opposite l) (k (subst (λ (m : Lit). now m ≡ true) (sym (opposite-opposite l)) n))

-- the newest literal whose opposite stands in the row is the first of a rest that holds all of them
pub newest_is : (now : Literals) (c : PlainRow) (newer : List Placed) (e : Placed) (es : List Placed) → IsTrail (newer ++ e ∷ es) → ((l : Lit) → on (newer ++ e ∷ es) l ≡ true → now l ≡ true) →
    Lits (λ l. now (opposite_lit l) ≡ true → on (e ∷ es) (opposite_lit l) ≡ true) c.terms → has (opposite_lit e.lit) c.terms ≡ true → newest_level (newer ++ e ∷ es) c ≡ e.level
newest_is now c [] e es h w o here = rw here refl
newest_is now c (f ∷ fs) e es h w o here =
    let lacks : has (opposite_lit f.lit) c.terms ≡ false =
    false_from_ne_true _ (λ k. fresh_behind fs e es f h (met_before now (on (e ∷ es)) c o f.lit (w f.lit (on-head f (fs ++ e ∷ es))) k)) in
    rw lacks (newest_is now c fs e es h.1 (λ l m. w l (on-tail f (fs ++ e ∷ es) l m)) o here)

-- ---- a decided literal

share_step : (a b s : Bool) (w m n k : ℕ) → (b ≡ true → (s ≡ true) ⊎ (a ≡ true)) → m ≤ n + k → (if a then 0 else w) + m ≤ ((if b then 0 else w) + n) + ((if s then w else 0) + k)
share_step true b s w m n k h l = omega arith
share_step false false s w m n k h l = omega arith
share_step false true true w m n k h l = omega arith
share_step false true false w m n k h l = elim (h refl) [ inl e ↦ absurd (cc) | inr e ↦ absurd (cc) ]

-- without the newest literal the open sum is at most larger by the coefficient of its opposite
open_without : (now : Literals) (t : Lit) (before : Literals) (ts : List Term) → Lits (λ l. now (opposite_lit l) ≡ true → (is_same_lit (opposite_lit l) t || before (opposite_lit l)) ≡ true) ts →
    nonfalse_sum before ts ≤ nonfalse_sum now ts + weight_of (opposite_lit t) ts
open_without now t before [] o = omega arith
open_without now t before (u ∷ us) o =
    share_step (before (opposite_lit u.lit)) (now (opposite_lit u.lit)) (is_same_lit (opposite_lit t) u.lit) (positive_part u.coef) (nonfalse_sum before us) (nonfalse_sum now us) (weight_of (opposite_lit t) us)
    (λ n. elim (or_cases (is_same_lit (opposite_lit u.lit) t) (before (opposite_lit u.lit)) (o.0 n)) [ inl e ↦ inl (turned e) | inr e ↦ inr e ])
    (open_without now t before us o.1)
  where
    turned : is_same_lit (opposite_lit u.lit) t ≡ true → is_same_lit (opposite_lit t) u.lit ≡ true
    turned e =
        let same : u.lit ≡ opposite_lit t = sym (opposite-opposite u.lit) ∙ ap opposite_lit (lit_is (opposite_lit u.lit) t e) in
        subst (λ (k : Lit). is_same_lit (opposite_lit t) k ≡ true) (sym same) (lit_itself (opposite_lit t))

module _ (newer : List Placed) (e : Placed) (es : List Placed) (c : PlainRow) (trail : IsTrail (newer ++ e ∷ es)) (rising : IsRisingFrom 0 c.terms)
    (falsified : nonfalse_sum (on (newer ++ e ∷ es)) c.terms < c.degree)
    (older : Lits (λ l. on (newer ++ e ∷ es) (opposite_lit l) ≡ true → on (e ∷ es) (opposite_lit l) ≡ true) c.terms)
    (here : has (opposite_lit e.lit) c.terms ≡ true) (opens : e.level ≡ top_level es + 1) where
  makes_opposite : PropagatesLiteral (on es) c (opposite_lit e.lit)
  makes_opposite =
      let placed = (trail_rest newer (e ∷ es) trail).0 in
      record {
        untrue = placed.unfalse;
        unfalse = subst (λ (k : Lit). on es k ≡ false) (sym (opposite-opposite e.lit)) placed.untrue;
        stands = has_true (opposite_lit e.lit) c.terms here;
        exceeds = omega (arith, open_without (on (newer ++ e ∷ es)) e.lit (on es) c.terms older, falsified);
      }

  -- where its newest false literal became so by a decision, the row is finished
  pub decided_finished : finished_level (newer ++ e ∷ es) c ≡ None → ⊥
  decided_finished none =
      let level : newest_level (newer ++ e ∷ es) c ≡ e.level = newest_is (on (newer ++ e ∷ es)) c newer e es trail (λ l m. m) older here in
      let propagates : propagates_some (on es) c ≡ true = propagates_some-from (on es) c (opposite_lit e.lit) rising makes_opposite in
      let makes_there : propagates_some (on (up_to (top_level es) (newer ++ e ∷ es))) c ≡ true =
      subst (λ (fs : List Placed). propagates_some (on fs) c ≡ true) (sym (up_to-decision newer e es trail opens)) propagates in
      let not_there = least_none (λ k. propagates_some (on (up_to k (newer ++ e ∷ es))) c) (newest_level (newer ++ e ∷ es) c) (top_level es) none (omega (arith, level)) in
      cc
