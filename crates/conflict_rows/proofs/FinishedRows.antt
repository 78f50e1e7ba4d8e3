-- What a finished row is: it makes a literal true at its level, and is open at no lower one.
use Rattle.std.proofs.Common.{◌≡◌, ◌⊎◌, ◌≤◌, ◌<◌, ◌+◌, ℕ, true, false, nat_le, List, [], ◌∷◌, ◌++◌, refl, sym, ◌∙◌, ap, subst, inl, inr, arith}
use Rattle.std.specs.Prelude.{Some}
use Rattle.std.specs.List.{list_any}
use Rattle.std.proofs.lemmas.Bool.{and_parts, cases_Bool, cases_lt, false_from_ne_true, ltb-true, le-ltb, not-true, or_cases, or_from, or_left, or_right}
use Rattle.hrt_base.specs.declared.literal.Lit.{Lit}
use Rattle.hrt_base.specs.declared.literal.Term.{Term}
use Rattle.pb_rows.specs.Terms.{IsRisingFrom, PlainRow, opposite_lit, positive_part}
use Rattle.pb_rows.specs.Closure.{Literals, is_same_lit, nonfalse_sum}
use Rattle.propagation.proofs.Sets.{lit_apart}
use Rattle.conflict_rows.specs.Trail.{IsTrail, PropagatesLiteral, Placed, has, is_open, propagates_some, propagates_term, on, top_level, up_to, weight_of}
use Rattle.conflict_rows.specs.Ends.{IsAsserting, PropagatesOne}
use Rattle.conflict_rows.specs.CutRows.{finished_level, newest_level}
use Rattle.conflict_rows.proofs.Literals.{Each, has_true, opposite-opposite, rising_above, rising_weights, weight_below, weight_here, weight_there}
use Rattle.conflict_rows.proofs.Trails.{grounded_level, trail_rest, up_to-newer}
use Rattle.conflict_rows.proofs.FinishedAt.{least_some, propagates_some-from}

-- ---- from a test to a literal

-- each term has the coefficient of its literal
pub own_weight : (low : ℕ) (ts : List Term) → IsRisingFrom low ts → Each (λ t. weight_of t.lit ts ≡ positive_part t.coef) ts
own_weight low [] r = tt
own_weight low (t ∷ ts) r = (
  (let none : weight_of t.lit ts ≡ 0 = weight_below t.lit (t.lit.var + 1) ts r.2 (omega arith) in weight_here t.lit t ts refl ∙ omega arith),
  tail ts (own_weight (t.lit.var + 1) ts r.2) (rising_above (t.lit.var + 1) ts r.2),
)
  where
    tail : (us : List Term) → Each (λ u. weight_of u.lit ts ≡ positive_part u.coef) us → Each (λ u. t.lit.var + 1 ≤ u.lit.var) us → Each (λ u. weight_of u.lit (t ∷ ts) ≡ positive_part u.coef) us
    tail [] a b = tt
    tail (u ∷ us) a b =
        (weight_there u.lit t ts (lit_apart u.lit t.lit (λ e. let v : u.lit.var ≡ t.lit.var = ap (λ (k : Lit). k.var) e in omega (arith, b.0))) ∙ a.0, tail us a.1 b.1)

one_of : (set : Literals) (r : PlainRow) (ts : List Term) → Each (λ t. weight_of t.lit r.terms ≡ positive_part t.coef) ts → Each (λ t. 0 < positive_part t.coef) ts → list_any (propagates_term set r) ts ≡ true → PropagatesOne set r
one_of set r [] w p h = absurd (cc)
one_of set r (t ∷ ts) w p h = elim (or_cases (propagates_term set r t) (list_any (propagates_term set r) ts) h) [
  | inl e ↦
      let a = and_parts _ _ e in
      let b = and_parts _ _ a.0 in
      record {
        lit = t.lit;
        propagates = record { untrue = not-true _ b.0; unfalse = not-true _ b.1; stands = omega (arith, w.0, p.0); exceeds = omega (arith, w.0, ltb-true _ _ a.1) };
      }
  | inr e ↦ one_of set r ts w.1 p.1 e
]

pub propagates_one : (set : Literals) (r : PlainRow) → IsRisingFrom 0 r.terms → propagates_some set r ≡ true → PropagatesOne set r
propagates_one set r n h = one_of set r r.terms (own_weight 0 r.terms n) (rising_weights 0 r.terms n) h

-- ---- the newest literal whose opposite stands in the row

pub record Newest (whole : List Placed) (c : PlainRow) : Type 0 where
  pub newer : List Placed
  pub entry : Placed
  pub older : List Placed
  pub is : newer ++ entry ∷ older ≡ whole
  pub stands : has (opposite_lit entry.lit) c.terms ≡ true
  pub level : newest_level whole c ≡ entry.level

pub newest : (whole : List Placed) (c : PlainRow) → 0 < newest_level whole c → Newest whole c
newest [] c h = absurd (omega arith)
newest (e ∷ es) c h = elim (cases_Bool (has (opposite_lit e.lit) c.terms)) [
  | inl k ↦ record { newer = []; entry = e; older = es; is = refl; stands = k; level = rw k refl }
  | inr k ↦
      let n = newest es c (rw k at h) in
      record { newer = e ∷ n.newer; entry = n.entry; older = n.older; is = ap (λ (fs : List Placed). e ∷ fs) n.is; stands = n.stands; level = rw k n.level }
]

pub newest_within : (whole : List Placed) (c : PlainRow) → IsTrail whole → newest_level whole c ≤ top_level whole
newest_within [] c t = omega arith
newest_within (e ∷ es) c t = elim (cases_Bool (has (opposite_lit e.lit) c.terms)) [
  | inl k ↦ rw k (omega arith)
  | inr k ↦ rw k (omega (arith, newest_within es c t.1, grounded_level es e.lit e.level e.reason t.0.grounded))
]

-- what is up to a level is on the trail
pub on-up_to : (level : ℕ) (es : List Placed) (l : Lit) → on (up_to level es) l ≡ true → on es l ≡ true
on-up_to level [] l h = h
on-up_to level (e ∷ es) l h = elim (cases_Bool (nat_le e.level level)) [
  | inl k ↦ elim (or_cases (is_same_lit l e.lit) (on (up_to level es) l) (rw k at h)) [ inl a ↦ or_left _ _ a | inr a ↦ or_right _ _ (on-up_to level es l a) ]
  | inr k ↦ or_right _ _ (on-up_to level es l (rw k at h))
]

not_up_to : (level : ℕ) (es : List Placed) (l : Lit) → on es l ≡ false → on (up_to level es) l ≡ false
not_up_to level es l h = false_from_ne_true _ (λ k. let yes = on-up_to level es l k in cc)

-- ---- levels below the newest

-- the opposite of the newest literal is free at each lower level
pub newest_free : (newer : List Placed) (e : Placed) (es : List Placed) (c : PlainRow) (j : ℕ) → IsTrail (newer ++ e ∷ es) → has (opposite_lit e.lit) c.terms ≡ true → j < e.level →
    nonfalse_sum (on (up_to j (newer ++ e ∷ es))) c.terms < c.degree + weight_of (opposite_lit e.lit) c.terms → PropagatesLiteral (on (up_to j (newer ++ e ∷ es))) c (opposite_lit e.lit)
newest_free newer e es c j t h l f =
    let placed = (trail_rest newer (e ∷ es) t).0 in
    let same : up_to j (newer ++ e ∷ es) ≡ up_to j es = up_to-newer j newer e es l t in
    record {
      untrue = subst (λ (fs : List Placed). on fs (opposite_lit e.lit) ≡ false) (sym same) (not_up_to j es (opposite_lit e.lit) placed.unfalse);
      unfalse = subst (λ (fs : List Placed). on fs (opposite_lit (opposite_lit e.lit)) ≡ false) (sym same)
          (not_up_to j es (opposite_lit (opposite_lit e.lit)) (subst (λ (k : Lit). on es k ≡ false) (sym (opposite-opposite e.lit)) placed.untrue));
      stands = has_true (opposite_lit e.lit) c.terms h;
      exceeds = f;
    }

-- a row that is falsified at a level below that of its newest false literal makes that literal true there
newest_made : (newer : List Placed) (e : Placed) (es : List Placed) (c : PlainRow) (j : ℕ) → IsTrail (newer ++ e ∷ es) → has (opposite_lit e.lit) c.terms ≡ true → j < e.level →
    nonfalse_sum (on (up_to j (newer ++ e ∷ es))) c.terms < c.degree → PropagatesLiteral (on (up_to j (newer ++ e ∷ es))) c (opposite_lit e.lit)
newest_made newer e es c j t h l f = newest_free newer e es c j t h l (omega (arith, f))

-- below the newest level a row that makes nothing true isn't open
pub not_open : (whole : List Placed) (c : PlainRow) (j : ℕ) → IsTrail whole → IsRisingFrom 0 c.terms → j < newest_level whole c → propagates_some (on (up_to j whole)) c ≡ false → is_open (on (up_to j whole)) c ≡ false
not_open whole c j t r l n = or_from _ _ (le-ltb _ _ (unfalsified (cases_lt (nonfalse_sum (on (up_to j whole)) c.terms) c.degree))) n
  where
    split : Newest whole c
    split = newest whole c (omega (arith, l))

    made : nonfalse_sum (on (up_to j whole)) c.terms < c.degree → PropagatesLiteral (on (up_to j whole)) c (opposite_lit split.entry.lit)
    made f = subst (λ (w : List Placed). IsTrail w → nonfalse_sum (on (up_to j w)) c.terms < c.degree → PropagatesLiteral (on (up_to j w)) c (opposite_lit split.entry.lit)) split.is
        (λ u g. newest_made split.newer split.entry split.older c j u split.stands (omega (arith, l, split.level)) g) t f

    unfalsified : (nonfalse_sum (on (up_to j whole)) c.terms < c.degree) ⊎ (c.degree ≤ nonfalse_sum (on (up_to j whole)) c.terms) → c.degree ≤ nonfalse_sum (on (up_to j whole)) c.terms
    unfalsified (inl f) = (let yes = propagates_some-from (on (up_to j whole)) c (opposite_lit split.entry.lit) r (made f) in absurd (cc))
    unfalsified (inr f) = f

-- ---- a finished row

pub finished_asserts : (whole : List Placed) (c : PlainRow) (level : ℕ) → IsTrail whole → IsRisingFrom 0 c.terms → finished_level whole c ≡ Some level → IsAsserting whole c level
finished_asserts whole c level t r f =
    let least = least_some (λ k. propagates_some (on (up_to k whole)) c) (newest_level whole c) level f in
    record {
      below = omega (arith, least.below, newest_within whole c t);
      propagates = propagates_one (on (up_to level whole)) c r least.passes;
      lowest = λ j l. not_open whole c j t r (omega (arith, least.below)) (least.first j l);
    }
