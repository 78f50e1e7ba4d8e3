-- The laws, from what the sequences keep.
use Rattle.std.proofs.Common.{◌≡◌, ◌⊎◌, ◌≤◌, ◌<◌, ◌+◌, ◌^◌, ℕ, zero, suc, Bool, true, false, nat_lt, nat_le, ◌==◌, ◌&&◌, ◌||◌, if◌then◌else◌, List, [], ◌∷◌, count_by, refl, sym, subst, inl, inr, arith}
use Rattle.std.specs.Prelude.{Option, Some, None}
use Rattle.std.specs.List.{AllByRecursion, list_any}
use Rattle.std.proofs.lemmas.Bool.{and_from, and_parts, cases_Bool, cases_lt, eqb-true, eq-eqb, false_from_ne_true, le-leb, leb-true, lt-ltb, ltb-true, not_from_false, not-true, or_cases, or_left, or_right}
use Rattle.std.proofs.lemmas.List.Elements.{All-from_recursion}
use Rattle.std.proofs.lemmas.List.Sums.{sum_by-cons}
use Rattle.hrt_base.specs.declared.literal.Lit.{Lit}
use Rattle.hrt_base.specs.declared.literal.Term.{Term}
use Rattle.pb_rows.specs.Terms.{PlainRow, coef_sum, opposite_lit, positive_part}
use Rattle.pb_rows.specs.Points.{IsCovered}
use Rattle.pb_rows.specs.Closure.{Literals, is_same_lit, nonfalse_sum}
use Rattle.propagation.proofs.Sets.{lit_cases, lit_is}
use Rattle.conflict_rows.specs.Trail.{IsTrail, PropagatesLiteral, Placed, has, propagates_some, propagates_term, on, top_level, up_to, weight_of}
use Rattle.conflict_rows.specs.CutRows.{Contradiction, Cutting, Finished, Going, Passed, cut_end, finished_level, newest_level}
use Rattle.conflict_rows.specs.ClauseRows.{count_at, has_none, last_clause}
use Rattle.conflict_rows.specs.Ends.{ClauseEnd, ClausesEnd, CutRowsEnd, CutsEnd, IsFinishedOrEmpty, OpensAtFalse}
use Rattle.conflict_rows.proofs.Literals.{Each, each₂, has_true, opposite-opposite, rising_weights, weight_here, weight_there}
use Rattle.conflict_rows.proofs.Nets.{Lits}
use Rattle.conflict_rows.proofs.OpenSums.{open-le}
use Rattle.conflict_rows.proofs.Trails.{grounded_level, levels_below}
use Rattle.conflict_rows.proofs.CutEnds.{Ends, cut_ends}
use Rattle.conflict_rows.proofs.FinishedAt.{least_none, propagates_some-from}
use Rattle.conflict_rows.proofs.FinishedRows.{Newest, finished_asserts, newest, newest_free}
use Rattle.conflict_rows.proofs.ClauseStep.{clause_normal, clause_sum_within, weight_one}
use Rattle.conflict_rows.proofs.ClauseEnds.{IsLastClause, false_at, clauses_end}

-- ---- cut rows

cuts_by : (whole : List Placed) → IsTrail whole → (s : Cutting) → Ends whole s → CutsEnd whole s
cuts_by whole t (Going c) h = h
cuts_by whole t (Finished c level) h = record { normal = h.normal; short = h.within; falsified = h.falsified; asserts = finished_asserts whole c level t h.normal.rising h.finished }
cuts_by whole t (Contradiction c) h = h
cuts_by whole t (Passed n) h = h

pub cut_rows_end : CutRowsEnd
cut_rows_end whole c t n w f = cuts_by whole t (cut_end whole c) (cut_ends whole c t n w f)

-- ---- a last clause is finished

-- an entry whose opposite stands in the row is of at most the newest level
each_within : (trail : List Placed) (c : PlainRow) → IsTrail trail → (k : ℕ) → newest_level trail c ≡ k → AllByRecursion (λ f. has (opposite_lit f.lit) c.terms ≡ true → f.level ≤ k) trail
each_within [] c t k n = tt
each_within (e ∷ es) c t k n = elim (cases_Bool (has (opposite_lit e.lit) c.terms)) [
  | inl y ↦ (let same : e.level ≡ k = (rw y at n) in ((λ h. omega arith), older same es (levels_below es t.1)))
  | inr y ↦ ((λ h. absurd (cc)), each_within es c t.1 k (rw y at n))
]
  where
    less : top_level es ≤ e.level
    less = grounded_level es e.lit e.level e.reason t.0.grounded

    older : e.level ≡ k → (fs : List Placed) → AllByRecursion (λ f. f.level ≤ top_level es) fs → AllByRecursion (λ f. has (opposite_lit f.lit) c.terms ≡ true → f.level ≤ k) fs
    older same [] a = tt
    older same (f ∷ fs) a = ((λ h. (let j = less in omega (arith, a.0))), older same fs a.1)

up_to-more : (j : ℕ) (f : Placed) (fs : List Placed) (l : Lit) → on (up_to j fs) l ≡ true → on (up_to j (f ∷ fs)) l ≡ true
up_to-more j f fs l h = elim (cases_Bool (nat_le f.level j)) [ inl y ↦ rw y (or_right _ _ h) | inr y ↦ rw y h ]

at-more : (k : ℕ) (f : Placed) (fs : List Placed) (l : Lit) → false_at fs k l ≡ true → false_at (f ∷ fs) k l ≡ true
at-more k f fs l h = elim (cases_Bool (f.level == k)) [ inl y ↦ rw y (or_right _ _ h) | inr y ↦ rw y h ]

up_to-here : (j : ℕ) (f : Placed) (fs : List Placed) (l : Lit) → f.level ≤ j → is_same_lit l f.lit ≡ true → on (up_to j (f ∷ fs)) l ≡ true
up_to-here j f fs l h s = let y : nat_le f.level j ≡ true = le-leb f.level j h in rw y (or_left _ _ s)

at-here : (k : ℕ) (f : Placed) (fs : List Placed) (l : Lit) → f.level ≡ k → is_same_lit l f.lit ≡ true → false_at (f ∷ fs) k l ≡ true
at-here k f fs l h s = let y : (f.level == k) ≡ true = eq-eqb f.level k h in rw y (or_left _ _ s)

split : (c : PlainRow) (j : ℕ) (l : Lit) (es : List Placed) → AllByRecursion (λ f. has (opposite_lit f.lit) c.terms ≡ true → f.level ≤ suc j) es → has (opposite_lit l) c.terms ≡ true → on es l ≡ true →
    (on (up_to j es) l ≡ true) ⊎ (false_at es (suc j) l ≡ true)
split c j l [] a h o = absurd (cc)
split c j l (f ∷ fs) a h o = elim (or_cases (is_same_lit l f.lit) (on fs l) o) [
  | inl s ↦
      let there : has (opposite_lit f.lit) c.terms ≡ true = subst (λ (k : Lit). has (opposite_lit k) c.terms ≡ true) (lit_is l f.lit s) h in
      elim (cases_lt j f.level) [
        | inl m ↦ inr (at-here (suc j) f fs l (omega (arith, a.0 there)) s)
        | inr m ↦ inl (up_to-here j f fs l m s)
      ]
  | inr r ↦ elim (split c j l fs a.1 h r) [ inl y ↦ inl (up_to-more j f fs l y) | inr y ↦ inr (at-more (suc j) f fs l y) ]
]

count_bound : (a b : Bool) (w m n : ℕ) → (a ≡ true) ⊎ (b ≡ true) → w ≡ 1 → m ≤ n → (if a then 0 else w) + m ≤ (if b then 1 else 0) + n
count_bound true b w m n h e l = omega arith
count_bound false true w m n h e l = omega arith
count_bound false false w m n h e l = elim h [ inl y ↦ absurd (cc) | inr y ↦ absurd (cc) ]

open_count : (set other : Literals) (ts : List Term) → Each (λ u. positive_part u.coef ≡ 1) ts → Each (λ u. (set (opposite_lit u.lit) ≡ true) ⊎ (other (opposite_lit u.lit) ≡ true)) ts →
    nonfalse_sum set ts ≤ count_by (λ u. other (opposite_lit u.lit)) ts
open_count set other [] o h = omega arith
open_count set other (t ∷ ts) o h =
    subst (λ (n : ℕ). nonfalse_sum set (t ∷ ts) ≤ n) (sym (sum_by-cons (λ u. if other (opposite_lit u.lit) then 1 else 0) t ts))
    (count_bound (set (opposite_lit t.lit)) (other (opposite_lit t.lit)) (positive_part t.coef) (nonfalse_sum set ts) (count_by (λ u. other (opposite_lit u.lit)) ts) h.0 o.0 (open_count set other ts o.1 h.1))

-- each term's literal stands in the terms
pub stand : (ts : List Term) → Each (λ t. 0 < positive_part t.coef) ts → Each (λ u. has u.lit ts ≡ true) ts
stand ts p = by ts ts p (λ l h. h)
  where
    by : (us all : List Term) → Each (λ t. 0 < positive_part t.coef) us → ((l : Lit) → 0 < weight_of l us → 0 < weight_of l all) → Each (λ u. has u.lit all ≡ true) us
    by [] all p f = tt
    by (u ∷ us) all p f = (
      lt-ltb 0 (weight_of u.lit all) (f u.lit (omega (arith, weight_here u.lit u us refl, p.0))),
      by us all p.1 (λ l h. f l (elim (lit_cases l u.lit) [ inl e ↦ omega (arith, weight_here l u us e, p.0) | inr e ↦ omega (arith, weight_there l u us e, h) ])),
    )

module _ (n : ℕ) (whole : List Placed) (c : PlainRow) (trail : IsTrail whole) (end : IsLastClause n whole c) where
  at_newest : (j : ℕ) → newest_level whole c ≡ suc j → count_at whole (newest_level whole c) c ≡ 1 → nonfalse_sum (on (up_to j whole)) c.terms ≤ 1
  at_newest j k one =
      let terms = stand c.terms (rising_weights 0 c.terms end.row.clause.rising) in
      let bound : AllByRecursion (λ f. has (opposite_lit f.lit) c.terms ≡ true → f.level ≤ suc j) whole =
      each_within whole c trail (suc j) k in
      let parts = each₂ (λ u. has u.lit c.terms ≡ true) (λ u. on whole (opposite_lit u.lit) ≡ true) (λ u. (on (up_to j whole) (opposite_lit u.lit) ≡ true) ⊎ (false_at whole (suc j) (opposite_lit u.lit) ≡ true))
      (λ u h o. split c j (opposite_lit u.lit) whole bound (subst (λ (l : Lit). has l c.terms ≡ true) (sym (opposite-opposite u.lit)) h) o) c.terms terms end.row.false_now in
      let most = open_count (on (up_to j whole)) (false_at whole (suc j)) c.terms end.row.clause.ones parts in
      let there : count_at whole (suc j) c ≡ 1 = subst (λ (i : ℕ). count_at whole i c ≡ 1) k one in
      omega (arith, most, there)

  makes_below : (j : ℕ) → newest_level whole c ≡ suc j → count_at whole (newest_level whole c) c ≡ 1 → propagates_some (on (up_to j whole)) c ≡ true
  makes_below j k one = by (newest whole c (omega (arith, k)))
    where
      by : Newest whole c → propagates_some (on (up_to j whole)) c ≡ true
      by s =
          let w : weight_of (opposite_lit s.entry.lit) c.terms ≡ 1 = weight_one (opposite_lit s.entry.lit) 0 c.terms end.row.clause.rising end.row.clause.ones (has_true (opposite_lit s.entry.lit) c.terms s.stands) in
          let few : nonfalse_sum (on (up_to j whole)) c.terms < c.degree + weight_of (opposite_lit s.entry.lit) c.terms = omega (arith, at_newest j k one, w, end.row.clause.degree) in
          propagates_some-from (on (up_to j whole)) c (opposite_lit s.entry.lit) end.row.clause.rising
          (subst (λ (v : List Placed). IsTrail v → nonfalse_sum (on (up_to j v)) c.terms < c.degree + weight_of (opposite_lit s.entry.lit) c.terms → PropagatesLiteral (on (up_to j v)) c (opposite_lit s.entry.lit)) s.is
          (λ t f. newest_free s.newer s.entry s.older c j t s.stands (omega (arith, k, s.level)) f) trail few)

  empty_sum : (ts : List Term) → has_none ts ≡ true → coef_sum ts ≡ 0
  empty_sum [] h = refl
  empty_sum (t ∷ ts) h = absurd (cc)

  last_parts : (a : Bool) (k m : ℕ) → (a || (nat_lt 0 k && m == 1)) ≡ true → (a ≡ true) ⊎ ((0 < k) × (m ≡ 1))
  last_parts true k m h = inl refl
  last_parts false k m h = let p = and_parts _ _ h in inr (ltb-true 0 k p.0, eqb-true m 1 p.1)

  contradicts : has_none c.terms ≡ true → coef_sum c.terms < c.degree
  contradicts h = omega (arith, empty_sum c.terms h, end.row.clause.degree)

  finished_or_empty : (o : Option ℕ) → finished_level whole c ≡ o → IsFinishedOrEmpty whole c o
  finished_or_empty (Some level) f = finished_asserts whole c level trail end.row.clause.rising f
  finished_or_empty None f = elim (last_parts (has_none c.terms) (newest_level whole c) (count_at whole (newest_level whole c) c) end.last) [
    | inl h ↦ contradicts h
    | inr p ↦ absurd (by (newest_level whole c) refl p.0 p.1)
  ]
    where
      by : (k : ℕ) → newest_level whole c ≡ k → 0 < newest_level whole c → count_at whole (newest_level whole c) c ≡ 1 → ⊥
      by zero e h one = omega arith
      by (suc j) e h one =
          let yes = makes_below j e one in
          let bad = least_none (λ i. propagates_some (on (up_to i whole)) c) (newest_level whole c) j f (omega (arith, e)) in
          cc

  all_open : (ts : List Term) → Lits (λ l. on whole (opposite_lit l) ≡ true) ts → nonfalse_sum (on whole) ts ≡ 0
  all_open [] h = refl
  all_open (t ∷ ts) h = rw h.0 (omega (arith, all_open ts h.1))

  pub clause_end : n < 2 ^ 32 → ClauseEnd n whole c
  clause_end small = record {
    clause = record {
      normal = clause_normal n c end.row.clause end.row.over small;
      ones = end.row.clause.ones;
      degree = end.row.clause.degree;
      over = All-from_recursion (λ (u : Term). IsCovered n u.lit.var) c.terms end.row.over;
      sum = clause_sum_within n c end.row.clause end.row.over;
    };
    falsified = omega (arith, all_open c.terms end.row.false_now, end.row.clause.degree);
    ends = finished_or_empty (finished_level whole c) refl;
  }

pub clauses_end_so : ClausesEnd
clauses_end_so n whole c small trail over m o f = clause_end n whole (last_clause whole c) trail (clauses_end n small whole c trail over m o f) small

-- ---- levels at which a row may become open

weaker_any : (p q : Term → Bool) → ((t : Term) → p t ≡ true → q t ≡ true) → (ts : List Term) → list_any p ts ≡ true → list_any q ts ≡ true
weaker_any p q f [] h = h
weaker_any p q f (t ∷ ts) h = elim (or_cases (p t) (list_any p ts) h) [ inl y ↦ or_left _ _ (f t y) | inr y ↦ or_right _ _ (weaker_any p q f ts y) ]

grows : (j k : ℕ) → j ≤ k → (es : List Placed) (l : Lit) → on (up_to j es) l ≡ true → on (up_to k es) l ≡ true
grows j k le [] l h = h
grows j k le (e ∷ es) l h = elim (cases_lt j e.level) [
  | inl m ↦ up_to-more k e es l (grows j k le es l (let y : nat_le e.level j ≡ false = false_from_ne_true _ (λ t. omega (arith, ltb_no t)) in rw y at h))
  | inr m ↦
      let y : nat_le e.level j ≡ true = le-leb e.level j m in
      elim (or_cases (is_same_lit l e.lit) (on (up_to j es) l) (rw y at h)) [ inl s ↦ up_to-here k e es l (omega arith) s | inr s ↦ up_to-more k e es l (grows j k le es l s) ]
]
  where
    ltb_no : nat_le e.level j ≡ true → e.level ≤ j
    ltb_no t = leb-true e.level j t

shrinks : (j k : ℕ) → j ≤ k → (es : List Placed) (l : Lit) → on (up_to k es) l ≡ false → on (up_to j es) l ≡ false
shrinks j k le es l h = false_from_ne_true _ (λ y. let yes = grows j k le es l y in cc)

pub opens_at_false : OpensAtFalse
opens_at_false whole c k same h =
    let below : Literals = on (up_to k whole) in
    let above : Literals = on (up_to (k + 1) whole) in
    let sums : nonfalse_sum below c.terms ≤ nonfalse_sum above c.terms = open-le above below c.terms same in
    elim (or_cases (nat_lt (nonfalse_sum above c.terms) c.degree) (propagates_some above c) h) [
      | inl y ↦ or_left _ _ (lt-ltb (nonfalse_sum below c.terms) c.degree (omega (arith, ltb-true (nonfalse_sum above c.terms) c.degree y)))
      | inr y ↦ or_right _ _ (weaker_any (propagates_term above c) (propagates_term below c) (λ t m. term t m) c.terms y)
    ]
  where
    term : (t : Term) → propagates_term (on (up_to (k + 1) whole)) c t ≡ true → propagates_term (on (up_to k whole)) c t ≡ true
    term t m =
        let a = and_parts _ _ m in
        let b = and_parts _ _ a.0 in
        let untrue = shrinks k (k + 1) (omega arith) whole t.lit (not-true _ b.0) in
        let unfalse = shrinks k (k + 1) (omega arith) whole (opposite_lit t.lit) (not-true _ b.1) in
        let sums : nonfalse_sum (on (up_to k whole)) c.terms ≤ nonfalse_sum (on (up_to (k + 1) whole)) c.terms = open-le (on (up_to (k + 1) whole)) (on (up_to k whole)) c.terms same in
        and_from _ _ (and_from _ _ (not_from_false _ untrue) (not_from_false _ unfalse)) (lt-ltb (nonfalse_sum (on (up_to k whole)) c.terms) (c.degree + positive_part t.coef) (omega (arith, ltb-true (nonfalse_sum (on (up_to (k + 1) whole)) c.terms) (c.degree + positive_part t.coef) a.1)))
