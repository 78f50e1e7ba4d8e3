-- The table of values under a trail.
use Rattle.std.proofs.Common.{◌≡◌, ◌||◌, ◌+◌, ◌-◌, ◌<◌, ℕ, Bool, true, false, not, if◌then◌else◌, List, [], ◌∷◌, ◌++◌, length, length-set, refl, sym, ◌∙◌, ap, inl, inr, arith, get_or, Some}
use Rattle.std.specs.List.{All, IsDistinct, count_by}
use Rattle.std.proofs.Math.ListN.{replicate, set}
use Rattle.std.proofs.lemmas.Bool.{cases_eq, cases_lt, and_right, or_parts}
use Rattle.std.proofs.lemmas.List.{get_or-replicate, length-replicate, get_or-set_other, get_or-set_same, get_or_past, length_push}
use Rattle.std.proofs.lemmas.List.Sums.{sum_by-set}
use Rattle.std.proofs.lemmas.List.Folds.{sum_by-replicate}
use Rattle.std.proofs.lemmas.List.Elements.{All-contains, All-nil, All-pop, All-push}
use Rattle.std.proofs.lemmas.Map.Keys.{IsDistinct-push}
use Rattle.hrt_base.specs.declared.literal.Lit.{Lit}
use Rattle.hrt_base.specs.declared.literal.Value.{Value}
use Rattle.hrt_base.specs.declared.literal.Value.TheVariants.{False, Free, True}
use Rattle.pb_rows.specs.Terms.{opposite_lit}
use Rattle.pb_rows.specs.Points.{IsCovered}
use Rattle.pb_rows.specs.Closure.{among, is_same_lit, makes_true}
use Rattle.propagation.specs.Tables.{AreConsistent, IsTable, is_free, lit_at, value_for}
use Rattle.propagation.proofs.Sets.{among-other, among-push, among-new, contained, distinct-front, equivalence, lit_apart, lit_itself}

-- a literal is that of its place
pub at_place : (l : Lit) → 0 < l.var → lit_at (l.var - 1) l.neg ≡ l
at_place l h = let e : (l.var - 1) + 1 ≡ l.var = omega arith in ap (λ (v : ℕ). let a : Lit = record { var = v; neg = l.neg } in a) e

pub opposite_at : (l : Lit) → 0 < l.var → lit_at (l.var - 1) (not l.neg) ≡ opposite_lit l
opposite_at l h = let e : (l.var - 1) + 1 ≡ l.var = omega arith in ap (λ (v : ℕ). let a : Lit = record { var = v; neg = not l.neg } in a) e

-- what the table says of a literal
pub table_at : (values : List Value) (ls : List Lit) → IsTable values ls → (l : Lit) → 0 < l.var → makes_true (get_or values (l.var - 1) Free) l.neg ≡ among ls l
table_at values ls t l h = t.table (l.var - 1) l.neg ∙ ap (among ls) (at_place l h)

abbrev one : Bool → ℕ
one b = if b then 1 else 0

-- a variable with neither literal true is free, and one with a true literal isn't
free_from : (v : Value) (neg : Bool) → makes_true v neg ≡ false → makes_true v (not neg) ≡ false → is_free v ≡ true
free_from Free neg a b = refl
free_from True true a b = cc
free_from True false a b = cc
free_from False true a b = cc
free_from False false a b = cc

taken_from : (v : Value) (neg : Bool) → makes_true v neg ≡ true → is_free v ≡ false
taken_from Free neg a = cc
taken_from True neg a = refl
taken_from False neg a = refl

taken_by : (neg : Bool) → is_free (value_for neg) ≡ false
taken_by true = refl
taken_by false = refl

never_both : (v : Value) (neg : Bool) → makes_true v neg ≡ true → makes_true v (not neg) ≡ false
never_both Free neg h = cc
never_both True true h = cc
never_both True false h = refl
never_both False true h = refl
never_both False false h = cc

pub consistent : (values : List Value) (ls : List Lit) → IsTable values ls → AreConsistent ls
consistent values ls t = record {
  consistent = λ l h.
      let c : IsCovered (length values) l.var = All-contains (λ (a : Lit). IsCovered (length values) a.var) ls l t.covered (contained ls l h) in
      let here = never_both (get_or values (l.var - 1) Free) l.neg (table_at values ls t l c.first ∙ h) in
      sym (t.table (l.var - 1) (not l.neg) ∙ ap (among ls) (opposite_at l c.first)) ∙ here;
  distinct = t.distinct;
}

-- ---- none

free : (v : Value) (neg : Bool) → v ≡ Free → makes_true v neg ≡ false
free v neg e = rw e refl

all_free : (n place : ℕ) → get_or (replicate n Free) place Free ≡ Free
all_free n place = elim (cases_lt place n) [ inl h ↦ get_or-replicate n place Free Free h | inr h ↦ get_or_past (replicate n Free) place Free (rw length-replicate h) ]

count_free : (n : ℕ) → count_by is_free (replicate n Free) ≡ n
count_free n = sum_by-replicate (λ (v : Value). one (is_free v)) n Free ∙ omega arith

pub no_table : (n : ℕ) → IsTable (replicate n Free) []
unfolding IsDistinct
no_table n = record {
  table = λ place neg. free _ neg (all_free n place);
  covered = All-nil _;
  distinct = tt;
  count = omega (arith, count_free n, length-replicate n Free);
}

-- ---- one more

other_sign : (p : ℕ) (m : Bool) → is_same_lit (lit_at p m) (lit_at p (not m)) ≡ false
other_sign p true = and_right _ _ refl
other_sign p false = and_right _ _ refl

module _ (values : List Value) (ls : List Lit) (t : IsTable values ls) (l : Lit) (c : IsCovered (length values) l.var) (untrue : among ls l ≡ false) (unfalse : among ls (opposite_lit l) ≡ false) where
  new_value : (p : ℕ) (m neg : Bool) → among ls (lit_at p m) ≡ false → among ls (lit_at p (not m)) ≡ false
      → makes_true (value_for m) neg ≡ (among ls (lit_at p neg) || is_same_lit (lit_at p neg) (lit_at p m))
  new_value p true true a b = rw (a, lit_itself (lit_at p true)) refl
  new_value p true false a b = rw (b, other_sign p false) refl
  new_value p false true a b = rw (b, other_sign p true) refl
  new_value p false false a b = rw (a, lit_itself (lit_at p false)) refl

  at_new : (neg : Bool) → makes_true (value_for l.neg) neg ≡ among (ls ++ l ∷ []) (lit_at (l.var - 1) neg)
  at_new neg =
      let a : among ls (lit_at (l.var - 1) l.neg) ≡ false = ap (among ls) (at_place l c.first) ∙ untrue in
      let b : among ls (lit_at (l.var - 1) (not l.neg)) ≡ false = ap (among ls) (opposite_at l c.first) ∙ unfalse in
      new_value (l.var - 1) l.neg neg a b
      ∙ ap (λ x. among ls (lit_at (l.var - 1) neg) || is_same_lit (lit_at (l.var - 1) neg) x) (at_place l c.first)
      ∙ sym (among-push ls l (lit_at (l.var - 1) neg))

  elsewhere : (place : ℕ) (neg : Bool) → (place ≡ l.var - 1 → ⊥) → is_same_lit (lit_at place neg) l ≡ false
  elsewhere place neg ne = lit_apart (lit_at place neg) l (λ e. let f : place + 1 ≡ l.var = ap (λ (a : Lit). a.var) e in ne (omega arith))

  pub table-push : IsTable (set values (l.var - 1) (value_for l.neg)) (ls ++ l ∷ [])
  table-push = record {
    table = λ place neg. elim (cases_eq place (l.var - 1)) [
      | inl e ↦
          let here : l.var - 1 < length values = omega (arith, c.first, c.last) in
          rw (e, get_or-set_same values (l.var - 1) (value_for l.neg) Free here) (at_new neg)
      | inr ne ↦ rw (get_or-set_other values (l.var - 1) place (value_for l.neg) Free ne) (t.table place neg ∙ sym (among-other ls l (lit_at place neg) (elsewhere place neg ne)))
    ];
    covered = rw length-set (All-push (λ (a : Lit). IsCovered (length values) a.var) ls l t.covered c);
    distinct = IsDistinct-push equivalence ls l t.distinct untrue;
    count =
        let here : l.var - 1 < length values = omega (arith, c.first, c.last) in
        let was : is_free (get_or values (l.var - 1) Free) ≡ true =
        free_from (get_or values (l.var - 1) Free) l.neg (table_at values ls t l c.first ∙ untrue) (t.table (l.var - 1) (not l.neg) ∙ ap (among ls) (opposite_at l c.first) ∙ unfalse) in
        omega (arith, sum_by-set (λ (v : Value). one (is_free v)) values (l.var - 1) (value_for l.neg) Free here, ap one was, ap one (taken_by l.neg), t.count, length_push ls l, length-set values (l.var - 1) (value_for l.neg));
  }

-- ---- one less

module _ (values : List Value) (ls : List Lit) (l : Lit) (t : IsTable values (ls ++ l ∷ [])) where
  last_covered : IsCovered (length values) l.var
  last_covered = All-contains (λ (a : Lit). IsCovered (length values) a.var) (ls ++ l ∷ []) l t.covered (contained (ls ++ l ∷ []) l (among-new ls l))

  last_untrue : among ls l ≡ false
  last_untrue = (distinct-front ls l t.distinct).1

  last_unfalse : among ls (opposite_lit l) ≡ false
  last_unfalse = (or_parts _ _ (sym (among-push ls l (opposite_lit l)) ∙ (consistent values (ls ++ l ∷ []) t).consistent l (among-new ls l))).0

  either : (p : ℕ) (m neg : Bool) → among ls (lit_at p m) ≡ false → among ls (lit_at p (not m)) ≡ false → among ls (lit_at p neg) ≡ false
  either p true true a b = a
  either p true false a b = b
  either p false true a b = b
  either p false false a b = a

  elsewhere' : (place : ℕ) (neg : Bool) → (place ≡ l.var - 1 → ⊥) → is_same_lit (lit_at place neg) l ≡ false
  elsewhere' place neg ne = lit_apart (lit_at place neg) l (λ e. let f : place + 1 ≡ l.var = ap (λ (a : Lit). a.var) e in ne (omega arith))

  pub table-pop : IsTable (set values (l.var - 1) Free) ls
  table-pop = record {
    table = λ place neg. elim (cases_eq place (l.var - 1)) [
      | inl e ↦
          let here : l.var - 1 < length values = omega (arith, last_covered.first, last_covered.last) in
          let a : among ls (lit_at (l.var - 1) l.neg) ≡ false = ap (among ls) (at_place l last_covered.first) ∙ last_untrue in
          let b : among ls (lit_at (l.var - 1) (not l.neg)) ≡ false = ap (among ls) (opposite_at l last_covered.first) ∙ last_unfalse in
          rw (e, get_or-set_same values (l.var - 1) Free Free here) (sym (either (l.var - 1) l.neg neg a b))
      | inr ne ↦ rw (get_or-set_other values (l.var - 1) place Free Free ne) (t.table place neg ∙ among-other ls l (lit_at place neg) (elsewhere' place neg ne))
    ];
    covered = rw length-set (front_all ls l t.covered);
    distinct = (distinct-front ls l t.distinct).0;
    count =
        let here : l.var - 1 < length values = omega (arith, last_covered.first, last_covered.last) in
        let was : is_free (get_or values (l.var - 1) Free) ≡ false =
        taken_from (get_or values (l.var - 1) Free) l.neg (table_at values (ls ++ l ∷ []) t l last_covered.first ∙ among-new ls l) in
        let all : List Lit = ls ++ l ∷ [] in
        omega (arith, sum_by-set (λ (v : Value). one (is_free v)) values (l.var - 1) Free Free here, ap one was, t.count, length_push ls l, length-set values (l.var - 1) Free);
  }
    where
      front_all : (xs : List Lit) (x : Lit) → All (λ (a : Lit). IsCovered (length values) a.var) (xs ++ x ∷ []) → All (λ (a : Lit). IsCovered (length values) a.var) xs
      front_all xs x a = (All-pop (λ (a : Lit). IsCovered (length values) a.var) (xs ++ x ∷ []) xs (Some x) refl a).0
