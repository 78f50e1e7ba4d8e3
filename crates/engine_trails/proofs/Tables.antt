-- The table of marks of a trail.
use Rattle.std.proofs.Common.{◌≡◌, ◌⊎◌, ◌≤◌, ◌<◌, ◌+◌, ◌-◌, ◌==◌, ◌&&◌, ◌||◌, ℕ, zero, suc, Bool, true, false, not, nat_le, nat_lt, if◌then◌else◌, List, [], ◌∷◌, ◌++◌, filter, length, refl, sym, ◌∙◌, ap, subst, inl, inr, arith}
use Rattle.std.specs.Prelude.{slice_index_or}
use Rattle.std.proofs.Math.ListN.{set}
use Rattle.std.proofs.lemmas.Bool.{cases_Bool, cases_lt, eq-eqb, eqb-true, false_from_ne_true, le-leb, lt-leb, lt-ltb, ne_eqb, or_cases, or_from, or_left, or_right, true≢false}
use Rattle.std.proofs.lemmas.List.{get_or-set_other, get_or-set_same}
use Rattle.hrt_base.specs.declared.literal.Lit.{Lit}
use Rattle.pb_rows.specs.Terms.{opposite_lit}
use Rattle.pb_rows.specs.Closure.{is_same_lit}
use Rattle.conflict_rows.specs.declared.marks.Mark.{Mark}
use Rattle.conflict_rows.specs.Marks.{mark_of, marks_true, no_mark, set_before}
use Rattle.conflict_rows.specs.Tables.{AreMarks}
use Rattle.conflict_rows.specs.Trail.{IsTrail, Placed, on}
use Rattle.conflict_rows.proofs.Literals.{opposite-opposite, var_cases}
use Rattle.conflict_rows.proofs.Trails.{on-within}

-- the mark that a variable has after a trail
abbrev pub mark_in : List Placed → ℕ → Mark
mark_in [] v = no_mark
mark_in (e ∷ es) v = if e.lit.var == v then record { place = length es + 1; neg = e.lit.neg; level = e.level } else mark_in es v

-- each variable has its mark
abbrev pub HasMarks : List Mark → List Placed → Type 0
HasMarks marks whole = (v : ℕ) → mark_of marks v ≡ mark_in whole v

-- ---- a literal over the variable of an entry

same_sign : (m n : Bool) → (if m then n else not n) ≡ (if n then m else not m)
same_sign true true = refl
same_sign true false = refl
same_sign false true = refl
same_sign false false = refl

-- it is the entry's where the signs are the same
same_here : (e : Placed) (l : Lit) → (e.lit.var == l.var) ≡ true → is_same_lit l e.lit ≡ (if e.lit.neg then l.neg else not l.neg)
same_here e l v =
    let same : (l.var == e.lit.var) ≡ true = eq-eqb l.var e.lit.var (sym (eqb-true e.lit.var l.var v)) in
    rw same (same_sign l.neg e.lit.neg)

-- and it isn't over another variable
other_here : (e : Placed) (l : Lit) → (e.lit.var == l.var) ≡ false → is_same_lit l e.lit ≡ false
other_here e l v =
    let other : (l.var == e.lit.var) ≡ false = false_from_ne_true _ (λ t. true≢false (sym (eq-eqb e.lit.var l.var (sym (eqb-true l.var e.lit.var t))) ∙ v)) in
    rw other refl

-- it wasn't there before
fresh_here : (e : Placed) (es : List Placed) (l : Lit) → IsTrail (e ∷ es) → (e.lit.var == l.var) ≡ true → on es l ≡ false
fresh_here e es l t v = elim (var_cases l e.lit (sym (eqb-true e.lit.var l.var v))) [
  | inl s ↦ subst (λ (k : Lit). on es k ≡ false) (sym s) t.0.untrue
  | inr s ↦ subst (λ (k : Lit). on es k ≡ false) (sym s) t.0.unfalse
]

on-some : (q : Placed → Bool) (es : List Placed) (l : Lit) → on (filter q es) l ≡ true → on es l ≡ true
on-some q [] l h = h
on-some q (e ∷ es) l h = elim (cases_Bool (q e)) [
  | inl y ↦ elim (or_cases (is_same_lit l e.lit) (on (filter q es) l) (rw y at h)) [ inl a ↦ or_left _ _ a | inr a ↦ or_right _ _ (on-some q es l a) ]
  | inr y ↦ or_right _ _ (on-some q es l (rw y at h))
]

none_of : (q : Placed → Bool) (es : List Placed) (l : Lit) → on es l ≡ false → on (filter q es) l ≡ false
none_of q es l h = false_from_ne_true _ (λ t. true≢false (sym (on-some q es l t) ∙ h))

true_here : (place level : ℕ) (m n : Bool) → marks_true (record { place = place + 1; neg = m; level = level }) n ≡ (if m then n else not n)
true_here place level m n = let some : nat_lt 0 (place + 1) ≡ true = lt-ltb 0 (place + 1) (omega arith) in rw some refl

and_true : (b : Bool) → (b && true) ≡ b
and_true true = refl
and_true false = refl

and_false : (b : Bool) → (b && false) ≡ false
and_false true = refl
and_false false = refl

or_false : (b c : Bool) → c ≡ false → (b || c) ≡ b
or_false true c h = refl
or_false false c h = h

-- ---- what the marks make true

marked_now : (es : List Placed) → IsTrail es → (l : Lit) → marks_true (mark_in es l.var) l.neg ≡ on es l
marked_now [] t l = refl
marked_now (e ∷ es) t l = elim (cases_Bool (e.lit.var == l.var)) [
  | inl y ↦ rw y (true_here (length es) e.level e.lit.neg l.neg ∙ (sym (same_here e l y) ∙ sym (or_false (is_same_lit l e.lit) (on es l) (fresh_here e es l t y))))
  | inr y ↦ rw y (marked_now es t.1 l ∙ sym (ap (λ (b : Bool). b || on es l) (other_here e l y)))
]

-- of the levels that pass
marked_where : (q : ℕ → Bool) (es : List Placed) → IsTrail es → (l : Lit) → (marks_true (mark_in es l.var) l.neg && q (mark_in es l.var).level) ≡ on (filter (λ e. q e.level) es) l
marked_where q [] t l = refl
marked_where q (e ∷ es) t l = elim (cases_Bool (e.lit.var == l.var)) [
  | inl y ↦ elim (cases_Bool (q e.level)) [
    | inl p ↦ rw (y, p) (ap (λ (b : Bool). b && true) (true_here (length es) e.level e.lit.neg l.neg) ∙ (and_true _ ∙ (sym (same_here e l y) ∙ sym (or_false (is_same_lit l e.lit) _ (none_of (λ f. q f.level) es l (fresh_here e es l t y))))))
    | inr p ↦ rw (y, p) (and_false _ ∙ sym (none_of (λ f. q f.level) es l (fresh_here e es l t y)))
  ]
  | inr y ↦ rw y (marked_where q es t.1 l ∙ passed y (cases_Bool (q e.level)))
]
  where
    passed : (e.lit.var == l.var) ≡ false → (q e.level ≡ true) ⊎ (q e.level ≡ false) → on (filter (λ f. q f.level) es) l ≡ on (filter (λ f. q f.level) (e ∷ es)) l
    passed y (inl p) = rw p (sym (ap (λ (b : Bool). b || on (filter (λ f. q f.level) es) l) (other_here e l y)))
    passed y (inr p) = rw p refl

place_within : (es : List Placed) (v : ℕ) → (mark_in es v).place ≤ length es
place_within [] v = omega arith
place_within (e ∷ es) v = elim (cases_Bool (e.lit.var == v)) [
  | inl y ↦ rw y (omega arith)
  | inr y ↦ rw y (omega (arith, place_within es v))
]

-- at the places of a rest
marked_before : (newer rest : List Placed) → IsTrail (newer ++ rest) → (l : Lit) → (marks_true (mark_in (newer ++ rest) l.var) l.neg && nat_le (mark_in (newer ++ rest) l.var).place (length rest)) ≡ on rest l
marked_before [] rest t l =
    let within : nat_le (mark_in rest l.var).place (length rest) ≡ true = le-leb (mark_in rest l.var).place (length rest) (place_within rest l.var) in
    rw within (and_true _ ∙ marked_now rest t l)
marked_before (e ∷ es) rest t l = elim (cases_Bool (e.lit.var == l.var)) [
  | inl y ↦
      let late : nat_le (length (es ++ rest) + 1) (length rest) ≡ false = lt-leb (length (es ++ rest) + 1) (length rest) (omega (arith, longer es)) in
      rw (y, late) (and_false _ ∙ sym (false_from_ne_true _ (λ h. true≢false (sym (on-within es rest l h) ∙ fresh_here e (es ++ rest) l t y))))
  | inr y ↦ rw y (marked_before es rest t.1 l)
]
  where
    longer : (xs : List Placed) → length rest ≤ length (xs ++ rest)
    longer [] = omega arith
    longer (x ∷ xs) = omega (arith, longer xs)

pub are_marks : (marks : List Mark) (whole : List Placed) → IsTrail whole → HasMarks marks whole → AreMarks marks whole
are_marks marks whole t h = record {
  now = λ l. ap (λ (m : Mark). marks_true m l.neg) (h l.var) ∙ marked_now whole t l;
  before = λ newer rest is l. ap (λ (m : Mark). marks_true m l.neg && nat_le m.place (length rest)) (h l.var)
      ∙ subst (λ (w : List Placed). IsTrail w → (marks_true (mark_in w l.var) l.neg && nat_le (mark_in w l.var).place (length rest)) ≡ on rest l) is (λ u. marked_before newer rest u l) t;
  levels = λ k l. ap (λ (m : Mark). marks_true m l.neg && nat_le m.level k) (h l.var) ∙ marked_where (λ n. nat_le n k) whole t l;
  of_level = λ k l. ap (λ (m : Mark). marks_true m l.neg && m.level == k) (h l.var) ∙ marked_where (λ n. n == k) whole t l;
}

-- ---- one more entry

mark_is : (marks : List Mark) (v : ℕ) → 0 < v → mark_of marks v ≡ slice_index_or marks (v - 1) no_mark
mark_is marks v h = let other : (v == 0) ≡ false = ne_eqb v 0 (λ e. omega arith) in rw other refl

mark_zero : (marks : List Mark) (v : ℕ) → v ≡ 0 → mark_of marks v ≡ no_mark
mark_zero marks v h = let zero : (v == 0) ≡ true = eq-eqb v 0 h in rw zero refl

module _ (marks : List Mark) (e : Placed) (es : List Placed) (some : 1 ≤ e.lit.var) (within : e.lit.var ≤ length marks) (h : HasMarks marks es) (m : Mark) where
  at_it : (v : ℕ) → e.lit.var ≡ v → mark_of (set marks (e.lit.var - 1) m) v ≡ m
  at_it v same =
      let there : v - 1 ≡ e.lit.var - 1 = omega arith in
      mark_is (set marks (e.lit.var - 1) m) v (omega arith) ∙ (ap (λ (i : ℕ). slice_index_or (set marks (e.lit.var - 1) m) i no_mark) there ∙ get_or-set_same marks (e.lit.var - 1) m no_mark (omega arith))

  elsewhere : (v : ℕ) → (e.lit.var ≡ v → ⊥) → mark_of (set marks (e.lit.var - 1) m) v ≡ mark_in es v
  elsewhere v other = elim (cases_lt 0 v) [
    | inl p ↦ mark_is (set marks (e.lit.var - 1) m) v p ∙ (get_or-set_other marks (e.lit.var - 1) (v - 1) m no_mark (λ s. other (omega arith)) ∙ (sym (mark_is marks v p) ∙ h v))
    | inr z ↦ let zero : v ≡ 0 = omega arith in mark_zero (set marks (e.lit.var - 1) m) v zero ∙ (sym (mark_zero marks v zero) ∙ h v)
  ]

pub one_more : (marks : List Mark) (e : Placed) (es : List Placed) → 1 ≤ e.lit.var → e.lit.var ≤ length marks → HasMarks marks es → HasMarks (set marks (e.lit.var - 1) (record { place = length es + 1; neg = e.lit.neg; level = e.level })) (e ∷ es)
one_more marks e es some within h v = elim (cases_Bool (e.lit.var == v)) [
  | inl y ↦ rw y (at_it marks e es some within h (record { place = length es + 1; neg = e.lit.neg; level = e.level }) v (eqb-true e.lit.var v y))
  | inr y ↦ rw y (elsewhere marks e es some within h (record { place = length es + 1; neg = e.lit.neg; level = e.level }) v (λ s. true≢false (sym (eq-eqb e.lit.var v s) ∙ y)))
]
