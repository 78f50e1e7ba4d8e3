-- How many literals are in the set of a list of literals.
use Rattle.std.proofs.Common.{◌≡◌, ℕ, ◌+◌, ◌≤◌, Bool, true, false, not, ◌||◌, ◌==◌, nat_lt, if◌then◌else◌, List, [], ◌∷◌, length, map, count_by, inl, inr, refl, sym, ap, ap₂, ◌∙◌, subst, arith}
use Rattle.std.specs.List.{AllByRecursion}
use Rattle.std.proofs.lemmas.Bool.{and_parts, and_right, cases_lt, eq-eqb, eqb-true, false_from_ne_true, lt-ltb, not-true, or_cases, or_from, or_left, or_parts, or_right, true≢false}
use Rattle.hrt_base.specs.declared.literal.Lit.{Lit}
use Rattle.pb_rows.specs.Terms.{opposite_lit}
use Rattle.pb_rows.specs.Closure.{Literals, among, is_same_lit}
use Rattle.rank_tables.specs.Numbers.{is_distinct, is_in, numbers_to}
use Rattle.rank_tables.proofs.Numbers.{distinct-numbers_to, list_any-count}
use Rattle.proof_rules.specs.Notes.{IsOpen, set_size, with_lit}
use Rattle.proof_rules.proofs.Learned.{same_lit}
use Rattle.pb_rows.specs.Points.{IsCovered}
use Rattle.conflict_bound.proofs.SetSizes.{count-cons, count-more, size-fewer, worth}
use Rattle.conflict_bound.proofs.FreshSizes.{with_lit-has, with_lit-more}

-- the variables of literals
abbrev pub variables : List Lit → List ℕ
variables ls = map (λ l. l.var) ls

-- ---- counts

worth_or : (a b : Bool) → worth (a || b) ≤ worth a + worth b
worth_or true b = omega arith
worth_or false b = omega arith

count-or : (p q : ℕ → Bool) (vs : List ℕ) → count_by (λ v. p v || q v) vs ≤ count_by p vs + count_by q vs
count-or p q [] = omega arith
count-or p q (v ∷ vs) = omega (arith, count-cons (λ v. p v || q v) v vs, count-cons p v vs, count-cons q v vs, worth_or (p v) (q v), count-or p q vs)

count-never : (vs : List ℕ) → count_by (λ v. false) vs ≡ 0
count-never [] = refl
count-never (v ∷ vs) = count-cons (λ v. false) v vs ∙ ap (λ (k : ℕ). 0 + k) (count-never vs)

-- a number stands once among distinct ones
count-once : (x : ℕ) (vs : List ℕ) → is_distinct vs ≡ true → count_by (λ v. v == x) vs ≤ 1
count-once x [] d = omega arith
count-once x (v ∷ vs) d = by (v == x) refl (count-once x vs parts.1)
  where
    parts : (not (is_in v vs) ≡ true) × (is_distinct vs ≡ true)
    parts = and_parts (not (is_in v vs)) (is_distinct vs) d

    none_left : (b : Bool) → not b ≡ true → b ≡ nat_lt 0 (count_by (λ y. y == v) vs) → count_by (λ y. y == v) vs ≡ 0
    none_left true h e = absurd (cc)
    none_left false h e = elim (cases_lt 0 (count_by (λ y. y == v) vs)) [ inl lt ↦ absurd (cc (lt-ltb 0 (count_by (λ y. y == v) vs) lt)) | inr le ↦ omega arith ]

    by : (b : Bool) → (v == x) ≡ b → count_by (λ y. y == x) vs ≤ 1 → count_by (λ y. y == x) (v ∷ vs) ≤ 1
    by true s rest = omega (
      arith,
      count-cons (λ y. y == x) v vs,
      ap worth s,
      subst (λ (k : ℕ). count_by (λ y. y == k) vs ≡ 0) (eqb-true v x s) (none_left (is_in v vs) parts.0 (list_any-count (λ y. y == v) vs)),
    )
    by false s rest = omega (arith, count-cons (λ y. y == x) v vs, ap worth s)

-- ---- sets

same_var : (a b : Lit) → is_same_lit a b ≡ true → a.var ≡ b.var
same_var a b h = ap (λ (l : Lit). l.var) (same_lit a b h)

or_step : (b c d : Bool) → (b ≡ true → d ≡ true) → (b || c) ≡ true → (d || c) ≡ true
or_step b c d f h = elim (or_cases b c h) [ inl e ↦ or_left d c (f e) | inr e ↦ or_right d c e ]

other_step : (b c : Bool) → b ≡ false → (b || c) ≡ true → c ≡ true
other_step true c f h = absurd (cc)
other_step false c f h = h

-- one literal more is one more at most
pub size-one : (vars : ℕ) (l : Lit) (set : Literals) → set_size vars (with_lit l set) ≤ set_size vars set + 1
size-one vars l set = by l.neg refl
  where
    ns : List ℕ
    ns = numbers_to vars

    same_sign : (n : Bool) → count_by (λ v. with_lit l set (record { var = v; neg = n })) ns ≤ count_by (λ v. set (record { var = v; neg = n })) ns + 1
    same_sign n =
        omega (
          arith,
          count-more (λ v. with_lit l set (record { var = v; neg = n })) (λ v. (v == l.var) || set (record { var = v; neg = n }))
              (λ v. or_step (is_same_lit (record { var = v; neg = n }) l) (set (record { var = v; neg = n })) (v == l.var) (λ s. (and_parts (v == l.var) (if n then l.neg else not l.neg) s).0)) ns,
          count-or (λ v. v == l.var) (λ v. set (record { var = v; neg = n })) ns,
          count-once l.var ns (distinct-numbers_to vars),
        )

    no_sign : (n : Bool) → (if n then l.neg else not l.neg) ≡ false → count_by (λ v. with_lit l set (record { var = v; neg = n })) ns ≤ count_by (λ v. set (record { var = v; neg = n })) ns
    no_sign n e =
        count-more (λ v. with_lit l set (record { var = v; neg = n })) (λ v. set (record { var = v; neg = n }))
        (λ v. other_step (is_same_lit (record { var = v; neg = n }) l) (set (record { var = v; neg = n })) (and_right (v == l.var) (if n then l.neg else not l.neg) e)) ns

    by : (b : Bool) → l.neg ≡ b → set_size vars (with_lit l set) ≤ set_size vars set + 1
    by true e = omega (arith, same_sign true, no_sign false (ap not e))
    by false e = omega (arith, same_sign false, no_sign true e)

-- ---- lists

-- a literal whose variable isn't there is open
not_there : (ls : List Lit) (l : Lit) → is_in l.var (variables ls) ≡ false → among ls l ≡ false
not_there [] l h = refl
not_there (x ∷ ls) l h =
    let parts = or_parts (x.var == l.var) (is_in l.var (variables ls)) h in
    or_from (is_same_lit l x) (among ls l) (false_from_ne_true (is_same_lit l x) (λ s. true≢false (sym (eq-eqb x.var l.var (sym (same_var l x s))) ∙ parts.0))) (not_there ls l parts.1)

pub open-elsewhere : (ls : List Lit) (l : Lit) → is_in l.var (variables ls) ≡ false → IsOpen (among ls) l
open-elsewhere ls l h = record { not_true = not_there ls l h; not_false = not_there ls (opposite_lit l) h }

-- as many as the list has
pub size-list : (vars : ℕ) (ls : List Lit) → AllByRecursion (λ (l : Lit). IsCovered vars l.var) ls → is_distinct (variables ls) ≡ true → set_size vars (among ls) ≡ length ls
size-list vars [] ks d = ap₂ ◌+◌ (count-never (numbers_to vars)) (count-never (numbers_to vars))
size-list vars (l ∷ ls) ks d =
    omega (arith, size-one vars l (among ls), size-fewer vars (among ls) (with_lit l (among ls)) (with_lit-more l (among ls)) l ks.0 (not_there ls l fresh_var) (with_lit-has l (among ls)), size-list vars ls ks.1 parts.1)
  where
    parts : (not (is_in l.var (variables ls)) ≡ true) × (is_distinct (variables ls) ≡ true)
    parts = and_parts (not (is_in l.var (variables ls))) (is_distinct (variables ls)) d

    fresh_var : is_in l.var (variables ls) ≡ false
    fresh_var = not-true (is_in l.var (variables ls)) parts.0
