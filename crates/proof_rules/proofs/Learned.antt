-- Learned rows: what a fresh one says besides, and that sizes of closures are determined.
use Rattle.std.proofs.Common.{◌≡◌, subst, ℕ, ◌+◌, ◌==◌, ◌<◌, Bool, true, false, nat_lt, not, if◌then◌else◌, ◌||◌, ◌&&◌, List, [], ◌∷◌, ◌++◌, count_by, ◌⊎◌, inl, inr, refl, sym, ap, ap₂, ◌∙◌, arith}
use Rattle.std.specs.List.{AllByRecursion}
use Rattle.std.proofs.lemmas.Bool.{and_from, and_parts, eq-eqb, eqb-true, lt-ltb, ltb-true}
use Rattle.hrt_base.specs.declared.literal.Lit.{Lit}
use Rattle.pb_rows.specs.Terms.{PlainRow}
use Rattle.pb_rows.specs.Closure.{Literals, Refuted, among, is_same_lit}
use Rattle.pb_rows.proofs.Implied.{closure-unique}
use Rattle.rank_tables.proofs.Numbers.{sum_by_same}
use Rattle.rank_tables.specs.Numbers.{numbers_to}
use Rattle.proof_rules.specs.Notes.{Fresh, HaveSizes, is_greater, set_size, with_lit}

-- under the decisions of a fresh row the held rows aren't refuted
pub fresh-not_refuted : (vars : ℕ) (held : List PlainRow) (row : PlainRow) (decisions : List Lit) (l : Lit) → Fresh vars held row decisions l → Refuted held (among decisions) → ⊥
fresh-not_refuted vars held row decisions l fresh r = r fresh.set fresh.closure.quiet

-- ---- lists of literals

same_sign : (m n : Bool) → (if m then n else not n) ≡ true → m ≡ n
same_sign true true h = refl
same_sign true false h = absurd (cc)
same_sign false true h = absurd (cc)
same_sign false false h = refl

-- the test of two literals tells whether they are one
pub same_lit : (a b : Lit) → is_same_lit a b ≡ true → a ≡ b
same_lit a b h =
    let parts = and_parts (a.var == b.var) (if a.neg then b.neg else not b.neg) h in
    ap₂ (λ (v : ℕ) (n : Bool). record { var = v; neg = n }) (eqb-true a.var b.var parts.0) (same_sign a.neg b.neg parts.1)

its_sign : (n : Bool) → (if n then n else not n) ≡ true
its_sign true = refl
its_sign false = refl

pub same_itself : (l : Lit) → is_same_lit l l ≡ true
same_itself l = and_from (l.var == l.var) (if l.neg then l.neg else not l.neg) (eq-eqb l.var l.var refl) (its_sign l.neg)

one_of : (b c : Bool) → (b || c) ≡ true → (b ≡ true) ⊎ (c ≡ true)
one_of true c h = inl refl
one_of false c h = inr h

-- what holds of each literal of a list holds of each that is in its set
pub among-all : (P : Lit → Type 0) (ls : List Lit) (l : Lit) → AllByRecursion P ls → among ls l ≡ true → P l
among-all P [] l h e = absurd (cc)
among-all P (x ∷ xs) l h e = elim (one_of (is_same_lit l x) (among xs l) e) [
  | inl s ↦ subst P (sym (same_lit l x s)) h.0
  | inr s ↦ among-all P xs l h.1 s
]

-- ---- sizes

same_tests : (a b : ℕ → Bool) → ((v : ℕ) → a v ≡ b v) → (vs : List ℕ) → count_by a vs ≡ count_by b vs
same_tests a b h vs = sum_by_same (λ v. if a v then 1 else 0) (λ v. if b v then 1 else 0) vs (λ v. ap (λ (t : Bool). if t then 1 else 0) (h v))

same_size : (vars : ℕ) (a b : Literals) → ((l : Lit) → a l ≡ b l) → set_size vars a ≡ set_size vars b
same_size vars a b h = ap₂ ◌+◌ (same_tests _ _ (λ v. h (record { var = v; neg = false })) (numbers_to vars)) (same_tests _ _ (λ v. h (record { var = v; neg = true })) (numbers_to vars))

pub sizes-unique : (vars : ℕ) (rows : List PlainRow) (earlier later : List Lit) (l : Lit) (a b : List ℕ) → HaveSizes vars rows earlier later l a → HaveSizes vars rows earlier later l b → a ≡ b
sizes-unique vars rows earlier [] l a b h k =
    h.2 ∙ ap (λ (n : ℕ). n ∷ []) (same_size vars (with_lit l h.0) (with_lit l k.0) (λ x. ap (λ (t : Bool). is_same_lit x l || t) (closure-unique rows (among earlier) h.0 k.0 h.1 k.1 x))) ∙ sym k.2
sizes-unique vars rows earlier (d ∷ later) l a b h k =
    h.3
    ∙ ap₂ (λ (n : ℕ) (rest : List ℕ). n ∷ rest) (same_size vars h.0 k.0 (closure-unique rows (among earlier) h.0 k.0 h.2 k.2)) (sizes-unique vars rows (earlier ++ d ∷ []) later l h.1 k.1 h.4 k.4)
    ∙ sym k.3

-- ---- dictionary order

split : (b c d : Bool) → (b || (c && d)) ≡ true → (b ≡ true) ⊎ ((c ≡ true) × (d ≡ true))
split true c d h = inl refl
split false true d h = inr (refl, h)
split false false d h = absurd (cc)

-- the first numbers that differ decide
pub greater-cases : (x y : ℕ) (xs ys : List ℕ) → is_greater (x ∷ xs) (y ∷ ys) ≡ true → (y < x) ⊎ ((x ≡ y) × (is_greater xs ys ≡ true))
greater-cases x y xs ys h = elim (split (nat_lt y x) (x == y) (is_greater xs ys) h) [
  | inl e ↦ inl (ltb-true y x e)
  | inr e ↦ inr (eqb-true x y e.0, e.1)
]

either : (b c d : Bool) → (b ≡ true) ⊎ ((c ≡ true) × (d ≡ true)) → (b || (c && d)) ≡ true
either b c d (inl e) = cc
either true c d (inr e) = refl
either false c d (inr e) = cc

pub greater-from : (x y : ℕ) (xs ys : List ℕ) → (y < x) ⊎ ((x ≡ y) × (is_greater xs ys ≡ true)) → is_greater (x ∷ xs) (y ∷ ys) ≡ true
greater-from x y xs ys (inl h) = either (nat_lt y x) (x == y) (is_greater xs ys) (inl (lt-ltb y x h))
greater-from x y xs ys (inr h) = either (nat_lt y x) (x == y) (is_greater xs ys) (inr (eq-eqb x y h.0, h.1))

pub greater-irreflexive : (xs : List ℕ) → is_greater xs xs ≡ true → ⊥
greater-irreflexive [] h = absurd (cc)
greater-irreflexive (x ∷ xs) h = elim (greater-cases x x xs xs h) [ inl lt ↦ absurd (omega arith) | inr e ↦ greater-irreflexive xs e.1 ]

pub greater-transitive : (xs ys zs : List ℕ) → is_greater xs ys ≡ true → is_greater ys zs ≡ true → is_greater xs zs ≡ true
greater-transitive [] ys zs h k = absurd (cc)
greater-transitive (x ∷ xs) [] zs h k = absurd (cc)
greater-transitive (x ∷ xs) (y ∷ ys) [] h k = refl
greater-transitive (x ∷ xs) (y ∷ ys) (z ∷ zs) h k = elim (greater-cases x y xs ys h) [
  | inl a ↦ elim (greater-cases y z ys zs k) [
    | inl b ↦ greater-from x z xs zs (inl (omega arith))
    | inr b ↦ greater-from x z xs zs (inl (omega (arith, b.0)))
  ]
  | inr a ↦ elim (greater-cases y z ys zs k) [
    | inl b ↦ greater-from x z xs zs (inl (omega (arith, a.0)))
    | inr b ↦ greater-from x z xs zs (inr (a.0 ∙ b.0, greater-transitive xs ys zs a.1 b.1))
  ]
]
