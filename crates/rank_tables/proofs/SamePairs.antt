-- A hospital's pairs in the order of its list are its pairs by number, in another order.
use Rattle.std.proofs.Common.{◌≡◌, ℕ, zero, suc, ◌≤◌, Bool, true, false, not, ◌||◌, ◌==◌, List, [], ◌∷◌, ◌++◌, length, Option, Some, None, is_some, inl, inr, refl, sym, ap, ◌∙◌, subst, arith, eq-eqb}
use Rattle.std.specs.List.{concat, filter, filter_map, cons_option}
use Rattle.std.proofs.lemmas.Bool.{cases_Bool, cases_eq, and_parts, and_from, ne_eqb, not-true, eqb-false}
use Rattle.rank_tables.specs.Numbers.{numbers_to, is_in, is_distinct}
use Rattle.rank_tables.specs.Instance.{Lists, groups_of_hospital, hospital_names, resident_names, pair_count, pair_at, pair_no, rising_pairs_of_hospital, pairs_as_listed}
use Rattle.rank_tables.specs.WellFormed.{IsWellFormed}
use Rattle.rank_tables.specs.Tables.{IsPairNo, IsOfHospital}
use Rattle.rank_tables.proofs.Below.{numbers_to-within}
use Rattle.rank_tables.proofs.PairFacts.{pair_at-acceptable, pair_no-is, rising_pairs_of_hospital-each, pairs_as_listed-each}
use Rattle.rank_tables.proofs.Ranks.{is_in-append, or_false}
use Rattle.rank_tables.proofs.ListFacts.{is_distinct-filter}
use Rattle.rank_tables.proofs.TablesMade.{in_all}
use Rattle.rank_tables.proofs.Unique.{hospital_ranked, pairs-apart, pair_no-acceptable}

same_bool : (a b : Bool) → (a ≡ true → b ≡ true) → (b ≡ true → a ≡ true) → a ≡ b
same_bool true b f g = sym (f refl)
same_bool false true f g = g refl
same_bool false false f g = refl

in_numbers_to : (n p : ℕ) → 1 ≤ p → p ≤ n → is_in p (numbers_to n) ≡ true
in_numbers_to zero p l m = absurd (omega arith)
in_numbers_to (suc n) p l m = elim (cases_eq (suc n) p) [
  | inl same ↦ is_in-append p (numbers_to n) (suc n ∷ []) ∙ ap (λ b. is_in p (numbers_to n) || (b || false)) (eq-eqb (suc n) p same) ∙ or_true (is_in p (numbers_to n))
  | inr other ↦ is_in-append p (numbers_to n) (suc n ∷ []) ∙ ap (λ b. b || is_in p (suc n ∷ [])) (in_numbers_to n p l (omega (arith, other)))
]
  where
    or_true : (b : Bool) → (b || true) ≡ true
    or_true true = refl
    or_true false = refl

in_later : (x y : ℕ) (xs : List ℕ) → (y ≡ x → ⊥) → is_in x (y ∷ xs) ≡ true → is_in x xs ≡ true
in_later x y xs other h = sym (ap (λ b. b || is_in x xs) (ne_eqb y x other)) ∙ h

in_more : (x y : ℕ) (xs : List ℕ) → is_in x xs ≡ true → is_in x (y ∷ xs) ≡ true
in_more x y xs h = elim (cases_Bool (y == x)) [
  | inl same ↦ rw same refl
  | inr other ↦ rw (other, h) refl
]

in_filter : (test : ℕ → Bool) (x : ℕ) (xs : List ℕ) → is_in x xs ≡ true → test x ≡ true → is_in x (filter test xs) ≡ true
in_filter test x [] h passes = absurd (cc)
in_filter test x (y ∷ xs) h passes = elim (cases_eq y x) [
  | inl same ↦ let kept : test y ≡ true = ap test same ∙ passes in rw (kept, eq-eqb y x same) refl
  | inr other ↦
      let rest = in_filter test x xs (in_later x y xs other h) passes in
      elim (cases_Bool (test y)) [
        | inl kept ↦ rw kept (in_more x y (filter test xs) rest)
        | inr lost ↦ rw lost rest
      ]
]

in_cons : (p : ℕ) (o : Option ℕ) (rest : List ℕ) → is_in p rest ≡ true → is_in p (cons_option o rest) ≡ true
in_cons p None rest h = h
in_cons p (Some q) rest h = in_more p q rest h

in_filter_map : (f : ℕ → Option ℕ) (x p : ℕ) (xs : List ℕ) → is_in x xs ≡ true → f x ≡ Some p → is_in p (filter_map f xs) ≡ true
in_filter_map f x p [] h e = absurd (cc)
in_filter_map f x p (y ∷ xs) h e = elim (cases_eq y x) [
  | inl same ↦ ap (λ o. is_in p (cons_option o (filter_map f xs))) (ap f same ∙ e) ∙ ap (λ b. b || is_in p (filter_map f xs)) (eq-eqb p p refl)
  | inr other ↦ in_cons p (f y) (filter_map f xs) (in_filter_map f x p xs (in_later x y xs other h) e)
]

-- the pair of the resident and the hospital of p is p
pub pair_no-of : (lists : Lists) → IsWellFormed lists → (p : ℕ) → IsPairNo lists p → pair_no lists (pair_at lists p).resident (pair_at lists p).hospital ≡ Some p
pair_no-of lists w p number =
    let r = (pair_at lists p).resident in
    let h = (pair_at lists p).hospital in
    let known = pair_at-acceptable lists p number in
    by (pair_no lists r h) refl (pair_no-acceptable lists r h ∙ and_from (resident_names lists r h) (hospital_names lists h r) known.names_hospital known.names_resident)
  where
    by : (o : Option ℕ) → pair_no lists (pair_at lists p).resident (pair_at lists p).hospital ≡ o →
        is_some (pair_no lists (pair_at lists p).resident (pair_at lists p).hospital) ≡ true →
        pair_no lists (pair_at lists p).resident (pair_at lists p).hospital ≡ Some p
    by None e some = absurd (cc (some, ap is_some e))
    by (Some q) e some =
        let is = pair_no-is lists (pair_at lists p).resident (pair_at lists p).hospital q e in
        e ∙ ap (λ x. Some x) (pairs-apart lists w q p is.0 number is.1 is.2)

pub listed-same : (lists : Lists) → IsWellFormed lists → (h p : ℕ) → is_in p (pairs_as_listed lists h) ≡ is_in p (rising_pairs_of_hospital lists h)
listed-same lists w h p =
    let of_hospital : ℕ → Bool = λ p. (pair_at lists p).hospital == h in
    same_bool (is_in p (pairs_as_listed lists h)) (is_in p (rising_pairs_of_hospital lists h))
    (λ listed.
    let known = in_all (IsOfHospital lists h) (pairs_as_listed lists h) p (pairs_as_listed-each lists h) listed in
    in_filter of_hospital p (numbers_to (pair_count lists)) (in_numbers_to (pair_count lists) p known.number.0 known.number.1) (eq-eqb _ _ known.hospital))
    (λ numbered.
    let known = in_all (IsOfHospital lists h) (rising_pairs_of_hospital lists h) p (rising_pairs_of_hospital-each lists h) numbered in
    let r = (pair_at lists p).resident in
    let named : hospital_names lists h r ≡ true = subst (λ (k : ℕ). hospital_names lists k r ≡ true) known.hospital (pair_at-acceptable lists p known.number).names_resident in
    let found : pair_no lists r h ≡ Some p = ap (pair_no lists r) (sym known.hospital) ∙ pair_no-of lists w p known.number in
    in_filter_map (λ r. pair_no lists r h) r p (concat (groups_of_hospital lists h)) named found)

is_distinct-push : (xs : List ℕ) (x : ℕ) → is_distinct xs ≡ true → is_in x xs ≡ false → is_distinct (xs ++ x ∷ []) ≡ true
is_distinct-push [] x h absent = refl
is_distinct-push (y ∷ xs) x h absent =
    let both = and_parts (not (is_in y xs)) (is_distinct xs) h in
    let parts = or_false (y == x) (is_in x xs) absent in
    let apart : (x == y) ≡ false = ne_eqb x y (λ e. eqb-false y x parts.0 (sym e)) in
    let alone : is_in y (xs ++ x ∷ []) ≡ false =
    is_in-append y xs (x ∷ []) ∙ ap (λ b. b || ((x == y) || false)) (not-true _ both.0) ∙ ap (λ b. b || false) apart in
    and_from (not (is_in y (xs ++ x ∷ []))) (is_distinct (xs ++ x ∷ [])) (ap not alone) (is_distinct-push xs x both.1 parts.1)

-- no number stands twice in 1 to n
pub is_distinct-numbers_to : (n : ℕ) → is_distinct (numbers_to n) ≡ true
is_distinct-numbers_to zero = refl
is_distinct-numbers_to (suc n) =
    let absent : is_in (suc n) (numbers_to n) ≡ false = elim (cases_Bool (is_in (suc n) (numbers_to n))) [
      | inl here ↦ let within = in_all (λ p. (1 ≤ p) × (p ≤ n)) (numbers_to n) (suc n) (numbers_to-within n n (omega arith)) here in absurd (omega (arith, within.1))
      | inr away ↦ away
    ] in
    is_distinct-push (numbers_to n) (suc n) (is_distinct-numbers_to n) absent

from_filter_map : (f : ℕ → Option ℕ) (p : ℕ) (xs : List ℕ) → is_in p (filter_map f xs) ≡ true → (x : ℕ) × (is_in x xs ≡ true) × (f x ≡ Some p)
from_filter_map f p [] h = absurd (cc)
from_filter_map f p (x ∷ xs) h = by (f x) refl h (from_filter_map f p xs)
  where
    by : (o : Option ℕ) → f x ≡ o → is_in p (cons_option o (filter_map f xs)) ≡ true →
        (is_in p (filter_map f xs) ≡ true → (y : ℕ) × (is_in y xs ≡ true) × (f y ≡ Some p)) → (y : ℕ) × (is_in y (x ∷ xs) ≡ true) × (f y ≡ Some p)
    by None e h rest = let found = rest h in (found.0, in_more found.0 x xs found.1, found.2)
    by (Some q) e h rest = elim (cases_eq q p) [
      | inl same ↦ (x, ap (λ b. b || is_in x xs) (eq-eqb x x refl), e ∙ ap (λ z. Some z) same)
      | inr other ↦ let found = rest (in_later p q (filter_map f xs) other h) in (found.0, in_more found.0 x xs found.1, found.2)
    ]

distinct_one : (lists : Lists) (h r : ℕ) (rs : List ℕ) (o : Option ℕ) → pair_no lists r h ≡ o → is_in r rs ≡ false →
    is_distinct (filter_map (λ r. pair_no lists r h) rs) ≡ true → is_distinct (cons_option o (filter_map (λ r. pair_no lists r h) rs)) ≡ true
distinct_one lists h r rs None e absent rest = rest
distinct_one lists h r rs (Some p) e absent rest =
    let alone : is_in p (filter_map (λ r. pair_no lists r h) rs) ≡ false = elim (cases_Bool (is_in p (filter_map (λ r. pair_no lists r h) rs))) [
      | inl here ↦
          let other = from_filter_map (λ r. pair_no lists r h) p rs here in
          let same : other.0 ≡ r = sym ((pair_no-is lists other.0 h p other.2).1) ∙ (pair_no-is lists r h p e).1 in
          absurd (cc (absent, other.1, ap (λ x. is_in x rs) same))
      | inr away ↦ away
    ] in
    and_from (not (is_in p (filter_map (λ r. pair_no lists r h) rs))) (is_distinct (filter_map (λ r. pair_no lists r h) rs)) (ap not alone) rest

distinct_listed : (lists : Lists) (h : ℕ) (rs : List ℕ) → is_distinct rs ≡ true → is_distinct (filter_map (λ r. pair_no lists r h) rs) ≡ true
distinct_listed lists h [] d = refl
distinct_listed lists h (r ∷ rs) d =
    let both = and_parts (not (is_in r rs)) (is_distinct rs) d in
    distinct_one lists h r rs (pair_no lists r h) refl (not-true _ both.0) (distinct_listed lists h rs both.1)

pub listed-distinct : (lists : Lists) → IsWellFormed lists → (h : ℕ) → is_distinct (pairs_as_listed lists h) ≡ true
listed-distinct lists w h = distinct_listed lists h (concat (groups_of_hospital lists h)) ((hospital_ranked lists w h).distinct)

pub filter-le : (test : ℕ → Bool) (xs : List ℕ) → length (filter test xs) ≤ length xs
filter-le test [] = omega arith
filter-le test (x ∷ xs) = elim (cases_Bool (test x)) [
  | inl kept ↦ rw kept (omega (arith, filter-le test xs))
  | inr lost ↦ rw lost (omega (arith, filter-le test xs))
]

filter-less : (x : ℕ) (xs : List ℕ) → is_in x xs ≡ true → suc (length (filter (λ y. not (y == x)) xs)) ≤ length xs
filter-less x [] h = absurd (cc)
filter-less x (y ∷ xs) h = elim (cases_eq y x) [
  | inl same ↦ rw (eq-eqb y x same) (omega (arith, filter-le (λ y. not (y == x)) xs))
  | inr other ↦ let rest = filter-less x xs (in_later x y xs other h) in rw (ne_eqb y x other) (omega (arith, rest))
]

-- distinct numbers that all stand in another list are no more than it has
length-within : (xs ys : List ℕ) → is_distinct xs ≡ true → ((x : ℕ) → is_in x xs ≡ true → is_in x ys ≡ true) → length xs ≤ length ys
length-within [] ys d within = omega arith
length-within (x ∷ xs) ys d within =
    let both = and_parts (not (is_in x xs)) (is_distinct xs) d in
    let other : ℕ → Bool = λ y. not (y == x) in
    let rest = length-within xs (filter other ys) both.1 (λ y here.
    let apart : (y == x) ≡ false = ne_eqb y x (λ e. elim (absurd_of (is_in x xs) (not-true _ both.0) (sym (ap (λ z. is_in z xs) e) ∙ here)) [ ]) in
    in_filter other y ys (within y (in_more y x xs here)) (ap not apart)) in
    let less = filter-less x ys (within x (ap (λ b. b || is_in x xs) (eq-eqb x x refl))) in
    omega (arith, rest, less)
  where
    absurd_of : (b : Bool) → b ≡ false → b ≡ true → ⊥
    absurd_of b f t = absurd (cc)

pub listed-length : (lists : Lists) → IsWellFormed lists → (h : ℕ) → length (pairs_as_listed lists h) ≡ length (rising_pairs_of_hospital lists h)
listed-length lists w h =
    let of_hospital : ℕ → Bool = λ p. (pair_at lists p).hospital == h in
    let numbered : is_distinct (rising_pairs_of_hospital lists h) ≡ true = is_distinct-filter of_hospital (numbers_to (pair_count lists)) (is_distinct-numbers_to (pair_count lists)) in
    let one = length-within (pairs_as_listed lists h) (rising_pairs_of_hospital lists h) (listed-distinct lists w h) (λ p here. sym (listed-same lists w h p) ∙ here) in
    let two = length-within (rising_pairs_of_hospital lists h) (pairs_as_listed lists h) numbered (λ p here. listed-same lists w h p ∙ here) in
    omega (arith, one, two)
