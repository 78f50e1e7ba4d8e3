-- What follows from a list being one of groups of numbers, none of them twice.
use Rattle.std.proofs.Common.{◌≡◌, ℕ, zero, suc, ◌<◌, ◌≤◌, nat_lt, Bool, true, false, not, ◌&&◌, ◌==◌, List, [], ◌∷◌, length, get_or, inl, inr, refl, sym, ap, subst, arith, eq-eqb, length-append}
use Rattle.std.specs.List.{concat, list_all, filter, All}
use Rattle.std.proofs.lemmas.List.Elements.{All-nil, All-cons, All-head, All-filter, filter_passes}
use Rattle.std.proofs.lemmas.Bool.{cases_Bool, cases_eq, and_parts, ltb-true, not-true, eqb-false, ne_eqb}
use Rattle.std.proofs.lemmas.Option.{slice_get-get_or}
use Rattle.rank_tables.specs.declared.draft.DraftResident.{DraftResident}
use Rattle.rank_tables.specs.declared.draft.DraftHospital.{DraftHospital}
use Rattle.rank_tables.specs.Building.{resident_groups, hospital_groups}
use Rattle.rank_tables.specs.Numbers.{is_in, is_distinct}
use Rattle.rank_tables.specs.WellFormed.{is_group, is_list}
use Rattle.rank_tables.proofs.Ranks.{or_false}

pub list_all-each : {A : Type 0} (test : A → Bool) (xs : List A) → list_all test xs ≡ true → All (λ x. test x ≡ true) xs
list_all-each test [] h = All-nil (λ x. test x ≡ true)
list_all-each test (x ∷ xs) h = let both = and_parts _ _ h in All-cons (λ x. test x ≡ true) x xs both.0 (list_all-each test xs both.1)

is_in-filter : (test : ℕ → Bool) (x : ℕ) (xs : List ℕ) → is_in x xs ≡ false → is_in x (filter test xs) ≡ false
is_in-filter test x [] h = refl
is_in-filter test x (y ∷ xs) h =
    let parts = or_false (y == x) (is_in x xs) h in
    elim (cases_Bool (test y)) [
      | inl kept ↦ rw (kept, parts.0, is_in-filter test x xs parts.1) refl
      | inr lost ↦ rw (lost, is_in-filter test x xs parts.1) refl
    ]

pub is_distinct-filter : (test : ℕ → Bool) (xs : List ℕ) → is_distinct xs ≡ true → is_distinct (filter test xs) ≡ true
is_distinct-filter test [] h = refl
is_distinct-filter test (x ∷ xs) h =
    let both = and_parts _ _ h in
    let rest = is_distinct-filter test xs both.1 in
    elim (cases_Bool (test x)) [
      | inl kept ↦ rw (kept, is_in-filter test x xs (not-true _ both.0), rest) refl
      | inr lost ↦ rw lost rest
    ]

-- xs without x
without : ℕ → List ℕ → List ℕ
without x xs = filter (λ y. not (y == x)) xs

without-absent : (x : ℕ) (xs : List ℕ) → is_in x xs ≡ false → length (without x xs) ≡ length xs
unfolding without
without-absent x [] h = refl
without-absent x (y ∷ xs) h =
    let parts = or_false (y == x) (is_in x xs) h in
    rw parts.0 (ap suc (without-absent x xs parts.1))

without-one : (x : ℕ) (xs : List ℕ) → is_distinct xs ≡ true → length xs ≤ suc (length (without x xs))
unfolding without
without-one x [] h = omega arith
without-one x (y ∷ xs) h =
    let both = and_parts _ _ h in
    elim (cases_eq y x) [
      | inl same ↦
          let absent = without-absent x xs (subst (λ (z : ℕ). is_in z xs ≡ false) same (not-true _ both.0)) in
          rw (eq-eqb y x same) (omega (arith, absent))
      | inr other ↦ let rest = without-one x xs both.1 in rw (ne_eqb y x other) (omega (arith, rest))
    ]

without-below : (n : ℕ) (xs : List ℕ) → All (λ x. x < suc n) xs → All (λ x. x < n) (without n xs)
unfolding without
without-below n xs h k d l =
    let test : ℕ → Bool = λ y. not (y == n) in
    let other = eqb-false _ _ (not-true _ (filter_passes test xs k d l)) in
    let under = All-filter test (λ x. x < suc n) xs h k d l in
    omega (arith, other, under)

-- a list of numbers below n in which none stands twice is at most n long
pub length-distinct : (n : ℕ) (xs : List ℕ) → All (λ x. x < n) xs → is_distinct xs ≡ true → length xs ≤ n
unfolding without
length-distinct zero [] under distinct = omega arith
length-distinct zero (x ∷ xs) under distinct = let first : x < 0 = All-head (λ x. x < 0) x xs under in absurd (omega arith)
length-distinct (suc n) xs under distinct =
    let rest = length-distinct n (without n xs) (without-below n xs under) (is_distinct-filter (λ y. not (y == n)) xs distinct) in
    omega (arith, without-one n xs distinct, rest)

-- no group is empty, so there are at most as many groups as numbers
pub length-groups : (groups : List (List ℕ)) → list_all is_group groups ≡ true → length groups ≤ length (concat groups)
length-groups [] h = omega arith
length-groups ([] ∷ groups) h = absurd (cc)
length-groups ((x ∷ group) ∷ groups) h =
    let rest = length-groups groups h in
    omega (arith, length-append group (concat groups))

pub record IsRanked (n : ℕ) (groups : List (List ℕ)) : Type 0 where
  pub below : All (λ x. x < n) (concat groups)
  pub distinct : is_distinct (concat groups) ≡ true
  pub few : length (concat groups) ≤ n
  pub few_groups : length groups ≤ n

pub is_list-ranked : (n : ℕ) (groups : List (List ℕ)) → is_list n groups ≡ true → IsRanked n groups
is_list-ranked n groups h =
    let both = and_parts (list_all is_group groups && list_all (λ x. nat_lt x n) (concat groups)) (is_distinct (concat groups)) h in
    let first = and_parts (list_all is_group groups) (list_all (λ x. nat_lt x n) (concat groups)) both.0 in
    let each = list_all-each (λ x. nat_lt x n) (concat groups) first.1 in
    let under : All (λ x. x < n) (concat groups) = λ k d l. ltb-true _ _ (each k d l) in
    let few = length-distinct n (concat groups) under both.1 in
    record { below = under; distinct = both.1; few = few; few_groups = omega (arith, length-groups groups first.0, few) }

pub resident_list-ranked : (n : ℕ) (residents : List DraftResident) (r : ℕ) (resident : DraftResident) →
    list_all (λ resident. is_list n resident.groups) residents ≡ true → r < length residents → resident ≡ get_or residents r resident →
    IsRanked n resident.groups
resident_list-ranked n residents r resident h l read =
    is_list-ranked n resident.groups (subst (λ (x : DraftResident). is_list n x.groups ≡ true) (sym read)
    (list_all-each (λ (x : DraftResident). is_list n x.groups) residents h r resident l))

pub hospital_list-ranked : (n : ℕ) (hospitals : List DraftHospital) (h : ℕ) (hospital : DraftHospital) →
    list_all (λ hospital. is_list n hospital.groups) hospitals ≡ true → h < length hospitals → hospital ≡ get_or hospitals h hospital →
    IsRanked n hospital.groups
hospital_list-ranked n hospitals h hospital all l read =
    is_list-ranked n hospital.groups (subst (λ (x : DraftHospital). is_list n x.groups ≡ true) (sym read)
    (list_all-each (λ (x : DraftHospital). is_list n x.groups) hospitals all h hospital l))

pub resident_groups-read : (residents : List DraftResident) (r : ℕ) (resident : DraftResident) → r < length residents →
    resident ≡ get_or residents r resident → resident_groups residents r ≡ resident.groups
resident_groups-read residents r resident l read =
    rw (slice_get-get_or residents r resident l) (ap (λ (x : DraftResident). x.groups) (sym read))

pub hospital_groups-read : (hospitals : List DraftHospital) (h : ℕ) (hospital : DraftHospital) → h < length hospitals →
    hospital ≡ get_or hospitals h hospital → hospital_groups hospitals h ≡ hospital.groups
hospital_groups-read hospitals h hospital l read =
    rw (slice_get-get_or hospitals h hospital l) (ap (λ (x : DraftHospital). x.groups) (sym read))
