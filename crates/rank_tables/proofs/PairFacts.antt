-- What holds of the pairs of every instance, and of its ranks.
use Rattle.std.proofs.Common.{◌≡◌, ℕ, zero, suc, ◌+◌, ◌-◌, ◌<◌, ◌≤◌, Bool, true, ◌&&◌, ◌==◌, List, [], ◌∷◌, ◌++◌, length, get_or, Option, Some, None, option_map, unwrap_or, inl, inr, refl, sym, ap, ◌∙◌, subst, arith, add-one, eq-eqb}
use Rattle.std.specs.List.{find, filter, filter_map, flat_map, position, concat, cons_option, All}
use Rattle.std.proofs.lemmas.List.Elements.{All-nil, All-cons, All-append, All-map, All-filter, filter_passes}
use Rattle.std.proofs.lemmas.List.Concat.{flat_map-append}
use Rattle.std.proofs.lemmas.List.Folds.{list_any-append, list_any_at}
use Rattle.std.proofs.lemmas.List.Quantifiers.{position-Some}
use Rattle.std.proofs.lemmas.Option.{slice_get_past, unwrap_or-slice_get}
use Rattle.std.proofs.lemmas.Bool.{cases_lt, cases_Bool, eqb-true, and_parts}
use Rattle.rank_tables.specs.Numbers.{below, numbers_to, is_in}
use Rattle.rank_tables.specs.Instance.{Lists, Pair, no_pair, groups_of_resident, groups_of_hospital, resident_names, hospital_names, pairs_from, pairs, pair_count, pair_at, pair_no, rank_in, rank_by_resident, rank_by_hospital, pairs_of_resident, rising_pairs_of_hospital, pairs_as_listed}
use Rattle.rank_tables.specs.Tables.{IsPairNo, IsOfResident, IsOfHospital}
use Rattle.rank_tables.proofs.Below.{numbers_to-within, find-numbers_to, find-filter}

-- A declared resident and a declared hospital that name each other.
pub record IsAcceptable (lists : Lists) (q : Pair) : Type 0 where
  pub resident_declared : q.resident < length lists.residents
  pub hospital_declared : q.hospital < length lists.hospitals
  pub names_hospital : resident_names lists q.resident q.hospital ≡ true
  pub names_resident : hospital_names lists q.hospital q.resident ≡ true

pub hospital_names-declared : (lists : Lists) (h r : ℕ) → hospital_names lists h r ≡ true → h < length lists.hospitals
hospital_names-declared lists h r e = elim (cases_lt h (length lists.hospitals)) [
  | inl declared ↦ declared
  | inr past ↦ absurd (cc (e, ap (λ o. is_in r (concat (unwrap_or (option_map (λ hospital. hospital.groups) o) []))) (slice_get_past lists.hospitals h past)))
]

-- each number of a list stands in it
pub All-is_in : (xs : List ℕ) → All (λ x. is_in x xs ≡ true) xs
All-is_in xs k d l = list_any_at (λ y. y == get_or xs k d) xs k d l (eq-eqb _ _ refl)

all_from : (lists : Lists) (r : ℕ) → r < length lists.residents → All (IsAcceptable lists) (pairs_from lists r)
all_from lists r l =
    let xs = concat (groups_of_resident lists r) in
    let test : ℕ → Bool = λ h. hospital_names lists h r in
    All-map (IsAcceptable lists) (λ h. record { resident = r; hospital = h }) (filter test xs) (λ k d s. record {
      resident_declared = l;
      hospital_declared = hospital_names-declared lists _ r (filter_passes test xs k d s);
      names_hospital = All-filter test (λ x. is_in x xs ≡ true) xs (All-is_in xs) k d s;
      names_resident = filter_passes test xs k d s;
    })

all_to : (lists : Lists) (n : ℕ) → n ≤ length lists.residents → All (IsAcceptable lists) (flat_map (pairs_from lists) (below n))
all_to lists zero h = All-nil (IsAcceptable lists)
all_to lists (suc n) h =
    rw (flat_map-append (pairs_from lists) (below n) (n ∷ []))
    (All-append (IsAcceptable lists) (flat_map (pairs_from lists) (below n)) (pairs_from lists n ++ []) (all_to lists n (omega arith))
    (All-append (IsAcceptable lists) (pairs_from lists n) [] (all_from lists n (omega arith)) (All-nil (IsAcceptable lists))))

pub pair_at-place : (lists : Lists) (k : ℕ) → pair_at lists (suc k) ≡ get_or (pairs lists) k no_pair
pair_at-place lists k = unwrap_or-slice_get (pairs lists) (suc k - 1) no_pair ∙ ap (λ i. get_or (pairs lists) i no_pair) (omega arith)

-- each pair is of a declared resident and a declared hospital, which name each other
pub pair_at-acceptable : (lists : Lists) (p : ℕ) → IsPairNo lists p → IsAcceptable lists (pair_at lists p)
pair_at-acceptable lists p h =
    subst (IsAcceptable lists) (sym (unwrap_or-slice_get (pairs lists) (p - 1) no_pair))
    (all_to lists (length lists.residents) (omega arith) (p - 1) no_pair (omega (arith, h.0, h.1)))

-- what stands in a list has a rank there, from 1 to the count of groups
pub rank_in-some : (groups : List (List ℕ)) (x : ℕ) → is_in x (concat groups) ≡ true →
    (rank : ℕ) × (rank_in groups x ≡ Some rank) × (1 ≤ rank) × (rank ≤ length groups)
rank_in-some [] x h = absurd (cc)
rank_in-some (group ∷ groups) x h = elim (cases_Bool (is_in x group)) [
  | inl here ↦ (1, rw here refl, omega arith, omega arith)
  | inr there ↦
      let later : is_in x (concat groups) ≡ true = rw (list_any-append (λ y. y == x) group (concat groups), there) at h in
      let rest = rank_in-some groups x later in
      (rest.0 + 1, rw (there, rest.1) refl, omega arith, omega (arith, rest.3))
]

rank_of : (groups : List (List ℕ)) (x : ℕ) → is_in x (concat groups) ≡ true → 1 ≤ unwrap_or (rank_in groups x) 0
rank_of groups x h = let found = rank_in-some groups x h in rw (found.1) (found.2)

pub rank_by_resident-some : (lists : Lists) (p : ℕ) → IsPairNo lists p → 1 ≤ rank_by_resident lists p
rank_by_resident-some lists p h = rank_of (groups_of_resident lists (pair_at lists p).resident) (pair_at lists p).hospital (pair_at-acceptable lists p h).names_hospital

pub rank_by_hospital-some : (lists : Lists) (p : ℕ) → IsPairNo lists p → 1 ≤ rank_by_hospital lists p
rank_by_hospital-some lists p h = rank_of (groups_of_hospital lists (pair_at lists p).hospital) (pair_at lists p).resident (pair_at-acceptable lists p h).names_resident

option_map-Some : {A B : Type 0} (f : A → B) (o : Option A) (y : B) → option_map f o ≡ Some y → (x : A) × (o ≡ Some x) × (f x ≡ y)
option_map-Some f None y e = absurd (cc)
option_map-Some f (Some x) y e = (x, refl, cc)

-- the number that a resident and a hospital have is that of their pair
pub pair_no-is : (lists : Lists) (r h p : ℕ) → pair_no lists r h ≡ Some p →
    IsPairNo lists p × ((pair_at lists p).resident ≡ r) × ((pair_at lists p).hospital ≡ h)
pair_no-is lists r h p e =
    let test : Pair → Bool = λ q. q.resident == r && q.hospital == h in
    let found = option_map-Some (λ place. place + 1) (position test (pairs lists)) p e in
    let there = position-Some test (pairs lists) found.0 no_pair found.1 in
    let at_place : pair_at lists p ≡ get_or (pairs lists) found.0 no_pair = ap (pair_at lists) (sym found.2 ∙ add-one _) ∙ pair_at-place lists found.0 in
    let both = and_parts _ _ there.1 in (
      (omega (arith, found.2), omega (arith, found.2, there.0)),
      ap (λ q. q.resident) at_place ∙ eqb-true _ _ both.0,
      ap (λ q. q.hospital) at_place ∙ eqb-true _ _ both.1,
    )

-- the number of a resident's pair with a hospital is the first among its pairs
pub pair_no-find : (lists : Lists) (r h : ℕ) → pair_no lists r h ≡ find (λ p. (pair_at lists p).hospital == h) (pairs_of_resident lists r)
pair_no-find lists r h =
    find-numbers_to (λ (q : Pair). q.resident == r && q.hospital == h) (pair_at lists) (pairs lists) no_pair (λ k l. pair_at-place lists k)
    ∙ sym (find-filter (λ p. (pair_at lists p).resident == r) (λ p. (pair_at lists p).hospital == h) (numbers_to (pair_count lists)))

pub pairs_of_resident-each : (lists : Lists) (r : ℕ) → All (IsOfResident lists r) (pairs_of_resident lists r)
pairs_of_resident-each lists r k d l =
    let test : ℕ → Bool = λ p. (pair_at lists p).resident == r in
    let all = numbers_to (pair_count lists) in
    record {
      number = All-filter test (IsPairNo lists) all (numbers_to-within (pair_count lists) (pair_count lists) (omega arith)) k d l;
      resident = eqb-true _ _ (filter_passes test all k d l);
    }

pub rising_pairs_of_hospital-each : (lists : Lists) (h : ℕ) → All (IsOfHospital lists h) (rising_pairs_of_hospital lists h)
rising_pairs_of_hospital-each lists h k d l =
    let test : ℕ → Bool = λ p. (pair_at lists p).hospital == h in
    let all = numbers_to (pair_count lists) in
    record {
      number = All-filter test (IsPairNo lists) all (numbers_to-within (pair_count lists) (pair_count lists) (omega arith)) k d l;
      hospital = eqb-true _ _ (filter_passes test all k d l);
    }

listed_more : (lists : Lists) (h r : ℕ) (o : Option ℕ) (rest : List ℕ) → pair_no lists r h ≡ o → All (IsOfHospital lists h) rest →
    All (IsOfHospital lists h) (cons_option o rest)
listed_more lists h r None rest e each = each
listed_more lists h r (Some p) rest e each =
    let is = pair_no-is lists r h p e in
    All-cons (IsOfHospital lists h) p rest (record { number = is.0; hospital = is.2 }) each

listed-each : (lists : Lists) (h : ℕ) (rs : List ℕ) → All (IsOfHospital lists h) (filter_map (λ r. pair_no lists r h) rs)
listed-each lists h [] = All-nil (IsOfHospital lists h)
listed-each lists h (r ∷ rs) = listed_more lists h r (pair_no lists r h) (filter_map (λ r. pair_no lists r h) rs) refl (listed-each lists h rs)

pub pairs_as_listed-each : (lists : Lists) (h : ℕ) → All (IsOfHospital lists h) (pairs_as_listed lists h)
pairs_as_listed-each lists h = listed-each lists h (concat (groups_of_hospital lists h))
