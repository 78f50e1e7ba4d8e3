-- Along a list ranks rise, and so they do along the pairs of a resident and of a hospital.
use Rattle.std.proofs.Common.{◌≡◌, ℕ, zero, suc, ◌+◌, ◌≤◌, ◌<◌, Bool, true, ◌==◌, List, [], ◌∷◌, ◌++◌, length, map, filter, Option, Some, None, refl, sym, ap, ◌∙◌, subst, inl, inr, arith, eq-eqb}
use Rattle.std.specs.List.{concat, filter_map, flat_map, cons_option}
use Rattle.std.proofs.lemmas.Bool.{cases_Bool, cases_eq, ne_eqb}
use Rattle.std.proofs.lemmas.List.{length-map, append-nil, get_or_default, same_lists}
use Rattle.std.proofs.lemmas.List.Concat.{flat_map-append}
use Rattle.std.proofs.lemmas.List.Elements.{filter-append}
use Rattle.rank_tables.specs.declared.marks.Mark.{Mark}
use Rattle.rank_tables.specs.declared.terms.Ranked.{Ranked}
use Rattle.rank_tables.specs.Numbers.{below, numbers_to, is_distinct}
use Rattle.rank_tables.specs.Instance.{Lists, Pair, no_pair, groups_of_resident, groups_of_hospital, hospital_names, pairs_from, pairs, pair_at, pair_count, pair_no, pairs_of_resident, pairs_as_listed, rank_by_resident, rank_by_hospital}
use Rattle.rank_tables.specs.WellFormed.{IsWellFormed}
use Rattle.rank_tables.specs.Building.{mark_of, rank_or_0}
use Rattle.rank_tables.specs.Counting.{IsRising}
use Rattle.rank_tables.proofs.Below.{length-numbers_to, at_numbers_to}
use Rattle.rank_tables.proofs.PairFacts.{pair_at-place, pair_no-is}
use Rattle.rank_tables.proofs.Ranks.{marks_from, marks_from-all}
use Rattle.rank_tables.proofs.Unique.{resident_ranked, hospital_ranked}

-- values that rise along a list from this one on
abbrev pub RisesBy : {A : Type 0} → (A → ℕ) → ℕ → List A → Type 0
RisesBy v n [] = Unit {0}
RisesBy v n (x ∷ xs) = (n ≤ v x) × RisesBy v (v x) xs

from_less : {A : Type 0} (v : A → ℕ) (n m : ℕ) (xs : List A) → n ≤ m → RisesBy v m xs → RisesBy v n xs
from_less v n m [] l h = tt
from_less v n m (x ∷ xs) l h = (omega (arith, h.0), h.1)

of_map : {A B : Type 0} (v : B → ℕ) (f : A → B) (n : ℕ) (xs : List A) → RisesBy v n (map f xs) → RisesBy (λ x. v (f x)) n xs
of_map v f n [] h = tt
of_map v f n (x ∷ xs) h = (h.0, of_map v f (v (f x)) xs h.1)

to_map : {A B : Type 0} (v : B → ℕ) (f : A → B) (n : ℕ) (xs : List A) → RisesBy (λ x. v (f x)) n xs → RisesBy v n (map f xs)
to_map v f n [] h = tt
to_map v f n (x ∷ xs) h = (h.0, to_map v f (v (f x)) xs h.1)

pub IsRising-map : (f : ℕ → Ranked) (n : ℕ) (xs : List ℕ) → RisesBy (λ x. (f x).rank) n xs → IsRising n (map f xs)
IsRising-map f n [] h = tt
IsRising-map f n (x ∷ xs) h = (h.0, IsRising-map f ((f x).rank) xs h.1)

to_filter : {A : Type 0} (v : A → ℕ) (test : A → Bool) (n : ℕ) (xs : List A) → RisesBy v n xs → RisesBy v n (filter test xs)
to_filter v test n [] h = tt
to_filter v test n (x ∷ xs) h = elim (cases_Bool (test x)) [
  | inl kept ↦ rw kept (h.0, to_filter v test (v x) xs h.1)
  | inr lost ↦ rw lost (from_less v n (v x) (filter test xs) h.0 (to_filter v test (v x) xs h.1))
]

to_filter_map : (f : ℕ → Option ℕ) (v u : ℕ → ℕ) → ((x p : ℕ) → f x ≡ Some p → u p ≡ v x) → (n : ℕ) (xs : List ℕ) → RisesBy v n xs → RisesBy u n (filter_map f xs)
to_filter_map f v u e n [] h = tt
to_filter_map f v u e n (x ∷ xs) h = by (f x) refl (to_filter_map f v u e (v x) xs h.1)
  where
    by : (o : Option ℕ) → f x ≡ o → RisesBy u (v x) (filter_map f xs) → RisesBy u n (cons_option o (filter_map f xs))
    by None is rest = from_less u n (v x) (filter_map f xs) h.0 rest
    by (Some p) is rest =
        let same : u p ≡ v x = e x p is in
        (subst (λ (m : ℕ). n ≤ m) (sym same) h.0, subst (λ (m : ℕ). RisesBy u m (filter_map f xs)) (sym same) rest)

-- ---- the list of one

group_rises : (rank n : ℕ) (group : List ℕ) (rest : List Mark) → n ≤ rank → RisesBy (λ (m : Mark). m.value) rank rest →
    RisesBy (λ (m : Mark). m.value) n (map (λ x. mark_of x rank) group ++ rest)
group_rises rank n [] rest l h = from_less (λ (m : Mark). m.value) n rank rest l h
group_rises rank n (x ∷ group) rest l h = (l, group_rises rank rank group rest (omega arith) h)

marks_rise : (rank : ℕ) (groups : List (List ℕ)) → RisesBy (λ (m : Mark). m.value) rank (marks_from rank groups)
marks_rise rank [] = tt
marks_rise rank (group ∷ groups) =
    group_rises rank rank group (marks_from (rank + 1) groups) (omega arith) (from_less (λ (m : Mark). m.value) rank (rank + 1) (marks_from (rank + 1) groups) (omega arith) (marks_rise (rank + 1) groups))

list_rises : (groups : List (List ℕ)) → is_distinct (concat groups) ≡ true → RisesBy (rank_or_0 groups) 0 (concat groups)
list_rises groups d =
    from_less (rank_or_0 groups) 0 1 (concat groups) (omega arith)
    (of_map (λ (m : Mark). m.value) (λ x. mark_of x (rank_or_0 groups x)) 1 (concat groups) (subst (RisesBy (λ (m : Mark). m.value) 1) (marks_from-all groups d) (marks_rise 1 groups)))

-- ---- the pairs of a hospital

pub hospital_rises : (lists : Lists) → IsWellFormed lists → (h : ℕ) → RisesBy (rank_by_hospital lists) 0 (pairs_as_listed lists h)
hospital_rises lists w h =
    let groups = groups_of_hospital lists h in
    to_filter_map (λ r. pair_no lists r h) (rank_or_0 groups) (rank_by_hospital lists)
    (λ r p e. let is = pair_no-is lists r h p e in
    ap (λ k. rank_or_0 (groups_of_hospital lists k) (pair_at lists p).resident) is.2 ∙ ap (rank_or_0 groups) is.1)
    0 (concat groups) (list_rises groups ((hospital_ranked lists w h).distinct))

-- ---- the pairs of a resident

made : ℕ → List ℕ → List Pair
made r xs = map (λ h. record { resident = r; hospital = h }) xs

made_own : (r : ℕ) (xs : List ℕ) → filter (λ (q : Pair). q.resident == r) (made r xs) ≡ made r xs
unfolding made
made_own r [] = refl
made_own r (x ∷ xs) = rw (eq-eqb r r refl) (ap (λ qs. record { resident = r; hospital = x } ∷ qs) (made_own r xs))

made_other : (k r : ℕ) (xs : List ℕ) → (k ≡ r → ⊥) → filter (λ (q : Pair). q.resident == r) (made k xs) ≡ []
unfolding made
made_other k r [] other = refl
made_other k r (x ∷ xs) other = rw (ne_eqb k r other) (made_other k r xs other)

first_pairs : Lists → ℕ → ℕ → List Pair
first_pairs lists r n = filter (λ (q : Pair). q.resident == r) (flat_map (pairs_from lists) (below n))

first_pairs-suc : (lists : Lists) (r n : ℕ) → first_pairs lists r (suc n) ≡ first_pairs lists r n ++ filter (λ (q : Pair). q.resident == r) (pairs_from lists n)
unfolding first_pairs
first_pairs-suc lists r n =
    ap (filter (λ (q : Pair). q.resident == r)) (flat_map-append (pairs_from lists) (below n) (n ∷ []) ∙ ap (λ qs. flat_map (pairs_from lists) (below n) ++ qs) (append-nil (pairs_from lists n)))
    ∙ filter-append (λ (q : Pair). q.resident == r) (flat_map (pairs_from lists) (below n)) (pairs_from lists n)

first_pairs-before : (lists : Lists) (r n : ℕ) → n ≤ r → first_pairs lists r n ≡ []
unfolding first_pairs made
first_pairs-before lists r zero l = refl
first_pairs-before lists r (suc n) l =
    first_pairs-suc lists r n ∙ ap (λ qs. qs ++ filter (λ (q : Pair). q.resident == r) (pairs_from lists n)) (first_pairs-before lists r n (omega arith))
    ∙ made_other n r (filter (λ h. hospital_names lists h n) (concat (groups_of_resident lists n))) (omega arith)

first_pairs-own : (lists : Lists) (r n : ℕ) → r < n → first_pairs lists r n ≡ pairs_from lists r
unfolding first_pairs made
first_pairs-own lists r zero l = absurd (omega arith)
first_pairs-own lists r (suc n) l = elim (cases_eq n r) [
  | inl same ↦
      first_pairs-suc lists r n ∙ ap (λ qs. qs ++ filter (λ (q : Pair). q.resident == r) (pairs_from lists n)) (first_pairs-before lists r n (omega arith))
      ∙ ap (λ k. filter (λ (q : Pair). q.resident == r) (pairs_from lists k)) same
      ∙ made_own r (filter (λ h. hospital_names lists h r) (concat (groups_of_resident lists r)))
  | inr other ↦
      first_pairs-suc lists r n ∙ ap (λ qs. first_pairs lists r n ++ qs) (made_other n r (filter (λ h. hospital_names lists h n) (concat (groups_of_resident lists n))) other)
      ∙ append-nil (first_pairs lists r n) ∙ first_pairs-own lists r n (omega (arith, other))
]

filter_of_map : {A B : Type 0} (test : B → Bool) (f : A → B) (xs : List A) → map f (filter (λ x. test (f x)) xs) ≡ filter test (map f xs)
filter_of_map test f [] = refl
filter_of_map test f (x ∷ xs) = elim (cases_Bool (test (f x))) [
  | inl kept ↦ rw kept (ap (λ ys. f x ∷ ys) (filter_of_map test f xs))
  | inr lost ↦ rw lost (filter_of_map test f xs)
]

numbered_pairs : (lists : Lists) → map (pair_at lists) (numbers_to (pair_count lists)) ≡ pairs lists
numbered_pairs lists =
    let ns = numbers_to (pair_count lists) in
    let count : length (map (pair_at lists) ns) ≡ pair_count lists = length-map ns (pair_at lists) ∙ length-numbers_to (pair_count lists) in
    same_lists (map (pair_at lists) ns) (pairs lists) count (λ k d l.
    let within : k < pair_count lists = omega (arith, count) in
    at_numbers_to (pair_at lists) (pair_count lists) k d within ∙ pair_at-place lists k ∙ get_or_default (pairs lists) k no_pair d within)

-- a resident's pairs stand in the order of its list
pairs_in_order : (lists : Lists) (r : ℕ) → r < length lists.residents → map (pair_at lists) (pairs_of_resident lists r) ≡ pairs_from lists r
unfolding first_pairs
pairs_in_order lists r l =
    filter_of_map (λ (q : Pair). q.resident == r) (pair_at lists) (numbers_to (pair_count lists)) ∙ ap (filter (λ (q : Pair). q.resident == r)) (numbered_pairs lists)
    ∙ first_pairs-own lists r (length lists.residents) l

pub resident_rises : (lists : Lists) → IsWellFormed lists → (r : ℕ) → r < length lists.residents → RisesBy (rank_by_resident lists) 0 (pairs_of_resident lists r)
resident_rises lists w r l =
    let groups = groups_of_resident lists r in
    let rank : Pair → ℕ = λ q. rank_or_0 (groups_of_resident lists q.resident) q.hospital in
    of_map rank (pair_at lists) 0 (pairs_of_resident lists r)
    (subst (RisesBy rank 0) (sym (pairs_in_order lists r l))
    (to_map rank (λ h. record { resident = r; hospital = h }) 0 (filter (λ h. hospital_names lists h r) (concat groups))
    (to_filter (rank_or_0 groups) (λ h. hospital_names lists h r) 0 (concat groups) (list_rises groups ((resident_ranked lists w r).distinct)))))
