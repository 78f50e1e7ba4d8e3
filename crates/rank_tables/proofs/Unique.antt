-- No two pairs of a well-formed instance are of one resident and one hospital, and each acceptable pair has a number.
use Rattle.std.proofs.Common.{◌≡◌, ℕ, zero, suc, ◌+◌, ◌-◌, ◌<◌, ◌≤◌, Bool, true, false, not, ◌&&◌, ◌||◌, ◌==◌, List, [], ◌∷◌, ◌++◌, length, map, get_or, Option, Some, None, option_map, is_some, unwrap_or, inl, inr, refl, sym, ap, ◌∙◌, subst, arith, eq-eqb, length-append}
use Rattle.std.specs.List.{concat, filter, flat_map, position, position_from, list_any}
use Rattle.std.proofs.lemmas.List.{append-nil}
use Rattle.std.proofs.lemmas.List.Concat.{flat_map-append}
use Rattle.std.proofs.lemmas.List.Elements.{All-nil, filter-append}
use Rattle.std.proofs.lemmas.List.Folds.{list_any-append}
use Rattle.std.proofs.lemmas.Iterator.Adapters.{position_from-zero}
use Rattle.std.proofs.lemmas.Option.{slice_get_cases}
use Rattle.std.proofs.lemmas.Bool.{cases_Bool, cases_eq, cases_lt, cases_order, and_parts, ne_eqb, not-true}
use Rattle.rank_tables.specs.Numbers.{below, is_in, is_distinct}
use Rattle.rank_tables.specs.Instance.{Lists, Pair, no_pair, groups_of_resident, groups_of_hospital, resident_names, hospital_names, pairs_from, pairs, pair_at, pair_no}
use Rattle.rank_tables.specs.WellFormed.{IsWellFormed, is_list}
use Rattle.rank_tables.specs.Tables.{IsPairNo}
use Rattle.rank_tables.proofs.PairFacts.{pair_at-place, pair_at-acceptable, pair_no-is}
use Rattle.rank_tables.proofs.Ranks.{or_false}
use Rattle.rank_tables.proofs.ListFacts.{IsRanked, is_list-ranked, list_all-each}

none_ranked : (n : ℕ) → IsRanked n []
none_ranked n = record { below = All-nil (λ x. x < n); distinct = refl; few = omega arith; few_groups = omega arith }

-- the list of each resident, and of each hospital, is one of declared numbers, none of them twice
pub resident_ranked : (lists : Lists) → IsWellFormed lists → (r : ℕ) → IsRanked (length lists.hospitals) (groups_of_resident lists r)
resident_ranked lists w r =
    let n = length lists.hospitals in
    elim ((slice_get_cases lists.residents r).1) [
      | inl at ↦
          let each = list_all-each (λ resident. is_list n resident.groups) lists.residents w.resident_lists r at.0 at.1 in
          rw (at.2) (is_list-ranked n at.0.groups (ap (λ resident. is_list n resident.groups) (sym at.3) ∙ each))
      | inr past ↦ rw (past.1) (none_ranked n)
    ]

pub hospital_ranked : (lists : Lists) → IsWellFormed lists → (h : ℕ) → IsRanked (length lists.residents) (groups_of_hospital lists h)
hospital_ranked lists w h =
    let n = length lists.residents in
    elim ((slice_get_cases lists.hospitals h).1) [
      | inl at ↦
          let each = list_all-each (λ hospital. is_list n hospital.groups) lists.hospitals w.hospital_lists h at.0 at.1 in
          rw (at.2) (is_list-ranked n at.0.groups (ap (λ hospital. is_list n hospital.groups) (sym at.3) ∙ each))
      | inr past ↦ rw (past.1) (none_ranked n)
    ]

-- whether a pair is of this resident and this hospital
abbrev is_pair : ℕ → ℕ → Pair → Bool
is_pair r h q = q.resident == r && q.hospital == h

made : ℕ → (ℕ → Bool) → List ℕ → List Pair
made r test xs = map (λ h. record { resident = r; hospital = h }) (filter test xs)

made-other : (k r h : ℕ) (test : ℕ → Bool) (xs : List ℕ) → (k ≡ r → ⊥) → filter (is_pair r h) (made k test xs) ≡ []
unfolding made
made-other k r h test [] other = refl
made-other k r h test (x ∷ xs) other = elim (cases_Bool (test x)) [
  | inl kept ↦ rw (kept, ne_eqb k r other) (made-other k r h test xs other)
  | inr lost ↦ rw lost (made-other k r h test xs other)
]

made-absent : (r h : ℕ) (test : ℕ → Bool) (xs : List ℕ) → is_in h xs ≡ false → filter (is_pair r h) (made r test xs) ≡ []
unfolding made
made-absent r h test [] absent = refl
made-absent r h test (x ∷ xs) absent =
    let parts = or_false (x == h) (is_in h xs) absent in
    elim (cases_Bool (test x)) [
      | inl kept ↦ rw (kept, eq-eqb r r refl, parts.0) (made-absent r h test xs parts.1)
      | inr lost ↦ rw lost (made-absent r h test xs parts.1)
    ]

made-one : (r h : ℕ) (test : ℕ → Bool) (xs : List ℕ) → is_distinct xs ≡ true → length (filter (is_pair r h) (made r test xs)) ≤ 1
unfolding made
made-one r h test [] distinct = omega arith
made-one r h test (x ∷ xs) distinct =
    let both = and_parts (not (is_in x xs)) (is_distinct xs) distinct in
    elim (cases_Bool (test x)) [
      | inl kept ↦ elim (cases_eq x h) [
        | inl same ↦
            let absent = made-absent r h test xs (ap (λ z. is_in z xs) (sym same) ∙ not-true _ both.0) in
            rw (kept, eq-eqb r r refl, eq-eqb x h same, absent) (omega arith)
        | inr other ↦ rw (kept, eq-eqb r r refl, ne_eqb x h other) (made-one r h test xs both.1)
      ]
      | inr lost ↦ rw lost (made-one r h test xs both.1)
    ]

-- how many of the pairs of the first n residents are of this resident and this hospital
of_pair : Lists → ℕ → ℕ → ℕ → List Pair
of_pair lists r h n = filter (is_pair r h) (flat_map (pairs_from lists) (below n))

of_pair-suc : (lists : Lists) (r h n : ℕ) → of_pair lists r h (suc n) ≡ of_pair lists r h n ++ filter (is_pair r h) (pairs_from lists n)
unfolding of_pair
of_pair-suc lists r h n =
    ap (filter (is_pair r h)) (flat_map-append (pairs_from lists) (below n) (n ∷ []) ∙ ap (λ qs. flat_map (pairs_from lists) (below n) ++ qs) (append-nil (pairs_from lists n)))
    ∙ filter-append (is_pair r h) (flat_map (pairs_from lists) (below n)) (pairs_from lists n)

of_pair-before : (lists : Lists) (r h n : ℕ) → n ≤ r → of_pair lists r h n ≡ []
unfolding of_pair made
of_pair-before lists r h zero l = refl
of_pair-before lists r h (suc n) l =
    of_pair-suc lists r h n ∙ ap (λ qs. qs ++ filter (is_pair r h) (pairs_from lists n)) (of_pair-before lists r h n (omega arith))
    ∙ made-other n r h (λ h. hospital_names lists h n) (concat (groups_of_resident lists n)) (omega arith)

of_pair-one : (lists : Lists) → IsWellFormed lists → (r h n : ℕ) → length (of_pair lists r h n) ≤ 1
unfolding of_pair made
of_pair-one lists w r h zero = omega arith
of_pair-one lists w r h (suc n) =
    let whole = ap length (of_pair-suc lists r h n) ∙ length-append (of_pair lists r h n) (filter (is_pair r h) (pairs_from lists n)) in
    elim (cases_eq n r) [
      | inl same ↦
          let before = ap length (of_pair-before lists r h n (omega arith)) in
          let ranked = resident_ranked lists w n in
          let one : length (filter (is_pair n h) (pairs_from lists n)) ≤ 1 = made-one n h (λ h. hospital_names lists h n) (concat (groups_of_resident lists n)) ranked.distinct in
          let here : length (filter (is_pair r h) (pairs_from lists n)) ≤ 1 = subst (λ (k : ℕ). length (filter (is_pair k h) (pairs_from lists n)) ≤ 1) same one in
          omega (arith, whole, before, here)
      | inr other ↦
          let none = ap length (made-other n r h (λ h. hospital_names lists h n) (concat (groups_of_resident lists n)) other) in
          omega (arith, whole, none, of_pair-one lists w r h n)
    ]

filter-some : {A : Type 0} (test : A → Bool) (xs : List A) (j : ℕ) (d : A) → j < length xs → test (get_or xs j d) ≡ true → 1 ≤ length (filter test xs)
filter-some test [] j d l h = absurd (omega arith)
filter-some test (x ∷ xs) zero d l h = rw h (omega arith)
filter-some test (x ∷ xs) (suc j) d l h = elim (cases_Bool (test x)) [
  | inl kept ↦ rw kept (omega arith)
  | inr lost ↦ rw lost (filter-some test xs j d (omega arith) h)
]

filter-two : {A : Type 0} (test : A → Bool) (xs : List A) (i j : ℕ) (d : A) → i < j → j < length xs → test (get_or xs i d) ≡ true →
    test (get_or xs j d) ≡ true → 2 ≤ length (filter test xs)
filter-two test [] i j d l m h k = absurd (omega arith)
filter-two test (x ∷ xs) i zero d l m h k = absurd (omega arith)
filter-two test (x ∷ xs) zero (suc j) d l m h k = let more = filter-some test xs j d (omega arith) k in rw h (omega (arith, more))
filter-two test (x ∷ xs) (suc i) (suc j) d l m h k =
    let more = filter-two test xs i j d (omega arith) (omega arith) h k in
    elim (cases_Bool (test x)) [
      | inl kept ↦ rw kept (omega (arith, more))
      | inr lost ↦ rw lost more
    ]

-- pairs of one resident and one hospital are one pair
pub pairs-apart : (lists : Lists) → IsWellFormed lists → (p q : ℕ) → IsPairNo lists p → IsPairNo lists q →
    (pair_at lists p).resident ≡ (pair_at lists q).resident → (pair_at lists p).hospital ≡ (pair_at lists q).hospital → p ≡ q
unfolding of_pair
pairs-apart lists w p q a b same_resident same_hospital =
    let r = (pair_at lists q).resident in
    let h = (pair_at lists q).hospital in
    let one : length (filter (is_pair r h) (pairs lists)) ≤ 1 = of_pair-one lists w r h (length lists.residents) in
    let place = λ (k : ℕ) (n : IsPairNo lists k). ap (pair_at lists) (let e : k ≡ suc (k - 1) = omega (arith, n.0) in e) ∙ pair_at-place lists (k - 1) in
    let passes_p : is_pair r h (get_or (pairs lists) (p - 1) no_pair) ≡ true =
    ap (is_pair r h) (sym (place p a)) ∙ ap (λ b. b && (pair_at lists p).hospital == h) (eq-eqb _ _ same_resident) ∙ eq-eqb _ _ same_hospital in
    let passes_q : is_pair r h (get_or (pairs lists) (q - 1) no_pair) ≡ true =
    ap (is_pair r h) (sym (place q b)) ∙ ap (λ b. b && h == h) (eq-eqb r r refl) ∙ eq-eqb h h refl in
    elim (cases_order p q) [
      | inl same ↦ same
      | inr (inl less) ↦ absurd (omega (arith, a.0, b.1, one, filter-two (is_pair r h) (pairs lists) (p - 1) (q - 1) no_pair (omega (arith, a.0)) (omega (arith, b.0, b.1)) passes_p passes_q))
      | inr (inr more) ↦ absurd (omega (arith, b.0, a.1, one, filter-two (is_pair r h) (pairs lists) (q - 1) (p - 1) no_pair (omega (arith, b.0)) (omega (arith, a.0, a.1)) passes_q passes_p))
    ]

-- which pairs have a number

is_some-position_from : {A : Type 0} (test : A → Bool) (i : ℕ) (xs : List A) → is_some (position_from test i xs) ≡ list_any test xs
is_some-position_from test i [] = refl
is_some-position_from test i (x ∷ xs) = elim (cases_Bool (test x)) [
  | inl passes ↦ rw passes refl
  | inr fails ↦ rw fails (is_some-position_from test (i + 1) xs)
]

is_some-map : {A B : Type 0} (f : A → B) (o : Option A) → is_some (option_map f o) ≡ is_some o
is_some-map f None = refl
is_some-map f (Some x) = refl

is_some-pair_no : (lists : Lists) (r h : ℕ) → is_some (pair_no lists r h) ≡ list_any (is_pair r h) (pairs lists)
is_some-pair_no lists r h =
    is_some-map (λ place. place + 1) (position (is_pair r h) (pairs lists))
    ∙ ap is_some (position_from-zero (is_pair r h) (pairs lists)) ∙ is_some-position_from (is_pair r h) 0 (pairs lists)

any_made : (r h : ℕ) (test : ℕ → Bool) (xs : List ℕ) → is_in h xs ≡ true → test h ≡ true → list_any (is_pair r h) (made r test xs) ≡ true
unfolding made
any_made r h test [] named passes = absurd (cc)
any_made r h test (x ∷ xs) named passes = elim (cases_eq x h) [
  | inl same ↦ let kept : test x ≡ true = ap test same ∙ passes in rw (kept, eq-eqb r r refl, eq-eqb x h same) refl
  | inr other ↦
      let later : is_in h xs ≡ true = sym (ap (λ b. b || is_in h xs) (ne_eqb x h other)) ∙ named in
      elim (cases_Bool (test x)) [
        | inl kept ↦ rw (kept, eq-eqb r r refl, ne_eqb x h other) (any_made r h test xs later passes)
        | inr lost ↦ rw lost (any_made r h test xs later passes)
      ]
]

any_flat : {A : Type 0} (test : A → Bool) (f : ℕ → List A) (n r : ℕ) → r < n → list_any test (f r) ≡ true → list_any test (flat_map f (below n)) ≡ true
any_flat test f zero r l h = absurd (omega arith)
any_flat test f (suc n) r l h =
    let split : list_any test (flat_map f (below (suc n))) ≡ (list_any test (flat_map f (below n)) || list_any test (f n)) =
    ap (list_any test) (flat_map-append f (below n) (n ∷ []) ∙ ap (λ qs. flat_map f (below n) ++ qs) (append-nil (f n)))
    ∙ list_any-append test (flat_map f (below n)) (f n) in
    elim (cases_lt r n) [
      | inl before ↦ split ∙ ap (λ b. b || list_any test (f n)) (any_flat test f n r before h)
      | inr past ↦
          let same : r ≡ n = omega arith in
          split ∙ ap (λ b. list_any test (flat_map f (below n)) || b) (ap (λ k. list_any test (f k)) (sym same) ∙ h) ∙ or_true (list_any test (flat_map f (below n)))
    ]
  where
    or_true : (b : Bool) → (b || true) ≡ true
    or_true true = refl
    or_true false = refl

resident_names-declared : (lists : Lists) (r h : ℕ) → resident_names lists r h ≡ true → r < length lists.residents
resident_names-declared lists r h e = elim ((slice_get_cases lists.residents r).1) [
  | inl at ↦ at.1
  | inr past ↦ absurd (cc (sym (ap (λ o. is_in h (concat (unwrap_or (option_map (λ resident. resident.groups) o) []))) past.1) ∙ e))
]

-- a resident and a hospital have a pair exactly where each names the other
pub pair_no-acceptable : (lists : Lists) (r h : ℕ) → is_some (pair_no lists r h) ≡ (resident_names lists r h && hospital_names lists h r)
unfolding made
pair_no-acceptable lists r h = elim (cases_Bool (resident_names lists r h && hospital_names lists h r)) [
  | inl each ↦
      let both = and_parts (resident_names lists r h) (hospital_names lists h r) each in
      is_some-pair_no lists r h
      ∙ any_flat (is_pair r h) (pairs_from lists) (length lists.residents) r (resident_names-declared lists r h both.0)
      (any_made r h (λ h. hospital_names lists h r) (concat (groups_of_resident lists r)) both.0 both.1) ∙ sym each
  | inr not_each ↦ not_found (pair_no lists r h) refl not_each
]
  where
    not_found : (o : Option ℕ) → pair_no lists r h ≡ o → (resident_names lists r h && hospital_names lists h r) ≡ false →
        is_some (pair_no lists r h) ≡ (resident_names lists r h && hospital_names lists h r)
    not_found None e not_each = ap is_some e ∙ sym not_each
    not_found (Some p) e not_each =
        let is = pair_no-is lists r h p e in
        let acceptable = pair_at-acceptable lists p is.0 in
        let first : resident_names lists r h ≡ true = rw (← is.1, ← is.2) acceptable.names_hospital in
        let second : hospital_names lists h r ≡ true = rw (← is.1, ← is.2) acceptable.names_resident in
        absurd (cc (not_each, ap (λ b. b && hospital_names lists h r) first, second))
