-- The count of the model's terms by what the rows of residents and of hospitals say.
use Rattle.std.proofs.Common.{◌≡◌, ℕ, zero, suc, ◌+◌, ◌*◌, ◌≤◌, ◌<◌, Bool, true, false, ◌||◌, ◌==◌, nat_le, nat_lt, if◌then◌else◌, List, [], ◌∷◌, length, map, get_or, sum_by, count_by, refl, sym, ap, ◌∙◌, inl, inr, arith, eq-eqb}
use Rattle.std.specs.List.{All, list_all}
use Rattle.std.proofs.lemmas.Bool.{cases_eq, and_parts, and_from, eqb-true, lt-ltb, le-leb, leb-true, ne_eqb}
use Rattle.std.proofs.lemmas.List.Elements.{All-head, All-tail, filter_agree}
use Rattle.std.proofs.lemmas.List.Sums.{sum_by_push, sum_by-cons}
use Rattle.rank_tables.specs.declared.terms.Ranked.{Ranked}
use Rattle.rank_tables.specs.declared.terms.Side.{Side}
use Rattle.rank_tables.specs.declared.terms.Side.TheVariants.{Resident, Hospital}
use Rattle.rank_tables.specs.Numbers.{below, numbers_to, is_in}
use Rattle.rank_tables.specs.Instance.{Lists, pair_at, pair_count, pairs_as_listed, rising_pairs_of_hospital, pairs_of_resident, rank_by_hospital, rank_by_resident}
use Rattle.rank_tables.specs.WellFormed.{IsWellFormed}
use Rattle.rank_tables.specs.Tables.{IsPairNo, entry_of}
use Rattle.rank_tables.specs.Terms.{has_post, has_term, is_as_good_for_hospital, is_as_good_for_resident, model_terms}
use Rattle.rank_tables.specs.Counting.{as_high, counting, ranked_of}
use Rattle.rank_tables.proofs.Below.{length-numbers_to, numbers_to-within}
use Rattle.rank_tables.proofs.Membership.{length_is_sum}
use Rattle.rank_tables.proofs.Numbers.{all_from, all_at, distinct-numbers_to, distinct-filter, is_in-filter, is_in-numbers_to, sum_by_of_elements}
use Rattle.rank_tables.proofs.PairFacts.{pair_at-acceptable}
use Rattle.rank_tables.proofs.SamePairs.{listed-same, listed-distinct}
use Rattle.rank_tables.proofs.TermSums.{AreOfKinds, rows-as_high, rows-counting, none_of, rows-length, sum_add}
use Rattle.rank_tables.proofs.Unique.{pairs-apart}

abbrev one_if : Bool → ℕ
one_if b = if b then 1 else 0

-- a pair as a side ranks it
abbrev pub pair_ranked : Side → Lists → ℕ → Ranked
pair_ranked side lists p = ranked_of side lists.hospitals (entry_of lists p)

is_number : (lists : Lists) (p : ℕ) → is_in p (numbers_to (pair_count lists)) ≡ true → IsPairNo lists p
is_number lists p h =
    let both = and_parts (nat_le 1 p) (nat_le p (pair_count lists)) (sym (is_in-numbers_to (pair_count lists) p) ∙ h) in
    (leb-true _ _ both.0, leb-true _ _ both.1)

pub residents_within : (lists : Lists) → list_all (λ p. nat_lt ((pair_at lists p).resident) (length lists.residents)) (numbers_to (pair_count lists)) ≡ true
residents_within lists = all_from _ _ (λ p h. lt-ltb _ _ (pair_at-acceptable lists p (is_number lists p h)).resident_declared)

pub hospitals_within : (lists : Lists) → list_all (λ p. nat_lt ((pair_at lists p).hospital) (length lists.hospitals)) (numbers_to (pair_count lists)) ≡ true
hospitals_within lists = all_from _ _ (λ p h. lt-ltb _ _ (pair_at-acceptable lists p (is_number lists p h)).hospital_declared)

-- the rows of both sides
of_residents : (lists : Lists) → AreOfKinds (λ p. (pair_at lists p).resident) (numbers_to (pair_count lists)) (pairs_of_resident lists)
unfolding AreOfKinds
of_residents lists k f = refl

of_hospitals : (lists : Lists) → IsWellFormed lists → AreOfKinds (λ p. (pair_at lists p).hospital) (numbers_to (pair_count lists)) (pairs_as_listed lists)
unfolding AreOfKinds
of_hospitals lists w h f =
    let ns = numbers_to (pair_count lists) in
    let of_hospital : ℕ → Bool = λ p. (pair_at lists p).hospital == h in
    let numbered = rising_pairs_of_hospital lists h in
    let listed = pairs_as_listed lists h in
    let distinct = distinct-numbers_to (pair_count lists) in
    let inside : list_all (λ x. is_in x ns) numbered ≡ true = all_from _ numbered (λ x i. (and_parts (is_in x ns) (of_hospital x) (sym (is_in-filter of_hospital x ns) ∙ i)).0) in
    let also : list_all (λ x. is_in x ns) listed ≡ true = all_from _ listed (λ x i. all_at _ numbered x inside (sym (listed-same lists w h x) ∙ i)) in
    sym (sum_by_of_elements f ns listed distinct (listed-distinct lists w h) also)
    ∙ ap (sum_by f) (filter_agree (λ x. is_in x listed) (λ x. is_in x numbered) (listed-same lists w h) ns)
    ∙ sum_by_of_elements f ns numbered distinct (distinct-filter of_hospital ns distinct) inside

-- ---- the row of one pair

-- a pair other than p may have a term for one reason alone
reasons : (e a b c : Bool) → (e ≡ true → a ≡ true) → (e ≡ true → b ≡ true) → (a ≡ true → b ≡ true → e ≡ true) →
    one_if (e || (if a then c else b)) + (if c then one_if e else 0) ≡ (if c then one_if a else 0) + one_if b
reasons true true true true f g h = refl
reasons true true true false f g h = refl
reasons true false b c f g h = absurd (cc (f refl))
reasons true a false c f g h = absurd (cc (g refl))
reasons false true true c f g h = absurd (cc (h refl refl))
reasons false true false true f g h = refl
reasons false true false false f g h = refl
reasons false false true true f g h = refl
reasons false false true false f g h = refl
reasons false false false true f g h = refl
reasons false false false false f g h = refl

both_reasons : (lists : Lists) → IsWellFormed lists → (p q : ℕ) → IsPairNo lists p → IsPairNo lists q →
    is_as_good_for_resident lists p q ≡ true → is_as_good_for_hospital lists p q ≡ true → (q == p) ≡ true
both_reasons lists w p q np nq h k =
    let one = and_parts ((pair_at lists q).resident == (pair_at lists p).resident) (nat_le (rank_by_resident lists q) (rank_by_resident lists p)) h in
    let two = and_parts ((pair_at lists q).hospital == (pair_at lists p).hospital) (nat_le (rank_by_hospital lists q) (rank_by_hospital lists p)) k in
    eq-eqb q p (pairs-apart lists w q p nq np (eqb-true _ _ one.0) (eqb-true _ _ two.0))

one_term : (lists : Lists) → IsWellFormed lists → (p q : ℕ) → IsPairNo lists p → IsPairNo lists q →
    one_if (has_term lists p q) + (if has_post lists p then one_if (q == p) else 0) ≡ (if has_post lists p then one_if (is_as_good_for_resident lists p q) else 0) + one_if (is_as_good_for_hospital lists p q)
one_term lists w p q np nq =
    reasons (q == p) (is_as_good_for_resident lists p q) (is_as_good_for_hospital lists p q) (has_post lists p)
    (λ e. let same : q ≡ p = eqb-true q p e in and_from _ _ (eq-eqb _ _ (ap (λ k. (pair_at lists k).resident) same)) (le-leb _ _ (let r : rank_by_resident lists q ≡ rank_by_resident lists p = ap (rank_by_resident lists) same in omega arith)))
    (λ e. let same : q ≡ p = eqb-true q p e in and_from _ _ (eq-eqb _ _ (ap (λ k. (pair_at lists k).hospital) same)) (le-leb _ _ (let r : rank_by_hospital lists q ≡ rank_by_hospital lists p = ap (rank_by_hospital lists) same in omega arith)))
    (both_reasons lists w p q np nq)

sum_agree : (f g : ℕ → ℕ) (xs : List ℕ) → All (λ x. f x ≡ g x) xs → sum_by f xs ≡ sum_by g xs
sum_agree f g [] h = refl
sum_agree f g (x ∷ xs) h =
    let P : ℕ → Type 0 = λ x. f x ≡ g x in
    omega (arith, sum_by-cons f x xs, sum_by-cons g x xs, All-head P x xs h, sum_agree f g xs (All-tail P x xs h))

sum_if : (c : Bool) (f : ℕ → ℕ) (xs : List ℕ) → sum_by (λ x. if c then f x else 0) xs ≡ (if c then sum_by f xs else 0)
sum_if true f xs = refl
sum_if false f xs = none_of xs

none_equal : (p n : ℕ) → n < p → sum_by (λ q. one_if (q == p)) (numbers_to n) ≡ 0
none_equal p zero l = refl
none_equal p (suc n) l =
    let last : one_if (suc n == p) ≡ 0 = ap one_if (ne_eqb (suc n) p (omega arith)) in
    omega (arith, sum_by_push (λ q. one_if (q == p)) (numbers_to n) (suc n), none_equal p n (omega arith), last)

one_equal : (p n : ℕ) → 1 ≤ p → p ≤ n → sum_by (λ q. one_if (q == p)) (numbers_to n) ≡ 1
one_equal p zero l m = absurd (omega arith)
one_equal p (suc n) l m = elim (cases_eq (suc n) p) [
  | inl same ↦
      let last : one_if (suc n == p) ≡ 1 = ap one_if (eq-eqb (suc n) p same) in
      omega (arith, sum_by_push (λ q. one_if (q == p)) (numbers_to n) (suc n), none_equal p n (omega arith), last)
  | inr other ↦
      let last : one_if (suc n == p) ≡ 0 = ap one_if (ne_eqb (suc n) p other) in
      omega (arith, sum_by_push (λ q. one_if (q == p)) (numbers_to n) (suc n), one_equal p n l (omega (arith, other)), last)
]

row_terms : (lists : Lists) → IsWellFormed lists → (p : ℕ) → IsPairNo lists p →
    count_by (has_term lists p) (numbers_to (pair_count lists)) + one_if (has_post lists p)
    ≡ (if has_post lists p then count_by (is_as_good_for_resident lists p) (numbers_to (pair_count lists)) else 0) + count_by (is_as_good_for_hospital lists p) (numbers_to (pair_count lists))
row_terms lists w p number =
    let ns = numbers_to (pair_count lists) in
    let c = has_post lists p in
    let itself : sum_by (λ q. if c then one_if (q == p) else 0) ns ≡ one_if c =
    sum_if c (λ q. one_if (q == p)) ns ∙ ap (λ n. if c then n else 0) (one_equal p (pair_count lists) number.0 number.1) in
    ap (λ n. count_by (has_term lists p) ns + n) (sym itself)
    ∙ sym (sum_add (λ q. one_if (has_term lists p q)) (λ q. if c then one_if (q == p) else 0) ns)
    ∙ sum_agree _ _ ns (λ k d l. let q = get_or ns k d in one_term lists w p q number (numbers_to-within (pair_count lists) (pair_count lists) (omega arith) k d l))
    ∙ sum_add (λ q. if c then one_if (is_as_good_for_resident lists p q) else 0) (λ q. one_if (is_as_good_for_hospital lists p q)) ns
    ∙ ap (λ n. n + count_by (is_as_good_for_hospital lists p) ns) (sum_if c (λ q. one_if (is_as_good_for_resident lists p q)) ns)

-- ---- the whole

pub terms-counted : (lists : Lists) → IsWellFormed lists → (by_residents by_hospitals : ℕ) →
    by_residents + sum_by (λ k. counting (map (pair_ranked Resident lists) (pairs_of_resident lists k))) (below (length lists.residents))
    ≡ sum_by (λ k. as_high (map (pair_ranked Resident lists) (pairs_of_resident lists k))) (below (length lists.residents)) →
    by_hospitals + sum_by (λ k. counting (map (pair_ranked Hospital lists) (pairs_as_listed lists k))) (below (length lists.hospitals))
    ≡ sum_by (λ k. as_high (map (pair_ranked Hospital lists) (pairs_as_listed lists k))) (below (length lists.hospitals)) →
    3 * pair_count lists + by_residents + by_hospitals ≡ model_terms lists
terms-counted lists w by_residents by_hospitals first second =
    let ns = numbers_to (pair_count lists) in
    let resident : ℕ → ℕ = λ p. (pair_at lists p).resident in
    let hospital : ℕ → ℕ = λ p. (pair_at lists p).hospital in
    let high_r : ℕ → ℕ = λ p. if has_post lists p then count_by (is_as_good_for_resident lists p) ns else 0 in
    let high_h : ℕ → ℕ = λ p. count_by (is_as_good_for_hospital lists p) ns in
    let posts : ℕ → ℕ = λ p. one_if (has_post lists p) in
    let own : ℕ → ℕ = λ p. count_by (has_term lists p) ns in
    let each : sum_by (λ p. own p + posts p) ns ≡ sum_by (λ p. high_r p + high_h p) ns =
    sum_agree _ _ ns (λ k d l. row_terms lists w (get_or ns k d) (numbers_to-within (pair_count lists) (pair_count lists) (omega arith) k d l)) in
    let count : length ns ≡ pair_count lists = length-numbers_to (pair_count lists) in
    let ones : sum_by (λ p. 1) ns ≡ length ns = sym (length_is_sum ns) in
    let a = rows-as_high resident (pair_ranked Resident lists) ns (length lists.residents) (pairs_of_resident lists) (of_residents lists) (residents_within lists) in
    let b = rows-counting resident (pair_ranked Resident lists) ns (length lists.residents) (pairs_of_resident lists) (of_residents lists) (residents_within lists) in
    let c = rows-as_high hospital (pair_ranked Hospital lists) ns (length lists.hospitals) (pairs_as_listed lists) (of_hospitals lists w) (hospitals_within lists) in
    let d = rows-counting hospital (pair_ranked Hospital lists) ns (length lists.hospitals) (pairs_as_listed lists) (of_hospitals lists w) (hospitals_within lists) in
    let in_residents = rows-length resident ns (length lists.residents) (residents_within lists) in
    let in_hospitals = rows-length hospital ns (length lists.hospitals) (hospitals_within lists) in
    let left : sum_by own ns + sum_by posts ns ≡ sum_by high_r ns + sum_by high_h ns = sym (sum_add own posts ns) ∙ each ∙ sum_add high_r high_h ns in
    let of_r : by_residents + sum_by posts ns ≡ sum_by high_r ns = ap (λ n. by_residents + n) (sym b) ∙ first ∙ a in
    let of_h : by_hospitals + sum_by (λ p. 1) ns ≡ sum_by high_h ns = ap (λ n. by_hospitals + n) (sym d) ∙ second ∙ c in
    total (pair_count lists) by_residents by_hospitals (sum_by own ns) (sum_by posts ns) (sum_by high_r ns) (sum_by high_h ns) (sum_by (λ p. 1) ns) (length ns) _ _ left of_r of_h ones count in_residents in_hospitals
  where
    total : (n x y own posts high low ones len r h : ℕ) → own + posts ≡ high + low → x + posts ≡ high → y + ones ≡ low → ones ≡ len → len ≡ n → r ≡ len → h ≡ len →
        3 * n + x + y ≡ r + h + own
    total n x y own posts high low ones len r h p q s t u v z = omega arith
