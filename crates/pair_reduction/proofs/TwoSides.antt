-- The lists of a side, its tests, and the rules that they stand for.
use Rattle.std.proofs.Common.{◌≡◌, ℕ, ◌+◌, ◌<◌, Bool, true, false, not, ◌&&◌, ◌||◌, ◌==◌, List, [], ◌∷◌, nat_le, nat_lt, if◌then◌else◌, count_by, refl, sym, ap, ◌∙◌, inl, inr, arith}
use Rattle.std.specs.List.{list_all}
use Rattle.std.proofs.lemmas.Bool.{and_from, cases_Bool, eq-eqb, le-leb, leb-false, leb-true, le-ltb, lt-ltb, ltb-true, or_left, or_right, true≢false}
use Rattle.std.proofs.lemmas.List.Sums.{sum_by-cons}
use Rattle.rank_tables.specs.Numbers.{is_distinct, is_in, numbers_to}
use Rattle.rank_tables.specs.Instance.{Lists, capacity_of, pair_at, pair_count, rising_pairs_of_hospital, pairs_of_resident, rank_by_hospital, rank_by_resident}
use Rattle.rank_tables.specs.Tables.{IsPairNo}
use Rattle.rank_tables.proofs.Numbers.{distinct-filter, distinct-numbers_to, is_in-filter, list_any-count}
use Rattle.rank_tables.proofs.PairFacts.{pair_at-acceptable}
use Rattle.stability_model.specs.Gone.{Pairs, has_only, is_sure, rule_a, rule_b}
use Rattle.stability_model.proofs.Counts.{count_by_le}
use Rattle.stability_model.proofs.SameCounts.{count_same_in}
use Rattle.rank_tables.proofs.PairNumbers.{is_pair, pair_listed, pair_of_hospital, pair_of_resident}
use Rattle.pair_reduction.specs.declared.sides.Side.{Side}
use Rattle.pair_reduction.specs.declared.sides.Side.TheVariants.{Resident, Hospital}
use Rattle.pair_reduction.specs.Sides.{IsOn, is_free, is_passed, list_count, list_of, other, pairs_on, places, rank_on}

-- ---- two sides

pub by_side : (P : Side → Type 0) (side : Side) → P side → P (other side) → (s : Side) → P s
by_side P Resident h k Resident = h
by_side P Resident h k Hospital = k
by_side P Hospital h k Resident = k
by_side P Hospital h k Hospital = h

pub other_twice : (side : Side) → other (other side) ≡ side
other_twice Resident = refl
other_twice Hospital = refl

-- ---- lists

pub is_declared : (side : Side) (lists : Lists) (p : ℕ) → IsPairNo lists p → list_of side lists p < list_count side lists
is_declared Resident lists p i = (pair_at-acceptable lists p i).resident_declared
is_declared Hospital lists p i = (pair_at-acceptable lists p i).hospital_declared

pub on_list : (side : Side) (lists : Lists) (n p : ℕ) → is_in p (pairs_on side lists n) ≡ true → IsOn side lists n p
on_list Resident lists n p i = let two = pair_of_resident lists n p i in record { number = two.0; list = two.1 }
on_list Hospital lists n p i = let two = pair_of_hospital lists n p i in record { number = two.0; list = two.1 }

pub listed : (side : Side) (lists : Lists) (p : ℕ) → IsPairNo lists p → is_in p (pairs_on side lists (list_of side lists p)) ≡ true
listed Resident lists p i = is_in-filter (λ q. (pair_at lists q).resident == (pair_at lists p).resident) p (numbers_to (pair_count lists)) ∙ and_from (is_pair lists p) ((pair_at lists p).resident == (pair_at lists p).resident) (pair_listed lists p i) (eq-eqb (pair_at lists p).resident (pair_at lists p).resident refl)
listed Hospital lists p i = is_in-filter (λ q. (pair_at lists q).hospital == (pair_at lists p).hospital) p (numbers_to (pair_count lists)) ∙ and_from (is_pair lists p) ((pair_at lists p).hospital == (pair_at lists p).hospital) (pair_listed lists p i) (eq-eqb (pair_at lists p).hospital (pair_at lists p).hospital refl)

pub listed_once : (side : Side) (lists : Lists) (n : ℕ) → is_distinct (pairs_on side lists n) ≡ true
listed_once Resident lists n = distinct-filter (λ p. (pair_at lists p).resident == n) (numbers_to (pair_count lists)) (distinct-numbers_to (pair_count lists))
listed_once Hospital lists n = distinct-filter (λ p. (pair_at lists p).hospital == n) (numbers_to (pair_count lists)) (distinct-numbers_to (pair_count lists))

-- ---- what the tests hang on

pub free_same : (side : Side) (lists : Lists) (a b : Pairs) (p : ℕ) → ((q : ℕ) → IsPairNo lists q → list_of side lists q ≡ list_of side lists p → a q ≡ b q) → is_free side lists a p ≡ is_free side lists b p
free_same side lists a b p h =
    ap (λ (n : ℕ). nat_lt n (places side lists (list_of side lists p)))
    (count_same_in (λ q. not (q == p) && not (a q) && nat_le (rank_on side lists q) (rank_on side lists p)) (λ q. not (q == p) && not (b q) && nat_le (rank_on side lists q) (rank_on side lists p)) (pairs_on side lists (list_of side lists p))
    (λ q i. let on = on_list side lists (list_of side lists p) q i in ap (λ (g : Bool). not (q == p) && not g && nat_le (rank_on side lists q) (rank_on side lists p)) (h q on.number on.list)))

still_left : (s a b l : Bool) → (a ≡ true → b ≡ true) → (not s && not b && l) ≡ true → (not s && not a && l) ≡ true
still_left true a b l h e = e
still_left false true true l h e = e
still_left false true false l h e = absurd (true≢false (sym (h refl)))
still_left false false true l h e = absurd (true≢false (sym e))
still_left false false false l h e = e

pub free_grows : (side : Side) (lists : Lists) (a b : Pairs) (p : ℕ) → ((q : ℕ) → a q ≡ true → b q ≡ true) → is_free side lists a p ≡ true → is_free side lists b p ≡ true
free_grows side lists a b p h e =
    let few = ltb-true (count_by (λ q. not (q == p) && not (a q) && nat_le (rank_on side lists q) (rank_on side lists p)) (pairs_on side lists (list_of side lists p))) (places side lists (list_of side lists p)) e in
    let le = count_by_le (λ q. not (q == p) && not (b q) && nat_le (rank_on side lists q) (rank_on side lists p)) (λ q. not (q == p) && not (a q) && nat_le (rank_on side lists q) (rank_on side lists p)) (pairs_on side lists (list_of side lists p))
    (λ q i k. still_left (q == p) (a q) (b q) (nat_le (rank_on side lists q) (rank_on side lists p)) (h q) k) in
    lt-ltb (count_by (λ q. not (q == p) && not (b q) && nat_le (rank_on side lists q) (rank_on side lists p)) (pairs_on side lists (list_of side lists p))) (places side lists (list_of side lists p)) (omega arith)

still_marked : (l a b : Bool) → (a ≡ true → b ≡ true) → (l && a) ≡ true → (l && b) ≡ true
still_marked true a b h e = h e
still_marked false a b h e = e

pub passed_grows : (side : Side) (lists : Lists) (a b : Pairs) (w : ℕ) → ((q : ℕ) → IsPairNo lists q → list_of side lists q ≡ list_of side lists w → a q ≡ true → b q ≡ true) → is_passed side lists a w ≡ true → is_passed side lists b w ≡ true
passed_grows side lists a b w h e =
    let enough = leb-true (places side lists (list_of side lists w)) (count_by (λ q. nat_lt (rank_on side lists q) (rank_on side lists w) && a q) (pairs_on side lists (list_of side lists w))) e in
    let le = count_by_le (λ q. nat_lt (rank_on side lists q) (rank_on side lists w) && a q) (λ q. nat_lt (rank_on side lists q) (rank_on side lists w) && b q) (pairs_on side lists (list_of side lists w))
    (λ q i k. let on = on_list side lists (list_of side lists w) q i in still_marked (nat_lt (rank_on side lists q) (rank_on side lists w)) (a q) (b q) (h q on.number on.list) k) in
    le-leb (places side lists (list_of side lists w)) (count_by (λ q. nat_lt (rank_on side lists q) (rank_on side lists w) && b q) (pairs_on side lists (list_of side lists w))) (omega arith)

-- ---- the rules

broken_or : (s g : Bool) (x y : ℕ) → (s || g || nat_lt x y) ≡ not (not s && not g && nat_le y x)
broken_or true g x y = refl
broken_or false true x y = refl
broken_or false false x y = elim (cases_Bool (nat_le y x)) [
  | inl e ↦ le-ltb x y (leb-true y x e) ∙ ap not (sym e)
  | inr e ↦ lt-ltb x y (leb-false y x e) ∙ ap not (sym e)
]

none_counted : (t u : ℕ → Bool) (xs : List ℕ) → ((x : ℕ) → t x ≡ not (u x)) → list_all t xs ≡ nat_lt (count_by u xs) 1
none_counted t u [] h = refl
none_counted t u (x ∷ xs) h =
    ap (λ (b : Bool). b && list_all t xs) (h x) ∙ step (u x) (count_by u xs) (none_counted t u xs h) ∙ ap (λ (n : ℕ). nat_lt n 1) (sym (sum_by-cons (λ x. if u x then 1 else 0) x xs))
  where
    step : (b : Bool) (n : ℕ) → list_all t xs ≡ nat_lt n 1 → (not b && list_all t xs) ≡ nat_lt ((if b then 1 else 0) + n) 1
    step true n e = sym (le-ltb (1 + n) 1 (omega arith))
    step false n e = e ∙ ap (λ (m : ℕ). nat_lt m 1) (let z : n ≡ 0 + n = omega arith in z)

-- on the side of residents a pair is free where its resident has nothing else
pub free_only : (lists : Lists) (gone : Pairs) (q : ℕ) → has_only lists gone q ≡ is_free Resident lists gone q
free_only lists gone q =
    none_counted (λ o. o == q || gone o || nat_lt (rank_by_resident lists q) (rank_by_resident lists o)) (λ o. not (o == q) && not (gone o) && nat_le (rank_by_resident lists o) (rank_by_resident lists q)) (pairs_of_resident lists (pair_at lists q).resident)
    (λ o. broken_or (o == q) (gone o) (rank_by_resident lists q) (rank_by_resident lists o))

swapped : (a b : Bool) → (a && b) ≡ (b && a)
swapped true true = refl
swapped true false = refl
swapped false true = refl
swapped false false = refl

-- rule A is that a pair is passed by pairs that are sure of a post
pub rule_a-passed : (lists : Lists) (gone : Pairs) (w : ℕ) → rule_a lists gone w ≡ is_passed Resident lists (is_free Hospital lists gone) w
rule_a-passed lists gone w =
    list_any-count (λ p. is_sure lists gone p && nat_lt (rank_by_resident lists p) (rank_by_resident lists w)) (pairs_of_resident lists (pair_at lists w).resident)
    ∙ ap (nat_le 1) (count_same_in (λ p. is_sure lists gone p && nat_lt (rank_by_resident lists p) (rank_by_resident lists w)) (λ p. nat_lt (rank_by_resident lists p) (rank_by_resident lists w) && is_sure lists gone p) (pairs_of_resident lists (pair_at lists w).resident)
    (λ p i. swapped (is_sure lists gone p) (nat_lt (rank_by_resident lists p) (rank_by_resident lists w))))

-- rule B is that a pair is passed by pairs whose residents have nothing else
pub rule_b-passed : (lists : Lists) (gone : Pairs) (p : ℕ) → rule_b lists gone p ≡ is_passed Hospital lists (is_free Resident lists gone) p
rule_b-passed lists gone p =
    ap (nat_le (capacity_of lists (pair_at lists p).hospital)) (count_same_in (λ q. nat_lt (rank_by_hospital lists q) (rank_by_hospital lists p) && has_only lists gone q) (λ q. nat_lt (rank_by_hospital lists q) (rank_by_hospital lists p) && is_free Resident lists gone q) (rising_pairs_of_hospital lists (pair_at lists p).hospital)
    (λ q i. ap (λ (b : Bool). nat_lt (rank_by_hospital lists q) (rank_by_hospital lists p) && b) (free_only lists gone q)))

-- what free pairs of the other side pass, a rule shows
pub rule_shown : (side : Side) (lists : Lists) (gone : Pairs) (w : ℕ) → is_passed side lists (is_free (other side) lists gone) w ≡ true → (rule_a lists gone w || rule_b lists gone w) ≡ true
rule_shown Resident lists gone w h = or_left (rule_a lists gone w) (rule_b lists gone w) (rule_a-passed lists gone w ∙ h)
rule_shown Hospital lists gone w h = or_right (rule_a lists gone w) (rule_b lists gone w) (rule_b-passed lists gone w ∙ h)
