-- Tests of the pairs of a list by the rising ranks of some of them.
use Rattle.std.proofs.Common.{◌≡◌, ℕ, zero, suc, ◌+◌, ◌-◌, ◌<◌, ◌≤◌, Bool, true, false, not, ◌&&◌, ◌||◌, ◌==◌, List, [], ◌∷◌, ◌++◌, nat_le, nat_lt, if◌then◌else◌, length, take, get_or, count_by, refl, sym, ap, ap₂, ◌∙◌, inl, inr, arith}
use Rattle.std.specs.List.Sorted.{IsNonDecreasing, IsPermutation}
use Rattle.std.proofs.lemmas.Bool.{and_parts, cases_Bool, false_from_ne_true, not-true, eqb-true, le-leb, leb-false, leb-true, lt-leb, lt-ltb, ltb-true, le-ltb, true≢false}
use Rattle.std.proofs.lemmas.List.{take_all}
use Rattle.std.proofs.lemmas.List.Sorted.{sum_by-IsPermutation}
use Rattle.std.proofs.lemmas.List.Sums.{count_by-le-length, sum_by-cons, sum_by_push}
use Rattle.hrt_base.specs.declared.numbered.PairNo.{PairNo}
use Rattle.rank_tables.specs.Numbers.{is_distinct, is_in}
use Rattle.rank_tables.specs.Tables.{numbers_of}
use Rattle.rank_tables.specs.Instance.{Lists}
use Rattle.rank_tables.proofs.Numbers.{same_bools}
use Rattle.stability_model.specs.Gone.{Pairs}
use Rattle.stability_model.proofs.Counts.{count_alike}
use Rattle.stability_model.proofs.SameCounts.{count_same_in}
use Rattle.pair_reduction.specs.declared.sides.Side.{Side}
use Rattle.pair_reduction.specs.Sides.{is_free, is_passed, list_of, pairs_on, places, rank_on}
use Rattle.pair_reduction.proofs.TwoSides.{listed_once}
use Rattle.pair_reduction.specs.Ranks.{AreRanks, AreRisingRanks, count_within}

-- ---- how many are within

tail_rises : (x : ℕ) (xs : List ℕ) → IsNonDecreasing (x ∷ xs) → IsNonDecreasing xs
tail_rises x xs h i j d le lt = h (suc i) (suc j) d (omega (arith, le)) (omega (arith, lt))

within-cons : (x : ℕ) (xs : List ℕ) (r : ℕ) → count_within (x ∷ xs) r ≡ (if nat_le x r then 1 else 0) + count_within xs r
within-cons x xs r = sum_by-cons (λ x. if nat_le x r then 1 else 0) x xs

one_within : (x r n : ℕ) → x ≤ r → (if nat_le x r then 1 else 0) + n ≡ suc n
one_within x r n h = rw (le-leb x r h) (omega arith)

most_within : (b : Bool) (n : ℕ) → (if b then 1 else 0) + n ≤ suc n
most_within true n = omega arith
most_within false n = omega arith

past_within : (x r n : ℕ) → r < x → (if nat_le x r then 1 else 0) + n ≡ n
past_within x r n h = rw (lt-leb x r h) (omega arith)

enough_within : (k : ℕ) (xs : List ℕ) (r : ℕ) → IsNonDecreasing xs → k < length xs → get_or xs k 0 ≤ r → k < count_within xs r
enough_within k [] r h l e = absurd (omega arith)
enough_within zero (x ∷ xs) r h l e = omega (arith, within-cons x xs r, one_within x r (count_within xs r) e)
enough_within (suc k) (x ∷ xs) r h l e =
    let first : x ≤ get_or xs k 0 = h 0 (suc k) 0 (omega arith) l in
    omega (arith, within-cons x xs r, one_within x r (count_within xs r) (omega (arith, first, e)), enough_within k xs r (tail_rises x xs h) (omega (arith, l)) e)

few_within : (k : ℕ) (xs : List ℕ) (r : ℕ) → IsNonDecreasing xs → k < length xs → r < get_or xs k 0 → count_within xs r ≤ k
few_within k [] r h l e = absurd (omega arith)
few_within zero (x ∷ []) r h l e = omega (arith, within-cons x [] r, past_within x r 0 e)
few_within zero (x ∷ y ∷ xs) r h l e =
    let first : x ≤ y = h 0 1 0 (omega arith) (omega arith) in
    omega (arith, within-cons x (y ∷ xs) r, past_within x r (count_within (y ∷ xs) r) e, few_within zero (y ∷ xs) r (tail_rises x (y ∷ xs) h) (omega arith) (omega (arith, e, first)))
few_within (suc k) (x ∷ xs) r h l e =
    omega (arith, within-cons x xs r, most_within (nat_le x r) (count_within xs r), few_within k xs r (tail_rises x xs h) (omega (arith, l)) e)

pub none_asked : (xs : List ℕ) (k r : ℕ) → k ≡ 0 → true ≡ nat_le k (count_within xs r)
none_asked xs k r e = sym (le-leb k (count_within xs r) (omega arith))

pub more_asked : (xs : List ℕ) (k r : ℕ) → length xs < k → false ≡ nat_le k (count_within xs r)
more_asked xs k r h = sym (lt-leb k (count_within xs r) (omega (arith, count_by-le-length (λ x. nat_le x r) xs)))

pub asked : (xs : List ℕ) (k r : ℕ) → IsNonDecreasing xs → (k ≡ 0 → ⊥) → k ≤ length xs → nat_le (get_or xs (k - 1) 0) r ≡ nat_le k (count_within xs r)
asked xs k r h some l = elim (cases_Bool (nat_le (get_or xs (k - 1) 0) r)) [
  | inl e ↦
      let enough = enough_within (k - 1) xs r h (omega arith) (leb-true (get_or xs (k - 1) 0) r e) in
      e ∙ sym (le-leb k (count_within xs r) (omega (arith, enough)))
  | inr e ↦
      let few = few_within (k - 1) xs r h (omega arith) (leb-false (get_or xs (k - 1) 0) r e) in
      e ∙ sym (lt-leb k (count_within xs r) (omega (arith, few)))
]

-- ---- the ranks are taken one after another

pub ranks_none : (side : Side) (lists : Lists) (marked : Pairs) → AreRanks side lists marked [] []
ranks_none side lists marked r = refl

marked_one : (m b : Bool) (n : ℕ) → m ≡ true → n + (if b then 1 else 0) ≡ n + (if m && b then 1 else 0)
marked_one true b n e = refl
marked_one false b n e = absurd (true≢false (sym e))

unmarked_one : (m b : Bool) (n : ℕ) → m ≡ false → n ≡ n + (if m && b then 1 else 0)
unmarked_one true b n e = absurd (true≢false e)
unmarked_one false b n e = omega arith

pub ranks_marked-one : (side : Side) (lists : Lists) (marked : Pairs) (ps more ranks longer : List ℕ) (p rank : ℕ) → AreRanks side lists marked ps ranks → more ≡ ps ++ p ∷ [] → longer ≡ ranks ++ rank ∷ [] → rank ≡ rank_on side lists p → marked p ≡ true →
    AreRanks side lists marked more longer
ranks_marked-one side lists marked ps more ranks longer p rank are e f same m r =
    ap (λ (xs : List ℕ). count_within xs r) f ∙ sum_by_push (λ x. if nat_le x r then 1 else 0) ranks rank
    ∙ ap₂ (λ (n x : ℕ). n + (if nat_le x r then 1 else 0)) (are r) same
    ∙ marked_one (marked p) (nat_le (rank_on side lists p) r) (count_by (λ q. marked q && nat_le (rank_on side lists q) r) ps) m
    ∙ sym (sum_by_push (λ q. if marked q && nat_le (rank_on side lists q) r then 1 else 0) ps p)
    ∙ ap (λ (xs : List ℕ). count_by (λ q. marked q && nat_le (rank_on side lists q) r) xs) (sym e)

pub ranks_passed-one : (side : Side) (lists : Lists) (marked : Pairs) (ps more ranks same : List ℕ) (p : ℕ) → AreRanks side lists marked ps ranks → more ≡ ps ++ p ∷ [] → same ≡ ranks → marked p ≡ false → AreRanks side lists marked more same
ranks_passed-one side lists marked ps more ranks same p are e f m r =
    ap (λ (xs : List ℕ). count_within xs r) f ∙ are r
    ∙ unmarked_one (marked p) (nat_le (rank_on side lists p) r) (count_by (λ q. marked q && nat_le (rank_on side lists q) r) ps) m
    ∙ sym (sum_by_push (λ q. if marked q && nat_le (rank_on side lists q) r then 1 else 0) ps p)
    ∙ ap (λ (xs : List ℕ). count_by (λ q. marked q && nat_le (rank_on side lists q) r) xs) (sym e)

ranks_sorted : (ranks sorted : List ℕ) (r : ℕ) → IsPermutation ranks sorted → count_within sorted r ≡ count_within ranks r
ranks_sorted ranks sorted r h = sum_by-IsPermutation (λ x. if nat_le x r then 1 else 0) ranks sorted h

pub ranks_done : (side : Side) (lists : Lists) (marked : Pairs) (n i : ℕ) (ps : List PairNo) (ranks sorted : List ℕ) → AreRanks side lists marked (numbers_of (take i ps)) ranks → IsPermutation ranks sorted → IsNonDecreasing sorted → length ps ≤ i →
    is_distinct (numbers_of ps) ≡ true → ((p : ℕ) → is_in p (numbers_of ps) ≡ is_in p (pairs_on side lists n)) → AreRisingRanks side lists marked (pairs_on side lists n) sorted
ranks_done side lists marked n i ps ranks sorted are moved rising all distinct alike = record {
  rising = rising;
  ranks_are = λ r.
      ranks_sorted ranks sorted r moved ∙ are r ∙ ap (λ (qs : List PairNo). count_by (λ q. marked q && nat_le (rank_on side lists q) r) (numbers_of qs)) (take_all i ps all)
      ∙ count_alike (λ q. marked q && nat_le (rank_on side lists q) r) (numbers_of ps) (pairs_on side lists n) distinct (listed_once side lists n) alike;
}

-- ---- the test of a passed pair

below_rank : (a b : ℕ) → 1 ≤ b → nat_lt a b ≡ nat_le a (b - 1)
below_rank a b h = same_bools (nat_lt a b) (nat_le a (b - 1)) (λ e. le-leb a (b - 1) (let l = ltb-true a b e in omega arith)) (λ e. lt-ltb a b (let l = leb-true a (b - 1) e in omega arith))

turned : (a b c : Bool) → a ≡ c → (a && b) ≡ (b && c)
turned true true c e = e
turned true false c e = refl
turned false true c e = e
turned false false c e = refl

pub passed_by_ranks : (side : Side) (lists : Lists) (marked : Pairs) (n w most rank : ℕ) (ranks : List ℕ) → AreRisingRanks side lists marked (pairs_on side lists n) ranks → list_of side lists w ≡ n → most ≡ places side lists n → rank ≡ rank_on side lists w → 1 ≤ rank →
    nat_le most (count_within ranks (rank - 1)) ≡ is_passed side lists marked w
passed_by_ranks side lists marked n w most rank ranks are list few value some =
    let tests : (q : ℕ) → is_in q (pairs_on side lists n) ≡ true → (nat_lt (rank_on side lists q) (rank_on side lists w) && marked q) ≡ (marked q && nat_le (rank_on side lists q) (rank - 1)) =
    λ q i. turned (nat_lt (rank_on side lists q) (rank_on side lists w)) (marked q) (nat_le (rank_on side lists q) (rank - 1))
    (ap (nat_lt (rank_on side lists q)) (sym value) ∙ below_rank (rank_on side lists q) rank some) in
    let counts : count_within ranks (rank - 1) ≡ count_by (λ q. nat_lt (rank_on side lists q) (rank_on side lists w) && marked q) (pairs_on side lists n) =
    are.ranks_are (rank - 1) ∙ sym (count_same_in (λ q. nat_lt (rank_on side lists q) (rank_on side lists w) && marked q) (λ q. marked q && nat_le (rank_on side lists q) (rank - 1)) (pairs_on side lists n) tests) in
    ap₂ nat_le few counts
    ∙ ap (λ (k : ℕ). nat_le (places side lists k) (count_by (λ q. nat_lt (rank_on side lists q) (rank_on side lists w) && marked q) (pairs_on side lists k))) (sym list)

-- ---- the test of a free pair

left_others : (s g l : Bool) → (s ≡ true → g ≡ true) → (not s && not g && l) ≡ (not g && l)
left_others true true l h = refl
left_others true false l h = absurd (true≢false (sym (h refl)))
left_others false g l h = refl

at_itself : (gone : Pairs) (p q : ℕ) → gone p ≡ true → (q == p) ≡ true → gone q ≡ true
at_itself gone p q g e = ap gone (eqb-true q p e) ∙ g

not_lt : (a b : ℕ) → not (nat_le a b) ≡ nat_lt b a
not_lt a b = elim (cases_Bool (nat_le a b)) [
  | inl e ↦ ap not e ∙ sym (le-ltb b a (leb-true a b e))
  | inr e ↦ ap not e ∙ sym (lt-ltb b a (leb-false a b e))
]

head_share : (b : Bool) (n m : ℕ) → n ≡ m + 1 → (if b then 1 else 0) + n ≡ ((if b then 1 else 0) + m) + 1
head_share true n m e = omega arith
head_share false n m e = omega arith

-- a count over a list without repeats, and without one of its elements that counts
pub count_others : (t : ℕ → Bool) (p : ℕ) (xs : List ℕ) → is_distinct xs ≡ true → is_in p xs ≡ true → t p ≡ true → count_by t xs ≡ count_by (λ q. not (q == p) && t q) xs + 1
count_others t p [] d i h = absurd (true≢false (sym i))
count_others t p (x ∷ xs) d i h =
    let parts = and_parts (not (is_in x xs)) (is_distinct xs) d in
    elim (cases_Bool (x == p)) [
      | inl e ↦
          let same : x ≡ p = eqb-true x p e in
          let out : is_in p xs ≡ false = ap (λ (y : ℕ). is_in y xs) (sym same) ∙ not-true (is_in x xs) parts.0 in
          let rest : count_by t xs ≡ count_by (λ q. not (q == p) && t q) xs =
          count_same_in t (λ q. not (q == p) && t q) xs (λ q j. ap (λ (b : Bool). not b && t q) (sym (false_from_ne_true (q == p) (λ k. true≢false (sym j ∙ ap (λ (y : ℕ). is_in y xs) (eqb-true q p k) ∙ out))))) in
          sum_by-cons (λ q. if t q then 1 else 0) x xs
          ∙ ap (λ (b : Bool). (if b then 1 else 0) + count_by t xs) (ap t same ∙ h)
          ∙ (let one : 1 + count_by t xs ≡ (0 + count_by (λ q. not (q == p) && t q) xs) + 1 = omega (arith, rest) in one)
          ∙ ap (λ (b : Bool). ((if not b && t x then 1 else 0) + count_by (λ q. not (q == p) && t q) xs) + 1) (sym e)
          ∙ ap (λ (n : ℕ). n + 1) (sym (sum_by-cons (λ q. if not (q == p) && t q then 1 else 0) x xs))
      | inr e ↦
          let inside : is_in p xs ≡ true = ap (λ (b : Bool). b || is_in p xs) (sym e) ∙ i in
          sum_by-cons (λ q. if t q then 1 else 0) x xs
          ∙ head_share (t x) (count_by t xs) (count_by (λ q. not (q == p) && t q) xs) (count_others t p xs parts.1 inside h)
          ∙ ap (λ (b : Bool). ((if not b && t x then 1 else 0) + count_by (λ q. not (q == p) && t q) xs) + 1) (sym e)
          ∙ ap (λ (n : ℕ). n + 1) (sym (sum_by-cons (λ q. if not (q == p) && t q then 1 else 0) x xs))
    ]

regrouped : (a b c : Bool) → (a && (b && c)) ≡ (a && b && c)
regrouped true b c = refl
regrouped false b c = refl

one_fewer : (a b c : ℕ) → a ≡ b + 1 → nat_lt a (c + 1) ≡ nat_lt b c
one_fewer a b c e = same_bools (nat_lt a (c + 1)) (nat_lt b c) (λ h. lt-ltb b c (let l = ltb-true a (c + 1) h in omega arith)) (λ h. lt-ltb a (c + 1) (let l = ltb-true b c h in omega arith))

module _ (side : Side) (lists : Lists) (gone : Pairs) (p most rank : ℕ) (ranks : List ℕ) (are : AreRisingRanks side lists (λ q. not (gone q)) (pairs_on side lists (list_of side lists p)) ranks) (few : most ≡ places side lists (list_of side lists p)) (value : rank ≡ rank_on side lists p) where
  left : count_within ranks rank ≡ count_by (λ q. not (gone q) && nat_le (rank_on side lists q) (rank_on side lists p)) (pairs_on side lists (list_of side lists p))
  left = are.ranks_are rank ∙ ap (λ (r : ℕ). count_by (λ q. not (gone q) && nat_le (rank_on side lists q) r) (pairs_on side lists (list_of side lists p))) value

  pub free_of_gone : gone p ≡ true → not (nat_le most (count_within ranks rank)) ≡ is_free side lists gone p
  free_of_gone g =
      not_lt most (count_within ranks rank)
      ∙ ap₂ nat_lt (left ∙ sym (count_same_in (λ q. not (q == p) && not (gone q) && nat_le (rank_on side lists q) (rank_on side lists p)) (λ q. not (gone q) && nat_le (rank_on side lists q) (rank_on side lists p)) (pairs_on side lists (list_of side lists p))
      (λ q i. left_others (q == p) (gone q) (nat_le (rank_on side lists q) (rank_on side lists p)) (at_itself gone p q g)))) few

  pub free_of_left : is_distinct (pairs_on side lists (list_of side lists p)) ≡ true → is_in p (pairs_on side lists (list_of side lists p)) ≡ true → gone p ≡ false → not (nat_le (most + 1) (count_within ranks rank)) ≡ is_free side lists gone p
  free_of_left d i g =
      let all : count_by (λ q. not (gone q) && nat_le (rank_on side lists q) (rank_on side lists p)) (pairs_on side lists (list_of side lists p))
      ≡ count_by (λ q. not (q == p) && not (gone q) && nat_le (rank_on side lists q) (rank_on side lists p)) (pairs_on side lists (list_of side lists p)) + 1 =
      count_others (λ q. not (gone q) && nat_le (rank_on side lists q) (rank_on side lists p)) p (pairs_on side lists (list_of side lists p)) d i
      (ap (λ (b : Bool). not b && nat_le (rank_on side lists p) (rank_on side lists p)) g ∙ le-leb (rank_on side lists p) (rank_on side lists p) (omega arith))
      ∙ ap (λ (n : ℕ). n + 1) (count_same_in (λ q. not (q == p) && (not (gone q) && nat_le (rank_on side lists q) (rank_on side lists p))) (λ q. not (q == p) && not (gone q) && nat_le (rank_on side lists q) (rank_on side lists p)) (pairs_on side lists (list_of side lists p))
      (λ q i. regrouped (not (q == p)) (not (gone q)) (nat_le (rank_on side lists q) (rank_on side lists p)))) in
      not_lt (most + 1) (count_within ranks rank)
      ∙ one_fewer (count_within ranks rank) (count_by (λ q. not (q == p) && not (gone q) && nat_le (rank_on side lists q) (rank_on side lists p)) (pairs_on side lists (list_of side lists p))) most (left ∙ all)
      ∙ ap (nat_lt (count_by (λ q. not (q == p) && not (gone q) && nat_le (rank_on side lists q) (rank_on side lists p)) (pairs_on side lists (list_of side lists p)))) few
