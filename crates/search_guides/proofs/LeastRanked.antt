-- The first free pair of an order by rank.
use Rattle.std.proofs.Common.{◌≡◌, ◌⊎◌, inl, inr, ◌+◌, ◌-◌, ◌<◌, ◌≤◌, ℕ, zero, suc, List, length, take, get_or, Option, Some, None, refl, sym, ap, subst, ◌∙◌, arith}
use Rattle.std.proofs.Common.{false, nat_eq, nat_lt}
use Rattle.std.proofs.lemmas.Bool.Decides.{nat_tests}
use Rattle.std.specs.Ordering.{nat_cmp}
use Rattle.std.specs.List.{All, HoldsAt}
use Rattle.std.specs.List.Sorted.{IsSortedByKey}
use Rattle.std.proofs.lemmas.List.Elements.{All-map, All-weaker, at_from_Contains}
use Rattle.std.proofs.lemmas.List.Sorted.{All-permutation, Contains-permutation}
use Rattle.std.proofs.lemmas.List.{get_or-take, length-take-le, length-map}
use Rattle.rank_tables.specs.Instance.{Lists, pair_count, rank_by_resident}
use Rattle.rank_tables.specs.Numbers.{numbers_to}
use Rattle.rank_tables.specs.Tables.{IsPairNo}
use Rattle.rank_tables.proofs.Below.{at_numbers_to, length-numbers_to, numbers_to-within}
use Rattle.pb_propagate.specs.Engines.{EngineState}
use Rattle.search_guides.specs.declared.ranked.RankedPair.{RankedPair}
use Rattle.search_guides.specs.Picks.{IsFree, IsFound}
use Rattle.search_guides.specs.Ranks.{AreByRank, IsLeastRanked, IsRankFound, all_ranked, ranked}

-- ---- an order and its places

-- a pair of the instance, with its rank
record IsListed (lists : Lists) (a : RankedPair) : Type 0 where
  number : IsPairNo lists a.pair
  rank : a.rank ≡ rank_by_resident lists a.pair

listed : (lists : Lists) (order : List RankedPair) → AreByRank lists order → All (IsListed lists) order
listed lists order o =
    All-permutation (IsListed lists) (all_ranked lists) order o.pairs
    (All-map (IsListed lists) (ranked lists) (numbers_to (pair_count lists))
    (All-weaker (λ p. (1 ≤ p) × (p ≤ pair_count lists)) (λ p. IsListed lists (ranked lists p)) (λ p within. record { number = within; rank = refl }) (numbers_to (pair_count lists))
    (numbers_to-within (pair_count lists) (pair_count lists) (omega arith))))

-- the pair stands at this place
abbrev StandsAt : Lists → List RankedPair → ℕ → ℕ → Type 0
StandsAt lists order p k = (k < length order) × ((d : RankedPair) → get_or order k d ≡ ranked lists p)

place : (lists : Lists) (order : List RankedPair) (p : ℕ) → AreByRank lists order → IsPairNo lists p → (k : ℕ) × StandsAt lists order p k
place lists order p o number =
    let within : p - 1 < pair_count lists = omega (arith, number.0, number.1) in
    let next : suc (p - 1) ≡ p = omega (arith, number.0) in
    let long : p - 1 < length (all_ranked lists) = omega (arith, within, length-map (numbers_to (pair_count lists)) (ranked lists), length-numbers_to (pair_count lists)) in
    let at : get_or (all_ranked lists) (p - 1) (ranked lists p) ≡ ranked lists p =
    at_numbers_to (ranked lists) (pair_count lists) (p - 1) (ranked lists p) within ∙ ap (ranked lists) next in
    as_read (at_from_Contains order (ranked lists p) (Contains-permutation (all_ranked lists) order (ranked lists p) o.pairs (p - 1, long, at)))
  where
    as_read : (k : ℕ) × (k < length order) × HoldsAt (λ y. y ≡ ranked lists p) order k → (k : ℕ) × StandsAt lists order p k
    as_read (k, within, at) = (k, (within, at))

-- of one rank the number rises over all that stands between
ties_rise : (lists : Lists) (order : List RankedPair) → AreByRank lists order → (j i : ℕ) (d : RankedPair) → i ≤ j → j < length order
    → (get_or order i d).rank ≡ (get_or order j d).rank → (get_or order i d).pair ≤ (get_or order j d).pair
ties_rise lists order o zero i d h g e = let z : i ≡ zero = omega arith in rw z (omega arith)
ties_rise lists order o (suc j) i d h g e = by (cases i j h) (ties_rise lists order o j i d)
  where
    cases : (i j : ℕ) → i ≤ suc j → (i ≤ j) ⊎ (i ≡ suc j)
    cases i j h = grind arith

    by : (i ≤ j) ⊎ (i ≡ suc j)
        → (i ≤ j → j < length order → (get_or order i d).rank ≡ (get_or order j d).rank → (get_or order i d).pair ≤ (get_or order j d).pair)
        → (get_or order i d).pair ≤ (get_or order (suc j) d).pair
    by (inr same) rest = rw same (omega arith)
    by (inl before) rest =
        let next : j + 1 ≡ suc j = omega arith in
        let low : (get_or order i d).rank ≤ (get_or order j d).rank = o.ranks i j d before (omega (arith, g)) in
        let high : (get_or order j d).rank ≤ (get_or order (suc j) d).rank = o.ranks j (suc j) d (omega arith) g in
        let same : (get_or order i d).rank ≡ (get_or order j d).rank = omega (arith, low, high, e) in
        let step : (get_or order j d).pair ≤ (get_or order (suc j) d).pair =
        subst (λ (n : ℕ). (get_or order j d).pair ≤ (get_or order n d).pair) next
        (o.numbers j d (omega (arith, g)) (subst (λ (n : ℕ). (get_or order j d).rank ≡ (get_or order n d).rank) (sym next) (omega (arith, low, high, e)))) in
        omega (arith, rest before (omega (arith, g)) same, step)

-- all pairs by their numbers
pub numbers_rise : (lists : Lists) → IsSortedByKey (λ a. a.pair) nat_cmp (all_ranked lists)
numbers_rise lists k d low high =
    let short : k + 1 < pair_count lists = omega (arith, high, length-map (numbers_to (pair_count lists)) (ranked lists), length-numbers_to (pair_count lists)) in
    let above : (get_or (all_ranked lists) (k + 1) d).pair ≡ suc (k + 1) = ap (λ a. a.pair) (at_numbers_to (ranked lists) (pair_count lists) (k + 1) d short) in
    let here : (get_or (all_ranked lists) k d).pair ≡ suc k = ap (λ a. a.pair) (at_numbers_to (ranked lists) (pair_count lists) k d (omega (arith, short))) in
    let less : nat_lt (suc (k + 1)) (suc k) ≡ false = grind (arith, nat_tests) in
    let same : nat_eq (suc (k + 1)) (suc k) ≡ false = grind (arith, nat_tests) in
    rw (above, here, less, same) refl

-- ---- what is found

-- a free pair doesn't stand among those that aren't free
later : (lists : Lists) (e : EngineState) (order : List RankedPair) (k w j : ℕ) → k ≤ length order → All (λ a. IsFree e a.pair → ⊥) (take k order)
    → StandsAt lists order w j → IsFree e w → k ≤ j
later lists e order k w j short taken stands free = by (cases k j)
  where
    cases : (k j : ℕ) → (k ≤ j) ⊎ (j < k)
    cases k j = grind arith

    by : (k ≤ j) ⊎ (j < k) → k ≤ j
    by (inl h) = h
    by (inr h) =
        let within : j < length (take k order) = omega (arith, h, length-take-le k order short) in
        let at : get_or (take k order) j (ranked lists w) ≡ ranked lists w = get_or-take k order j (ranked lists w) h ∙ stands.1 (ranked lists w) in
        absurd (taken j (ranked lists w) within (subst (λ (a : RankedPair). IsFree e a.pair) (sym at) free))

-- of two ranks that may be one, by what their pairs would be then
apart : {m n p q w : ℕ} → m ≤ n → (m ≡ n → p ≤ q) → q ≡ w → w < p → m < n
apart {m} {n} {p} {q} {w} le rises is less = by (cases m n le)
  where
    cases : (m n : ℕ) → m ≤ n → (m < n) ⊎ (m ≡ n)
    cases m n h = grind arith

    by : (m < n) ⊎ (m ≡ n) → m < n
    by (inl h) = h
    by (inr same) = absurd (omega (arith, rises same, is, less))

-- the first free pair of an order
pub first_ranked : (lists : Lists) (e : EngineState) (order : List RankedPair) (k : ℕ) (d : RankedPair) → k < length order
    → All (λ a. IsFree e a.pair → ⊥) (take k order) → IsFree e (get_or order k d).pair → AreByRank lists order → IsLeastRanked lists e (get_or order k d).pair
first_ranked lists e order k d h taken free o =
    let here = listed lists order o k d h in
    record {
      free = free;
      pair = here.number;
      least = λ w number f. at_least w (place lists order w o number) f;
      first = λ w less number f. before w less (place lists order w o number) f;
    }
  where
    up : (w j : ℕ) → StandsAt lists order w j → k ≤ j → rank_by_resident lists (get_or order k d).pair ≤ rank_by_resident lists w
    up w j stands le = omega (arith, o.ranks k j d le stands.0, (listed lists order o k d h).rank, ap (λ a. a.rank) (stands.1 d))

    at_least : (w : ℕ) → (j : ℕ) × StandsAt lists order w j → IsFree e w → rank_by_resident lists (get_or order k d).pair ≤ rank_by_resident lists w
    at_least w (j, stands) f = up w j stands (later lists e order k w j (omega (arith, h)) taken stands f)

    before : (w : ℕ) → w < (get_or order k d).pair → (j : ℕ) × StandsAt lists order w j → IsFree e w → rank_by_resident lists (get_or order k d).pair < rank_by_resident lists w
    before w less (j, stands) f =
        let le : k ≤ j = later lists e order k w j (omega (arith, h)) taken stands f in
        apart (up w j stands le) (λ same. ties_rise lists order o j k d le stands.0 ((listed lists order o k d h).rank ∙ same ∙ sym (ap (λ a. a.rank) (stands.1 d)))) (ap (λ a. a.pair) (stands.1 d)) less

-- no pair of an order is free
pub none_ranked : (lists : Lists) (e : EngineState) (order : List RankedPair) (found : Option ℕ) (k : ℕ) → k ≤ length order → length order ≤ k
    → All (λ a. IsFree e a.pair → ⊥) (take k order) → IsFound e (λ _. 0) e.vars found → AreByRank lists order → IsRankFound lists e found
none_ranked lists e order None k short long taken least o = λ w f. least w f.to f
none_ranked lists e order (Some v) k short long taken least o =
    inr (record { none = λ w number f. none w (place lists order w o number) f; least = least })
  where
    none : (w : ℕ) → (j : ℕ) × StandsAt lists order w j → IsFree e w → ⊥
    none w (j, stands) f = absurd (omega (arith, later lists e order k w j short taken stands f, long, stands.0))
