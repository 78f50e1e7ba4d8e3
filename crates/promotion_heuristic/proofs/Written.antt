-- The pairs of a resident are numbered in the order of its list, so that ranks do not fall.
use Rattle.std.proofs.Common.{◌≡◌, ℕ, zero, suc, ◌+◌, ◌-◌, ◌<◌, ◌≤◌, true, List, [], ◌∷◌, ◌++◌, length, map, filter, get_or, refl, sym, ap, ◌∙◌, subst, arith}
use Rattle.std.specs.List.{concat, flat_map, All, AllPairs}
use Rattle.std.proofs.lemmas.List.{append-nil, get_or-map, length-map}
use Rattle.std.proofs.lemmas.List.Elements.{All-nil, All-head, All-tail, All-append, All-map, All-weaker}
use Rattle.std.proofs.lemmas.List.Kept.{AllPairs-cons, AllPairs-filter}
use Rattle.std.proofs.lemmas.List.Concat.{flat_map-append}
use Rattle.rank_tables.specs.declared.marks.Mark.{Mark}
use Rattle.rank_tables.specs.Numbers.{below, is_distinct}
use Rattle.rank_tables.specs.Instance.{Lists, Pair, no_pair, groups_of_resident, hospital_names, pairs_from, pairs, pair_at, rank_by_resident}
use Rattle.rank_tables.specs.Building.{mark_of, rank_or_0}
use Rattle.rank_tables.specs.Tables.{IsPairNo}
use Rattle.rank_tables.specs.WellFormed.{IsWellFormed}
use Rattle.rank_tables.proofs.PairFacts.{pair_at-place}
use Rattle.rank_tables.proofs.Ranks.{marks_from, marks_from-all}
use Rattle.rank_tables.proofs.Unique.{resident_ranked}

all_pairs-nil : {A : Type 0} (R : A → A → Type 0) → AllPairs R []
all_pairs-nil R i j d l m = absurd (omega arith)

all_pairs-head : {A : Type 0} (R : A → A → Type 0) (x : A) (xs : List A) → AllPairs R (x ∷ xs) → All (R x) xs
all_pairs-head R x xs h k d l = h 0 (suc k) d (omega arith) (omega arith)

all_pairs-tail : {A : Type 0} (R : A → A → Type 0) (x : A) (xs : List A) → AllPairs R (x ∷ xs) → AllPairs R xs
all_pairs-tail R x xs h i j d l m = h (suc i) (suc j) d (omega arith) (omega arith)

all_pairs-append : {A : Type 0} (R : A → A → Type 0) (xs ys : List A) → AllPairs R xs → AllPairs R ys → All (λ x. All (R x) ys) xs → AllPairs R (xs ++ ys)
all_pairs-append R [] ys h k c = k
all_pairs-append R (x ∷ xs) ys h k c =
    AllPairs-cons R x (xs ++ ys) (All-append (R x) xs ys (all_pairs-head R x xs h) (All-head (λ x. All (R x) ys) x xs c))
    (all_pairs-append R xs ys (all_pairs-tail R x xs h) k (All-tail (λ x. All (R x) ys) x xs c))

all_pairs-map : {A B : Type 0} (R : B → B → Type 0) (f : A → B) (xs : List A) → AllPairs (λ x y. R (f x) (f y)) xs → AllPairs R (map f xs)
all_pairs-map {A} R f [] h = all_pairs-nil R
all_pairs-map {A} R f (x ∷ xs) h =
    let related : A → A → Type 0 = λ x y. R (f x) (f y) in
    AllPairs-cons R (f x) (map f xs) (All-map (R (f x)) f xs (all_pairs-head related x xs h)) (all_pairs-map R f xs (all_pairs-tail related x xs h))

-- ---- ranks along a written list

abbrev Rises : Mark → Mark → Type 0
Rises m n = m.value ≤ n.value

at_least : (k : ℕ) (groups : List (List ℕ)) → All (λ (m : Mark). k ≤ m.value) (marks_from k groups)
at_least k [] = All-nil (λ (m : Mark). k ≤ m.value)
at_least k (group ∷ groups) =
    All-append (λ (m : Mark). k ≤ m.value) (map (λ x. mark_of x k) group) (marks_from (k + 1) groups)
    (All-map (λ (m : Mark). k ≤ m.value) (λ x. mark_of x k) group (λ i d l. omega arith))
    (All-weaker (λ (m : Mark). k + 1 ≤ m.value) (λ (m : Mark). k ≤ m.value) (λ m h. omega arith) (marks_from (k + 1) groups) (at_least (k + 1) groups))

level : (k : ℕ) (group : List ℕ) → AllPairs Rises (map (λ x. mark_of x k) group)
level k [] = all_pairs-nil Rises
level k (x ∷ group) =
    AllPairs-cons Rises (mark_of x k) (map (λ x. mark_of x k) group) (All-map (Rises (mark_of x k)) (λ x. mark_of x k) group (λ i d l. omega arith)) (level k group)

marks_rise : (k : ℕ) (groups : List (List ℕ)) → AllPairs Rises (marks_from k groups)
marks_rise k [] = all_pairs-nil Rises
marks_rise k (group ∷ groups) =
    all_pairs-append Rises (map (λ x. mark_of x k) group) (marks_from (k + 1) groups) (level k group) (marks_rise (k + 1) groups)
    (All-map (λ (m : Mark). All (Rises m) (marks_from (k + 1) groups)) (λ x. mark_of x k) group (λ i d l.
    All-weaker (λ (m : Mark). k + 1 ≤ m.value) (λ (m : Mark). k ≤ m.value) (λ m h. omega arith) (marks_from (k + 1) groups) (at_least (k + 1) groups)))

all_pairs-unmap : {A B : Type 0} (R : B → B → Type 0) (f : A → B) (xs : List A) → AllPairs R (map f xs) → AllPairs (λ x y. R (f x) (f y)) xs
all_pairs-unmap R f xs h i j d l m =
    let long = length-map xs f in
    let at : (k : ℕ) → k < length xs → get_or (map f xs) k (f d) ≡ f (get_or xs k d) = λ k n. get_or-map f xs k d (f d) n in
    subst (λ y. R (f (get_or xs i d)) y) (at j m) (subst (λ x. R x (get_or (map f xs) j (f d))) (at i (omega arith)) (h i j (f d) l (omega arith)))

ranks_rise : (groups : List (List ℕ)) → is_distinct (concat groups) ≡ true → AllPairs (λ x y. rank_or_0 groups x ≤ rank_or_0 groups y) (concat groups)
ranks_rise groups h =
    all_pairs-unmap Rises (λ x. mark_of x (rank_or_0 groups x)) (concat groups) (subst (AllPairs Rises) (marks_from-all groups h) (marks_rise 1 groups))

-- ---- all pairs

abbrev resident_rank : Lists → Pair → ℕ
resident_rank lists q = rank_or_0 (groups_of_resident lists q.resident) q.hospital

abbrev Follows : Lists → Pair → Pair → Type 0
Follows lists x y = x.resident ≡ y.resident → resident_rank lists x ≤ resident_rank lists y

from_order : (lists : Lists) → IsWellFormed lists → (r : ℕ) → AllPairs (Follows lists) (pairs_from lists r)
from_order lists w r =
    let groups = groups_of_resident lists r in
    let follows : ℕ → ℕ → Type 0 = λ x y. Follows lists (record { resident = r; hospital = x }) (record { resident = r; hospital = y }) in
    all_pairs-map (Follows lists) (λ h. record { resident = r; hospital = h }) (filter (λ h. hospital_names lists h r) (concat groups))
    (AllPairs-filter follows (λ h. hospital_names lists h r) (concat groups)
    (λ i j d l m e. ranks_rise groups (resident_ranked lists w r).distinct i j d l m))

of_resident : (lists : Lists) (r : ℕ) → All (λ (q : Pair). q.resident ≡ r) (pairs_from lists r)
of_resident lists r =
    All-map (λ (q : Pair). q.resident ≡ r) (λ h. record { resident = r; hospital = h }) (filter (λ h. hospital_names lists h r) (concat (groups_of_resident lists r))) (λ i d l. refl)

of_earlier : (lists : Lists) (n : ℕ) → All (λ (q : Pair). q.resident < n) (flat_map (pairs_from lists) (below n))
of_earlier lists zero = All-nil (λ (q : Pair). q.resident < 0)
of_earlier lists (suc n) =
    rw (flat_map-append (pairs_from lists) (below n) (n ∷ []), append-nil (pairs_from lists n))
    (All-append (λ (q : Pair). q.resident < suc n) (flat_map (pairs_from lists) (below n)) (pairs_from lists n)
    (All-weaker (λ (q : Pair). q.resident < n) (λ (q : Pair). q.resident < suc n) (λ q h. omega arith) (flat_map (pairs_from lists) (below n)) (of_earlier lists n))
    (All-weaker (λ (q : Pair). q.resident ≡ n) (λ (q : Pair). q.resident < suc n) (λ q h. omega arith) (pairs_from lists n) (of_resident lists n)))

all_order : (lists : Lists) → IsWellFormed lists → (n : ℕ) → AllPairs (Follows lists) (flat_map (pairs_from lists) (below n))
all_order lists w zero = all_pairs-nil (Follows lists)
all_order lists w (suc n) =
    rw (flat_map-append (pairs_from lists) (below n) (n ∷ []), append-nil (pairs_from lists n))
    (all_pairs-append (Follows lists) (flat_map (pairs_from lists) (below n)) (pairs_from lists n) (all_order lists w n) (from_order lists w n)
    (All-weaker (λ (q : Pair). q.resident < n) (λ q. All (Follows lists q) (pairs_from lists n)) (λ q l.
    All-weaker (λ (o : Pair). o.resident ≡ n) (Follows lists q) (λ o e same. absurd (omega arith)) (pairs_from lists n) (of_resident lists n))
    (flat_map (pairs_from lists) (below n)) (of_earlier lists n)))

-- of two pairs of a resident, the one with the smaller number it ranks at least as high
pub rank-rises : (lists : Lists) → IsWellFormed lists → (p q : ℕ) → IsPairNo lists p → IsPairNo lists q → (pair_at lists p).resident ≡ (pair_at lists q).resident → p < q →
    rank_by_resident lists p ≤ rank_by_resident lists q
rank-rises lists w p q a b same l =
    let place : (k : ℕ) → IsPairNo lists k → pair_at lists k ≡ get_or (pairs lists) (k - 1) no_pair =
    λ k n. ap (pair_at lists) (let e : k ≡ suc (k - 1) = omega (arith, n.0) in e) ∙ pair_at-place lists (k - 1) in
    let ordered : Follows lists (get_or (pairs lists) (p - 1) no_pair) (get_or (pairs lists) (q - 1) no_pair) =
    all_order lists w (length lists.residents) (p - 1) (q - 1) no_pair (omega (arith, a.0)) (omega (arith, b.0, b.1)) in
    let here : Follows lists (pair_at lists p) (pair_at lists q) =
    subst (λ (x : Pair). Follows lists x (pair_at lists q)) (sym (place p a)) (subst (λ (y : Pair). Follows lists (get_or (pairs lists) (p - 1) no_pair) y) (sym (place q b)) ordered) in
    here same
