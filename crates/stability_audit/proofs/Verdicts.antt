-- What the verdict says, and how the tables give it.
use Rattle.std.proofs.Common.{◌≡◌, ℕ, ◌<◌, ◌≤◌, ◌↔◌, Bool, true, false, not, ◌&&◌, ◌||◌, ◌==◌, nat_lt, nat_le, IsTrue, List, length, get_or, take, count_by, Option, Some, None, refl, sym, ap, ap₂, ◌∙◌, subst, arith}
use Rattle.std.specs.List.{list_any, list_all, find}
use Rattle.std.proofs.lemmas.Bool.Decides.{nat_tests}
use Rattle.std.proofs.lemmas.Bool.{true≢false, not-true, not_from_false, and_parts, and_from, eqb-true, leb-true, leb-false, le-leb, lt-leb, ltb-true, ltb-false, le-ltb, lt-ltb, false_from_ne_true}
use Rattle.hrt_base.specs.declared.numbered.PairNo.{PairNo}
use Rattle.stability_audit.proofs.Pairs.{pair_number, all_taken}
use Rattle.rank_tables.specs.Numbers.{below, numbers_to, is_in}
use Rattle.rank_tables.specs.Instance.{Lists, pair_count, capacity_of, rank_by_resident, rank_by_hospital}
use Rattle.rank_tables.specs.Stability.{is_matching, is_weakly_stable, resident_wants, hospital_wants, blocks, uses_of_resident, uses_of_hospital}
use Rattle.rank_tables.specs.Tables.{IsPairNo, numbers_of}
use Rattle.rank_tables.proofs.Numbers.{all_at, all_from, is_in-below, is_in-numbers_to, kinds_within, element, list_any-count}
use Rattle.rank_tables.proofs.Membership.{matching_parts}
use Rattle.rank_tables.proofs.PairFacts.{pair_at-acceptable}
use Rattle.stability_audit.specs.declared.tally.Tally.{Tally}
use Rattle.stability_audit.specs.declared.verdict.Verdict.TheVariants.{Stable}
use Rattle.stability_audit.specs.Tallies.{empty_tally, wants, resident_of, hospital_of, AreTallied, both_want}
use Rattle.stability_audit.specs.Verdict.{ArePairs, resident_twice, hospital_over, blocking_pair, first_reason, verdict_of}
use Rattle.stability_audit.proofs.Tallying.{tally_count, any_worse, all_worse}
use Rattle.stability_audit.proofs.Least.{none_passes, none_found, find_same, IsLeast, owns, least_found}

-- ---- stable says weakly stable

no_reason : (twice over blocking : Option ℕ) → first_reason twice over blocking ≡ Stable → (twice ≡ None) × (over ≡ None) × (blocking ≡ None)
no_reason (Some r) over blocking h = absurd (cc)
no_reason None (Some h) blocking e = absurd (cc)
no_reason None None (Some p) e = absurd (cc)
no_reason None None None e = (refl, refl, refl)

stable_of : (lists : Lists) (m : List ℕ) → resident_twice lists m ≡ None → hospital_over lists m ≡ None → blocking_pair lists m ≡ None → verdict_of lists m ≡ Stable
stable_of lists m a b c =
    ap (λ o. first_reason o (hospital_over lists m) (blocking_pair lists m)) a ∙ ap (λ o. first_reason None o (blocking_pair lists m)) b
    ∙ ap (λ o. first_reason None None o) c

none_at : (t : ℕ → Bool) (n k : ℕ) → find t (below n) ≡ None → k < n → t k ≡ false
none_at t n k h l = not-true (t k) (all_at (λ x. not (t x)) (below n) k (none_passes t (below n) h) (is_in-below n k ∙ lt-ltb k n l))

-- a resident of a pair of m has no second one
pub once : (lists : Lists) (m : List ℕ) (r : ℕ) → resident_twice lists m ≡ None → r < length lists.residents → uses_of_resident lists m r ≤ 1
once lists m r h l =
    let few = leb-false 2 _ (none_at (λ r. nat_le 2 (uses_of_resident lists m r)) (length lists.residents) r h l) in
    omega (arith, few)

within : (lists : Lists) (m : List ℕ) (h : ℕ) → hospital_over lists m ≡ None → h < length lists.hospitals → uses_of_hospital lists m h ≤ capacity_of lists h
within lists m h e l = ltb-false _ _ (none_at (λ h. nat_lt (capacity_of lists h) (uses_of_hospital lists m h)) (length lists.hospitals) h e l)

to_stable : (lists : Lists) (m : List ℕ) → ArePairs lists m → verdict_of lists m ≡ Stable → is_weakly_stable lists m ≡ true
to_stable lists m pairs e =
    let none = no_reason (resident_twice lists m) (hospital_over lists m) (blocking_pair lists m) e in
    and_from (is_matching lists m) _
    (and_from _ _
    (and_from _ _ (and_from _ _ pairs.distinct pairs.in_range)
    (all_from _ m (λ p i. le-leb _ 1 (once lists m (resident_of lists p) none.0 (pair_at-acceptable lists p (pair_number lists m p pairs i)).resident_declared))))
    (all_from _ m (λ p i. le-leb _ _ (within lists m (hospital_of lists p) none.1 (pair_at-acceptable lists p (pair_number lists m p pairs i)).hospital_declared))))
    (none_passes (blocks lists m) (numbers_to (pair_count lists)) none.2)

from_stable : (lists : Lists) (m : List ℕ) → is_weakly_stable lists m ≡ true → verdict_of lists m ≡ Stable
from_stable lists m e =
    let both = and_parts (is_matching lists m) (list_all (λ p. not (blocks lists m p)) (numbers_to (pair_count lists))) e in
    let parts = matching_parts lists m both.0 in
    stable_of lists m
    (none_found _ (below (length lists.residents)) (all_from _ (below (length lists.residents)) (λ r i.
    not_from_false _ (lt-leb 2 (uses_of_resident lists m r) (let one = kinds_within (resident_of lists) (λ k. 1) m parts.residents r in omega (arith, one))))))
    (none_found _ (below (length lists.hospitals)) (all_from _ (below (length lists.hospitals)) (λ h i.
    not_from_false _ (le-ltb _ _ (kinds_within (hospital_of lists) (capacity_of lists) m parts.hospitals h)))))
    (none_found (blocks lists m) (numbers_to (pair_count lists)) both.1)

pub stable_iff : (lists : Lists) (m : List ℕ) → ArePairs lists m → (verdict_of lists m ≡ Stable) ↔ IsTrue (is_weakly_stable lists m)
stable_iff lists m pairs = (to_stable lists m pairs, from_stable lists m)

-- ---- the least resident in two pairs, and the least hospital above its posts

owns_any : (t any : Bool) → (t ≡ true → any ≡ true) → t ≡ (t && any)
owns_any true any h = sym (h refl)
owns_any false any h = refl

used : (owner : ℕ → ℕ) (m : List ℕ) (k n : ℕ) → n < count_by (λ q. owner q == k) m → list_any (λ q. owner q == k) m ≡ true
used owner m k n l = list_any-count (λ q. owner q == k) m ∙ lt-ltb 0 _ (omega arith)

owner_below : (t : ℕ → Bool) (owner : ℕ → ℕ) (m : List ℕ) (n k : ℕ) → ((q : ℕ) → is_in q m ≡ true → owner q < n) → owns t owner m k ≡ true → k < n
owner_below t owner m n k h e =
    let q = element (λ q. owner q == k) m (and_parts (t k) _ e).1 in
    subst (λ (j : ℕ). j < n) (eqb-true (owner q.0) k q.2) (h q.0 q.1)

pub least_owner : (t : ℕ → Bool) (owner : ℕ → ℕ) (m : List ℕ) (n : ℕ) (o : Option ℕ) → ((q : ℕ) → is_in q m ≡ true → owner q < n) →
    ((k : ℕ) → t k ≡ true → 0 < count_by (λ q. owner q == k) m) → IsLeast (owns t owner m) o → o ≡ find t (below n)
least_owner t owner m n o h some least =
    sym (find_same t (owns t owner m) (below n) (λ k i. owns_any (t k) _ (λ e. used owner m k 0 (some k e)))
    ∙ least_found (owns t owner m) n o least (λ k. owner_below t owner m n k h))

resident_least : (lists : Lists) (m : List ℕ) (o : Option ℕ) → ArePairs lists m →
    IsLeast (owns (λ r. nat_le 2 (uses_of_resident lists m r)) (resident_of lists) m) o → o ≡ resident_twice lists m
resident_least lists m o pairs h =
    least_owner _ (resident_of lists) m (length lists.residents) o (λ q i. (pair_at-acceptable lists q (pair_number lists m q pairs i)).resident_declared)
    (λ r e. let two = leb-true 2 _ e in omega (arith, two)) h

hospital_least : (lists : Lists) (m : List ℕ) (o : Option ℕ) → ArePairs lists m →
    IsLeast (owns (λ h. nat_lt (capacity_of lists h) (uses_of_hospital lists m h)) (hospital_of lists) m) o → o ≡ hospital_over lists m
hospital_least lists m o pairs h =
    least_owner _ (hospital_of lists) m (length lists.hospitals) o (λ q i. (pair_at-acceptable lists q (pair_number lists m q pairs i)).hospital_declared)
    (λ r e. let more = ltb-true _ _ e in omega (arith, more)) h

-- after all the pairs
pub least_resident : (lists : Lists) (pairs : List PairNo) (i : ℕ) (o : Option ℕ) → ArePairs lists (numbers_of pairs) → length pairs ≤ i →
    IsLeast (owns (λ r. nat_le 2 (uses_of_resident lists (numbers_of pairs) r)) (resident_of lists) (numbers_of (take i pairs))) o →
    o ≡ resident_twice lists (numbers_of pairs)
least_resident lists pairs i o h l least =
    resident_least lists (numbers_of pairs) o h
    (subst (λ (m : List ℕ). IsLeast (owns (λ r. nat_le 2 (uses_of_resident lists (numbers_of pairs) r)) (resident_of lists) m) o) (all_taken pairs i l) least)

pub least_hospital : (lists : Lists) (pairs : List PairNo) (i : ℕ) (o : Option ℕ) → ArePairs lists (numbers_of pairs) → length pairs ≤ i →
    IsLeast (owns (λ h. nat_lt (capacity_of lists h) (uses_of_hospital lists (numbers_of pairs) h)) (hospital_of lists) (numbers_of (take i pairs))) o →
    o ≡ hospital_over lists (numbers_of pairs)
least_hospital lists pairs i o h l least =
    hospital_least lists (numbers_of pairs) o h
    (subst (λ (m : List ℕ). IsLeast (owns (λ h. nat_lt (capacity_of lists h) (uses_of_hospital lists (numbers_of pairs) h)) (hospital_of lists) m) o) (all_taken pairs i l) least)

-- ---- the blocking pair

-- where no resident is in two pairs, both of a pair want it by the tables exactly where it blocks
outside : (inside wanted wanting : Bool) → (inside ≡ true → wanted ≡ false) → (wanted && wanting) ≡ ((not inside && wanted) && wanting)
outside true wanted wanting h = ap (λ b. b && wanting) (h refl)
outside false wanted wanting h = refl

not_own : (lists : Lists) (m : List ℕ) (p : ℕ) → is_in p m ≡ true → resident_wants lists m p ≡ false
not_own lists m p i = false_from_ne_true (resident_wants lists m p) (λ e.
    true≢false (sym (all_at _ m p e i) ∙ not_better (resident_of lists p) (rank_by_resident lists p)))
  where
    not_better : (r x : ℕ) → (not (r == r) || nat_lt x x) ≡ false
    not_better r x = grind (arith, nat_tests)

pub both_want_blocks : (lists : Lists) (m : List ℕ) (residents hospitals : List Tally) (p : ℕ) → AreTallied lists m residents hospitals →
    resident_twice lists m ≡ None → IsPairNo lists p → both_want lists residents hospitals p ≡ blocks lists m p
both_want_blocks lists m residents hospitals p tables none number =
    let declared = pair_at-acceptable lists p number in
    let r = resident_of lists p in
    let h = hospital_of lists p in
    let of_resident : wants (get_or residents r empty_tally) 1 (rank_by_resident lists p) ≡ resident_wants lists m p =
    ap (λ t. wants t 1 (rank_by_resident lists p)) (tables.of_residents.each r declared.resident_declared)
    ∙ sym (all_worse (resident_of lists) (rank_by_resident lists) m r (rank_by_resident lists p) (once lists m r none declared.resident_declared)) in
    let of_hospital : wants (get_or hospitals h empty_tally) (capacity_of lists h) (rank_by_hospital lists p) ≡ hospital_wants lists m p =
    ap (λ t. wants t (capacity_of lists h) (rank_by_hospital lists p)) (tables.of_hospitals.each h declared.hospital_declared)
    ∙ ap₂ ◌||◌ (ap (λ u. nat_lt u (capacity_of lists h)) (tally_count (hospital_of lists) (rank_by_hospital lists) m h))
    (sym (any_worse (hospital_of lists) (rank_by_hospital lists) m h (rank_by_hospital lists p))) in
    ap₂ ◌&&◌ of_resident of_hospital ∙ outside (is_in p m) (resident_wants lists m p) (hospital_wants lists m p) (not_own lists m p)

pub wanted_blocks : (lists : Lists) (m : List ℕ) (residents hospitals : List Tally) → AreTallied lists m residents hospitals →
    resident_twice lists m ≡ None → find (both_want lists residents hospitals) (numbers_to (pair_count lists)) ≡ blocking_pair lists m
wanted_blocks lists m residents hospitals tables none =
    find_same _ _ (numbers_to (pair_count lists)) (λ p i.
    let both = and_parts (nat_le 1 p) (nat_le p (pair_count lists)) (sym (is_in-numbers_to (pair_count lists) p) ∙ i) in
    both_want_blocks lists m residents hospitals p tables none (leb-true 1 p both.0, leb-true p (pair_count lists) both.1))

-- ---- the third reason, where there is neither of the first two

pub verdict_by_pair : (lists : Lists) (m : List ℕ) (residents hospitals : List Tally) (o : Option ℕ) → AreTallied lists m residents hospitals →
    None ≡ resident_twice lists m → None ≡ hospital_over lists m → o ≡ find (both_want lists residents hospitals) (numbers_to (pair_count lists)) →
    first_reason None None o ≡ verdict_of lists m
verdict_by_pair lists m residents hospitals o tables a b c =
    ap (first_reason None None) (c ∙ wanted_blocks lists m residents hospitals tables (sym a))
    ∙ ap (λ p. first_reason None p (blocking_pair lists m)) b
    ∙ ap (λ p. first_reason p (hospital_over lists m) (blocking_pair lists m)) a
