-- No weakly stable matching has a gone pair: the pairs outside one are closed under both rules.
use Rattle.std.proofs.Common.{◌≡◌, ℕ, ◌+◌, ◌≤◌, ◌<◌, Bool, true, false, not, ◌&&◌, ◌||◌, List, ◌==◌, nat_le, nat_lt, count_by, refl, sym, ap, ◌∙◌, inl, inr, subst, arith}
use Rattle.std.specs.List.{list_all}
use Rattle.std.proofs.lemmas.Bool.{true≢false, and_from, and_parts, or_cases, or_right, not-true, not_from_false, false_from_ne_true, true_from_ne_false, eqb-true, eq-eqb, leb-true, ltb-true}
use Rattle.std.proofs.lemmas.Bool.Decides.{nat_tests}
use Rattle.rank_tables.specs.Numbers.{numbers_to, is_in}
use Rattle.rank_tables.specs.Instance.{Lists, pair_count, pair_at, rank_by_resident, rank_by_hospital, capacity_of}
use Rattle.rank_tables.specs.Stability.{uses_of_resident, uses_of_hospital, is_matching, resident_wants, hospital_wants, blocks, is_weakly_stable}
use Rattle.rank_tables.specs.Instance.{pairs_of_resident, rising_pairs_of_hospital}
use Rattle.stability_model.specs.Gone.{Pairs, is_sure, rule_a, has_only, rule_b, IsClosed, Gone}
use Rattle.rank_tables.proofs.PairNumbers.{is_pair}
use Rattle.rank_tables.proofs.Numbers.{all_at, all_from, is_in-filter, is_in-numbers_to, distinct-numbers_to, list_any-count, kinds_within, element}
use Rattle.rank_tables.proofs.Membership.{matching_parts}
use Rattle.stability_model.proofs.Counts.{count_by_le, some_counted, only_one, count_in_filter, count_in_list, count_split, any_at}

-- the pairs outside a list
abbrev pub outside : List ℕ → Pairs
outside m = λ q. not (is_in q m)

-- ---- a matching's counts

pub pairs_in : (lists : Lists) (m : List ℕ) → is_matching lists m ≡ true → list_all (λ q. is_pair lists q) m ≡ true
pairs_in lists m h = all_from _ m (λ q i. is_in-numbers_to (pair_count lists) q ∙ all_at _ m q (matching_parts lists m h).in_range i)

pub count_matched : (lists : Lists) (m : List ℕ) (t : ℕ → Bool) → is_matching lists m ≡ true → count_by t m ≡ count_by (λ q. is_in q m && t q) (numbers_to (pair_count lists))
count_matched lists m t h = count_in_list t (numbers_to (pair_count lists)) m (distinct-numbers_to (pair_count lists)) (matching_parts lists m h).distinct (pairs_in lists m h)

pub resident_within : (lists : Lists) (m : List ℕ) → is_matching lists m ≡ true → (r : ℕ) → uses_of_resident lists m r ≤ 1
resident_within lists m h = kinds_within (λ q. (pair_at lists q).resident) (λ r. 1) m (matching_parts lists m h).residents

pub hospital_within : (lists : Lists) (m : List ℕ) → is_matching lists m ≡ true → (k : ℕ) → uses_of_hospital lists m k ≤ capacity_of lists k
hospital_within lists m h = kinds_within (λ q. (pair_at lists q).hospital) (capacity_of lists) m (matching_parts lists m h).hospitals

-- no pair outside it is wanted by both
unwanted : (lists : Lists) (m : List ℕ) (p : ℕ) → is_weakly_stable lists m ≡ true → is_pair lists p ≡ true → is_in p m ≡ false →
    resident_wants lists m p ≡ true → hospital_wants lists m p ≡ true → ⊥
unwanted lists m p s i o a b =
    true≢false (sym (and_from _ (hospital_wants lists m p) (and_from (not (is_in p m)) (resident_wants lists m p) (not_from_false _ o) a) b)
    ∙ not-true (blocks lists m p) (all_at _ _ p (and_parts (is_matching lists m) _ s).1 i))

-- ---- rule A

near_counts : (i h s l : Bool) → (s ≡ true → i ≡ false) → (i && (h && l)) ≡ true → (h && (not s && not (not i) && l)) ≡ true
near_counts true true true l e k = absurd (true≢false (e refl))
near_counts true true false l e k = k
near_counts true false s l e k = k
near_counts false h s l e k = absurd (true≢false (sym k))

has_post : (uses near far c sure : ℕ) → uses ≡ near + far → near ≤ sure → sure < c → (nat_lt uses c || nat_lt 0 far) ≡ true
has_post uses near far c sure e a b = grind (arith, nat_tests)

far_is_not_near : (r s : ℕ) → nat_lt s r ≡ not (nat_le r s)
far_is_not_near r s = grind (arith, nat_tests)

sure_wanted : (lists : Lists) (m : List ℕ) (p : ℕ) → is_matching lists m ≡ true → is_in p m ≡ false → is_sure lists (outside m) p ≡ true → hospital_wants lists m p ≡ true
sure_wanted lists m p h o s =
    let ns : List ℕ = numbers_to (pair_count lists) in
    let at : ℕ → Bool = λ q. (pair_at lists q).hospital == (pair_at lists p).hospital in
    let as_good : ℕ → Bool = λ q. nat_le (rank_by_hospital lists q) (rank_by_hospital lists p) in
    let worse : ℕ → Bool = λ q. nat_lt (rank_by_hospital lists p) (rank_by_hospital lists q) in
    let others : ℕ → Bool = λ q. not (q == p) && not (outside m q) && as_good q in
    let le : count_by (λ q. at q && as_good q) m ≤ count_by others (rising_pairs_of_hospital lists (pair_at lists p).hospital) =
    subst (λ (n : ℕ). n ≤ count_by others (rising_pairs_of_hospital lists (pair_at lists p).hospital)) (sym (count_matched lists m (λ q. at q && as_good q) h))
    (subst (λ (n : ℕ). count_by (λ q. is_in q m && (at q && as_good q)) ns ≤ n) (sym (count_in_filter others at ns))
    (count_by_le _ _ ns (λ q j. near_counts (is_in q m) (at q) (q == p) (as_good q) (λ e. subst (λ (z : ℕ). is_in z m ≡ false) (sym (eqb-true q p e)) o)))) in
    ap (λ b. nat_lt (count_by at m) (capacity_of lists (pair_at lists p).hospital) || b) (list_any-count (λ q. at q && worse q) m)
    ∙ has_post (count_by at m) (count_by (λ q. at q && as_good q) m) (count_by (λ q. at q && worse q) m) (capacity_of lists (pair_at lists p).hospital) _
    (count_split at as_good worse m (λ q. far_is_not_near (rank_by_hospital lists q) (rank_by_hospital lists p))) le (ltb-true _ _ s)

not_less : (r : ℕ) → nat_lt r r ≡ true → ⊥
not_less r e = let l : r < r = ltb-true r r e in omega arith

else_lower : (a b : Bool) → (a ≡ true → b ≡ true) → (not a || b) ≡ true
else_lower true b h = h refl
else_lower false b h = refl

outside_a : (lists : Lists) (m : List ℕ) (w : ℕ) → is_weakly_stable lists m ≡ true → is_in w m ≡ true → rule_a lists (outside m) w ≡ true → ⊥
outside_a lists m w s i a =
    let h : is_matching lists m ≡ true = (and_parts (is_matching lists m) _ s).0 in
    let found = element (λ p. is_sure lists (outside m) p && nat_lt (rank_by_resident lists p) (rank_by_resident lists w)) (pairs_of_resident lists (pair_at lists w).resident) a in
    let p : ℕ = found.0 in
    let both = and_parts (is_sure lists (outside m) p) (nat_lt (rank_by_resident lists p) (rank_by_resident lists w)) found.2 in
    let place = and_parts (is_pair lists p) ((pair_at lists p).resident == (pair_at lists w).resident)
    (sym (is_in-filter (λ q. (pair_at lists q).resident == (pair_at lists w).resident) p (numbers_to (pair_count lists))) ∙ found.1) in
    let same_resident : (pair_at lists p).resident ≡ (pair_at lists w).resident = eqb-true _ _ place.1 in
    let mine : (q : ℕ) → is_in q m ≡ true → ((pair_at lists q).resident == (pair_at lists p).resident) ≡ true → nat_lt (rank_by_resident lists p) (rank_by_resident lists q) ≡ true =
    λ q j e. subst (λ (z : ℕ). nat_lt (rank_by_resident lists p) (rank_by_resident lists z) ≡ true)
    (only_one (λ x. (pair_at lists x).resident == (pair_at lists w).resident) w q m (resident_within lists m h (pair_at lists w).resident) i (eq-eqb _ _ refl) j
    (eq-eqb _ _ (eqb-true (pair_at lists q).resident _ e ∙ same_resident))) both.1 in
    let not_in : is_in p m ≡ false = false_from_ne_true _ (λ j. not_less _ (mine p j (eq-eqb _ _ refl))) in
    unwanted lists m p s place.0 not_in
    (all_from _ m (λ q j. else_lower ((pair_at lists q).resident == (pair_at lists p).resident) _ (mine q j)))
    (sure_wanted lists m p h not_in both.0)

-- ---- rule B

only_wanted : (a o b r : Bool) → (r ≡ true → a ≡ false) → o ≡ true → (r ≡ true → (a || not o || b) ≡ true) → (not r || b) ≡ true
only_wanted a false b r f e h = absurd (true≢false (sym e))
only_wanted true true b true f e h = absurd (true≢false (f refl))
only_wanted false true b true f e h = h refl
only_wanted a true b false f e h = refl

is_not : (m : List ℕ) (o q : ℕ) → is_in q m ≡ false → is_in o m ≡ true → (o == q) ≡ false
is_not m o q e i = false_from_ne_true _ (λ j. true≢false (sym i ∙ subst (λ (z : ℕ). is_in z m ≡ false) (sym (eqb-true o q j)) e))

-- a resident with nothing else takes a post that a pair of the matching holds before it
taken : (lists : Lists) (m : List ℕ) (p q : ℕ) → is_weakly_stable lists m ≡ true → is_in p m ≡ true → is_pair lists q ≡ true →
    ((pair_at lists q).hospital == (pair_at lists p).hospital) ≡ true → nat_lt (rank_by_hospital lists q) (rank_by_hospital lists p) ≡ true → has_only lists (outside m) q ≡ true → is_in q m ≡ true
taken lists m p q s i j e l only =
    true_from_ne_false _ (λ o.
    let h : is_matching lists m ≡ true = (and_parts (is_matching lists m) _ s).0 in
    unwanted lists m q s j o
    (all_from _ m (λ x k. only_wanted (x == q) (is_in x m) (nat_lt (rank_by_resident lists q) (rank_by_resident lists x)) ((pair_at lists x).resident == (pair_at lists q).resident)
    (λ _. is_not m x q o k) k
    (λ f. all_at _ (pairs_of_resident lists (pair_at lists q).resident) x only
    (is_in-filter (λ y. (pair_at lists y).resident == (pair_at lists q).resident) x (numbers_to (pair_count lists))
    ∙ and_from (is_pair lists x) _ (all_at _ m x (pairs_in lists m h) k) f))))
    (or_right (nat_lt (uses_of_hospital lists m (pair_at lists q).hospital) (capacity_of lists (pair_at lists q).hospital)) _
    (any_at (λ x. (pair_at lists x).hospital == (pair_at lists q).hospital && nat_lt (rank_by_hospital lists q) (rank_by_hospital lists x)) p m i
    (and_from _ _ (eq-eqb _ _ (sym (eqb-true _ _ e))) l))))

outside_b : (lists : Lists) (m : List ℕ) (p : ℕ) → is_weakly_stable lists m ≡ true → is_in p m ≡ true → rule_b lists (outside m) p ≡ true → ⊥
outside_b lists m p s i b =
    let h : is_matching lists m ≡ true = (and_parts (is_matching lists m) _ s).0 in
    let ns : List ℕ = numbers_to (pair_count lists) in
    let at : ℕ → Bool = λ q. (pair_at lists q).hospital == (pair_at lists p).hospital in
    let before : ℕ → Bool = λ q. nat_lt (rank_by_hospital lists q) (rank_by_hospital lists p) in
    let after : ℕ → Bool = λ q. not (before q) in
    let enough : capacity_of lists (pair_at lists p).hospital ≤ count_by (λ q. at q && (before q && has_only lists (outside m) q)) ns =
    subst (λ (n : ℕ). capacity_of lists (pair_at lists p).hospital ≤ n) (count_in_filter (λ q. before q && has_only lists (outside m) q) at ns) (leb-true _ _ b) in
    let hold : count_by (λ q. at q && (before q && has_only lists (outside m) q)) ns ≤ count_by (λ q. at q && before q) m =
    subst (λ (n : ℕ). count_by (λ q. at q && (before q && has_only lists (outside m) q)) ns ≤ n) (sym (count_matched lists m (λ q. at q && before q) h))
    (count_by_le _ _ ns (λ q j k.
    let here = and_parts (at q) _ k in
    let two = and_parts (before q) _ here.1 in
    and_from (is_in q m) _ (taken lists m p q s i j here.0 two.0 two.1) (and_from (at q) (before q) here.0 two.0))) in
    let itself : 0 < count_by (λ q. at q && after q) m = some_counted (λ q. at q && after q) p m i (and_from (at p) (after p) (eq-eqb _ _ refl) (not_from_false _ (false_from_ne_true _ (not_less (rank_by_hospital lists p))))) in
    let parts = count_split at before after m (λ q. refl) in
    let within : count_by at m ≤ capacity_of lists (pair_at lists p).hospital = hospital_within lists m h (pair_at lists p).hospital in
    omega arith

-- ---- both

pub outside_closed : (lists : Lists) (m : List ℕ) → is_weakly_stable lists m ≡ true → IsClosed lists (outside m)
outside_closed lists m s p i f =
    not_from_false _ (false_from_ne_true _ (λ j. elim (or_cases (rule_a lists (outside m) p) (rule_b lists (outside m) p) f) [
      | inl a ↦ outside_a lists m p s j a
      | inr b ↦ outside_b lists m p s j b
    ]))

-- no weakly stable matching has a gone pair
pub gone_in_none : (lists : Lists) (m : List ℕ) (p : ℕ) → is_weakly_stable lists m ≡ true → Gone lists p → is_in p m ≡ false
gone_in_none lists m p s g = not-true _ (g.1 (outside m) (outside_closed lists m s))
