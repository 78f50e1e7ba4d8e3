-- The least closed set is reached by adding pairs that a rule shows from those before, in any order.
use Rattle.std.proofs.Common.{◌≡◌, ℕ, ◌≤◌, Bool, true, false, not, ◌&&◌, ◌||◌, List, ◌==◌, nat_le, nat_lt, count_by, ◌<◌, refl, sym, inl, inr, arith}
use Rattle.std.proofs.lemmas.Bool.{true≢false, and_from, and_parts, or_cases, or_left, or_right, leb-true, le-leb, lt-ltb, ltb-true}
use Rattle.rank_tables.specs.Instance.{Lists, pair_at, rank_by_resident, rank_by_hospital, capacity_of}
use Rattle.rank_tables.specs.Instance.{pairs_of_resident, rising_pairs_of_hospital}
use Rattle.rank_tables.specs.Tables.{IsPairNo}
use Rattle.stability_model.specs.Gone.{AreGone, Pairs, is_sure, rule_a, has_only, rule_b, IsClosed, Gone}
use Rattle.rank_tables.proofs.Numbers.{all_at, all_from, element}
use Rattle.stability_model.proofs.Counts.{count_by_le, any_at}

-- ---- both rules stay true when more pairs are gone

abbrev IsWithin : Pairs → Pairs → Type 0
IsWithin a b = (p : ℕ) → a p ≡ true → b p ≡ true

fewer_others : (s a b l : Bool) → (a ≡ true → b ≡ true) → (not s && not b && l) ≡ true → (not s && not a && l) ≡ true
fewer_others true a b l h k = k
fewer_others false true true l h k = k
fewer_others false true false l h k = absurd (true≢false (sym (h refl)))
fewer_others false false true l h k = absurd (true≢false (sym k))
fewer_others false false false l h k = k

sure_grows : (lists : Lists) (a b : Pairs) (p : ℕ) → IsWithin a b → is_sure lists a p ≡ true → is_sure lists b p ≡ true
sure_grows lists a b p h s =
    let others : Pairs → ℕ → Bool = λ gone q. not (q == p) && not (gone q) && nat_le (rank_by_hospital lists q) (rank_by_hospital lists p) in
    let at : List ℕ = rising_pairs_of_hospital lists (pair_at lists p).hospital in
    let less : count_by (others b) at ≤ count_by (others a) at = count_by_le _ _ at (λ q i. fewer_others (q == p) (a q) (b q) _ (h q)) in
    let few : count_by (others a) at < capacity_of lists (pair_at lists p).hospital = ltb-true _ _ s in
    lt-ltb _ _ (omega arith)

only_grows : (s a b l : Bool) → (a ≡ true → b ≡ true) → (s || a || l) ≡ true → (s || b || l) ≡ true
only_grows true a b l h k = refl
only_grows false true true l h k = refl
only_grows false true false l h k = absurd (true≢false (sym (h refl)))
only_grows false false true l h k = refl
only_grows false false false l h k = k

has_only_grows : (lists : Lists) (a b : Pairs) (q : ℕ) → IsWithin a b → has_only lists a q ≡ true → has_only lists b q ≡ true
has_only_grows lists a b q h k = all_from _ (pairs_of_resident lists (pair_at lists q).resident) (λ o i. only_grows (o == q) (a o) (b o) _ (h o) (all_at _ _ o k i))

rule_a_grows : (lists : Lists) (a b : Pairs) (w : ℕ) → IsWithin a b → rule_a lists a w ≡ true → rule_a lists b w ≡ true
rule_a_grows lists a b w h k =
    let found = element (λ p. is_sure lists a p && nat_lt (rank_by_resident lists p) (rank_by_resident lists w)) (pairs_of_resident lists (pair_at lists w).resident) k in
    let both = and_parts (is_sure lists a found.0) _ found.2 in
    any_at _ found.0 _ found.1 (and_from (is_sure lists b found.0) _ (sure_grows lists a b found.0 h both.0) both.1)

rule_b_grows : (lists : Lists) (a b : Pairs) (p : ℕ) → IsWithin a b → rule_b lists a p ≡ true → rule_b lists b p ≡ true
rule_b_grows lists a b p h k =
    let before : Pairs → ℕ → Bool = λ gone q. nat_lt (rank_by_hospital lists q) (rank_by_hospital lists p) && has_only lists gone q in
    let at : List ℕ = rising_pairs_of_hospital lists (pair_at lists p).hospital in
    let enough : capacity_of lists (pair_at lists p).hospital ≤ count_by (before a) at = leb-true _ _ k in
    let more : count_by (before a) at ≤ count_by (before b) at = count_by_le _ _ at (λ q i e.
    let both = and_parts (nat_lt (rank_by_hospital lists q) (rank_by_hospital lists p)) (has_only lists a q) e in
    and_from _ (has_only lists b q) both.0 (has_only_grows lists a b q h both.1)) in
    le-leb _ _ (omega arith)

pub rules_grow : (lists : Lists) (a b : Pairs) (p : ℕ) → ((q : ℕ) → a q ≡ true → b q ≡ true) → (rule_a lists a p || rule_b lists a p) ≡ true → (rule_a lists b p || rule_b lists b p) ≡ true
rules_grow lists a b p h k =
    elim (or_cases (rule_a lists a p) (rule_b lists a p) k) [
      | inl e ↦ or_left _ (rule_b lists b p) (rule_a_grows lists a b p h e)
      | inr e ↦ or_right (rule_a lists b p) _ (rule_b_grows lists a b p h e)
    ]

-- ---- the least closed set

-- what a rule shows from gone pairs is gone
pub gone_step : (lists : Lists) (set : Pairs) (p : ℕ) → ((q : ℕ) → set q ≡ true → Gone lists q) → IsPairNo lists p → (rule_a lists set p || rule_b lists set p) ≡ true → Gone lists p
gone_step lists set p h i f = (i, λ gone closed. closed p i (rules_grow lists set gone p (λ q k. (h q k).1 gone closed) f))

-- a closed set of gone pairs is the set of the gone pairs
pub gone_exact : (lists : Lists) (set : Pairs) → ((q : ℕ) → set q ≡ true → Gone lists q) → IsClosed lists set → AreGone lists set
gone_exact lists set h closed = record { each = λ p i k. h p k; all = λ p g. g.1 set closed }
