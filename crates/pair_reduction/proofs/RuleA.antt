-- Rule A by propagation: where a pair is sure of a post, each pair that its resident ranks lower follows to be 0 from the row
-- of the resident, the unit rows of the pairs that are gone and the row of the pair.
use Rattle.std.proofs.Common.{◌≡◌, ℕ, suc, ◌+◌, ◌<◌, ◌≤◌, Bool, true, false, not, ◌&&◌, ◌==◌, List, ◌∷◌, nat_le, if◌then◌else◌, filter, count_by, pos, Contains, refl, sym, ap, ◌∙◌, subst, inl, inr, arith}
use Rattle.std.proofs.lemmas.Bool.{and_from, and_parts, cases_Bool, eq-eqb, eqb-true, false_from_ne_true, leb-true, ltb-true}
use Rattle.std.proofs.lemmas.List.Elements.{All-contains, All-tail, All-head}
use Rattle.pb_rows.specs.Terms.{PlainRow}
use Rattle.pb_rows.specs.Rows.{in_normal_form, opposite_row}
use Rattle.pb_rows.specs.Closure.{Implies, IsQuiet, Keeps, Literals, none}
use Rattle.pb_rows.proofs.Coefs.{coef_row, lit, open_share, sum_below-le}
use Rattle.rank_tables.specs.Numbers.{is_in, numbers_to}
use Rattle.rank_tables.specs.Instance.{Lists, capacity_of, pair_at, pair_count, rising_pairs_of_hospital, rank_by_hospital, rank_by_resident}
use Rattle.rank_tables.specs.Tables.{IsPairNo}
use Rattle.rank_tables.proofs.Numbers.{is_in-filter}
use Rattle.rank_tables.specs.Terms.{is_as_good_for_resident}
use Rattle.stability_model.specs.Model.{pair_row, resident_row}
use Rattle.stability_model.specs.Gone.{Pairs, is_sure}
use Rattle.stability_model.proofs.CoefRows.{pair_coefs, pair_row-coefs}
use Rattle.stability_model.proofs.Counts.{count_in_filter}
use Rattle.rank_tables.proofs.PairNumbers.{is_pair, listed_pair, pair_listed}
use Rattle.derivation.specs.Deletions.{unit_row}
use Rattle.pair_reduction.proofs.AtMost.{counted_below, others_false, taken_one, taken_two, taken_most}
use Rattle.pair_reduction.proofs.Quiet.{enough_open, open_sum, opposite_held, unit_held}

-- ---- the share of a variable in the row of a pair

pub closed_share : (set : Literals) (v k m : ℕ) → set (lit true v) ≡ true → open_share set v (pos k) ≤ m
closed_share set v k m e = rw e (omega arith)

pub zero_share : (set : Literals) (v m : ℕ) → open_share set v (pos 0) ≤ m
zero_share set v m = elim (cases_Bool (set (lit true v))) [
  | inl e ↦ closed_share set v 0 m e
  | inr e ↦ rw e (omega arith)
]

pub some_share : (set : Literals) (v k : ℕ) → open_share set v (pos k) ≤ k
some_share set v k = elim (cases_Bool (set (lit true v))) [
  | inl e ↦ closed_share set v k k e
  | inr e ↦ rw e (omega arith)
]

near_share : (set : Literals) (v : ℕ) (h l : Bool) → open_share set v (pos (if h && l then 1 else 0)) ≤ (if h && (true && true && l) then 1 else 0)
near_share set v true true = some_share set v 1
near_share set v true false = some_share set v 0
near_share set v false l = some_share set v 0

-- the pair itself, what its resident ranks as high, and what is gone is false; another pair of the hospital counts once
pair_share : (set : Literals) (v c : ℕ) (b s a h l g : Bool) → (b ≡ true → s ≡ true → set (lit true v) ≡ true) → (b ≡ true → a ≡ true → set (lit true v) ≡ true) → (b ≡ true → g ≡ true → set (lit true v) ≡ true) →
    open_share set v (if b then pos (if s then c + 1 else if a then c else if h && l then 1 else 0) else pos 0) ≤ (if b && (h && (not s && not g && l)) then 1 else 0)
pair_share set v c false s a h l g x y z = zero_share set v 0
pair_share set v c true true a h l g x y z = closed_share set v (c + 1) (if h && (false && not g && l) then 1 else 0) (x refl refl)
pair_share set v c true false true h l g x y z = closed_share set v c (if h && (true && not g && l) then 1 else 0) (y refl refl)
pair_share set v c true false false h l true x y z = closed_share set v (if h && l then 1 else 0) (if h && (true && false && l) then 1 else 0) (z refl refl)
pair_share set v c true false false h l false x y z = near_share set v h l

module _ (lists : Lists) (gone : Pairs) (p w : ℕ) (rows : List PlainRow) (p_is : IsPairNo lists p) (w_is : IsPairNo lists w) (same : (pair_at lists p).resident ≡ (pair_at lists w).resident) (sure : is_sure lists gone p ≡ true) (lower : rank_by_resident lists p < rank_by_resident lists w) (resident : Contains rows (in_normal_form (resident_row lists (pair_at lists w).resident))) (pair : Contains rows (in_normal_form (pair_row lists p))) (units : (g : ℕ) → IsPairNo lists g → gone g ≡ true → Contains rows (unit_row g)) where
  module _ (set : Literals) (quiet : IsQuiet (opposite_row (unit_row w) ∷ rows) none set) where
    kept : (row : PlainRow) → Contains rows row → Keeps set row
    kept row c = All-contains (Keeps set) rows row (All-tail (Keeps set) (opposite_row (unit_row w)) rows quiet.kept) c

    w_true : set (lit false w) ≡ true
    w_true = opposite_held set w (All-head (Keeps set) (opposite_row (unit_row w)) rows quiet.kept)

    of_w : ℕ → Bool
    of_w v = (pair_at lists v).resident == (pair_at lists w).resident

    -- the pairs of the resident
    listed : (v : ℕ) → is_pair lists v ≡ true → (pair_at lists v).resident ≡ (pair_at lists w).resident → is_in v (filter (λ q. (pair_at lists q).resident == (pair_at lists w).resident) (numbers_to (pair_count lists))) ≡ true
    listed v i e = is_in-filter (λ q. (pair_at lists q).resident == (pair_at lists w).resident) v (numbers_to (pair_count lists)) ∙ and_from (is_pair lists v) ((pair_at lists v).resident == (pair_at lists w).resident) i (eq-eqb (pair_at lists v).resident (pair_at lists w).resident e)

    -- another pair of the resident is false
    other_false : (v : ℕ) → is_pair lists v ≡ true → (pair_at lists v).resident ≡ (pair_at lists w).resident → (w ≡ v → ⊥) → set (lit true v) ≡ true
    other_false v i e o =
        let keeps : Keeps set (in_normal_form (resident_row lists (pair_at lists w).resident)) = kept (in_normal_form (resident_row lists (pair_at lists w).resident)) resident in
        let at_w = listed w (pair_listed lists w w_is) refl in
        others_false set 1 (pair_count lists) (λ q. (pair_at lists q).resident == (pair_at lists w).resident) keeps v (listed v i e)
        (taken_one set (pair_count lists) (λ q. (pair_at lists q).resident == (pair_at lists w).resident) w at_w w_true)
        (false_from_ne_true (set (lit false v)) (λ t.
        let two = taken_two set (pair_count lists) (λ q. (pair_at lists q).resident == (pair_at lists w).resident) w v at_w w_true (listed v i e) t o in
        let most = taken_most set 1 (pair_count lists) (λ q. (pair_at lists q).resident == (pair_at lists w).resident) keeps in
        omega arith))

    itself : (v : ℕ) → is_pair lists v ≡ true → (v == p) ≡ true → set (lit true v) ≡ true
    itself v i e =
        let f : v ≡ p = eqb-true v p e in
        other_false v i (ap (λ q. (pair_at lists q).resident) f ∙ same) (λ k. let z : rank_by_resident lists p ≡ rank_by_resident lists w = ap (rank_by_resident lists) (sym (k ∙ f)) in omega arith)

    as_good : (v : ℕ) → is_pair lists v ≡ true → is_as_good_for_resident lists p v ≡ true → set (lit true v) ≡ true
    as_good v i e =
        let two = and_parts ((pair_at lists v).resident == (pair_at lists p).resident) (nat_le (rank_by_resident lists v) (rank_by_resident lists p)) e in
        let le : rank_by_resident lists v ≤ rank_by_resident lists p = leb-true (rank_by_resident lists v) (rank_by_resident lists p) two.1 in
        other_false v i (eqb-true (pair_at lists v).resident (pair_at lists p).resident two.0 ∙ same) (λ k. let z : rank_by_resident lists v ≡ rank_by_resident lists w = ap (rank_by_resident lists) (sym k) in omega arith)

    deleted : (v : ℕ) → is_pair lists v ≡ true → gone v ≡ true → set (lit true v) ≡ true
    deleted v i g = unit_held set v (kept (unit_row v) (units v (listed_pair lists v i) g))

    others : ℕ → Bool
    others q = not (q == p) && not (gone q) && nat_le (rank_by_hospital lists q) (rank_by_hospital lists p)

    too_few : open_sum set (suc (pair_count lists)) (pair_coefs lists p) < capacity_of lists (pair_at lists p).hospital
    unfolding others
    too_few =
        let c : ℕ = capacity_of lists (pair_at lists p).hospital in
        let few : count_by others (rising_pairs_of_hospital lists (pair_at lists p).hospital) < c = ltb-true (count_by others (rising_pairs_of_hospital lists (pair_at lists p).hospital)) c sure in
        let le = sum_below-le (suc (pair_count lists)) (λ v. open_share set v (pair_coefs lists p v)) (λ v. if is_pair lists v && ((pair_at lists v).hospital == (pair_at lists p).hospital && others v) then 1 else 0)
        (λ v l. pair_share set v c (is_pair lists v) (v == p) (is_as_good_for_resident lists p v) ((pair_at lists v).hospital == (pair_at lists p).hospital) (nat_le (rank_by_hospital lists v) (rank_by_hospital lists p)) (gone v)
        (itself v) (as_good v) (deleted v)) in
        omega (arith, counted_below (pair_count lists) (λ v. (pair_at lists v).hospital == (pair_at lists p).hospital && others v), count_in_filter others (λ q. (pair_at lists q).hospital == (pair_at lists p).hospital) (numbers_to (pair_count lists)))

    none_quiet : ⊥
    none_quiet =
        let keeps : Keeps set (coef_row (suc (pair_count lists)) (pair_coefs lists p) (capacity_of lists (pair_at lists p).hospital)) = subst (Keeps set) (pair_row-coefs lists p) (kept (in_normal_form (pair_row lists p)) pair) in
        let enough = enough_open set (suc (pair_count lists)) (pair_coefs lists p) (capacity_of lists (pair_at lists p).hospital) keeps in
        omega (arith, too_few)

  pub rule_a_follows : Implies rows (unit_row w)
  rule_a_follows set quiet = none_quiet set quiet
