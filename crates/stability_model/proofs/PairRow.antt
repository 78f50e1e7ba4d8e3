-- The row of a pair holds at the point of a matching exactly where the pair does not block the matching.
use Rattle.std.proofs.Common.{◌≡◌, ℕ, ◌+◌, ◌≤◌, Bool, true, false, cond, not, ◌&&◌, ◌||◌, List, [], ◌∷◌, ◌==◌, nat_le, nat_lt, if◌then◌else◌, filter, map, sum_by, count_by, ℤ, pos, ◌+ℤ◌, int_le, refl, sym, ap, ap₂, ◌∙◌, arith}
use Rattle.std.specs.List.{list_any}
use Rattle.std.proofs.lemmas.Bool.{true≢false, or_parts, le-leb, ltb-false}
use Rattle.std.proofs.lemmas.Bool.Decides.{nat_tests}
use Rattle.std.proofs.lemmas.Int.{ints}
use Rattle.std.proofs.lemmas.List.Sums.{sum_by-cons}
use Rattle.hrt_base.specs.declared.literal.Term.{Term}
use Rattle.pb_rows.specs.Points.{Point, value_at}
use Rattle.pb_rows.specs.Rows.{holds, in_normal_form}
use Rattle.pb_rows.proofs.ByNets.{holds-normal_form}
use Rattle.rank_tables.specs.Numbers.{numbers_to, is_in}
use Rattle.rank_tables.specs.Instance.{Lists, capacity_of, pair_at, pair_count, rank_by_hospital, rank_by_resident}
use Rattle.rank_tables.specs.Stability.{blocks, hospital_wants, is_matching, uses_of_hospital}
use Rattle.stability_model.specs.Model.{pair_row, point_of_pairs, stability_coef, term}
pub use Rattle.rank_tables.proofs.Membership.{Matching, matching_parts}
use Rattle.rank_tables.proofs.Numbers.{all_at, all_from, is_in-numbers_to, distinct-numbers_to, sum_by-filter, sum_by_of_elements, term-le-sum, list_any-count, kinds_within, list_all-none}

-- ---- coefficients of this form, over any tests of a list's elements

abbrev coef_by : (same good near : ℕ → Bool) → ℕ → ℕ → ℕ
coef_by same good near c q = if same q then c + 1 else if good q then c else if near q then 1 else 0

same_term : (s g n : Bool) (c : ℕ) → s ≡ true → c ≤ (if s then c + 1 else if g then c else if n then 1 else 0)
same_term true g n c e = omega arith
same_term false g n c e = absurd (true≢false (sym e))

good_term : (s g n : Bool) (c : ℕ) → g ≡ true → c ≤ (if s then c + 1 else if g then c else if n then 1 else 0)
good_term true g n c e = omega arith
good_term false true n c e = omega arith
good_term false false n c e = absurd (true≢false (sym e))

near_term : (s g n : Bool) (c : ℕ) → s ≡ false → g ≡ false → (if s then c + 1 else if g then c else if n then 1 else 0) ≡ (if n then 1 else 0)
near_term true g n c d e = absurd (true≢false d)
near_term false true n c d e = absurd (true≢false e)
near_term false false n c d e = refl

only_near : (same good near : ℕ → Bool) (c : ℕ) (m : List ℕ) → list_any same m ≡ false → list_any good m ≡ false →
    sum_by (coef_by same good near c) m ≡ count_by near m
only_near same good near c [] s g = refl
only_near same good near c (q ∷ m) s g =
    sum_by-cons (coef_by same good near c) q m
    ∙ ap₂ ◌+◌ (near_term (same q) (good q) (near q) c (or_parts (same q) _ s).0 (or_parts (good q) _ g).0) (only_near same good near c m (or_parts (same q) _ s).1 (or_parts (good q) _ g).1)
    ∙ sym (sum_by-cons (λ q. if near q then 1 else 0) q m)

two_kinds : (post near far : ℕ → Bool) (m : List ℕ) → ((q : ℕ) → (if post q then 1 else 0) ≡ (if near q then 1 else 0) + (if far q then 1 else 0)) →
    count_by post m ≡ count_by near m + count_by far m
two_kinds post near far [] h = refl
two_kinds post near far (q ∷ m) h = let e = two_kinds post near far m h in let k = h q in
    omega (arith, sum_by-cons (λ q. if post q then 1 else 0) q m, sum_by-cons (λ q. if near q then 1 else 0) q m, sum_by-cons (λ q. if far q then 1 else 0) q m)

full : (c u n k : ℕ) → u ≡ n + k → u ≤ c → nat_le c n ≡ not (nat_lt u c || nat_lt 0 k)
full c u n k e h = grind (arith, nat_tests)

by_cases : (c sum u n k : ℕ) (s g : Bool) → u ≡ n + k → u ≤ c → (s ≡ true → c ≤ sum) → (g ≡ true → c ≤ sum) → (s ≡ false → g ≡ false → sum ≡ n) →
    nat_le c sum ≡ not (not s && not g && (nat_lt u c || nat_lt 0 k))
by_cases c sum u n k true g e h a b d = le-leb c sum (a refl)
by_cases c sum u n k false true e h a b d = le-leb c sum (b refl)
by_cases c sum u n k false false e h a b d = ap (nat_le c) (d refl refl) ∙ full c u n k e h

core : (same good post near far : ℕ → Bool) (c : ℕ) (m : List ℕ) →
    ((q : ℕ) → (if post q then 1 else 0) ≡ (if near q then 1 else 0) + (if far q then 1 else 0)) → count_by post m ≤ c →
    nat_le c (sum_by (coef_by same good near c) m) ≡ not (not (list_any same m) && not (list_any good m) && (nat_lt (count_by post m) c || list_any far m))
core same good post near far c m h u =
    by_cases c _ _ _ _ (list_any same m) (list_any good m) (two_kinds post near far m h) u
    (term-le-sum _ same c m (λ q. same_term (same q) (good q) (near q) c)) (term-le-sum _ good c m (λ q. good_term (same q) (good q) (near q) c)) (only_near same good near c m)
    ∙ ap (λ b. not (not (list_any same m) && not (list_any good m) && (nat_lt (count_by post m) c || b))) (sym (list_any-count far m))

-- ---- the pair's tests

split : (b : Bool) (r s : ℕ) → (if b then 1 else 0) ≡ (if b && nat_le r s then 1 else 0) + (if b && nat_lt s r then 1 else 0)
split true r s = grind (arith, nat_tests)
split false r s = refl

lower : (b : Bool) (r s : ℕ) → (not b || nat_lt s r) ≡ not (b && nat_le r s)
lower true r s = grind (arith, nat_tests)
lower false r s = refl

-- the pair's coefficients add up to its hospital's posts exactly where it does not block
pub coefs-blocks : (lists : Lists) (m : List ℕ) (p : ℕ) → uses_of_hospital lists m (pair_at lists p).hospital ≤ capacity_of lists (pair_at lists p).hospital →
    nat_le (capacity_of lists (pair_at lists p).hospital) (sum_by (stability_coef lists p) m) ≡ not (blocks lists m p)
coefs-blocks lists m p u =
    core (λ q. q == p) (λ q. (pair_at lists q).resident == (pair_at lists p).resident && nat_le (rank_by_resident lists q) (rank_by_resident lists p))
    (λ q. (pair_at lists q).hospital == (pair_at lists p).hospital)
    (λ q. (pair_at lists q).hospital == (pair_at lists p).hospital && nat_le (rank_by_hospital lists q) (rank_by_hospital lists p))
    (λ q. (pair_at lists q).hospital == (pair_at lists p).hospital && nat_lt (rank_by_hospital lists p) (rank_by_hospital lists q))
    (capacity_of lists (pair_at lists p).hospital) m
    (λ q. split ((pair_at lists q).hospital == (pair_at lists p).hospital) (rank_by_hospital lists q) (rank_by_hospital lists p)) u
    ∙ ap (λ b. not (not (is_in p m) && b && hospital_wants lists m p))
    (sym (list_all-none _ _ m (λ q. lower ((pair_at lists q).resident == (pair_at lists p).resident) (rank_by_resident lists q) (rank_by_resident lists p))))

-- ---- the row's value

pub value_step : (b : Bool) (n s : ℕ) (v : ℤ) → v ≡ pos s → (if b then pos n else pos 0) +ℤ v ≡ pos ((if b then n else 0) + s)
value_step true n s v e = omega (arith, ints)
value_step false n s v e = omega (arith, ints)

nothing : (b : Bool) (n s : ℕ) → nat_lt 0 n ≡ false → s ≡ (if b then n else 0) + s
nothing true n s e = let z : n ≤ 0 = ltb-false 0 n e in omega arith
nothing false n s e = omega arith

abbrev terms_of : (ℕ → ℕ) → List ℕ → List Term
terms_of f qs = map (λ q. term (pos (f q)) q) qs

value_filter : (point : Point) (f : ℕ → ℕ) (q : ℕ) (qs : List ℕ) (s : ℕ) (b : Bool) → nat_lt 0 (f q) ≡ b → value_at point (terms_of f qs) ≡ pos s →
    value_at point (terms_of f (cond b (q ∷ qs) qs)) ≡ pos ((if point q then f q else 0) + s)
value_filter point f q qs s true e h = value_step (point q) (f q) s _ h
value_filter point f q qs s false e h = h ∙ ap pos (nothing (point q) (f q) s e)

pub value_of_terms : (point : Point) (f : ℕ → ℕ) (qs : List ℕ) → value_at point (terms_of f (filter (λ q. nat_lt 0 (f q)) qs)) ≡ pos (sum_by (λ q. if point q then f q else 0) qs)
value_of_terms point f [] = refl
value_of_terms point f (q ∷ qs) =
    value_filter point f q _ _ (nat_lt 0 (f q)) refl (value_of_terms point f qs) ∙ ap pos (sym (sum_by-cons (λ q. if point q then f q else 0) q qs))

pub holds-pair_row : (lists : Lists) (point : Point) (p : ℕ) → holds point (in_normal_form (pair_row lists p))
    ≡ nat_le (capacity_of lists (pair_at lists p).hospital) (sum_by (stability_coef lists p) (filter point (numbers_to (pair_count lists))))
holds-pair_row lists point p =
    holds-normal_form point _ (pos (capacity_of lists (pair_at lists p).hospital))
    ∙ ap (int_le (pos (capacity_of lists (pair_at lists p).hospital)))
    (value_of_terms point (stability_coef lists p) (numbers_to (pair_count lists))
    ∙ ap pos (sym (sum_by-filter (stability_coef lists p) point (numbers_to (pair_count lists)))))

-- ---- at a matching

-- by the parts of `is_matching`
pub PairRow : (lists : Lists) (m : List ℕ) (p : ℕ) → is_matching lists m ≡ true → holds (point_of_pairs m) (in_normal_form (pair_row lists p)) ≡ not (blocks lists m p)
PairRow lists m p h =
    let parts : Matching lists m = matching_parts lists m h in
    holds-pair_row lists (point_of_pairs m) p
    ∙ ap (nat_le (capacity_of lists (pair_at lists p).hospital))
    (sum_by_of_elements (stability_coef lists p) (numbers_to (pair_count lists)) m (distinct-numbers_to (pair_count lists)) parts.distinct
    (all_from _ m (λ q i. is_in-numbers_to (pair_count lists) q ∙ all_at _ m q parts.in_range i)))
    ∙ coefs-blocks lists m p (kinds_within (λ q. (pair_at lists q).hospital) (capacity_of lists) m parts.hospitals (pair_at lists p).hospital)
