-- The model is exact: its rows hold together exactly where the point's pairs are weakly stable.
use Rattle.std.proofs.Common.{◌≡◌, ℕ, ◌+◌, ◌<◌, Bool, true, false, ◌&&◌, List, [], ◌∷◌, ◌++◌, ◌==◌, nat_le, if◌then◌else◌, filter, map, count_by, length, ℤ, pos, neg_ℤ, ◌+ℤ◌, int_le, refl, sym, ap, ap₂, ◌∙◌, arith}
use Rattle.std.specs.List.{list_all}
use Rattle.std.proofs.lemmas.Bool.{true≢false, and_from, and_parts, lt-ltb, le-leb, leb-true, eq-eqb}
use Rattle.std.proofs.lemmas.Bool.Decides.{nat_tests}
use Rattle.std.proofs.lemmas.Int.{ints}
use Rattle.std.proofs.lemmas.List.Folds.{list_all-append, list_all-map}
use Rattle.std.proofs.lemmas.List.Sums.{sum_by-cons, length-filter}
use Rattle.pb_rows.specs.Terms.{Written}
use Rattle.pb_rows.specs.Points.{Point, value_at}
use Rattle.pb_rows.specs.Rows.{holds, in_normal_form}
use Rattle.pb_rows.proofs.ByNets.{holds-normal_form}
use Rattle.rank_tables.specs.Numbers.{below, numbers_to, is_in}
use Rattle.rank_tables.specs.Instance.{Lists, capacity_of, pair_at, pair_count}
use Rattle.rank_tables.specs.Stability.{is_weakly_stable}
use Rattle.rank_tables.specs.Tables.{IsPairNo}
use Rattle.rank_tables.proofs.PairFacts.{pair_at-acceptable}
use Rattle.stability_model.specs.Model.{IsExact, TellsBlocking, all_rows_hold, at_most, has_any, hospital_rows, objective, pair_row, pairs_of_point, resident_rows, term, written_rows}
use Rattle.rank_tables.proofs.Numbers.{same_bools, all_at, all_from, all_same, is_in-filter, is_in-below, is_in-numbers_to, distinct-numbers_to, distinct-filter, count_by-filter, kinds_within}
use Rattle.stability_model.proofs.PairRow.{PairRow, coefs-blocks, holds-pair_row}

-- ---- a pair's resident and hospital are declared

is_number : (lists : Lists) (p : ℕ) → is_in p (numbers_to (pair_count lists)) ≡ true → IsPairNo lists p
is_number lists p i =
    let k : (nat_le 1 p && nat_le p (pair_count lists)) ≡ true = sym (is_in-numbers_to (pair_count lists) p) ∙ i in
    (leb-true 1 p (and_parts (nat_le 1 p) _ k).0, leb-true p _ (and_parts (nat_le 1 p) _ k).1)

-- ---- the rows of residents and of hospitals

minus_step : (b : Bool) (n : ℕ) (v : ℤ) → v ≡ neg_ℤ (pos n) → (if b then neg_ℤ (pos 1) else pos 0) +ℤ v ≡ neg_ℤ (pos ((if b then 1 else 0) + n))
minus_step true n v e = omega (arith, ints)
minus_step false n v e = omega (arith, ints)

value_of_minus : (point : Point) (qs : List ℕ) → value_at point (map (λ q. term (neg_ℤ (pos 1)) q) qs) ≡ neg_ℤ (pos (count_by point qs))
value_of_minus point [] = refl
value_of_minus point (q ∷ qs) =
    minus_step (point q) _ _ (value_of_minus point qs) ∙ ap (λ n. neg_ℤ (pos n)) (sym (sum_by-cons (λ q. if point q then 1 else 0) q qs))

at_most_le : (n c : ℕ) → int_le (neg_ℤ (pos c)) (neg_ℤ (pos n)) ≡ nat_le n c
at_most_le n c = grind (arith, ints, nat_tests)

holds-at_most : (point : Point) (keep : ℕ → Bool) (n c : ℕ) →
    holds point (in_normal_form (at_most c (filter keep (numbers_to n)))) ≡ nat_le (count_by keep (filter point (numbers_to n))) c
holds-at_most point keep n c =
    holds-normal_form point _ (neg_ℤ (pos c))
    ∙ ap (int_le (neg_ℤ (pos c))) (value_of_minus point (filter keep (numbers_to n)))
    ∙ at_most_le (count_by point (filter keep (numbers_to n))) c
    ∙ ap (λ k. nat_le k c) (count_by-filter keep point (numbers_to n))

has_has_any : (x : ℕ) (xs : List ℕ) → is_in x xs ≡ true → has_any xs ≡ true
has_has_any x [] i = absurd (true≢false (sym i))
has_has_any x (y ∷ ys) i = refl

rows_of_kinds : (kind limit : ℕ → ℕ) (point : Point) (n size : ℕ) → ((q : ℕ) → is_in q (numbers_to n) ≡ true → kind q < size) →
    list_all (λ row. holds point (in_normal_form row)) (map (λ k. at_most (limit k) (filter (λ q. kind q == k) (numbers_to n))) (filter (λ k. has_any (filter (λ q. kind q == k) (numbers_to n))) (below size)))
    ≡ list_all (λ q. nat_le (count_by (λ y. kind y == kind q) (filter point (numbers_to n))) (limit (kind q))) (filter point (numbers_to n))
rows_of_kinds kind limit point n size h =
    list_all-map (λ row. holds point (in_normal_form row)) (λ k. at_most (limit k) (filter (λ q. kind q == k) (numbers_to n))) (filter (λ k. has_any (filter (λ q. kind q == k) (numbers_to n))) (below size))
    ∙ same_bools _ _
    (λ rows. all_from _ (filter point (numbers_to n)) (λ q i.
    let j : (is_in q (numbers_to n) && point q) ≡ true = sym (is_in-filter point q (numbers_to n)) ∙ i in
    let in' : is_in q (numbers_to n) ≡ true = (and_parts (is_in q (numbers_to n)) _ j).0 in
    let has : has_any (filter (λ y. kind y == kind q) (numbers_to n)) ≡ true =
    has_has_any q _ (is_in-filter (λ y. kind y == kind q) q (numbers_to n) ∙ and_from _ (kind q == kind q) in' (eq-eqb (kind q) (kind q) refl)) in
    sym (holds-at_most point (λ y. kind y == kind q) n (limit (kind q)))
    ∙ all_at _ _ (kind q) rows (is_in-filter (λ k. has_any (filter (λ y. kind y == k) (numbers_to n))) (kind q) (below size)
    ∙ and_from _ _ (is_in-below size (kind q) ∙ lt-ltb (kind q) size (h q in')) has)))
    (λ uses. all_from _ _ (λ k i. holds-at_most point (λ y. kind y == k) n (limit k) ∙ le-leb _ (limit k) (kinds_within kind limit (filter point (numbers_to n)) uses k)))

-- ---- the model

together : (a b p d r s : Bool) → d ≡ true → r ≡ true → (b ≡ true → p ≡ s) → (a && b && p) ≡ ((d && r && a && b) && s)
together a b p false r s e f h = absurd (true≢false (sym e))
together a b p true false s e f h = absurd (true≢false (sym f))
together false b p true true s e f h = refl
together true false p true true s e f h = refl
together true true p true true s e f h = h refl

abbrev row_holds : Point → Written → Bool
row_holds point row = holds point (in_normal_form row)

split_rows : (lists : Lists) (point : Point) → all_rows_hold lists point
    ≡ ((list_all (row_holds point) (resident_rows lists) && list_all (row_holds point) (hospital_rows lists))
    && list_all (λ p. row_holds point (pair_row lists p)) (numbers_to (pair_count lists)))
split_rows lists point =
    list_all-map (holds point) in_normal_form (written_rows lists)
    ∙ list_all-append (row_holds point) (resident_rows lists ++ hospital_rows lists) (map (λ p. pair_row lists p) (numbers_to (pair_count lists)))
    ∙ ap₂ ◌&&◌ (list_all-append (row_holds point) (resident_rows lists) (hospital_rows lists))
    (list_all-map (row_holds point) (λ p. pair_row lists p) (numbers_to (pair_count lists)))

pub ModelExact : (lists : Lists) (point : Point) → all_rows_hold lists point ≡ is_weakly_stable lists (pairs_of_point lists point)
ModelExact lists point =
    let n : ℕ = pair_count lists in
    let m : List ℕ = pairs_of_point lists point in
    split_rows lists point
    ∙ ap (λ b. b && list_all (λ p. row_holds point (pair_row lists p)) (numbers_to n))
    (ap₂ ◌&&◌
    (rows_of_kinds (λ q. (pair_at lists q).resident) (λ r. 1) point n (length lists.residents) (λ q i. (pair_at-acceptable lists q (is_number lists q i)).resident_declared))
    (rows_of_kinds (λ q. (pair_at lists q).hospital) (capacity_of lists) point n (length lists.hospitals) (λ q i. (pair_at-acceptable lists q (is_number lists q i)).hospital_declared)))
    ∙ together _ _ _ _ _ _ (distinct-filter point (numbers_to n) (distinct-numbers_to n))
    (all_from _ m (λ q i. sym (is_in-numbers_to n q) ∙ (and_parts (is_in q (numbers_to n)) (point q) (sym (is_in-filter point q (numbers_to n)) ∙ i)).0))
    (λ uses. all_same _ _ (numbers_to n) (λ p. holds-pair_row lists point p
    ∙ coefs-blocks lists m p (kinds_within (λ q. (pair_at lists q).hospital) (capacity_of lists) m uses (pair_at lists p).hospital)))

pub ObjectiveExact : (lists : Lists) (point : Point) → value_at point (objective lists) ≡ neg_ℤ (pos (length (pairs_of_point lists point)))
ObjectiveExact lists point = value_of_minus point (numbers_to (pair_count lists)) ∙ ap (λ n. neg_ℤ (pos n)) (sym (length-filter point (numbers_to (pair_count lists))))

pub is_exact : (lists : Lists) → IsExact lists
is_exact lists = record { rows = ModelExact lists; objective = ObjectiveExact lists }

pub tells_blocking : (lists : Lists) (p : ℕ) → TellsBlocking lists p
tells_blocking lists p m h = PairRow lists m p h
