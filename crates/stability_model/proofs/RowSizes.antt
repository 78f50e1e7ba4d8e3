-- The terms and right sides of the rows are small: they fit, whatever the instance.
use mir.Syntax.{w128}
use mir.Val.{SFits, of_z, to_z}
use Rattle.std.proofs.Common.{◌≡◌, ◌-ℤ◌, ℕ, zero, suc, ◌+◌, ◌<◌, ◌≤◌, ◌^◌, Bool, true, false, List, ◌++◌, if◌then◌else◌, length, map, ℤ, pos, neg_ℤ, refl, ap, ◌∙◌, subst, sym, arith}
use Rattle.std.specs.List.{All}
use Rattle.std.specs.Int.RustNames.{unsigned_abs}
use Rattle.std.proofs.lemmas.Int.{ints, to_z-of_z}
use Rattle.std.proofs.lemmas.List.Elements.{All-append, All-map, recursion_from_All}
use Rattle.hrt_base.specs.declared.literal.Term.{Term}
use Rattle.pb_rows.specs.Normal.{all_sizes}
use Rattle.pb_rows.proofs.Sizes.{sizes_within}
use Rattle.rank_tables.specs.Instance.{Lists, capacity_of, pair_at}
use Rattle.rank_tables.specs.WellFormed.{most_capacity}
use Rattle.stability_model.specs.Model.{at_most, term}
use Rattle.stability_model.specs.Making.{counted_terms, hospital_share, resident_share}
use Rattle.stability_model.proofs.PairTerms.{passed}

size_of_minus : (n : ℕ) → unsigned_abs (neg_ℤ (pos n)) ≡ n
size_of_minus zero = refl
size_of_minus (suc n) = refl

-- ---- at most so many

minus_of : (n : ℕ) → (pos 0 -ℤ pos n) ≡ neg_ℤ (pos n)
minus_of zero = refl
minus_of (suc n) = omega (arith, ints)

minus_small : (n : ℕ) → n < 2 ^ 127 → SFits w128 (neg_ℤ (pos n))
minus_small zero h = record { sfits = omega arith }
minus_small (suc n) h = record { sfits = omega (arith, h) }

-- a count that was passed on by value with the other sign
minus_passed : (z : ℤ) (n : ℕ) → z ≡ pos n → n < 2 ^ 127 → to_z w128 (of_z w128 (pos 0 -ℤ to_z w128 (of_z w128 z))) ≡ neg_ℤ (pos n)
minus_passed z n e h =
    ap (λ (y : ℤ). to_z w128 (of_z w128 (pos 0 -ℤ y))) (passed z n e h)
    ∙ ap (λ (y : ℤ). to_z w128 (of_z w128 y)) (minus_of n)
    ∙ to_z-of_z w128 (neg_ℤ (pos n)) (minus_small n h)

pub at_most_fits : (ps : List ℕ) (ts : List Term) (z : ℤ) (n : ℕ) → ts ≡ (at_most 0 ps).terms → length ts < 2 ^ 63 → z ≡ pos n → n < 2 ^ 32 →
    all_sizes ts (to_z w128 (of_z w128 (pos 0 -ℤ to_z w128 (of_z w128 z)))) ≤ 2 ^ 120
at_most_fits ps ts z n e few is small =
    let minus : ℕ → Term = λ p. term (neg_ℤ (pos 1)) p in
    let P : Term → Type 0 = λ t. unsigned_abs t.coef ≤ 1 in
    let each : All P ts = subst (All P) (sym e) (All-map P minus ps (λ k d l. omega arith)) in
    let right : unsigned_abs (to_z w128 (of_z w128 (pos 0 -ℤ to_z w128 (of_z w128 z)))) ≡ n = ap unsigned_abs (minus_passed z n is (omega arith)) ∙ size_of_minus n in
    omega (arith, right, sizes_within 1 ts (recursion_from_All P ts each))

-- ---- the row of a pair

resident_weight : (same high : Bool) (c most : ℕ) → c + 1 ≤ most → (if same then c + 1 else (if high then c else 0)) ≤ most
resident_weight true high c most h = h
resident_weight false true c most h = omega (arith, h)
resident_weight false false c most h = omega arith

hospital_weight : (same high : Bool) (c most : ℕ) → c + 1 ≤ most → (if same then 0 else (if high then 1 else 0)) ≤ most
hospital_weight true high c most h = omega arith
hospital_weight false true c most h = omega (arith, h)
hospital_weight false false c most h = omega arith

pub pair_row_fits : (lists : Lists) (p : ℕ) (rs hs : List ℕ) (ts : List Term) (z : ℤ) (c : ℕ) →
    ts ≡ counted_terms (resident_share lists p) rs ++ counted_terms (hospital_share lists p) hs → length ts < 2 ^ 63 →
    z ≡ pos c → c ≡ capacity_of lists (pair_at lists p).hospital → c ≤ most_capacity →
    all_sizes ts z ≤ 2 ^ 120
pair_row_fits lists p rs hs ts z c e few is capacity small =
    let P : Term → Type 0 = λ t. unsigned_abs t.coef ≤ 20001 in
    let of_resident : ℕ → Term = λ q. term (pos (resident_share lists p q)) q in
    let of_hospital : ℕ → Term = λ q. term (pos (hospital_share lists p q)) q in
    let most : capacity_of lists (pair_at lists p).hospital + 1 ≤ 20001 = omega (arith, capacity, small) in
    let residents : All P (map of_resident rs) = All-map P of_resident rs (λ k d l. resident_weight _ _ _ 20001 most) in
    let hospitals : All P (map of_hospital hs) = All-map P of_hospital hs (λ k d l. hospital_weight _ _ (capacity_of lists (pair_at lists p).hospital) 20001 most) in
    let each : All P ts = subst (All P) (sym e) (All-append P (map of_resident rs) (map of_hospital hs) residents hospitals) in
    let right : unsigned_abs z ≡ c = ap unsigned_abs is in
    omega (arith, right, small, sizes_within 20001 ts (recursion_from_All P ts each))
