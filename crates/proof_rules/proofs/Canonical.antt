-- The normal form of a row in normal form is the row itself. So `objective <= v - 1` can be made in two steps whose numbers
-- are smaller.
use Rattle.std.proofs.Common.{◌≡◌, ℕ, ◌+◌, ◌≤◌, ◌^◌, false, List, [], ℤ, pos, negsuc, ◌+ℤ◌, ◌-ℤ◌, neg_ℤ, int_le, refl, sym, ap, ap₂, ◌∙◌, zero-le, arith}
use Rattle.std.proofs.lemmas.Int.{ints}
use Rattle.std.proofs.lemmas.List.{append-nil}
use Rattle.std.proofs.lemmas.Bool.{le-leb, true≢false}
use Rattle.hrt_base.specs.declared.literal.Term.{Term}
use Rattle.pb_rows.specs.Terms.{PlainRow, positive_part}
use Rattle.pb_rows.specs.Points.{Point, true_sum, value_at}
use Rattle.pb_rows.specs.Normal.{gained, normal_form, on_opposites, sizes, var_bound}
use Rattle.pb_rows.specs.Rows.{IsWellFormedRow, add}
use Rattle.pb_rows.proofs.ByNets.{holds-normal_form}
use Rattle.pb_rows.proofs.Forms.{merged_is}
use Rattle.proof_rules.specs.States.{at_most_row, minus_terms}
use Rattle.proof_rules.proofs.Fits.{fits-at_value, normal_form-rises, positive_part_least, same_shift}
use Rattle.proof_rules.proofs.Steps.{value-negated}

-- 0 >= d
abbrev pub empty_row : ℕ → PlainRow
empty_row d = record { terms = []; degree = d }

empty-normal : (d : ℕ) → d ≤ 2 ^ 120 → IsWellFormedRow (empty_row d)
empty-normal d h = record { rising = tt; fits = record { sum = zero-le; degree = h } }

plain : List Term → ℕ → PlainRow
plain ts d = record { terms = ts; degree = d }

-- a sum with `0 >= d` is the row with a degree that is larger by d
pub add-empty : (row : PlainRow) (d : ℕ) → IsWellFormedRow row → d ≤ 2 ^ 120 → add row (empty_row d) ≡ record { terms = row.terms; degree = row.degree + d }
unfolding plain
add-empty row d n h = sym (merged_is row (empty_row d) n (empty-normal d h)) ∙ ap (plain row.terms) (omega arith)

pub normal_form-normal : (row : PlainRow) → IsWellFormedRow row → normal_form row.terms (pos row.degree) ≡ row
unfolding plain
normal_form-normal row n =
    ap₂ (λ (ts : List Term) (d : ℕ). normal_form ts (pos d)) (sym (append-nil row.terms)) (omega arith) ∙ add-empty row 0 n zero-le ∙ ap (plain row.terms) (omega arith)

-- ---- the row of a solution

grows : (z : ℤ) → (positive_part (z +ℤ pos 1) ≡ 0 → ⊥) → positive_part z + 1 ≡ positive_part (z +ℤ pos 1)
grows (pos n) h = refl
grows (negsuc n) h = absurd (h (omega (arith, positive_part_least (negsuc n +ℤ pos 1) 0 (omega (arith, ints)))))

not_less : (v w : ℤ) → w ≡ neg_ℤ v → int_le (neg_ℤ (v -ℤ pos 1)) w ≡ false
not_less v w e = grind (arith, ints)

less_step : (v o : ℤ) (g : ℕ) → (positive_part ((neg_ℤ (v -ℤ pos 1) -ℤ o) +ℤ pos g) ≡ 0 → ⊥) → positive_part ((neg_ℤ v -ℤ o) +ℤ pos g) + 1 ≡ positive_part ((neg_ℤ (v -ℤ pos 1) -ℤ o) +ℤ pos g)
less_step v o g h =
    let e = same_shift v o (pos g) ((neg_ℤ v -ℤ o) +ℤ pos g) refl in
    grows ((neg_ℤ v -ℤ o) +ℤ pos g) (λ k. h (ap positive_part e ∙ k)) ∙ ap positive_part (sym e)

-- at the point itself `objective <= v - 1` doesn't hold, so its degree isn't 0
asks : (p : Point) (ts : List Term) → (at_most_row ts (value_at p ts -ℤ pos 1)).degree ≡ 0 → ⊥
asks p ts e =
    true≢false (sym (le-leb (at_most_row ts (value_at p ts -ℤ pos 1)).degree (true_sum p (at_most_row ts (value_at p ts -ℤ pos 1)).terms) (omega (arith, e)))
    ∙ holds-normal_form p (minus_terms ts) (neg_ℤ (value_at p ts -ℤ pos 1)) ∙ not_less (value_at p ts) (value_at p (minus_terms ts)) (value-negated p ts))

-- `objective <= v` and then `0 >= 1`, where v is a value: the same as `objective <= v - 1`
pub solution_row-made : (p : Point) (ts : List Term) → sizes ts ≤ 2 ^ 120 → add (at_most_row ts (value_at p ts)) (empty_row 1) ≡ at_most_row ts (value_at p ts -ℤ pos 1)
unfolding plain
solution_row-made p ts h =
    let row : PlainRow = at_most_row ts (value_at p ts) in
    add-empty row 1 (normal_form-rises (minus_terms ts) (neg_ℤ (value_at p ts)) (fits-at_value p ts h)) (omega arith)
    ∙ ap (plain row.terms) (less_step (value_at p ts) (on_opposites (minus_terms ts)) (gained (var_bound (minus_terms ts)) (minus_terms ts)) (asks p ts))
