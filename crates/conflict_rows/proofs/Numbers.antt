-- Numbers that are passed as signed ones, and sums.
use mir.Syntax.{w128}
use mir.Val.{to_z}
use Rattle.std.proofs.Common.{◌≡◌, ◌∙◌, ◌≤◌, ◌<◌, ◌^◌, ℕ, List, [], ◌∷◌, ap, ap₂, inl, inr, arith}
use Rattle.std.proofs.lemmas.Bool.{cases_Bool}
use Rattle.std.proofs.lemmas.Int.{to_z_pos}
use Rattle.hrt_base.specs.declared.literal.Lit.{Lit}
use Rattle.hrt_base.specs.declared.literal.Term.{Term}
use Rattle.pb_rows.specs.Terms.{PlainRow, coef_sum, positive_part}
use Rattle.pb_rows.specs.Rows.{divide, weaken_all}
use Rattle.pb_rows.specs.Closure.{Literals, is_same_lit}
use Rattle.conflict_rows.specs.Trail.{weight_of}
use Rattle.conflict_rows.specs.Weakening.{vars_where}
use Rattle.conflict_rows.specs.CutRows.{is_weakened}
use Rattle.conflict_rows.specs.Steps.{IsReduced}

pub weight_passed : (n : ℕ) → n < 2 ^ 127 → positive_part (to_z w128 n) ≡ n
weight_passed n h = ap positive_part (to_z_pos w128 n h)

pub weight_of-le : (l : Lit) (ts : List Term) → weight_of l ts ≤ coef_sum ts
weight_of-le l [] = omega arith
weight_of-le l (t ∷ ts) = elim (cases_Bool (is_same_lit l t.lit)) [ inl e ↦ rw e (omega (arith, weight_of-le l ts)) | inr e ↦ rw e (omega (arith, weight_of-le l ts)) ]

pub reduced_from : (now before : Literals) (t : Lit) (r w d : PlainRow) (names vs : List ℕ) (ts : List Term) (a k : ℕ) →
    a ≡ weight_of t r.terms → k ≡ a → ts ≡ r.terms → names ≡ vars_where (is_weakened now before t a) ts → vs ≡ names → w ≡ weaken_all vs r → d ≡ divide k w → IsReduced now before t r d names
reduced_from now before t r w d names vs ts a k ea ek et en ev ew ed =
    let all : names ≡ vars_where (is_weakened now before t (weight_of t r.terms)) r.terms =
    en ∙ ap₂ (λ (n : ℕ) (us : List Term). vars_where (is_weakened now before t n) us) ea et in
    record {
      row = ed ∙ ap₂ divide (ek ∙ ea) (ew ∙ ap (λ (us : List ℕ). weaken_all us r) (ev ∙ all));
      vars = all;
    }
