-- Points that agree on the variables of rows.
use Rattle.std.proofs.Common.{◌≡◌, ℕ, ◌+◌, Bool, not, nat_le, List, [], ◌∷◌, if◌then◌else◌, ℤ, pos, ◌+ℤ◌, refl, ap, ap₂}
use Rattle.std.specs.Prelude.{Result, Err}
use Rattle.std.specs.List.{All}
use Rattle.std.proofs.lemmas.List.Elements.{All-head, All-tail}
use Rattle.hrt_base.specs.declared.literal.Lit.{Lit}
use Rattle.hrt_base.specs.declared.literal.Term.{Term}
use Rattle.pb_rows.specs.Terms.{PlainRow, positive_part}
use Rattle.pb_rows.specs.Points.{IsCovered, Point, is_true_at, true_sum, value_at}
use Rattle.pb_rows.specs.Rows.{holds}
use Rattle.proof_rules.specs.Refusals.{Refusal, NotASolution}
use Rattle.proof_rules.specs.States.{if_hold}

module _ (n : ℕ) (p q : Point) (agree : (v : ℕ) → IsCovered n v → p v ≡ q v) where
  abbrev Covered : Term → Type 0
  Covered t = IsCovered n t.lit.var

  abbrev CoveredRow : PlainRow → Type 0
  CoveredRow row = All (λ (t : Term). IsCovered n t.lit.var) row.terms

  true_at : (l : Lit) → IsCovered n l.var → is_true_at p l ≡ is_true_at q l
  true_at l c = ap (λ (b : Bool). if l.neg then not b else b) (agree l.var c)

  same-true_sum : (ts : List Term) → All Covered ts → true_sum p ts ≡ true_sum q ts
  same-true_sum [] all = refl
  same-true_sum (t ∷ ts) all =
      ap₂ (λ (b : Bool) (s : ℕ). (if b then positive_part t.coef else 0) + s) (true_at t.lit (All-head Covered t ts all)) (same-true_sum ts (All-tail Covered t ts all))

  pub same-value : (ts : List Term) → All Covered ts → value_at p ts ≡ value_at q ts
  same-value [] all = refl
  same-value (t ∷ ts) all =
      ap₂ (λ (b : Bool) (s : ℤ). (if b then t.coef else pos 0) +ℤ s) (true_at t.lit (All-head Covered t ts all)) (same-value ts (All-tail Covered t ts all))

  same-holds : (row : PlainRow) → CoveredRow row → holds p row ≡ holds q row
  same-holds row all = ap (λ (s : ℕ). nat_le row.degree s) (same-true_sum row.terms all)

  pub same-if_hold : {A : Type 0} (k : ℕ) (rows : List PlainRow) (r : Result A Refusal) → All CoveredRow rows → if_hold p k rows r ≡ if_hold q k rows r
  same-if_hold k [] r all = refl
  same-if_hold {A} k (row ∷ rows) r all =
      ap₂ (λ (b : Bool) (rest : Result A Refusal). if b then rest else Err (NotASolution k)) (same-holds row (All-head CoveredRow row rows all))
      (same-if_hold (k + 1) rows r (All-tail CoveredRow row rows all))
