-- That no number of a cut is too big for a row, and which number passes.
use Rattle.std.proofs.Common.{◌≡◌, ◌∙◌, ◌≤◌, ◌<◌, ◌+◌, ◌-◌, ◌*◌, ◌^◌, ℕ, Bool, true, false, [], ◌∷◌, nat_lt, if◌then◌else◌, sym, ap, ap₂, subst, inl, inr, arith}
use Rattle.std.specs.Prelude.{Option, Some, None}
use Rattle.std.specs.List.{find}
use Rattle.std.specs.Int.{div_ceil}
use Rattle.std.proofs.lemmas.Bool.{cases_lt, ltb-false}
use Rattle.std.proofs.lemmas.Grind.{div_ceil_times}
use Rattle.std.proofs.Math.Nat.{mul-le-mul_left, mul-le-mul_right}
use Rattle.hrt_base.specs.declared.literal.Lit.{Lit}
use Rattle.hrt_base.specs.declared.literal.Term.{Term}
use Rattle.pb_rows.specs.Terms.{PlainRow, coef_sum, opposite_lit}
use Rattle.pb_rows.specs.Rows.{Fits, IsShort, IsWellFormedRow, add, divide, times}
use Rattle.pb_rows.specs.Closure.{Literals}
use Rattle.pb_rows.proofs.Changes.{reweighed_sum, scaled_sum}
use Rattle.pb_rows.proofs.Forms.{fits_sum}
use Rattle.conflict_rows.specs.Trail.{weight_of}
use Rattle.conflict_rows.specs.CutRows.{is_weakened, most, passed_by}
use Rattle.conflict_rows.specs.Steps.{multiple_by, reduced_by}
use Rattle.conflict_rows.proofs.Numbers.{weight_of-le}
use Rattle.conflict_rows.proofs.CutEnds.{find_none}
use Rattle.conflict_rows.proofs.Weakened.{others, others_sum, weakened_is, weight_where}

divided_less : (k : ℕ) → 0 < k → (n : ℕ) → div_ceil n k ≤ n
divided_less k p n = elim (cases_lt n (div_ceil n k)) [
  | inl q ↦ (let m : (n + 1) * k ≤ div_ceil n k * k = mul-le-mul_right k (omega arith) in let g : n * 1 ≤ n * k = mul-le-mul_left n p in absurd (omega (arith, (div_ceil_times n k p).1)))
  | inr q ↦ q
]

-- the reduced reason is within the most
reduced_within : (now before : Literals) (t : Lit) (r : PlainRow) → IsWellFormedRow r → IsShort r → 0 < weight_of t r.terms → IsShort (reduced_by now before t r)
reduced_within now before t r n w p =
    let a : ℕ = weight_of t r.terms in
    let goes : Term → Bool = is_weakened now before t a in
    subst (λ (q : PlainRow). IsShort (divide a q)) (sym (weakened_is goes r n.rising)) (record {
      sum = omega (arith, reweighed_sum (λ m. div_ceil m a) (divided_less a p) (others goes r.terms), others_sum goes r.terms, w.sum);
      degree = omega (arith, divided_less a p (r.degree - weight_where goes r.terms), w.degree);
    })

small_product : (x y : ℕ) → x ≤ most → y ≤ most → x * y ≤ 2 ^ 120
small_product x y h k = let a : x * y ≤ x * most = mul-le-mul_left x k in let b : x * most ≤ most * most = mul-le-mul_right most h in omega arith

pub multiple_fits : (now before : Literals) (t : Lit) (r c d : PlainRow) (k : ℕ) → IsWellFormedRow r → IsShort r → 0 < weight_of t r.terms → IsShort c → d ≡ reduced_by now before t r → k ≡ weight_of (opposite_lit t) c.terms → Fits (times k d)
multiple_fits now before t r c d k n w p v e f =
    let small : k ≤ most = omega (arith, weight_of-le (opposite_lit t) c.terms, v.sum, f) in
    let q : IsShort d = subst IsShort (sym e) (reduced_within now before t r n w p) in
    record { sum = omega (arith, scaled_sum k d.terms, small_product (coef_sum d.terms) k q.sum small); degree = omega (arith, small_product d.degree k q.degree small) }

pub within_from : (p : PlainRow) → find (nat_lt most) (coef_sum p.terms ∷ p.degree ∷ []) ≡ None → IsShort p
within_from p e =
    let a = find_none (nat_lt most) (coef_sum p.terms) (p.degree ∷ []) e in
    let b = find_none (nat_lt most) p.degree [] a.1 in
    record { sum = ltb-false most (coef_sum p.terms) a.0; degree = ltb-false most p.degree b.0 }

pub sum_fits : (c p s : PlainRow) → s ≡ c → IsWellFormedRow c → IsWellFormedRow p → IsShort c → IsShort p → Fits (add s p)
sum_fits c p s e n m v w = subst (λ (q : PlainRow). Fits (add q p)) (sym e) (fits_sum c p n m (omega (arith, v.sum, w.sum), omega (arith, v.degree, w.degree)))

-- which number passes
pub passes_first : (p next : PlainRow) (n : ℕ) → find (nat_lt most) (coef_sum p.terms ∷ p.degree ∷ []) ≡ Some n → passed_by p next ≡ Some n
passes_first p next n e = by (nat_lt most (coef_sum p.terms)) (nat_lt most p.degree) e
  where
    by : (a b : Bool) → (if a then Some (coef_sum p.terms) else (if b then Some p.degree else None)) ≡ Some n →
        (if a then Some (coef_sum p.terms) else (if b then Some p.degree else find (nat_lt most) (coef_sum next.terms ∷ next.degree ∷ []))) ≡ Some n
    by true b e = e
    by false true e = e
    by false false e = absurd (cc)

pub passes_next : (p next : PlainRow) (o : Option ℕ) → find (nat_lt most) (coef_sum p.terms ∷ p.degree ∷ []) ≡ None → find (nat_lt most) (coef_sum next.terms ∷ next.degree ∷ []) ≡ o → passed_by p next ≡ o
passes_next p next o e f =
    let a = find_none (nat_lt most) (coef_sum p.terms) (p.degree ∷ []) e in
    let b = find_none (nat_lt most) p.degree [] a.1 in
    rw (a.0, b.0) f

-- ---- the parts put together

pub made : (now before : Literals) (t : Lit) (r row m d : PlainRow) (k : ℕ) (o : Lit) → m ≡ times k d → k ≡ weight_of o row.terms → o ≡ opposite_lit t → d ≡ reduced_by now before t r → m ≡ multiple_by now before t r row
made now before t r row m d k o em ek eo ed = em ∙ ap₂ times (ek ∙ ap (λ (l : Lit). weight_of l row.terms) eo) ed

pub first_passes : (row m p : PlainRow) (n : ℕ) → m ≡ p → Some n ≡ find (nat_lt most) (coef_sum m.terms ∷ m.degree ∷ []) → passed_by p (add row p) ≡ Some n
first_passes row m p n e f = subst (λ (q : PlainRow). passed_by q (add row q) ≡ Some n) e (passes_first m (add row m) n (sym f))

pub next_passes : (row m p s b : PlainRow) (o : Option ℕ) → m ≡ p → None ≡ find (nat_lt most) (coef_sum m.terms ∷ m.degree ∷ []) → s ≡ add b m → b ≡ row → o ≡ find (nat_lt most) (coef_sum s.terms ∷ s.degree ∷ []) → passed_by p (add row p) ≡ o
next_passes row m p s b o e f es eb g =
    subst (λ (q : PlainRow). passed_by q (add row q) ≡ o) e
    (passes_next m (add row m) o (sym f) (subst (λ (q : PlainRow). find (nat_lt most) (coef_sum q.terms ∷ q.degree ∷ []) ≡ o) (es ∙ ap (λ (q : PlainRow). add q m) eb) (sym g)))
