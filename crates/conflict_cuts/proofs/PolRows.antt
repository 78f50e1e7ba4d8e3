-- The steps of a line make its row.
use Rattle.std.proofs.Common.{◌≡◌, ◌≤◌, ◌<◌, ◌+◌, ◌*◌, ◌^◌, ℕ, Bool, true, not, nat_le, List, [], ◌∷◌, ◌++◌, map, filter, pos, refl, inl, inr, arith}
use Rattle.std.specs.Int.{div_ceil}
use Rattle.std.specs.List.{AllByRecursion, list_all}
use Rattle.std.proofs.lemmas.Bool.{and_from, cases_Bool, cases_lt, le-leb}
use Rattle.std.proofs.lemmas.Grind.{div_ceil_times}
use Rattle.std.proofs.Math.Nat.{mul-le-mul_left, mul-le-mul_right}
use Rattle.hrt_base.specs.declared.literal.Term.{Term}
use Rattle.pb_rows.specs.Terms.{PlainRow, capped, coef_sum, divided, is_over, is_present, positive_part}
use Rattle.pb_rows.specs.Rows.{Fits, add, divide, saturate, times, weaken, weaken_all}
use Rattle.pb_rows.specs.Formula.{NumberedRow}
use Rattle.proof_lines.specs.declared.line.PolStep.{PolStep}
use Rattle.proof_lines.specs.declared.line.PolStep.TheVariants.{Add, Times, Divide, Saturate}
use Rattle.proof_lines.specs.Spelling.{is_small_step}
use Rattle.proof_rules.specs.Pol.{fits, run_steps}
use Rattle.conflict_cuts.specs.Lines.{ConflictTies, CutTies, LineTies, ResolveTies, conflict_steps, cut_steps, resolve_steps, weakenings}

fits_true : (row : PlainRow) → Fits row → fits row ≡ true
fits_true row h = and_from (nat_le (coef_sum row.terms) (2 ^ 120)) (nat_le row.degree (2 ^ 120)) (le-leb (coef_sum row.terms) (2 ^ 120) h.sum) (le-leb row.degree (2 ^ 120) h.degree)

-- ---- what stays small

kept_sum : (p : Term → Bool) (ts : List Term) → coef_sum (filter p ts) ≤ coef_sum ts
kept_sum p [] = omega arith
kept_sum p (t ∷ ts) = elim (cases_Bool (p t)) [ inl e ↦ rw e (omega (arith, kept_sum p ts)) | inr e ↦ rw e (omega (arith, kept_sum p ts)) ]

weaken_fits : (v : ℕ) (r : PlainRow) → Fits r → Fits (weaken v r)
weaken_fits v r h = record { sum = omega (arith, kept_sum (λ t. not (is_over v t)) r.terms, h.sum); degree = omega (arith, h.degree) }

pub weaken_all_fits : (vars : List ℕ) (r : PlainRow) → Fits r → Fits (weaken_all vars r)
weaken_all_fits [] r h = h
weaken_all_fits (v ∷ vars) r h = weaken_all_fits vars (weaken v r) (weaken_fits v r h)

divided_less : (n k : ℕ) → 0 < k → div_ceil n k ≤ n
divided_less n k p = elim (cases_lt n (div_ceil n k)) [
  | inl q ↦ (let m : (n + 1) * k ≤ div_ceil n k * k = mul-le-mul_right k (omega arith) in let g : n * 1 ≤ n * k = mul-le-mul_left n p in absurd (omega (arith, (div_ceil_times n k p).1)))
  | inr q ↦ q
]

divided_sum : (k : ℕ) (ts : List Term) → 0 < k → coef_sum (map (divided k) ts) ≤ coef_sum ts
divided_sum k [] p = omega arith
divided_sum k (t ∷ ts) p = omega (arith, divided_less (positive_part t.coef) k p, divided_sum k ts p)

divide_fits : (k : ℕ) (r : PlainRow) → 0 < k → Fits r → Fits (divide k r)
divide_fits k r p h = record { sum = omega (arith, divided_sum k r.terms p, h.sum); degree = omega (arith, divided_less r.degree k p, h.degree) }

capped_sum : (d : ℕ) (ts : List Term) → coef_sum (map (capped d) ts) ≤ coef_sum ts
capped_sum d [] = omega arith
capped_sum d (t ∷ ts) = omega (arith, capped_sum d ts)

saturate_fits : (r : PlainRow) → Fits r → Fits (saturate r)
saturate_fits r h = record { sum = omega (arith, kept_sum is_present (map (capped r.degree) r.terms), capped_sum r.degree r.terms, h.sum); degree = h.degree }

-- ---- steps

weakened_steps : (known : ℕ) (live : List NumberedRow) (vars : List ℕ) (rest : List PolStep) (r : PlainRow) (stack : List PlainRow) → AllByRecursion (λ v. v ≤ known) vars → Fits r →
    run_steps known live (weakenings vars ++ rest) (r ∷ stack) ≡ run_steps known live rest (weaken_all vars r ∷ stack)
weakened_steps known live [] rest r stack k h = refl
weakened_steps known live (v ∷ vars) rest r stack k h =
    let small : nat_le v known ≡ true = le-leb v known k.0 in
    let fit : fits (weaken v r) ≡ true = fits_true (weaken v r) (weaken_fits v r h) in
    rw (small, fit) (weakened_steps known live vars rest (weaken v r) stack k.1 (weaken_fits v r h))

small_weakenings : (vars : List ℕ) (rest : List PolStep) → list_all is_small_step rest ≡ true → list_all is_small_step (weakenings vars ++ rest) ≡ true
small_weakenings [] rest h = h
small_weakenings (v ∷ vars) rest h = small_weakenings vars rest h

small_two : (a k : ℕ) → a ≤ 2 ^ 120 → k ≤ 2 ^ 120 → list_all is_small_step (Divide (pos a) ∷ Times (pos k) ∷ Add ∷ []) ≡ true
small_two a k h j = let x : nat_le a (2 ^ 120) ≡ true = le-leb a (2 ^ 120) h in let y : nat_le k (2 ^ 120) ≡ true = le-leb k (2 ^ 120) j in rw (x, y) refl

small_one : (d : ℕ) → d ≤ 2 ^ 120 → is_small_step (Divide (pos d)) ≡ true
small_one d h = let x : nat_le d (2 ^ 120) ≡ true = le-leb d (2 ^ 120) h in rw x refl

pub cut_ties : CutTies
cut_ties known live row reason c r vars a k is is' h vs fa fk ft fs =
    let q : PlainRow = weaken_all vars r in
    let small : list_all is_small_step (cut_steps row reason vars a k) ≡ true = small_weakenings vars (Divide (pos a) ∷ Times (pos k) ∷ Add ∷ []) (small_two a k fa.small fk.small) in
    let fq : fits (divide a q) ≡ true = fits_true (divide a q) (divide_fits a q fa.some (weaken_all_fits vars r h)) in
    let fp : fits (times k (divide a q)) ≡ true = fits_true (times k (divide a q)) ft in
    let fn : fits (add c (times k (divide a q))) ≡ true = fits_true (add c (times k (divide a q))) fs in
    rw (small, is, is') (rw (weakened_steps known live vars (Divide (pos a) ∷ Times (pos k) ∷ Add ∷ []) r (c ∷ []) vs h) (rw (fq, fp, fn) refl))

pub conflict_ties : ConflictTies
conflict_ties known live row c vars d is h vs f =
    let q : PlainRow = weaken_all vars c in
    let small : list_all is_small_step (conflict_steps row vars d) ≡ true = small_weakenings vars (Saturate ∷ Divide (pos d) ∷ []) (rw (small_one d f.small) refl) in
    let fq : fits (saturate q) ≡ true = fits_true (saturate q) (saturate_fits q (weaken_all_fits vars c h)) in
    let fp : fits (divide d (saturate q)) ≡ true = fits_true (divide d (saturate q)) (divide_fits d (saturate q) f.some (saturate_fits q (weaken_all_fits vars c h))) in
    rw (small, is) (rw (weakened_steps known live vars (Saturate ∷ Divide (pos d) ∷ []) c [] vs h) (rw (fq, fp) refl))

pub resolve_ties : ResolveTies
resolve_ties known live row reason c r vars d is is' h vs f fs =
    let q : PlainRow = weaken_all vars r in
    let small : list_all is_small_step (resolve_steps row reason vars d) ≡ true = small_weakenings vars (Saturate ∷ Divide (pos d) ∷ Add ∷ Saturate ∷ []) (rw (small_one d f.small) refl) in
    let fq : fits (saturate q) ≡ true = fits_true (saturate q) (saturate_fits q (weaken_all_fits vars r h)) in
    let fp : fits (divide d (saturate q)) ≡ true = fits_true (divide d (saturate q)) (divide_fits d (saturate q) f.some (saturate_fits q (weaken_all_fits vars r h))) in
    let fn : fits (add c (divide d (saturate q))) ≡ true = fits_true (add c (divide d (saturate q))) fs in
    let fm : fits (saturate (add c (divide d (saturate q)))) ≡ true = fits_true (saturate (add c (divide d (saturate q)))) (saturate_fits (add c (divide d (saturate q))) fs) in
    rw (small, is, is') (rw (weakened_steps known live vars (Saturate ∷ Divide (pos d) ∷ Add ∷ Saturate ∷ []) r (c ∷ []) vs h) (rw (fq, fp, fn, fm) refl))

pub line_ties : LineTies
line_ties = (cut_ties, conflict_ties, resolve_ties)
