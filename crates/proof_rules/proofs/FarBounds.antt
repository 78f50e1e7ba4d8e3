-- A lower bound beyond the sum of the objective's sizes: below it is always shown, above it only where no point is left.
-- So its row, which may not fit, need not be made.
use Rattle.std.proofs.Common.{◌≡◌, ℕ, zero, suc, ◌+◌, ◌<◌, ◌≤◌, Bool, true, false, not, List, [], ◌∷◌, length, get_or, map, if◌then◌else◌, ℤ, pos, negsuc, ◌+ℤ◌, neg_ℤ, ◌≤ℤ◌, ◌<ℤ◌, int_le, Contains, refl, sym, ap, ◌∙◌, subst, inl, inr, arith}
use Rattle.std.specs.Prelude.{Option, Some, None}
use Rattle.std.specs.Int.RustNames.{unsigned_abs}
use Rattle.std.proofs.lemmas.Int.{ints}
use Rattle.std.proofs.lemmas.Bool.{leb-false, leb-true}
use Rattle.std.proofs.lemmas.List.Elements.{All-cons, All-contains, Contains-append_right}
use Rattle.hrt_base.specs.declared.literal.Term.{Term}
use Rattle.pb_rows.specs.Terms.{PlainRow, coef_sum, negated, opposite_lit, positive_part}
use Rattle.pb_rows.specs.Points.{Point, is_true_at, true_sum, value_at}
use Rattle.pb_rows.specs.Normal.{joined, net, net_term, normal_form, sizes, var_bound}
use Rattle.pb_rows.specs.Rows.{holds, opposite_row}
use Rattle.pb_rows.specs.Closure.{Implies, Keeps, Literals, Refuted, none, nonfalse_sum}
use Rattle.pb_rows.specs.Formula.{Formula}
use Rattle.pb_rows.proofs.ByNets.{holds-normal_form}
use Rattle.pb_rows.proofs.Implied.{refuted-more}
use Rattle.pb_rows.proofs.Order.{coef_sum-append}
use Rattle.pb_rows.proofs.Sums.{nonfalse_sum_le}
use Rattle.pb_rows.proofs.Values.{true_sum-append}
use Rattle.proof_rules.specs.States.{State, live_rows}
use Rattle.proof_rules.specs.Claims.{HasStronger, IsUnpassed, ShowsLower, at_least_row}
use Rattle.proof_rules.specs.Sound.{IsLogged, IsSoundState}

-- ---- values are within the sum of the sizes

within_step : (b : Bool) (c v : ℤ) (s : ℕ) → (neg_ℤ (pos s) ≤ℤ v) × (v ≤ℤ pos s) → (neg_ℤ (pos (unsigned_abs c + s)) ≤ℤ ((if b then c else pos 0) +ℤ v)) × (((if b then c else pos 0) +ℤ v) ≤ℤ pos (unsigned_abs c + s))
within_step true c v s h = (omega (arith, ints, h.0), omega (arith, ints, h.1))
within_step false c v s h = (omega (arith, ints, h.0), omega (arith, ints, h.1))

value-within : (p : Point) (ts : List Term) → (neg_ℤ (pos (sizes ts)) ≤ℤ value_at p ts) × (value_at p ts ≤ℤ pos (sizes ts))
value-within p [] = (omega (arith, ints), omega (arith, ints))
value-within p (t ∷ ts) = within_step (is_true_at p t.lit) t.coef (value_at p ts) (sizes ts) (value-within p ts)

-- ---- rows that always hold, and rows that never do

-- a row that asks for more than it has is falsified under every set
pub short-refutes : (rows : List PlainRow) (row : PlainRow) (given : Literals) → Contains rows row → coef_sum row.terms < row.degree → Refuted rows given
short-refutes rows row given c h set q =
    let kept : Keeps set row = All-contains (Keeps set) rows row q.kept c in
    absurd (omega (arith, h, kept.unfalsified, nonfalse_sum_le set row.terms))

coef_in_sum : (set : Literals) (ts : List Term) (k : ℕ) (d : Term) → k < length ts → set (opposite_lit (get_or ts k d).lit) ≡ false → positive_part (get_or ts k d).coef ≤ nonfalse_sum set ts
coef_in_sum set [] k d h e = absurd (omega arith)
coef_in_sum set (t ∷ ts) zero d h e = first (set (opposite_lit t.lit)) e
  where
    first : (b : Bool) → b ≡ false → positive_part t.coef ≤ (if b then 0 else positive_part t.coef) + nonfalse_sum set ts
    first true f = absurd (cc)
    first false f = omega arith
coef_in_sum set (t ∷ ts) (suc k) d h e = omega (arith, coef_in_sum set ts k d (omega arith) e)

-- a row of degree 0 propagates nothing
pub keeps-zero : (set : Literals) (row : PlainRow) → row.degree ≡ 0 → Keeps set row
keeps-zero set row e = record {
  unfalsified = omega (arith, e);
  settled = λ k d h f below. absurd (omega (arith, e, below, coef_in_sum set row.terms k d h f));
}

-- ---- two points: all literals of the normal form are true at one, and false at the other

abbrev is_pos : ℤ → Bool
is_pos (pos n) = true
is_pos (negsuc n) = false

term_all : (p : Point) (v : ℕ) (z : ℤ) → p v ≡ is_pos z → true_sum p (net_term v z) ≡ coef_sum (net_term v z)
term_all p v (pos zero) e = refl
term_all p v (pos (suc a)) e = rw e refl
term_all p v (negsuc a) e = rw e refl

term_none : (p : Point) (v : ℕ) (z : ℤ) → p v ≡ not (is_pos z) → true_sum p (net_term v z) ≡ 0
term_none p v (pos zero) e = refl
term_none p v (pos (suc a)) e = rw e refl
term_none p v (negsuc a) e = rw e refl

abbrev highest : List Term → Point
highest ts v = is_pos (net v ts)

abbrev lowest : List Term → Point
lowest ts v = not (is_pos (net v ts))

sum_all : (ts : List Term) (n : ℕ) → true_sum (highest ts) (joined n ts) ≡ coef_sum (joined n ts)
sum_all ts zero = refl
sum_all ts (suc v) =
    omega (arith, true_sum-append (highest ts) (joined v ts) (net_term v (net v ts)), coef_sum-append (joined v ts) (net_term v (net v ts)), sum_all ts v, term_all (highest ts) v (net v ts) refl)

sum_none : (ts : List Term) (n : ℕ) → true_sum (lowest ts) (joined n ts) ≡ 0
sum_none ts zero = refl
sum_none ts (suc v) =
    omega (arith, true_sum-append (lowest ts) (joined v ts) (net_term v (net v ts)), sum_none ts v, term_none (lowest ts) v (net v ts) refl)

above : (l v : ℤ) (s : ℕ) → pos s <ℤ l → v ≤ℤ pos s → int_le l v ≡ false
above l v s h k = grind (arith, ints)

below : (l v : ℤ) (s : ℕ) → l ≤ℤ neg_ℤ (pos s) → neg_ℤ (pos s) ≤ℤ v → int_le l v ≡ true
below l v s h k = grind (arith, ints)

short : (ts : List Term) (l : ℤ) → pos (sizes ts) <ℤ l → coef_sum (normal_form ts l).terms < (normal_form ts l).degree
short ts l h =
    let fails : holds (highest ts) (normal_form ts l) ≡ false =
    holds-normal_form (highest ts) ts l ∙ above l (value_at (highest ts) ts) (sizes ts) h (value-within (highest ts) ts).1 in
    omega (arith, sum_all ts (var_bound ts), leb-false (normal_form ts l).degree (true_sum (highest ts) (normal_form ts l).terms) fails)

free : (ts : List Term) (l : ℤ) → l ≤ℤ neg_ℤ (pos (sizes ts)) → (normal_form ts l).degree ≡ 0
free ts l h =
    let holds_low : holds (lowest ts) (normal_form ts l) ≡ true =
    holds-normal_form (lowest ts) ts l ∙ below l (value_at (lowest ts) ts) (sizes ts) h (value-within (lowest ts) ts).0 in
    omega (arith, sum_none ts (var_bound ts), leb-true (normal_form ts l).degree (true_sum (lowest ts) (normal_form ts l).terms) holds_low)

-- ---- below

coef_sum-opposite : (ts : List Term) → coef_sum (map negated ts) ≡ coef_sum ts
coef_sum-opposite [] = refl
coef_sum-opposite (t ∷ ts) = omega (arith, coef_sum-opposite ts)

first_in : (row : PlainRow) (rows : List PlainRow) → Contains (row ∷ rows) row
first_in row rows = (0, omega arith, refl)

-- a row of degree 0 follows from any rows
pub free-follows : (rows : List PlainRow) (row : PlainRow) → row.degree ≡ 0 → Implies rows row
free-follows rows row e = short-refutes (opposite_row row ∷ rows) (opposite_row row) none (first_in (opposite_row row) rows) (omega (arith, e, coef_sum-opposite row.terms))

low_passes : (f : Formula) (o : Option ℤ) (l : ℤ) → l ≤ℤ neg_ℤ (pos (sizes f.objective)) → IsLogged f o → IsUnpassed o l
low_passes f None l h i = tt
low_passes f (Some v) l h i = chain l v (value_at i.0 f.objective) (sizes f.objective) h (value-within i.0 f.objective).0 i.2
  where
    chain : (l v w : ℤ) (s : ℕ) → l ≤ℤ neg_ℤ (pos s) → neg_ℤ (pos s) ≤ℤ w → w ≡ v → l ≤ℤ v
    chain l v w s h k e = omega (arith, ints)

pub shown-below : (f : Formula) (s : State) (l : ℤ) → IsSoundState f s → l ≤ℤ neg_ℤ (pos (sizes f.objective)) → ShowsLower f s (Some l)
shown-below f s l i h = (low_passes f s.least l h i.logged, inl (free-follows (live_rows s) (at_least_row f l) (free f.objective l h)))

-- ---- above

high_stops : (f : Formula) (o : Option ℤ) (l : ℤ) → pos (sizes f.objective) <ℤ l → IsLogged f o → IsUnpassed o l → o ≡ None
high_stops f None l h i u = refl
high_stops f (Some v) l h i u = absurd (clash l v (value_at i.0 f.objective) (sizes f.objective) h (value-within i.0 f.objective).1 i.2 u)
  where
    clash : (l v w : ℤ) (s : ℕ) → pos s <ℤ l → w ≤ℤ pos s → w ≡ v → l ≤ℤ v → ⊥
    clash l v w s h k e u = omega (arith, ints)

-- a row that asks for more than it has follows only where the rows are refuted
pub short-follows : (rows : List PlainRow) (row : PlainRow) → coef_sum row.terms < row.degree → Implies rows row → Refuted rows none
short-follows rows row h i set q = i set (record {
  has_given = q.has_given;
  consistent = q.consistent;
  kept = All-cons (Keeps set) (opposite_row row) rows (keeps-zero set (opposite_row row) (omega (arith, h))) q.kept;
})

pub refuted-follows : (rows : List PlainRow) (row : PlainRow) → Refuted rows none → Implies rows row
refuted-follows rows row r = refuted-more rows (opposite_row row ∷ rows) none (λ other c. Contains-append_right (opposite_row row ∷ []) rows other c) r

stronger-refutes : (s : State) (row : PlainRow) → coef_sum row.terms < row.degree → HasStronger s row → Refuted (live_rows s) none
stronger-refutes s row h t = short-refutes (live_rows s) t.0 none t.1 (omega (arith, h, ap coef_sum t.2, t.3))

pub shown-above : (f : Formula) (s : State) (l : ℤ) → IsSoundState f s → pos (sizes f.objective) <ℤ l → ShowsLower f s (Some l) → (s.least ≡ None) × Refuted (live_rows s) none
shown-above f s l i h (u, inl j) = (high_stops f s.least l h i.logged u, short-follows (live_rows s) (at_least_row f l) (short f.objective l h) j)
shown-above f s l i h (u, inr t) = (high_stops f s.least l h i.logged u, stronger-refutes s (at_least_row f l) (short f.objective l h) t)

pub shown-above_from : (f : Formula) (s : State) (l : ℤ) → s.least ≡ None → Refuted (live_rows s) none → ShowsLower f s (Some l)
shown-above_from f s l e r = (subst (λ (o : Option ℤ). IsUnpassed o l) (sym e) tt, inl (refuted-follows (live_rows s) (at_least_row f l) r))
