-- What the operations keep, the row of a `pol` line has where the live rows have it.
use Rattle.std.proofs.Common.{◌≡◌, ℕ, ◌≤◌, ◌==◌, Bool, true, false, List, [], ◌∷◌, if◌then◌else◌, nat_le, All, refl, subst}
use Rattle.std.specs.Prelude.{Option, Some, None, Ok}
use Rattle.std.specs.List.{AllByRecursion as ByRecursion, list_all}
use Rattle.std.proofs.lemmas.Bool.{leb-true}
use Rattle.std.proofs.lemmas.List.Elements.{All-cons, All-nil, All-head, All-tail}
use Rattle.hrt_base.specs.declared.literal.Lit.{Lit}
use Rattle.pb_rows.specs.Terms.{PlainRow, positive_part}
use Rattle.pb_rows.specs.Rows.{add, divide, literal_row, saturate, times, weaken}
use Rattle.pb_rows.specs.Formula.{NumberedRow, row_of, rows_of}
use Rattle.proof_lines.specs.declared.line.PolStep.{PolStep}
use Rattle.proof_lines.specs.declared.line.PolStep.TheVariants.{Id, Axiom, Add, Times, Divide, Saturate, Weaken}
use Rattle.proof_lines.specs.Spelling.{is_small_step}
use Rattle.proof_rules.specs.Pol.{add_top, fits, on_top, only_row, pol_row, push_live, push_made, run_step, run_steps}
use Rattle.proof_rules.proofs.Made.{made_if, made_then}

-- the operations keep it, and the rows of literals of some kind have it
pub record IsKeptBy (P : PlainRow → Type 0) (A : Lit → Type 0) : Type 1 where
  pub by_literal : (l : Lit) → A l → P (literal_row l)
  pub by_add : (a b : PlainRow) → P a → P b → P (add a b)
  pub by_times : (k : ℕ) (row : PlainRow) → P row → P (times k row)
  pub by_divide : (k : ℕ) (row : PlainRow) → P row → P (divide k row)
  pub by_saturate : (row : PlainRow) → P row → P (saturate row)
  pub by_weaken : (v : ℕ) (row : PlainRow) → P row → P (weaken v row)

-- a literal over the variables is of that kind
abbrev pub Allows : (Lit → Type 0) → ℕ → PolStep → Type 0
Allows A vars (Axiom l) = l.var ≤ vars → A l
Allows A vars step = Unit {0}

module _ (P : PlainRow → Type 0) (A : Lit → Type 0) (kept : IsKeptBy P A) where
  found_step : (b : Bool) (here row : PlainRow) (rest : Option PlainRow) → (if b then Some here else rest) ≡ Some row → P here → (rest ≡ Some row → P row) → P row
  found_step true here row rest e h k = let same : here ≡ row = cc in subst P same h
  found_step false here row rest e h k = k e

  pub row_of-keeps : (n : ℕ) (live : List NumberedRow) (row : PlainRow) → row_of n live ≡ Some row → All P (rows_of live) → P row
  row_of-keeps n [] row e h = absurd (cc)
  row_of-keeps n (entry ∷ live) row e h =
      found_step (entry.number == n) entry.row row (row_of n live) e (All-head P entry.row (rows_of live) h)
      (λ k. row_of-keeps n live row k (All-tail P entry.row (rows_of live) h))

  top_is : (row : PlainRow) (stack out : List PlainRow) → P row → All P stack → row ∷ stack ≡ out → All P out
  top_is row stack out h k e = subst (All P) e (All-cons P row stack h k)

  made-keeps : (row : PlainRow) (stack out : List PlainRow) → P row → All P stack → push_made row stack ≡ Ok out → All P out
  made-keeps row stack out h k e =
      let made = made_if (fits row) (Ok (row ∷ stack)) _ out e in
      let top : row ∷ stack ≡ out = cc (made.1) in
      top_is row stack out h k top

  live-keeps : (n : ℕ) (o : Option PlainRow) (stack out : List PlainRow) → ((row : PlainRow) → o ≡ Some row → P row) → All P stack → push_live n o stack ≡ Ok out → All P out
  live-keeps n None stack out h k e = absurd (cc)
  live-keeps n (Some row) stack out h k e = let top : row ∷ stack ≡ out = cc in top_is row stack out (h row refl) k top

  literal-keeps : (vars : ℕ) (l : Lit) (stack out : List PlainRow) → (l.var ≤ vars → A l) → All P stack → run_step vars [] (Axiom l) stack ≡ Ok out → All P out
  literal-keeps vars l stack out a k e =
      let made = made_if (nat_le l.var vars) (Ok (literal_row l ∷ stack)) _ out e in
      let top : literal_row l ∷ stack ≡ out = cc (made.1) in
      top_is (literal_row l) stack out (kept.by_literal l (a (leb-true l.var vars made.0))) k top

  top-keeps : (change : PlainRow → PlainRow) → ((row : PlainRow) → P row → P (change row)) → (stack out : List PlainRow) → All P stack → on_top change stack ≡ Ok out → All P out
  top-keeps change keeps [] out k e = absurd (cc)
  top-keeps change keeps (row ∷ stack) out k e =
      made-keeps (change row) stack out (keeps row (All-head P row stack k)) (All-tail P row stack k) e

  add-keeps : (stack out : List PlainRow) → All P stack → add_top stack ≡ Ok out → All P out
  add-keeps [] out k e = absurd (cc)
  add-keeps (b ∷ []) out k e = absurd (cc)
  add-keeps (b ∷ a ∷ stack) out k e =
      let rest : All P (a ∷ stack) = All-tail P b (a ∷ stack) k in
      made-keeps (add a b) stack out (kept.by_add a b (All-head P a stack rest) (All-head P b (a ∷ stack) k)) (All-tail P a stack rest) e

  step-keeps : (vars : ℕ) (live : List NumberedRow) (step : PolStep) (stack out : List PlainRow) → Allows A vars step → All P (rows_of live) → All P stack → run_step vars live step stack ≡ Ok out → All P out
  step-keeps vars live (Id n) stack out a h k e = live-keeps n.0 (row_of n.0 live) stack out (λ row f. row_of-keeps n.0 live row f h) k e
  step-keeps vars live (Axiom l) stack out a h k e = literal-keeps vars l stack out a k e
  step-keeps vars live Add stack out a h k e = add-keeps stack out k e
  step-keeps vars live (Times n) stack out a h k e = top-keeps (times (positive_part n)) (kept.by_times (positive_part n)) stack out k e
  step-keeps vars live (Divide n) stack out a h k e = top-keeps (divide (positive_part n)) (kept.by_divide (positive_part n)) stack out k e
  step-keeps vars live Saturate stack out a h k e = top-keeps saturate kept.by_saturate stack out k e
  step-keeps vars live (Weaken v) stack out a h k e =
      top-keeps (weaken v) (kept.by_weaken v) stack out k (made_if (nat_le v vars) (on_top (weaken v) stack) _ out e).1

  steps-keep : (vars : ℕ) (live : List NumberedRow) (steps : List PolStep) (stack out : List PlainRow) → ByRecursion (Allows A vars) steps → All P (rows_of live) → All P stack → run_steps vars live steps stack ≡ Ok out → All P out
  steps-keep vars live [] stack out a h k e = let same : stack ≡ out = cc in subst (All P) same k
  steps-keep vars live (step ∷ steps) stack out a h k e =
      let made = made_then (run_step vars live step stack) (λ next. run_steps vars live steps next) out e in
      steps-keep vars live steps made.0 out a.1 h (step-keeps vars live step stack made.0 a.0 h k made.1) made.2

  only-keeps : (stack : List PlainRow) (row : PlainRow) → All P stack → only_row stack ≡ Ok row → P row
  only-keeps [] row k e = absurd (cc)
  only-keeps (top ∷ []) row k e = let same : top ≡ row = cc in subst P same (All-head P top [] k)
  only-keeps (top ∷ other ∷ stack) row k e = absurd (cc)

  pub pol_row-keeps_by : (vars : ℕ) (live : List NumberedRow) (steps : List PolStep) (row : PlainRow) → pol_row vars live steps ≡ Ok row → ByRecursion (Allows A vars) steps → All P (rows_of live) → P row
  pol_row-keeps_by vars live steps row e a h =
      let small = made_if (list_all is_small_step steps) _ _ row e in
      let made = made_then (run_steps vars live steps []) only_row row small.1 in
      only-keeps made.0 row (steps-keep vars live steps [] made.0 a h (All-nil P) made.1) made.2

-- ---- of all literals

pub record IsKept (P : PlainRow → Type 0) : Type 1 where
  pub by_literal : (l : Lit) → P (literal_row l)
  pub by_add : (a b : PlainRow) → P a → P b → P (add a b)
  pub by_times : (k : ℕ) (row : PlainRow) → P row → P (times k row)
  pub by_divide : (k : ℕ) (row : PlainRow) → P row → P (divide k row)
  pub by_saturate : (row : PlainRow) → P row → P (saturate row)
  pub by_weaken : (v : ℕ) (row : PlainRow) → P row → P (weaken v row)

abbrev Any : Lit → Type 0
Any l = Unit {0}

allows_any : (vars : ℕ) (step : PolStep) → Allows Any vars step
allows_any vars (Id n) = tt
allows_any vars (Axiom l) = λ h. tt
allows_any vars Add = tt
allows_any vars (Times k) = tt
allows_any vars (Divide k) = tt
allows_any vars Saturate = tt
allows_any vars (Weaken v) = tt

all_allowed : (vars : ℕ) (steps : List PolStep) → ByRecursion (Allows Any vars) steps
all_allowed vars [] = tt
all_allowed vars (step ∷ steps) = (allows_any vars step, all_allowed vars steps)

pub pol_row-keeps : (P : PlainRow → Type 0) → IsKept P → (vars : ℕ) (live : List NumberedRow) (steps : List PolStep) (row : PlainRow) → pol_row vars live steps ≡ Ok row → All P (rows_of live) → P row
pol_row-keeps P kept vars live steps row e h = pol_row-keeps_by P Any by vars live steps row e (all_allowed vars steps) h
  where
    by : IsKeptBy P Any
    by = record { by_literal = λ l _. kept.by_literal l; by_add = kept.by_add; by_times = kept.by_times; by_divide = kept.by_divide; by_saturate = kept.by_saturate; by_weaken = kept.by_weaken }
