-- The variables of the rows that lines make.
use Rattle.std.proofs.Common.{◌≡◌, ℕ, ◌≤◌, ◌^◌, true, nat_le, if◌then◌else◌, List, [], ◌∷◌, ℤ, neg_ℤ, subst, arith}
use Rattle.std.specs.Prelude.{Result, Ok, Err}
use Rattle.std.specs.List.{All, AllByRecursion as ByRecursion, list_all}
use Rattle.std.proofs.lemmas.Bool.{and_parts, leb-true}
use Rattle.std.proofs.lemmas.List.Elements.{All-cons, All-from_recursion, All-map, All-nil}
use Rattle.hrt_base.specs.declared.literal.Lit.{Lit}
use Rattle.hrt_base.specs.declared.literal.Term.{Term}
use Rattle.pb_rows.specs.Terms.{PlainRow, Written, weighing}
use Rattle.pb_rows.specs.Points.{IsCovered}
use Rattle.pb_rows.specs.Normal.{all_sizes, normal_form}
use Rattle.pb_rows.specs.Rows.{in_normal_form}
use Rattle.pb_rows.specs.Formula.{NumberedRow, rows_of}
use Rattle.pb_rows.proofs.Covers.{add_over, divide_over, normal_form_over, saturate_over, times_over, weaken_over}
use Rattle.row_text.specs.Rows.{is_small_row}
use Rattle.propagation.specs.Following.{IsOver}
use Rattle.proof_lines.specs.declared.line.PolStep.{PolStep}
use Rattle.proof_lines.specs.declared.line.PolStep.TheVariants.{Id, Axiom, Add, Times, Divide, Saturate, Weaken}
use Rattle.proof_lines.specs.Texts.{is_spellable_literal, is_spellable_step, is_spellable_term}
use Rattle.proof_rules.specs.Refusals.{Refusal, BadVariable, TooBig}
use Rattle.proof_rules.specs.Pol.{pol_row}
use Rattle.proof_rules.specs.States.{at_most_row, if_known, literals_in, minus_terms, rup_row}
use Rattle.proof_rules.proofs.Made.{made_if, made_known}
use Rattle.proof_rules.proofs.PolRows.{Allows, IsKeptBy, pol_row-keeps_by}
use Rattle.proof_checker.specs.Tests.{known_literals}

-- ---- literals

abbrev Covers : ℕ → Lit → Type 0
Covers vars l = IsCovered vars l.var

covered : (vars : ℕ) (l : Lit) → is_spellable_literal l ≡ true → l.var ≤ vars → Covers vars l
covered vars l made h = record { first = omega (arith, leb-true 1 l.var (and_parts (nat_le 1 l.var) (nat_le l.var 4294967295) made).0); last = h }

-- literals that are known
known-within : {A : Type 0} (vars : ℕ) (ls : List Lit) (r : Result A Refusal) (x : A) → if_known vars ls r ≡ Ok x → ByRecursion (λ (l : Lit). l.var ≤ vars) ls
known-within vars [] r x h = tt
known-within vars (l ∷ ls) r x h =
    let parts = made_if (nat_le l.var vars) (if_known vars ls r) (BadVariable l.var) x h in
    (leb-true l.var vars parts.0, known-within vars ls r x parts.1)

all_covered : (vars : ℕ) (ls : List Lit) → list_all is_spellable_literal ls ≡ true → ByRecursion (λ (l : Lit). l.var ≤ vars) ls → ByRecursion (Covers vars) ls
all_covered vars [] made h = tt
all_covered vars (l ∷ ls) made h = let parts = and_parts (is_spellable_literal l) (list_all is_spellable_literal ls) made in (covered vars l parts.0 h.0, all_covered vars ls parts.1 h.1)

pub literals-covered : (vars : ℕ) (ls : List Lit) → list_all is_spellable_literal ls ≡ true → known_literals vars ls ≡ Ok tt → All (Covers vars) ls
literals-covered vars ls made known = All-from_recursion (Covers vars) ls (all_covered vars ls made (known-within vars ls (Ok tt) tt known))

-- ---- `pol`

allowed : (vars : ℕ) (step : PolStep) → is_spellable_step step ≡ true → Allows (Covers vars) vars step
allowed vars (Id n) made = tt
allowed vars (Axiom l) made = λ h. covered vars l made h
allowed vars Add made = tt
allowed vars (Times k) made = tt
allowed vars (Divide k) made = tt
allowed vars Saturate made = tt
allowed vars (Weaken v) made = tt

all_allowed : (vars : ℕ) (steps : List PolStep) → list_all is_spellable_step steps ≡ true → ByRecursion (Allows (Covers vars) vars) steps
all_allowed vars [] made = tt
all_allowed vars (step ∷ steps) made = let parts = and_parts (is_spellable_step step) (list_all is_spellable_step steps) made in (allowed vars step parts.0, all_allowed vars steps parts.1)

over_kept : (vars : ℕ) → IsKeptBy (IsOver vars) (Covers vars)
over_kept vars = record {
  by_literal = λ l c. All-cons (λ (t : Term). IsCovered vars t.lit.var) (weighing 1 l) [] c (All-nil (λ (t : Term). IsCovered vars t.lit.var));
  by_add = λ a b h k. add_over (IsCovered vars) a b h k;
  by_times = λ k row h. times_over (IsCovered vars) k row h;
  by_divide = λ k row h. divide_over (IsCovered vars) k row h;
  by_saturate = λ row h. saturate_over (IsCovered vars) row h;
  by_weaken = λ v row h. weaken_over (IsCovered vars) v row h;
}

pub pol-over : (vars : ℕ) (live : List NumberedRow) (steps : List PolStep) (row : PlainRow) → list_all is_spellable_step steps ≡ true → All (IsOver vars) (rows_of live) → pol_row vars live steps ≡ Ok row → IsOver vars row
pol-over vars live steps row made over e = pol_row-keeps_by (IsOver vars) (Covers vars) (over_kept vars) vars live steps row e (all_allowed vars steps made) over

-- ---- `rup`

terms_covered : (vars : ℕ) (ts : List Term) → list_all is_spellable_term ts ≡ true → ByRecursion (λ (l : Lit). l.var ≤ vars) (literals_in ts) → ByRecursion (λ (t : Term). IsCovered vars t.lit.var) ts
terms_covered vars [] made h = tt
terms_covered vars (t ∷ ts) made h = let parts = and_parts (is_spellable_term t) (list_all is_spellable_term ts) made in (covered vars t.lit parts.0 h.0, terms_covered vars ts parts.1 h.1)

pub rup-over : (vars : ℕ) (w : Written) (row : PlainRow) → list_all is_spellable_term w.terms ≡ true → rup_row vars w ≡ Ok row → (in_normal_form w ≡ row) × IsOver vars row
rup-over vars w row made e =
    let fits : Result PlainRow Refusal = if nat_le (all_sizes w.terms w.at_least) (2 ^ 120) then Ok (in_normal_form w) else Err TooBig in
    let small = made_if (is_small_row w) (if_known vars (literals_in w.terms) fits) TooBig row e in
    let within = known-within vars (literals_in w.terms) fits row small.1 in
    let known = made_if (nat_le (all_sizes w.terms w.at_least) (2 ^ 120)) (Ok (in_normal_form w)) TooBig row (made_known vars (literals_in w.terms) fits row small.1) in
    let is : in_normal_form w ≡ row = cc (known.1) in
    let over = All-from_recursion (λ (t : Term). IsCovered vars t.lit.var) w.terms (terms_covered vars w.terms made within) in
    (is, subst (IsOver vars) is (normal_form_over (IsCovered vars) w.terms w.at_least over))

-- ---- the objective

pub improvement-over : (vars : ℕ) (ts : List Term) (v : ℤ) → All (λ (t : Term). IsCovered vars t.lit.var) ts → IsOver vars (at_most_row ts v)
improvement-over vars ts v h =
    normal_form_over (IsCovered vars) (minus_terms ts) (neg_ℤ v) (All-map (λ (t : Term). IsCovered vars t.lit.var) (λ t. record { coef = neg_ℤ t.coef; lit = t.lit }) ts h)

pub at_least-over : (vars : ℕ) (ts : List Term) (l : ℤ) → All (λ (t : Term). IsCovered vars t.lit.var) ts → IsOver vars (normal_form ts l)
at_least-over vars ts l h = normal_form_over (IsCovered vars) ts l h
