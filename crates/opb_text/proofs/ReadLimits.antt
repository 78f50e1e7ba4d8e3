-- A formula that is read is within the limits.
use Rattle.std.proofs.Common.{◌≡◌, ◌∙◌, ℕ, ◌+◌, ◌^◌, ◌<◌, ◌≤◌, max, nat_le, nat_lt, Bool, true, false, List, [], ◌∷◌, ◌++◌, length, Option, Some, None, refl, sym, ap, subst, arith, if◌then◌else◌, length-append}
use Rattle.std.specs.Prelude.{bytes_eq, codes, option_map}
use Rattle.std.specs.List.{All}
use Rattle.std.specs.Option.{option_or}
use Rattle.std.proofs.lemmas.Bool.Decides.{nat_tests}
use Rattle.std.proofs.lemmas.List.{append-nil}
use Rattle.std.proofs.lemmas.List.Elements.{All-cons, All-nil, All-push}
use Rattle.std.proofs.Common.{append_assoc}
use Rattle.hrt_base.specs.declared.literal.Term.{Term}
use Rattle.pb_rows.specs.Terms.{PlainRow}
use Rattle.pb_rows.specs.Points.{IsCovered}
use Rattle.pb_rows.specs.Normal.{all_sizes, sizes}
use Rattle.pb_rows.specs.Rows.{in_normal_form}
use Rattle.pb_rows.specs.Formula.{Formula}
use Rattle.pb_rows.proofs.Covers.{normal_form_over}
use Rattle.row_text.specs.Rows.{read_row, read_term}
use Rattle.row_text.specs.Tokens.{is_comment}
use Rattle.row_text.proofs.Ranges.{both_some, map_some, row_made, term_made}
use Rattle.row_text.proofs.RowBack.{AllMade}
use Rattle.opb_text.specs.declared.refusal.OpbRefusal.{OpbRefusal}
use Rattle.opb_text.specs.Limits.{IsWithinLimits, most_rows, most_variables}
use Rattle.opb_text.specs.Drafts.{Drafted, drafted, refusal_behind, with_statement}
use Rattle.opb_text.specs.Refusal.{first_refusal, line_refusal, lines_of, refusal, statement_refusal}
use Rattle.opb_text.specs.Statements.{Line, Statement, constraint, formula_said, greatest_variable, minimize, nothing, read_objective, read_statement, statements, terms_in}
use Rattle.opb_text.proofs.Drafting.{drafted_more, refusal_there, said_more}

-- ---- the variables of a line are from 1 on

objective_by : (end : Bool) (terms : List Term) → (if end then Some [] else None) ≡ Some terms → AllMade terms
objective_by true terms e = let is : [] ≡ terms = cc in subst AllMade is tt
objective_by false terms e = absurd cc

objective_made : (ts : Line) (terms : List Term) → read_objective ts ≡ Some terms → AllMade terms
objective_made [] terms e = absurd cc
objective_made (t ∷ []) terms e = objective_by (bytes_eq t (codes ";")) terms e
objective_made (t ∷ u ∷ ts) terms e =
    let b = both_some (λ (x : Term) (xs : List Term). x ∷ xs) (read_term t u) (read_objective ts) terms e in
    subst AllMade b.joined_is (term_made t u b.first b.first_is, objective_made ts b.second b.second_is)

AreMade : Statement → Type 0
AreMade s = AllMade (terms_in s)

statement_by : (silent begins : Bool) (ts us : Line) (s : Statement)
    → (if silent then Some nothing else if begins then option_map minimize (read_objective us) else option_map constraint (read_row ts)) ≡ Some s → AreMade s
unfolding AreMade
statement_by true begins ts us s e = let is : nothing ≡ s = cc in subst AreMade is tt
statement_by false true ts us s e =
    let m = map_some minimize (read_objective us) s e in
    subst AreMade m.2 (objective_made us m.0 m.1)
statement_by false false ts us s e =
    let m = map_some constraint (read_row ts) s e in
    subst AreMade m.2 (row_made ts m.0 m.1)

statement_made : (line : Line) (s : Statement) → read_statement line ≡ Some s → AreMade s
unfolding AreMade
statement_made [] s e = let is : nothing ≡ s = cc in subst AreMade is tt
statement_made (t ∷ ts) s e = statement_by (is_comment (t ∷ ts)) (bytes_eq t (codes "min:")) (t ∷ ts) ts s e

-- ---- variables up to a number

abbrev AreOver : ℕ → List Term → Type 0
AreOver n terms = All (λ (t : Term). IsCovered n t.lit.var) terms

covered : (n : ℕ) (ts : List Term) → AllMade ts → greatest_variable ts ≤ n → AreOver n ts
covered n [] made h = All-nil (λ (t : Term). IsCovered n t.lit.var)
covered n (t ∷ ts) made h =
    All-cons (λ (t : Term). IsCovered n t.lit.var) t ts (record { first = omega (arith, made.0.low); last = omega arith }) (covered n ts made.1 (omega arith))

wider : (n m : ℕ) (ts : List Term) → n ≤ m → AreOver n ts → AreOver m ts
wider n m ts h over k d l = let c = over k d l in record { first = c.first; last = omega (arith, c.last, h) }

abbrev RowsAreOver : ℕ → List PlainRow → Type 0
RowsAreOver n rows = All (λ (r : PlainRow). AreOver n r.terms) rows

rows_wider : (n m : ℕ) (rows : List PlainRow) → n ≤ m → RowsAreOver n rows → RowsAreOver m rows
rows_wider n m rows h over k d l = wider n m _ h (over k d l)

-- ---- one more statement

none_of : (a b c : Bool) (x y z : OpbRefusal) → (if a then Some x else if b then Some y else if c then Some z else None) ≡ None → (a ≡ false) × (b ≡ false) × (c ≡ false)
none_of true b c x y z e = absurd cc
none_of false true c x y z e = absurd cc
none_of false false true x y z e = absurd cc
none_of false false false x y z e = (refl, refl, refl)

up_to : (n m : ℕ) → nat_lt m n ≡ false → n ≤ m
up_to n m h = grind (arith, nat_tests)

below_most : (n m : ℕ) → nat_le m n ≡ false → n < m
below_most n m h = grind (arith, nat_tests)

step : (k : ℕ) (d : Formula) (begun : Bool) (o : Option Statement) → IsWithinLimits d → statement_refusal k begun (length d.rows) o ≡ None → ((s : Statement) → o ≡ Some s → AreMade s)
    → IsWithinLimits (with_statement (record { formula = d; begun = begun }) o).formula
unfolding AreMade
step k d begun None within fine made = absurd cc
step k d begun (Some nothing) within fine made = within
step k d begun (Some (minimize terms)) within fine made =
    let n = none_of begun (nat_lt (2 ^ 119) (sizes terms)) (nat_lt most_variables (greatest_variable terms)) _ _ _ fine in
    let most : ℕ = max d.vars (greatest_variable terms) in
    record {
      few_variables = omega (arith, within.few_variables, up_to (greatest_variable terms) most_variables n.2);
      few_rows = within.few_rows;
      objective = covered most terms (made (minimize terms) refl) (omega arith);
      rows = rows_wider d.vars most d.rows (omega arith) within.rows;
      objective_sum = up_to (sizes terms) (2 ^ 119) n.1;
    }
step k d begun (Some (constraint row)) within fine made =
    let n = none_of (nat_lt (2 ^ 120) (all_sizes row.terms row.at_least)) (nat_lt most_variables (greatest_variable row.terms)) (nat_le most_rows (length d.rows)) _ _ _ fine in
    let most : ℕ = max d.vars (greatest_variable row.terms) in
    let over : AreOver most row.terms = covered most row.terms (made (constraint row) refl) (omega arith) in
    record {
      few_variables = omega (arith, within.few_variables, up_to (greatest_variable row.terms) most_variables n.1);
      few_rows = omega (arith, length-append d.rows (in_normal_form row ∷ []), below_most (length d.rows) most_rows n.2);
      objective = wider d.vars most d.objective (omega arith) within.objective;
      rows = All-push (λ (r : PlainRow). AreOver most r.terms) d.rows (in_normal_form row) (rows_wider d.vars most d.rows (omega arith) within.rows) (normal_form_over (IsCovered most) row.terms row.at_least over);
      objective_sum = within.objective_sum;
    }

-- ---- line by line

both_none : (o later : Option OpbRefusal) → option_or o later ≡ None → (o ≡ None) × (later ≡ None)
both_none None later e = (refl, e)
both_none (Some x) later e = absurd cc

one_more : (before : List Line) (line : Line) → IsWithinLimits (formula_said (statements before)) → line_refusal before line ≡ None → IsWithinLimits (formula_said (statements (before ++ line ∷ [])))
one_more before line within fine =
    let said : List Statement = statements before in
    let k : ℕ = length before + 1 in
    let behind : refusal_behind k (drafted said) (read_statement line) ≡ None = refusal_there k before line refl ∙ fine in
    let moved : drafted (statements (before ++ line ∷ [])) ≡ with_statement (drafted said) (read_statement line) =
    ap drafted (said_more before line) ∙ drafted_more k _ said (read_statement line) behind in
    subst (λ (d : Drafted). IsWithinLimits d.formula) (sym moved) (step k (formula_said said) _ (read_statement line) within behind (statement_made line))

all_within : (before rest : List Line) → IsWithinLimits (formula_said (statements before)) → first_refusal before rest ≡ None → IsWithinLimits (formula_said (statements (before ++ rest)))
all_within before [] within fine = subst (λ (ls : List Line). IsWithinLimits (formula_said (statements ls))) (sym (append-nil before)) within
all_within before (line ∷ rest) within fine =
    let n = both_none (line_refusal before line) (first_refusal (before ++ line ∷ []) rest) fine in
    subst (λ (ls : List Line). IsWithinLimits (formula_said (statements ls))) (append_assoc before (line ∷ []) rest) (all_within (before ++ line ∷ []) rest (one_more before line within n.0) n.1)

nothing_within : IsWithinLimits (formula_said [])
nothing_within = record {
  few_variables = omega arith;
  few_rows = omega arith;
  objective = All-nil (λ (t : Term). IsCovered 0 t.lit.var);
  rows = All-nil (λ (r : PlainRow). AreOver 0 r.terms);
  objective_sum = omega arith;
}

pub read_within : (bytes : List ℕ) (f : Formula) → refusal bytes ≡ None → formula_said (statements (lines_of bytes)) ≡ f → IsWithinLimits f
read_within bytes f accepted says = subst IsWithinLimits says (all_within [] (lines_of bytes) nothing_within accepted)
