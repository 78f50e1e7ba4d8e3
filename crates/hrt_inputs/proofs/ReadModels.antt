-- What a model that is taken spells.
use Rattle.std.proofs.Common.{◌≡◌, ◌+◌, ◌^◌, ℕ, Bool, true, false, cond, nat_le, nat_lt, List, [], ◌∷◌, ◌++◌, length, flat_map, Option, Some, None, Result, Ok, Err, refl}
use Rattle.std.specs.Option.{option_or}
use Rattle.pb_rows.specs.Normal.{all_sizes, sizes}
use Rattle.pb_rows.specs.Formula.{Formula}
use Rattle.opb_text.specs.declared.refusal.OpbRefusal.{OpbRefusal}
use Rattle.opb_text.specs.declared.refusal.OpbRefusal.TheVariants as opb
use Rattle.opb_text.specs.Limits.{most_rows, most_variables}
use Rattle.opb_text.specs.Refusal.{Spells, first_refusal, has_begun, line_refusal, lines_of, refusal, statement_refusal}
use Rattle.opb_text.specs.Statements.{Line, Statement, constraint, formula_said, greatest_variable, minimize, nothing, read_statement, rows_in, statements}
use Rattle.hrt_inputs.specs.declared.limit.Limit.TheVariants.{ModelBytes}
use Rattle.hrt_inputs.specs.Limits.{most}
use Rattle.hrt_inputs.specs.Rejections.{Rejection, exceeded}
use Rattle.hrt_inputs.specs.Taken.{formula_in, unless_model_refused}

-- ---- no text is refused for want of memory

abbrev wanting : Option OpbRefusal
wanting = Some opb.NoMemory

objective_known : (k : ℕ) (a b c : Bool) → cond {A = Option OpbRefusal} a (Some (opb.Syntax k)) (cond b (Some (opb.TooBig k)) (cond c (Some (opb.TooManyVariables k)) None)) ≡ wanting → ⊥
objective_known k true b c e = absurd (cc)
objective_known k false true c e = absurd (cc)
objective_known k false false true e = absurd (cc)
objective_known k false false false e = absurd (cc)

row_known : (k : ℕ) (a b c : Bool) → cond {A = Option OpbRefusal} a (Some (opb.TooBig k)) (cond b (Some (opb.TooManyVariables k)) (cond c (Some (opb.TooManyRows k)) None)) ≡ wanting → ⊥
row_known k true b c e = absurd (cc)
row_known k false true c e = absurd (cc)
row_known k false false true e = absurd (cc)
row_known k false false false e = absurd (cc)

statement_known : (k : ℕ) (begun : Bool) (n : ℕ) (said : Option Statement) → statement_refusal k begun n said ≡ wanting → ⊥
statement_known k begun n None e = absurd (cc)
statement_known k begun n (Some nothing) e = absurd (cc)
statement_known k begun n (Some (minimize terms)) e = objective_known k begun (nat_lt (2 ^ 119) (sizes terms)) (nat_lt most_variables (greatest_variable terms)) e
statement_known k begun n (Some (constraint row)) e =
    row_known k (nat_lt (2 ^ 120) (all_sizes row.terms row.at_least)) (nat_lt most_variables (greatest_variable row.terms)) (nat_le most_rows n) e

either_known : (o later : Option OpbRefusal) → (o ≡ wanting → ⊥) → (later ≡ wanting → ⊥) → option_or o later ≡ wanting → ⊥
either_known None later first second e = second e
either_known (Some r) later first second e = first e

first_known : (before lines : List Line) → first_refusal before lines ≡ wanting → ⊥
first_known before [] e = absurd (cc)
first_known before (line ∷ lines) e =
    either_known (line_refusal before line) (first_refusal (before ++ line ∷ []) lines)
    (statement_known (length before + 1) (has_begun (statements before)) (length (flat_map rows_in (statements before))) (read_statement line))
    (first_known (before ++ line ∷ []) lines) e

-- ---- a formula that is taken

abbrev taken_as : Formula → Result Formula Rejection
taken_as f = Ok f

same_formula : (f g : Formula) → taken_as f ≡ taken_as g → f ≡ g
same_formula f g e = cc

unrefused : (o : Option OpbRefusal) (f g : Formula) → (o ≡ wanting → ⊥) → unless_model_refused o f ≡ taken_as g → (o ≡ None) × (f ≡ g)
unrefused None f g known e = (refl, same_formula f g e)
unrefused (Some (opb.Syntax k)) f g known e = absurd (cc)
unrefused (Some (opb.TooBig k)) f g known e = absurd (cc)
unrefused (Some (opb.TooManyVariables k)) f g known e = absurd (cc)
unrefused (Some (opb.TooManyRows k)) f g known e = absurd (cc)
unrefused (Some opb.NoMemory) f g known e = absurd (known refl)

pub model_spelled : (bytes : List ℕ) (f : Formula) → formula_in bytes ≡ Ok f → Spells bytes f
model_spelled bytes f e = by (nat_lt (most ModelBytes) (length bytes)) e
  where
    within : unless_model_refused (refusal bytes) (formula_said (statements (lines_of bytes))) ≡ taken_as f → Spells bytes f
    within h = let parts = unrefused (refusal bytes) (formula_said (statements (lines_of bytes))) f (first_known [] (lines_of bytes)) h in record { accepted = parts.0; says = parts.1 }

    by : (b : Bool) → cond {A = Result Formula Rejection} b (Err (exceeded ModelBytes)) (unless_model_refused (refusal bytes) (formula_said (statements (lines_of bytes)))) ≡ taken_as f → Spells bytes f
    by true h = absurd (cc)
    by false h = within h
