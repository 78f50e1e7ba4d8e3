-- What the lines so far say, as the reader keeps it.
use Rattle.std.specs.Prelude.{ℕ, max, Bool, true, List, [], ◌∷◌, ◌++◌, length, Option, Some, None}
use Rattle.pb_rows.specs.Rows.{in_normal_form}
use Rattle.pb_rows.specs.Formula.{Formula}
use Rattle.opb_text.specs.declared.refusal.OpbRefusal.{OpbRefusal}
use Rattle.opb_text.specs.Statements.{Statement, constraint, formula_said, greatest_variable, minimize, nothing}
use Rattle.opb_text.specs.Refusal.{has_begun, statement_refusal}

-- the formula, and whether any line says something
pub record Drafted : Type 0 where
  pub formula : Formula
  pub begun : Bool

-- the draft that these statements make together
abbrev pub drafted : List Statement → Drafted
drafted said = record { formula = formula_said said; begun = has_begun said }

-- the refusal of line k behind a draft
abbrev pub refusal_behind : ℕ → Drafted → Option Statement → Option OpbRefusal
refusal_behind k draft said = statement_refusal k draft.begun (length draft.formula.rows) said

-- the draft with one more statement; an objective is the first that is said
abbrev pub with_statement : Drafted → Option Statement → Drafted
with_statement draft None = draft
with_statement draft (Some nothing) = draft
with_statement draft (Some (minimize terms)) = record {
  formula = record { vars = max draft.formula.vars (greatest_variable terms); objective = terms; rows = draft.formula.rows };
  begun = true;
}
with_statement draft (Some (constraint row)) = record {
  formula = record {
    vars = max draft.formula.vars (greatest_variable row.terms);
    objective = draft.formula.objective;
    rows = draft.formula.rows ++ in_normal_form row ∷ [];
  };
  begun = true;
}
