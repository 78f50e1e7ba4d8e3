-- What the lines of a formula's text say.
use Rattle.std.specs.Prelude.{ℕ, max, Bool, false, true, if◌then◌else◌, List, [], ◌∷◌, map, flat_map, filter_map, Option, Some, None, option_map, bytes_eq, codes}
use Rattle.hrt_base.specs.declared.literal.Term.{Term}
use Rattle.pb_rows.specs.Terms.{Written}
use Rattle.pb_rows.specs.Rows.{in_normal_form}
use Rattle.pb_rows.specs.Formula.{Formula}
use Rattle.row_text.specs.Numbers.{both}
use Rattle.row_text.specs.Rows.{read_row, read_term}
use Rattle.row_text.specs.Tokens.{is_comment}

-- a line by its tokens
abbrev pub Line : Type 0
Line = List (List ℕ)

-- what a line says: nothing, as a blank line and a comment do, an objective, or a row
pub data Statement : Type 0 where
  nothing : Statement
  minimize : List Term → Statement
  constraint : Written → Statement

-- terms, and `;` as the last token
abbrev pub read_objective : Line → Option (List Term)
read_objective [] = None
read_objective (t ∷ []) = if bytes_eq t (codes ";") then Some [] else None
read_objective (t ∷ u ∷ ts) = both (λ term terms. term ∷ terms) (read_term t u) (read_objective ts)

-- what a line says, if it is spelled; numbers may be of any size
abbrev pub read_statement : Line → Option Statement
read_statement [] = Some nothing
read_statement (t ∷ ts) =
    if is_comment (t ∷ ts) then Some nothing
    else if bytes_eq t (codes "min:") then option_map minimize (read_objective ts)
    else option_map constraint (read_row (t ∷ ts))

-- ---- what lines say together

-- what lines say, in their order; a line that isn't spelled is left out
abbrev pub statements : List Line → List Statement
statements lines = filter_map read_statement lines

-- the terms of a statement, be it an objective or a row
abbrev pub terms_in : Statement → List Term
terms_in nothing = []
terms_in (minimize terms) = terms
terms_in (constraint row) = row.terms

-- the terms that a statement asks to minimize, none where it isn't an objective
abbrev pub objective_in : Statement → List Term
objective_in nothing = []
objective_in (minimize terms) = terms
objective_in (constraint row) = []

-- the row that a statement asks for, none where it isn't one
abbrev pub rows_in : Statement → List Written
rows_in nothing = []
rows_in (minimize terms) = []
rows_in (constraint row) = row ∷ []

-- whether it says anything
abbrev pub speaks : Statement → Bool
speaks nothing = false
speaks (minimize terms) = true
speaks (constraint row) = true

-- the greatest variable of the terms, 0 where there is no term
abbrev pub greatest_variable : List Term → ℕ
greatest_variable [] = 0
greatest_variable (t ∷ ts) = max t.lit.var (greatest_variable ts)

-- The variables go up to the greatest that occurs, in terms with coefficient 0 too. The objective keeps its terms as they
-- are written, and has none where no line says it. Rows are kept in normal form.
abbrev pub formula_said : List Statement → Formula
formula_said said = record {
  vars = greatest_variable (flat_map terms_in said);
  objective = flat_map objective_in said;
  rows = map in_normal_form (flat_map rows_in said);
}
