-- Why a text is refused, and the formula that a text spells.
use Rattle.std.specs.Prelude.{◌≡◌, ℕ, Bool, ◌+◌, ◌^◌, nat_le, nat_lt, if◌then◌else◌, List, [], ◌∷◌, ◌++◌, length, map, flat_map, Option, Some, None}
use Rattle.std.specs.List.{list_any}
use Rattle.std.specs.Option.{option_or}
use Rattle.hrt_base.specs.declared.literal.Term.{Term}
use Rattle.pb_rows.specs.Terms.{Written}
use Rattle.pb_rows.specs.Normal.{all_sizes, sizes}
use Rattle.pb_rows.specs.Formula.{Formula}
use Rattle.hrt_text.specs.Text.{lines}
use Rattle.row_text.specs.Tokens.{tokens}
use Rattle.opb_text.specs.declared.refusal.OpbRefusal.{OpbRefusal}
use Rattle.opb_text.specs.declared.refusal.OpbRefusal.TheVariants.{Syntax, TooBig, TooManyVariables, TooManyRows, NoMemory}
use Rattle.opb_text.specs.Limits.{most_rows, most_variables}
use Rattle.opb_text.specs.Statements.{Line, Statement, constraint, formula_said, greatest_variable, minimize, nothing, read_statement, rows_in, speaks, statements}

-- ---- the refusal of line k by what it says

-- the refusal of line k, an objective: `Syntax` where anything was said before it, then by its sizes, then by its variables
abbrev pub objective_refusal : ℕ → Bool → List Term → Option OpbRefusal
objective_refusal k begun terms =
    if begun then Some (Syntax k)
    else if nat_lt (2 ^ 119) (sizes terms) then Some (TooBig k)
    else if nat_lt most_variables (greatest_variable terms) then Some (TooManyVariables k)
    else None

-- the refusal of line k, a row behind so many rows
abbrev pub row_refusal : ℕ → ℕ → Written → Option OpbRefusal
row_refusal k rows row =
    if nat_lt (2 ^ 120) (all_sizes row.terms row.at_least) then Some (TooBig k)
    else if nat_lt most_variables (greatest_variable row.terms) then Some (TooManyVariables k)
    else if nat_le most_rows rows then Some (TooManyRows k)
    else None

-- the refusal of line k, spelled or not, where `begun` tells whether anything was said before it and `rows` how many rows were
abbrev pub statement_refusal : ℕ → Bool → ℕ → Option Statement → Option OpbRefusal
statement_refusal k begun rows None = Some (Syntax k)
statement_refusal k begun rows (Some nothing) = None
statement_refusal k begun rows (Some (minimize terms)) = objective_refusal k begun terms
statement_refusal k begun rows (Some (constraint row)) = row_refusal k rows row

-- ---- the refusal of a text

-- whether any line says something
abbrev pub has_begun : List Statement → Bool
has_begun said = list_any speaks said

-- the refusal of a line behind these; lines are counted from 1
abbrev pub line_refusal : List Line → Line → Option OpbRefusal
line_refusal before line =
    statement_refusal (length before + 1) (has_begun (statements before)) (length (flat_map rows_in (statements before))) (read_statement line)

-- the refusal of the first line that has one, where these lines stand before
abbrev pub first_refusal : List Line → List Line → Option OpbRefusal
first_refusal before [] = None
first_refusal before (line ∷ lines) = option_or (line_refusal before line) (first_refusal (before ++ line ∷ []) lines)

-- the lines of a text, each by its tokens
abbrev pub lines_of : List ℕ → List Line
lines_of bytes = map tokens (lines bytes)

-- the refusal of a text: that of the first line that has one
abbrev pub refusal : List ℕ → Option OpbRefusal
refusal bytes = first_refusal [] (lines_of bytes)

-- ---- what is answered

-- the bytes are a spelling of the formula, within the limits
pub record Spells (bytes : List ℕ) (formula : Formula) : Type 0 where
  pub accepted : refusal bytes ≡ None
  pub says : formula_said (statements (lines_of bytes)) ≡ formula

-- The refusal is this one; want of memory tells nothing.
abbrev pub IsRefusedBy : Option OpbRefusal → OpbRefusal → Type 0
IsRefusedBy refusal (Syntax k) = refusal ≡ Some (Syntax k)
IsRefusedBy refusal (TooBig k) = refusal ≡ Some (TooBig k)
IsRefusedBy refusal (TooManyVariables k) = refusal ≡ Some (TooManyVariables k)
IsRefusedBy refusal (TooManyRows k) = refusal ≡ Some (TooManyRows k)
IsRefusedBy refusal NoMemory = Unit {0}
