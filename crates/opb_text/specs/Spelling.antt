-- The canonical spelling of formulas and of models.
use Rattle.std.specs.Prelude.{ℕ, false, List, [], ◌∷◌, ◌++◌, length, map, flat_map, codes, decimal, if◌then◌else◌, ℤ, neg_ℤ, ◌-ℤ◌}
use Rattle.hrt_base.specs.declared.literal.Term.{Term}
use Rattle.pb_rows.specs.Terms.{PlainRow, Written}
use Rattle.pb_rows.specs.Normal.{on_opposites}
use Rattle.pb_rows.specs.Rows.{in_normal_form}
use Rattle.rank_tables.specs.Instance.{Lists, pair_count}
use Rattle.row_text.specs.Rows.{row_text, term_text}
use Rattle.stability_model.specs.Model.{objective, written_rows}

-- ---- rows without opposites

-- `c ~x` is `c - c x`: its part over x
abbrev pub without_opposite : Term → Term
without_opposite t = if t.lit.neg then record { coef = neg_ℤ t.coef; lit = record { var = t.lit.var; neg = false } } else t

-- a row in normal form, written without opposites and with this right side
abbrev pub written_with : ℤ → PlainRow → Written
written_with at_least row = record { terms = map without_opposite row.terms; at_least = at_least }

-- the row as it is spelled: one term for each variable, by rising variable, and no opposites
abbrev pub canonical : Written → Written
canonical row = written_with (row.at_least -ℤ on_opposites row.terms) (in_normal_form row)

-- ---- lines, each with its line feed

-- the first line, a comment that tells how many variables and how many rows there are
abbrev pub header_line : ℕ → ℕ → List ℕ
header_line vars rows = codes "* #variable= " ++ (decimal vars ++ (codes " #constraint= " ++ (decimal rows ++ 10 ∷ [])))

-- the line that says which terms are to be minimized
abbrev pub objective_line : List Term → List ℕ
objective_line terms = codes "min: " ++ (flat_map term_text terms ++ (59 ∷ 10 ∷ []))

-- the text of a row, as a line of its own
abbrev pub row_line : Written → List ℕ
row_line row = row_text row ++ 10 ∷ []

-- so many variables, the objective, and the rows in their order
abbrev pub opb_spelling : ℕ → List Term → List Written → List ℕ
opb_spelling vars objective rows = header_line vars (length rows) ++ (objective_line objective ++ flat_map (λ row. row_line (canonical row)) rows)

-- the model of an instance
unfoldable pub model_text : Lists → List ℕ
model_text lists = opb_spelling (pair_count lists) (objective lists) (written_rows lists)
