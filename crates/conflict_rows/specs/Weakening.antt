-- Weakening by several variables.
use Rattle.std.specs.Prelude.{ℕ, Bool, List, map, filter}
use Rattle.hrt_base.specs.declared.literal.Term.{Term}
use Rattle.pb_rows.specs.Terms.{PlainRow}
use Rattle.pb_rows.specs.Rows.{weaken_all}

-- the variables of the terms that pass, in their order
abbrev pub vars_where : (Term → Bool) → List Term → List ℕ
vars_where p ts = map (λ t. t.lit.var) (filter p ts)

-- the row weakened by the variables of its terms that pass
abbrev pub weakened : (Term → Bool) → PlainRow → PlainRow
weakened p r = weaken_all (vars_where p r.terms) r
