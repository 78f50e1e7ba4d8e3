-- What a formula of an OPB file is kept within.
use Rattle.std.specs.Prelude.{ℕ, ◌≤◌, ◌^◌, length, All}
use Rattle.hrt_base.specs.declared.literal.Term.{Term}
use Rattle.pb_rows.specs.Terms.{PlainRow}
use Rattle.pb_rows.specs.Points.{IsCovered}
use Rattle.pb_rows.specs.Normal.{sizes}
use Rattle.pb_rows.specs.Formula.{Formula}

-- a formula has at most this many variables
abbrev pub most_variables : ℕ
most_variables = 100000

-- a formula has at most this many rows
abbrev pub most_rows : ℕ
most_rows = 1000000

-- few variables and rows, each variable is one of them, and the objective's sizes sum to at most 2^119
pub record IsWithinLimits (f : Formula) : Type 0 where
  pub few_variables : f.vars ≤ most_variables
  pub few_rows : length f.rows ≤ most_rows
  pub objective : All (λ (t : Term). IsCovered f.vars t.lit.var) f.objective
  pub rows : All (λ (r : PlainRow). All (λ (t : Term). IsCovered f.vars t.lit.var) r.terms) f.rows
  pub objective_sum : sizes f.objective ≤ 2 ^ 119
