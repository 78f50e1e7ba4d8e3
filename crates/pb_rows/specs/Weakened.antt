-- Weakening by many variables at once. A row that is weakened by them one after another is the same row; no public clause
-- speaks of this one.
use Rattle.std.specs.Prelude.{◌≡◌, ◌+◌, ◌-◌, ℕ, Bool, not, if◌then◌else◌, List, [], ◌∷◌, filter}
use Rattle.std.specs.List.{list_any}
use Rattle.hrt_base.specs.declared.literal.Term.{Term}
use Rattle.pb_rows.specs.declared.weakening.Weakened.{Weakened}
use Rattle.pb_rows.specs.Terms.{PlainRow, is_over, positive_part}

-- whether a term is over one of the variables
abbrev pub is_among : List ℕ → Term → Bool
is_among vars t = list_any (λ v. is_over v t) vars

-- the terms over other variables
abbrev pub without : List ℕ → List Term → List Term
without vars = filter (λ t. not (is_among vars t))

-- the sum of the coefficients, where they aren't negative, of the terms over the variables
abbrev pub weight_among : List ℕ → List Term → ℕ
weight_among vars [] = 0
weight_among vars (t ∷ ts) = (if is_among vars t then positive_part t.coef else 0) + weight_among vars ts

-- the row without the terms over the variables, their coefficients taken from the degree
abbrev pub weakened_by : List ℕ → PlainRow → PlainRow
weakened_by vars r = record { terms = without vars r.terms; degree = r.degree - weight_among vars r.terms }

-- the terms over other variables are left, and it is told what the coefficients of those over the variables sum to
pub record IsWeakened (vars : List ℕ) (terms : List Term) (weakened : Weakened) : Type 0 where
  pub terms_left : weakened.terms.items ≡ without vars terms
  pub gone : weakened.gone ≡ weight_among vars terms
