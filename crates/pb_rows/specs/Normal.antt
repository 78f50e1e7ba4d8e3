-- The normal form of signed terms.
use Rattle.std.specs.Prelude.{ℕ, zero, suc, ◌+◌, max, ℤ, pos, negsuc, neg_ℤ, ◌+ℤ◌, ◌-ℤ◌, true, false, if◌then◌else◌, List, [], ◌∷◌, ◌++◌}
use Rattle.std.specs.Int.RustNames.{unsigned_abs}
use Rattle.hrt_base.specs.declared.literal.Term.{Term}
use Rattle.pb_rows.specs.Terms.{PlainRow, is_over, positive_part, weighing}

-- ---- the net coefficient of each variable

-- the net coefficient of variable v, where c ~v counts as c - c v
abbrev pub net : ℕ → List Term → ℤ
net v [] = pos 0
net v (t ∷ ts) = (if is_over v t then (if t.lit.neg then neg_ℤ t.coef else t.coef) else pos 0) +ℤ net v ts

-- the sum of the coefficients on opposites: what the right side loses where c ~v becomes c - c v
abbrev pub on_opposites : List Term → ℤ
on_opposites [] = pos 0
on_opposites (t ∷ ts) = (if t.lit.neg then t.coef else pos 0) +ℤ on_opposites ts

-- the term of a variable whose net coefficient is given: none where that is 0
abbrev pub net_term : ℕ → ℤ → List Term
net_term v (pos zero) = []
net_term v (pos (suc a)) = weighing (suc a) (record { var = v; neg = false }) ∷ []
net_term v (negsuc a) = weighing (suc a) (record { var = v; neg = true }) ∷ []

-- how far a number is below 0: what the degree gains where -a v becomes a ~v - a
abbrev pub negative_part : ℤ → ℕ
negative_part (pos n) = 0
negative_part (negsuc a) = suc a

-- the joined terms over the variables below n, by rising variable
abbrev pub joined : ℕ → List Term → List Term
joined zero terms = []
joined (suc v) terms = joined v terms ++ net_term v (net v terms)

-- what the degree gains from the net coefficients below 0 of the variables below n
abbrev pub gained : ℕ → List Term → ℕ
gained zero terms = 0
gained (suc v) terms = gained v terms + negative_part (net v terms)

-- above all variables of the terms
abbrev pub var_bound : List Term → ℕ
var_bound [] = 0
var_bound (t ∷ ts) = max (suc t.lit.var) (var_bound ts)

-- the row in normal form that says that the terms sum to at least the number
abbrev pub normal_form : List Term → ℤ → PlainRow
normal_form terms at_least = record {
  terms = joined (var_bound terms) terms;
  degree = positive_part ((at_least -ℤ on_opposites terms) +ℤ pos (gained (var_bound terms) terms));
}

-- ---- sizes

-- the sum of the sizes of all coefficients, whatever their signs
abbrev pub sizes : List Term → ℕ
sizes [] = 0
sizes (t ∷ ts) = unsigned_abs t.coef + sizes ts

-- the sum of the sizes of all coefficients and of the right side
abbrev pub all_sizes : List Term → ℤ → ℕ
all_sizes terms at_least = sizes terms + unsigned_abs at_least
