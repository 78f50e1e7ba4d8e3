-- Tests of the rules, with an answer that carries nothing.
use Rattle.std.specs.Prelude.{◌≡◌, ℕ, ℤ, ◌-◌, ◌==◌, Bool, true, List, length, count_by, slice_index_or, Option, Some, None, Result, Ok}
use Rattle.hrt_base.specs.declared.literal.Lit.{Lit}
use Rattle.hrt_base.specs.declared.literal.Term.{Term}
use Rattle.pb_rows.specs.Terms.{PlainRow}
use Rattle.pb_rows.specs.Points.{IsCovered, Point, point_of}
use Rattle.proof_rules.specs.Refusals.{Refusal}
use Rattle.proof_rules.specs.Claims.{IsReached}
use Rattle.proof_rules.specs.States.{if_hold, if_known, is_full, literals_in, named_point}

-- Ok where each literal's variable is at most vars, else the refusal that names the first one above
abbrev pub known_literals : ℕ → List Lit → Result (Unit {0}) Refusal
known_literals vars ls = if_known vars ls (Ok tt)

-- the same of the literals of terms: Ok, or the refusal that names the first variable above vars
abbrev pub known_terms : ℕ → List Term → Result (Unit {0}) Refusal
known_terms vars terms = known_literals vars (literals_in terms)

-- Ok where each row holds at the point, else the refusal that names the first that doesn't, counted from 1
abbrev pub holding_rows : Point → List PlainRow → Result (Unit {0}) Refusal
holding_rows p rows = if_hold p 1 rows (Ok tt)

-- a variable's value, if literals name it, and they do so once
abbrev pub IsNamed : List Lit → ℕ → Option Bool → Type 0
IsNamed ls v None = count_by (λ l. l.var == v) ls ≡ 0
IsNamed ls v (Some b) = (count_by (λ l. l.var == v) ls ≡ 1) × (named_point ls v ≡ b)

-- the values that literals give to the variables from 1 to vars
pub record AreNamed (vars : ℕ) (ls : List Lit) (values : List (Option Bool)) : Type 0 where
  pub size : length values ≡ vars
  pub each : (v : ℕ) → IsCovered vars v → IsNamed ls v (slice_index_or values (v - 1) None)

-- the literals name each variable once, and the array is the point that they name
pub record IsNamedPoint (vars : ℕ) (ls : List Lit) (bits : List Bool) : Type 0 where
  pub full : is_full vars ls ≡ true
  pub size : length bits ≡ vars
  pub same : (v : ℕ) → IsCovered vars v → point_of bits v ≡ named_point ls v

-- a value at most the upper bound was logged, where there is a bound
abbrev pub ReachesUpper : Option ℤ → Option ℤ → Type 0
ReachesUpper least None = Unit {0}
ReachesUpper least (Some u) = IsReached least u
