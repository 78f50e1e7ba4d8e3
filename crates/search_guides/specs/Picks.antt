-- Which variable a guide picks.
use Rattle.std.specs.Prelude.{◌≡◌, ◌≤◌, ◌<◌, ◌-◌, ℕ, false, List, Option, Some, None, IfSome, IsFalse, option_map, slice_get, unwrap_or, if◌then◌else◌, ◌==◌}
use Rattle.hrt_base.specs.declared.literal.Lit.{Lit}
use Rattle.hrt_base.specs.declared.literal.Value.TheVariants.{Free}
use Rattle.pb_rows.specs.Points.{IsCovered}
use Rattle.pb_rows.specs.Terms.{opposite_lit}
use Rattle.pb_propagate.specs.Engines.{EngineState}
use Rattle.pb_propagate.specs.Entries.{set_of, value_in}

-- a variable of the engine that is free
pub record IsFree (e : EngineState) (v : ℕ) : Type 0 where
  pub from : 1 ≤ v
  pub to : v ≤ e.vars
  pub free : value_in e.trail v ≡ Free

-- Of the free variables up to `last`, v scores highest, and it is the least that does.
pub record IsHighest (e : EngineState) (score : ℕ → ℕ) (last v : ℕ) : Type 0 where
  pub free : IsFree e v
  pub within : v ≤ last
  pub highest : (w : ℕ) → w ≤ last → IsFree e w → score w ≤ score v
  pub least : (w : ℕ) → w < v → IsFree e w → score w < score v

-- what is found among the variables up to `last`: none only where none of them is free
abbrev pub IsFound : EngineState → (ℕ → ℕ) → ℕ → Option ℕ → Type 0
IsFound e score last None = (w : ℕ) → w ≤ last → IsFree e w → ⊥
IsFound e score last (Some v) = IsHighest e score last v

-- the score of a variable in a table, 0 for one that has none
abbrev pub score_in : List ℕ → ℕ → ℕ
score_in scores v = if v == 0 then 0 else unwrap_or (slice_get scores (v - 1)) 0

-- a variable is picked as true
abbrev pub picked : Option ℕ → Option Lit
picked found = option_map (λ v. record { var = v; neg = false }) found

-- the pick of a guide: the free variable that scores highest, as true, and the least of those; none only where none is free
abbrev pub IsPick : EngineState → (ℕ → ℕ) → Option Lit → Type 0
IsPick e score pick = (found : Option ℕ) × IsFound e score e.vars found × (pick ≡ picked found)

-- a literal that an engine without due rows and literals may decide: it is over the engine's variables, and neither true nor false
pub record IsUndecided (e : EngineState) (l : Lit) : Type 0 where
  pub covered : IsCovered e.vars l.var
  pub untrue : IsFalse (set_of e.trail l)
  pub unfalse : IsFalse (set_of e.trail (opposite_lit l))

-- what a search decides: the pick where its variable is free, and else the least free variable, as true
pub record IsDecision (e : EngineState) (pick result : Option Lit) : Type 0 where
  pub followed : IfSome pick (λ l. IsFree e l.var → result ≡ Some l)
  pub instead : IfSome pick (λ l. IsFree e l.var → ⊥) → IsPick e (λ _. 0) result
