-- How far the clauses of an analysis have come.
use Rattle.std.specs.Prelude.{◌≡◌, ◌≤◌, ◌⊎◌, ◌+◌, ℕ, IsTrue, List, ◌++◌, length}
use Rattle.hrt_base.specs.declared.literal.Lit.{Lit}
use Rattle.pb_rows.specs.Terms.{PlainRow}
use Rattle.conflict_rows.specs.ClauseRows.{last_clause}
use Rattle.conflict_rows.specs.Standing.{HasCome, IsClause}
use Rattle.conflict_rows.specs.Trail.{Placed, PropagatesLiteral, on}
use Rattle.propagation.specs.Following.{IsOver}
use Rattle.row_arena.specs.Held.{is_held, row_at}
use Rattle.pb_propagate.specs.Engines.{EngineState}
use Rattle.engine_trails.specs.History.{history, history_to}
use Rattle.proof_rules.specs.States.{IsInOrder}
use Rattle.derivation.specs.Derived.{Derived}
use Rattle.conflict_cuts.specs.declared.making.Made.{Made}
use Rattle.conflict_cuts.specs.declared.walking.Step.{Step}
use Rattle.conflict_cuts.specs.declared.walking.Step.TheVariants.{Last, More}
use Rattle.conflict_cuts.specs.Laid.{IsNewest, Lays, MakesRow}

-- the clauses of the falsified row have come to this one, before the step of the literal at place k - 1 of the trail
abbrev pub StandsBefore : EngineState → PlainRow → ℕ → PlainRow → Type 0
StandsBefore e conflict k row = HasCome e.vars (history e) (history_to k e) conflict row

-- the row at the place is the reason of the literal at place k of the trail, whose opposite stands in the clause
pub record IsReasonAt (e : EngineState) (k : ℕ) (l : Lit) (place : ℕ) (row : PlainRow) : Type 0 where
  pub held : IsTrue (is_held place e.held)
  pub propagates : PropagatesLiteral (on (history_to k e)) (row_at place e.held) l
  pub count : length (history_to k e) ≡ k
  pub newer : List Placed
  pub is : newer ++ history_to k e ≡ history e
  pub clause : IsClause row
  pub over : IsOver e.vars row

-- nothing was done, or the next row was made from the last one
abbrev pub GoesOn : Derived → Derived → Made → Made → Type 0
GoesOn old new made next = ((new ≡ old) × (next ≡ made)) ⊎ ((first : ℕ) → first ≤ made.id.0 → MakesRow first old new next.id next.row)

-- the step of the literal at place k: the clause is the last one, or there is a next one
abbrev pub StepsTo : EngineState → PlainRow → ℕ → Derived → Derived → Made → Step → Type 0
StepsTo e conflict k old new made (Last last) = (new ≡ old) × (last ≡ made) × (last.row ≡ last_clause (history e) conflict)
StepsTo e conflict k old new made (More next) = GoesOn old new made next × StandsBefore e conflict k next.row

-- the clauses of the falsified row have come to this one, which was made last, before the step at place k - 1
pub record HasWalked (e : EngineState) (conflict : PlainRow) (k : ℕ) (old new : Derived) (made : Made) : Type 0 where
  pub come : StandsBefore e conflict k made.row
  pub lays : Lays old new
  pub newest : IsNewest old new made.id made.row
  pub few : new.state.next + k ≤ old.state.next + (e.vars + 1)

-- the last clause of the falsified row was made last
pub record MakesLast (e : EngineState) (conflict : PlainRow) (old new : Derived) (made : Made) : Type 0 where
  pub last : made.row ≡ last_clause (history e) conflict
  pub newest : IsNewest old new made.id made.row
  pub numbered : IsInOrder new.state
