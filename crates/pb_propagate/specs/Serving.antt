-- What serving a row does to a trail.
use Rattle.std.specs.Prelude.{◌≡◌, ◌≤◌, ◌<◌, ◌⊎◌, ℕ, Bool, true, false, IsFalse, List, [], ◌∷◌, ◌++◌, Option, Some, None, nat_le, length}
use Rattle.std.specs.List.{All}
use Rattle.hrt_base.specs.declared.literal.Lit.{Lit}
use Rattle.hrt_base.specs.declared.literal.Term.{Term}
use Rattle.pb_rows.specs.Terms.{PlainRow, opposite_lit}
use Rattle.pb_rows.specs.Closure.{Falsified, Keeps, Literals}
use Rattle.propagation.specs.Following.{IsOpenTerm, IsSettledAt}
use Rattle.row_arena.specs.Held.{Held, row_at}
use Rattle.pb_propagate.specs.Entries.{Entry, level_of, lits_of, opposites, set_of, up_to}
use Rattle.pb_propagate.specs.Open.{AreJustified, IsOpen}
use Rattle.pb_propagate.specs.Tables.{TrailState}
use Rattle.pb_propagate.specs.Visits.{IsDueTo}

-- what the row propagates came to the end of the trail, with the row as its reason, and the row isn't open
pub record ServesAt (held : List Held) (place : ℕ) (old new : TrailState) : Type 0 where
  pub added : List Entry
  pub vars : new.vars ≡ old.vars
  pub entries : new.entries ≡ old.entries ++ added
  pub due : new.due ≡ old.due ++ opposites added
  pub reasons : All (IsDueTo place) added
  pub few : length new.entries ≤ new.vars
  pub fresh : All (λ entry. IsFalse (set_of old.entries entry.lit)) added
  pub justified : AreJustified held (lits_of old.entries) added
  pub unfalsified : Falsified (set_of old.entries) (row_at place held) → ⊥
  pub kept : Keeps (set_of new.entries) (row_at place held)

-- the row is falsified, and nothing changes
pub record FailsAt (held : List Held) (place : ℕ) (old new : TrailState) : Type 0 where
  pub falsified : Falsified (set_of old.entries) (row_at place held)
  pub same : new ≡ old

-- what serving does, by whether the row is falsified
abbrev pub Serves : List Held → ℕ → TrailState → TrailState → Bool → Type 0
Serves held place old new true = FailsAt held place old new
Serves held place old new false = ServesAt held place old new

-- ---- levels

-- the literal is true from a level on, or never
abbrev pub IsTrueFrom : List Entry → Lit → Option ℕ → Type 0
IsTrueFrom entries l None = (k : ℕ) → IsFalse (set_of (up_to k entries) l)
IsTrueFrom entries l (Some level) = (level ≤ level_of entries) × ((k : ℕ) → set_of (up_to k entries) l ≡ nat_le level k)

-- whether the row is open under the set
abbrev pub OpenIs : Literals → PlainRow → Bool → Type 0
OpenIs set r true = IsOpen set r
OpenIs set r false = Keeps set r

-- no literal of the terms becomes false from a level to another
abbrev pub AreUntouchedBetween : List Entry → List Term → ℕ → ℕ → Type 0
AreUntouchedBetween entries ts from to = All (λ t. IsFalse (set_of (up_to from entries) (opposite_lit t.lit)) → IsFalse (set_of (up_to to entries) (opposite_lit t.lit))) ts

-- the next level at which a literal of the terms becomes false, or there is none
abbrev pub IsNextAmong : List Entry → List Term → ℕ → Option ℕ → Type 0
IsNextAmong entries ts from None = (k : ℕ) → from ≤ k → AreUntouchedBetween entries ts from k
IsNextAmong entries ts from (Some next) = (from < next) × (next ≤ level_of entries) × ((k : ℕ) → from ≤ k → k < next → AreUntouchedBetween entries ts from k)

-- of two levels the lower one that is above a level
abbrev pub IsNearer : ℕ → Option ℕ → Option ℕ → Option ℕ → Type 0
IsNearer level next None result = result ≡ next
IsNearer level None (Some n) None = n ≤ level
IsNearer level (Some m) (Some n) None = ⊥
IsNearer level None (Some n) (Some r) = (level < n) × (r ≡ n)
IsNearer level (Some m) (Some n) (Some r) = ((n ≤ level) × (r ≡ m)) ⊎ ((level < n) × (r ≤ m) × (r ≤ n) × ((r ≡ m) ⊎ (r ≡ n)))

-- the least level from one on at which the row is open, or none
abbrev pub IsLowestFrom : List Entry → PlainRow → ℕ → Option ℕ → Type 0
IsLowestFrom entries r from None = (k : ℕ) → from ≤ k → Keeps (set_of (up_to k entries)) r
IsLowestFrom entries r from (Some level) = (level ≤ level_of entries) × IsOpen (set_of (up_to level entries)) r × ((k : ℕ) → from ≤ k → k < level → Keeps (set_of (up_to k entries)) r)

-- ---- one term

-- the term's literal was free and exceeds what the sum leaves, and it came onto the trail with the row as its reason
pub record PropagatesTerm (sum degree place : ℕ) (t : Term) (old new : TrailState) : Type 0 where
  pub is_open : IsOpenTerm (set_of old.entries) sum degree t
  pub is : new ≡ record old { entries = old.entries ++ record { lit = t.lit; reason = Some place } ∷ []; due = old.due ++ opposite_lit t.lit ∷ [] }
  pub few : length new.entries ≤ new.vars

-- the term's literal is true, unless it is false or its coefficient is at most what the sum leaves, and nothing changes
pub record LeavesTerm (sum degree : ℕ) (t : Term) (old new : TrailState) : Type 0 where
  pub settled : IsSettledAt (set_of old.entries) sum degree t
  pub same : new ≡ old

-- a term's literal is made true where the row propagates it
abbrev pub TakesTerm : ℕ → ℕ → ℕ → Term → TrailState → TrailState → Type 0
TakesTerm sum degree place t old new = PropagatesTerm sum degree place t old new ⊎ LeavesTerm sum degree t old new

-- what a look at a row does: nothing where it doesn't watch the literal, else it is served
abbrev pub Looks : List Held → ℕ → Bool → TrailState → TrailState → Bool → Type 0
Looks held place false old new falsified = (falsified ≡ false) × (new ≡ old)
Looks held place true old new falsified = Serves held place old new falsified
