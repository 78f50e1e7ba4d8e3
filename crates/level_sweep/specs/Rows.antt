-- Rows under sets of literals, one for each level.
use Rattle.std.specs.Prelude.{◌≡◌, ◌<◌, ◌⊎◌, ℕ, not, ◌&&◌, List, [], ◌∷◌, Contains, Option, Some, None}
use Rattle.hrt_base.specs.declared.literal.Term.{Term}
use Rattle.pb_rows.specs.Terms.{PlainRow, opposite_lit, positive_part}
use Rattle.pb_rows.specs.Closure.{Falsified, Keeps, Literals, Propagates}
use Rattle.level_sweep.specs.declared.sweeping.Standing.{Standing}
use Rattle.level_sweep.specs.Levels.{is_false_at, is_free_at}

-- it is told how the literal of a term stands under the sets
pub record StandsFor (at : ℕ → Literals) (t : Term) (s : Standing) : Type 0 where
  pub weight : s.weight ≡ positive_part t.coef
  pub free : (k : ℕ) → (not (at k t.lit) && not (at k (opposite_lit t.lit))) ≡ is_free_at k s.stand
  pub false_from : (k : ℕ) → at k (opposite_lit t.lit) ≡ is_false_at k s.stand

-- the same of each of the terms, in their order
abbrev pub StandFor : (ℕ → Literals) → List Term → List Standing → Type 0
StandFor at [] [] = Unit {0}
StandFor at [] (s ∷ xs) = ⊥
StandFor at (t ∷ ts) [] = ⊥
StandFor at (t ∷ ts) (s ∷ xs) = StandsFor at t s × StandFor at ts xs

-- the row propagates the literal of a term
pub record PropagatesTerm (set : Literals) (r : PlainRow) : Type 0 where
  pub term : Term
  pub has : Contains r.terms term
  pub propagates : Propagates set r term

-- the level is the least one under whose set the row is falsified or propagates a literal, or there is none
abbrev pub IsLowestUnder : (ℕ → Literals) → PlainRow → Option ℕ → Type 0
IsLowestUnder at r None = (k : ℕ) → Keeps (at k) r
IsLowestUnder at r (Some level) = (Falsified (at level) r ⊎ PropagatesTerm (at level) r) × ((k : ℕ) → k < level → Keeps (at k) r)

-- the level, or that there is none, is so of every row with this degree whose terms the standings are told of
abbrev pub IsLowestOfRows : ℕ → List Standing → Option ℕ → Type 0
IsLowestOfRows degree xs level = (at : ℕ → Literals) (r : PlainRow) → degree ≡ r.degree → StandFor at r.terms xs → IsLowestUnder at r level
