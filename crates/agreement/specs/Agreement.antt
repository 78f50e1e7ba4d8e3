-- An engine and a derivation that agree.
use Rattle.std.specs.Prelude.{◌≡◌, ℕ, IsTrue, List, map, Some}
use Rattle.std.specs.List.{All, Contains}
use Rattle.pb_rows.specs.Terms.{PlainRow}
use Rattle.pb_rows.specs.Rows.{IsWellFormedRow}
use Rattle.pb_rows.specs.Formula.{row_of}
use Rattle.rank_tables.specs.Instance.{pair_count}
use Rattle.rank_tables.specs.Numbers.{is_distinct, is_in}
use Rattle.proof_rules.specs.States.{IsInOrder}
use Rattle.proof_rules.specs.Held.{held_rows, is_held}
use Rattle.row_arena.specs.Held.{Held, held_rows as rows_of_engine}
use Rattle.pb_propagate.specs.Engines.{EngineState}
use Rattle.derivation.specs.Derived.{Derived}

-- the numbers that rows go by
abbrev pub tags : List Held → List ℕ
tags held = map (λ h. h.tag) held

-- the row is the live one of its number, in normal form
pub record IsLiveIn (d : Derived) (h : Held) : Type 0 where
  pub live : row_of h.tag d.state.live ≡ Some h.row
  pub formed : IsWellFormedRow h.row

-- and its number is held
pub record IsHeldIn (d : Derived) (h : Held) : Type 0 where
  pub held : IsTrue (is_held d.held h.tag)
  pub row : IsLiveIn d h

-- The engine's rows are, by their numbers, exactly the rows that the derivation holds: each is held, live and equal, and each held
-- number is that of exactly one of them. The engine's variables are the pairs.
pub record Agree (e : EngineState) (d : Derived) : Type 0 where
  pub vars : e.vars ≡ pair_count d.lists
  pub rows : All (IsHeldIn d) e.held
  pub once : IsTrue (is_distinct (tags e.held))
  pub all : (n : ℕ) → IsTrue (is_held d.held n) → IsTrue (is_in n (tags e.held))

-- the same rows stand in both lists
pub record AreSameRows (rs qs : List PlainRow) : Type 0 where
  pub there : All (Contains qs) rs
  pub back : All (Contains rs) qs

-- an engine that agrees holds the rows that a note of the derivation speaks of
abbrev pub AgreeingHoldSame : Type 0
AgreeingHoldSame = (e : EngineState) (d : Derived) → Agree e d → IsInOrder d.state → AreSameRows (rows_of_engine e.held) (held_rows d.state.live d.held)
