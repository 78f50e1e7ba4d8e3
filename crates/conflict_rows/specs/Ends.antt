-- What the sequences end in.
use Rattle.std.specs.Prelude.{◌≡◌, ◌≤◌, ◌<◌, ◌+◌, ◌^◌, ℕ, true, false, List, Option, Some, None}
use Rattle.std.specs.List.{AllByRecursion}
use Rattle.hrt_base.specs.declared.literal.Lit.{Lit}
use Rattle.hrt_base.specs.declared.literal.Term.{Term}
use Rattle.pb_rows.specs.Terms.{PlainRow, coef_sum, opposite_lit, positive_part}
use Rattle.pb_rows.specs.Rows.{IsShort, IsWellFormedRow}
use Rattle.pb_rows.specs.Closure.{Falsified, Literals}
use Rattle.propagation.specs.Following.{IsOver}
use Rattle.conflict_rows.specs.Trail.{IsTrail, PropagatesLiteral, Placed, is_open, on, top_level, up_to}
use Rattle.conflict_rows.specs.CutRows.{Contradiction, Cutting, Finished, Going, Passed, cut_end, finished_level, most}
use Rattle.conflict_rows.specs.ClauseRows.{last_clause}

-- a row makes some literal true
pub record PropagatesOne (set : Literals) (r : PlainRow) : Type 0 where
  pub lit : Lit
  pub propagates : PropagatesLiteral set r lit

-- it makes a literal true at the level, which is below the trail's, and is open at no lower one
pub record IsAsserting (whole : List Placed) (c : PlainRow) (level : ℕ) : Type 0 where
  pub below : level < top_level whole
  pub propagates : PropagatesOne (on (up_to level whole)) c
  pub lowest : (j : ℕ) → j < level → is_open (on (up_to j whole)) c ≡ false

-- ---- cut rows

-- a last row that is finished at the level
pub record IsLearned (whole : List Placed) (c : PlainRow) (level : ℕ) : Type 0 where
  pub normal : IsWellFormedRow c
  pub short : IsShort c
  pub falsified : Falsified (on whole) c
  pub asserts : IsAsserting whole c level

-- how the cut rows end; they always do
abbrev pub CutsEnd : List Placed → Cutting → Type 0
CutsEnd whole (Going c) = ⊥
CutsEnd whole (Finished c level) = IsLearned whole c level
CutsEnd whole (Contradiction c) = coef_sum c.terms < c.degree
CutsEnd whole (Passed number) = most < number

-- of each trail and each row that is falsified there
abbrev pub CutRowsEnd : Type 0
CutRowsEnd = (whole : List Placed) (c : PlainRow) → IsTrail whole → IsWellFormedRow c → IsShort c → Falsified (on whole) c → CutsEnd whole (cut_end whole c)

-- ---- clauses

-- the variables of a reason, where there is one, are from 1 to n
abbrev pub IsReasonOver : ℕ → Option PlainRow → Type 0
IsReasonOver n None = Unit {0}
IsReasonOver n (Some r) = IsOver n r

-- so are those of all reasons of a trail
abbrev pub AreReasonsOver : ℕ → List Placed → Type 0
AreReasonsOver n = AllByRecursion (λ (e : Placed). IsReasonOver n e.reason)

-- a clause over the variables from 1 to n: coefficients 1, and degree 1
pub record IsClauseOver (n : ℕ) (c : PlainRow) : Type 0 where
  pub normal : IsWellFormedRow c
  pub ones : AllByRecursion (λ (t : Term). positive_part t.coef ≡ 1) c.terms
  pub degree : c.degree ≡ 1
  pub over : IsOver n c
  pub sum : coef_sum c.terms ≤ n

-- a clause that is finished at a level, or has no term
abbrev pub IsFinishedOrEmpty : List Placed → PlainRow → Option ℕ → Type 0
IsFinishedOrEmpty whole c None = coef_sum c.terms < c.degree
IsFinishedOrEmpty whole c (Some level) = IsAsserting whole c level

pub record ClauseEnd (n : ℕ) (whole : List Placed) (c : PlainRow) : Type 0 where
  pub clause : IsClauseOver n c
  pub falsified : Falsified (on whole) c
  pub ends : IsFinishedOrEmpty whole c (finished_level whole c)

abbrev pub ClausesEnd : Type 0
ClausesEnd =
    (n : ℕ) (whole : List Placed) (c : PlainRow) → n < 2 ^ 32 → IsTrail whole → AreReasonsOver n whole → IsWellFormedRow c → IsOver n c → Falsified (on whole) c → ClauseEnd n whole (last_clause whole c)

-- ---- levels at which a row may become open

-- where none of a row's literals becomes false at a level, it is open there only if it is open one lower
abbrev pub OpensAtFalse : Type 0
OpensAtFalse =
    (whole : List Placed) (c : PlainRow) (k : ℕ) → AllByRecursion (λ (t : Term). on (up_to (k + 1) whole) (opposite_lit t.lit) ≡ true → on (up_to k whole) (opposite_lit t.lit) ≡ true) c.terms →
    is_open (on (up_to (k + 1) whole)) c ≡ true → is_open (on (up_to k whole)) c ≡ true
