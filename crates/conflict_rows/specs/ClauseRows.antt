-- Clauses: from a falsified row, one resolution after another, newest literal first.
use Rattle.std.specs.Prelude.{◌==◌, ℕ, Bool, true, false, nat_lt, not, ◌&&◌, ◌||◌, if◌then◌else◌, List, [], ◌∷◌, count_by, Option, Some, None}
use Rattle.hrt_base.specs.declared.literal.Lit.{Lit}
use Rattle.hrt_base.specs.declared.literal.Term.{Term}
use Rattle.pb_rows.specs.Terms.{PlainRow, opposite_lit}
use Rattle.pb_rows.specs.Rows.{add, divide, saturate}
use Rattle.pb_rows.specs.Closure.{Literals}
use Rattle.conflict_rows.specs.Trail.{Placed, at_level, has, on}
use Rattle.conflict_rows.specs.Weakening.{weakened}
use Rattle.conflict_rows.specs.CutRows.{newest_level}

-- ---- rows as clauses

-- the row saturated and divided by its degree
abbrev pub as_clause : PlainRow → PlainRow
as_clause r = divide r.degree (saturate r)

-- whether the literal of a term isn't false
abbrev pub is_nonfalse : Literals → Term → Bool
is_nonfalse set u = not (set (opposite_lit u.lit))

-- whether the literal of a term is over another variable than t, and isn't false
abbrev pub is_other : Literals → Lit → Term → Bool
is_other set t u = not (u.lit.var == t.var) && is_nonfalse set u

-- the clause of a falsified row: without the literals that aren't false
abbrev pub conflict_clause : List Placed → PlainRow → PlainRow
conflict_clause whole r = as_clause (weakened (is_nonfalse (on whole)) r)

-- the clause of the reason of t: without the other literals that aren't false before t
abbrev pub reason_clause : List Placed → Lit → PlainRow → PlainRow
reason_clause before t r = as_clause (weakened (is_other (on before) t) r)

-- ---- the sequence

-- how many literals of the row became false at the level
abbrev pub count_at : List Placed → ℕ → PlainRow → ℕ
count_at whole level r = count_by (λ u. on (at_level level whole) (opposite_lit u.lit)) r.terms

-- whether the list has no term
abbrev pub has_none : List Term → Bool
has_none [] = true
has_none (t ∷ ts) = false

-- whether the level is above 0, and just one literal of the row became false at it
abbrev pub has_one_at : List Placed → ℕ → PlainRow → Bool
has_one_at whole level r = nat_lt 0 level && count_at whole level r == 1

-- whether the clause is the last: just one of its literals became false at its newest level, which is above 0, or it is empty
abbrev pub is_last : List Placed → PlainRow → Bool
is_last whole r = has_none r.terms || has_one_at whole (newest_level whole r) r

-- the clause after the step of a literal with this reason; a decided literal has no step
abbrev pub resolved_by : List Placed → Lit → Option PlainRow → PlainRow → PlainRow
resolved_by before t None row = row
resolved_by before t (Some r) row = saturate (add row (reason_clause before t r))

-- a literal of the trail: there is a step where the clause isn't the last and the literal's opposite stands in it
abbrev pub resolve_at : List Placed → List Placed → Placed → PlainRow → PlainRow
resolve_at whole before e row =
    if is_last whole row then row
    else (if has (opposite_lit e.lit) row.terms then resolved_by before e.lit e.reason row else row)

-- the literals of a trail, newest first
abbrev pub resolve_along : List Placed → List Placed → PlainRow → PlainRow
resolve_along whole [] row = row
resolve_along whole (e ∷ es) row = resolve_along whole es (resolve_at whole es e row)

-- the last clause of the sequence that begins with the row's
abbrev pub last_clause : List Placed → PlainRow → PlainRow
last_clause whole row = resolve_along whole whole (conflict_clause whole row)
