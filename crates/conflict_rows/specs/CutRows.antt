-- The cut rows: from a falsified row, one division cut after another, newest literal first.
use Rattle.std.specs.Prelude.{◌%◌, ◌^◌, ◌==◌, ℕ, zero, suc, Bool, nat_lt, not, ◌&&◌, ◌||◌, if◌then◌else◌, List, [], ◌∷◌, Option, Some, None}
use Rattle.std.specs.List.{find}
use Rattle.hrt_base.specs.declared.literal.Lit.{Lit}
use Rattle.hrt_base.specs.declared.literal.Term.{Term}
use Rattle.pb_rows.specs.Terms.{PlainRow, coef_sum, opposite_lit, positive_part}
use Rattle.pb_rows.specs.Rows.{add, divide, times}
use Rattle.pb_rows.specs.Closure.{Literals}
use Rattle.conflict_rows.specs.Trail.{Placed, has, is_open, propagates_some, on, up_to, weight_of}
use Rattle.conflict_rows.specs.Weakening.{weakened}

-- ---- where a row is finished

-- the first of two, if it is there, else the second
abbrev pub or_else : Option ℕ → Option ℕ → Option ℕ
or_else None other = other
or_else (Some k) other = Some k

-- the least number below n that passes
abbrev pub least_below : (ℕ → Bool) → ℕ → Option ℕ
least_below test zero = None
least_below test (suc n) = or_else (least_below test n) (if test n then Some n else None)

-- the level of the newest literal whose opposite stands in the row; 0 where there is none
abbrev pub newest_level : List Placed → PlainRow → ℕ
newest_level [] r = 0
newest_level (e ∷ es) r = if has (opposite_lit e.lit) r.terms then e.level else newest_level es r

-- the least level, below that of the row's newest false literal, at which the row propagates a literal
abbrev pub finished_level : List Placed → PlainRow → Option ℕ
finished_level whole r = least_below (λ k. propagates_some (on (up_to k whole)) r) (newest_level whole r)

-- the least level, up to the given one, at which the row is open
abbrev pub lowest_open : List Placed → ℕ → PlainRow → Option ℕ
lowest_open whole top r = least_below (λ k. is_open (on (up_to k whole)) r) (suc top)

-- ---- one step

-- whether the step of the literal t weakens the term: another literal, not false before t, which is false now or whose
-- coefficient is no multiple of that of t
abbrev pub is_weakened : Literals → Literals → Lit → ℕ → Term → Bool
is_weakened now before t a u =
    (not (u.lit.var == t.var) && not (before (opposite_lit u.lit))) && (now (opposite_lit u.lit) || not (positive_part u.coef % a == 0))

-- the reason of t, weakened and divided, so that t has the coefficient 1
abbrev pub reduced : List Placed → List Placed → Lit → PlainRow → PlainRow
reduced whole before t r =
    let a = weight_of t r.terms in divide a (weakened (is_weakened (on whole) (on before) t a) r)

-- the reduced reason, multiplied by the coefficient of `~t` in the row
abbrev pub product : List Placed → List Placed → Lit → PlainRow → PlainRow → PlainRow
product whole before t r row = times (weight_of (opposite_lit t) row.terms) (reduced whole before t r)

-- the most that coefficients may sum to, and that a degree may be
abbrev pub most : ℕ
most = 2 ^ 60

-- the first of the numbers of a product and of the next row that is above the most, if one is
abbrev pub passed_by : PlainRow → PlainRow → Option ℕ
passed_by multiple next = find (nat_lt most) (coef_sum multiple.terms ∷ multiple.degree ∷ coef_sum next.terms ∷ next.degree ∷ [])

-- ---- the sequence

-- How far the sequence has come: to a row that isn't the last, or to its end.
pub data Cutting : Type 0 where
  Going : (row : PlainRow) → Cutting
  -- the last row, with the level at which it is finished
  Finished : (row : PlainRow) → (level : ℕ) → Cutting
  -- the last row: its coefficients sum to less than its degree
  Contradiction : (row : PlainRow) → Cutting
  -- a number passes the most
  Passed : (number : ℕ) → Cutting

-- a row that is finished at the level, if there is one
abbrev pub finished : PlainRow → Option ℕ → Cutting
finished row None = Going row
finished row (Some level) = Finished row level

-- where the sequence stands with this row
abbrev pub judged : List Placed → PlainRow → Cutting
judged whole row = if nat_lt (coef_sum row.terms) row.degree then Contradiction row else finished row (finished_level whole row)

-- the end where a number passes, else what the next row is
abbrev pub unless_passed : Option ℕ → Cutting → Cutting
unless_passed None next = next
unless_passed (Some number) next = Passed number

-- the row after the step of a literal with this reason; a decided literal has no step
abbrev pub cut_by : List Placed → List Placed → Lit → Option PlainRow → PlainRow → Cutting
cut_by whole before t None row = Going row
cut_by whole before t (Some r) row =
    let multiple = product whole before t r row in
    let next = add row multiple in
    unless_passed (passed_by multiple next) (judged whole next)

-- a literal of the trail: there is a step where its opposite stands in the row
abbrev pub cut_at : List Placed → List Placed → Placed → Cutting → Cutting
cut_at whole before e (Going row) = if has (opposite_lit e.lit) row.terms then cut_by whole before e.lit e.reason row else Going row
cut_at whole before e end = end

-- the literals of a trail, newest first
abbrev pub cut_along : List Placed → List Placed → Cutting → Cutting
cut_along whole [] c = c
cut_along whole (e ∷ es) c = cut_along whole es (cut_at whole es e c)

-- how the sequence ends that begins with the row
abbrev pub cut_end : List Placed → PlainRow → Cutting
cut_end whole row = cut_along whole whole (judged whole row)
