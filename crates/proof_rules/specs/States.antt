-- States of a proof, and the steps between them.
use Rattle.std.specs.Prelude.{◌≡◌, ◌≤◌, ℕ, ◌+◌, ◌^◌, Bool, not, ◌&&◌, ◌==◌, nat_le, if◌then◌else◌, List, [], ◌∷◌, ◌++◌, map, length, count_by, ℤ, pos, ◌-ℤ◌, neg_ℤ, int_lt, Option, Some, None, Result, Ok, Err}
use Rattle.std.specs.List.{list_all, list_any}
use Rattle.hrt_base.specs.declared.literal.Lit.{Lit}
use Rattle.hrt_base.specs.declared.literal.Term.{Term}
use Rattle.hrt_base.specs.declared.numbered.RowNo.{RowNo}
use Rattle.pb_rows.specs.Terms.{PlainRow, Written}
use Rattle.pb_rows.specs.Points.{Point, value_at}
use Rattle.pb_rows.specs.Normal.{all_sizes, normal_form}
use Rattle.pb_rows.specs.Rows.{holds, in_normal_form}
use Rattle.pb_rows.specs.Closure.{Implies}
use Rattle.pb_rows.specs.Formula.{Formula, NumberedRow, is_numbered, numbered_from, rows_of}
pub use Rattle.pb_rows.specs.Formula.{without}
use Rattle.rank_tables.specs.Numbers.{numbers_to}
use Rattle.row_text.specs.Rows.{is_small_row}
use Rattle.proof_lines.specs.declared.line.Line.{Line}
use Rattle.proof_lines.specs.declared.line.Line.TheVariants.{Pol, Rup, Soli, Del}
use Rattle.proof_rules.specs.Refusals.{Refusal, Syntax, TooBig, BadId, BadVariable, NotFull, NotASolution, and_then}
use Rattle.proof_rules.specs.Pol.{pol_row}

-- The live rows, oldest first, the number of the next row, and the least value logged, if any is.
pub record State : Type 0 where
  pub live : List NumberedRow
  pub next : ℕ
  pub least : Option ℤ

-- the live rows without their numbers, oldest first
abbrev pub live_rows : State → List PlainRow
live_rows s = rows_of s.live

-- the numbers rise, from low on and below high
abbrev pub AreNumbered : ℕ → ℕ → List NumberedRow → Type 0
AreNumbered low high [] = low ≤ high
AreNumbered low high (entry ∷ entries) = (low ≤ entry.number) × AreNumbered (entry.number + 1) high entries

-- the live rows' numbers rise, from 1 on, and are below the next number
abbrev pub IsInOrder : State → Type 0
IsInOrder s = AreNumbered 1 s.next s.live

-- the state in which the steps begin: the formula's rows are live, and nothing is logged
abbrev pub first_state : Formula → State
first_state f = record { live = numbered_from 1 f.rows; next = length f.rows + 1; least = None }

-- the state once the row is live too, under the next number
abbrev pub with_row : State → PlainRow → State
with_row s row = record s { live = s.live ++ record { number = s.next; row = row } ∷ []; next = s.next + 1 }

-- the result, unless a literal's variable is above vars: then the first such variable is named
abbrev pub if_known : {A : Type 0} → ℕ → List Lit → Result A Refusal → Result A Refusal
if_known vars [] result = result
if_known vars (l ∷ ls) result = if nat_le l.var vars then if_known vars ls result else Err (BadVariable l.var)

-- ---- rup

-- the literals of terms, in their order
abbrev pub literals_in : List Term → List Lit
literals_in terms = map (λ t. t.lit) terms

-- the row that a `rup` line would make live
abbrev pub rup_row : ℕ → Written → Result PlainRow Refusal
rup_row vars w =
    if is_small_row w
    then if_known vars (literals_in w.terms) (if nat_le (all_sizes w.terms w.at_least) (2 ^ 120) then Ok (in_normal_form w) else Err TooBig)
    else Err TooBig

-- ---- soli

-- the point at which exactly the variables of literals without `~` are true
abbrev pub named_point : List Lit → Point
named_point ls v = list_any (λ l. l.var == v && not l.neg) ls

-- each variable is named once
abbrev pub is_full : ℕ → List Lit → Bool
is_full vars ls = list_all (λ v. count_by (λ l. l.var == v) ls == 1) (numbers_to vars)

-- the terms of minus their sum: each coefficient with the opposite sign
abbrev pub minus_terms : List Term → List Term
minus_terms terms = map (λ t. record { coef = neg_ℤ t.coef; lit = t.lit }) terms

-- objective <= most
abbrev pub at_most_row : List Term → ℤ → PlainRow
at_most_row objective most = normal_form (minus_terms objective) (neg_ℤ most)

-- the smaller of a value and the least one logged before, if any was
abbrev pub smaller : Option ℤ → ℤ → ℤ
smaller None v = v
smaller (Some w) v = if int_lt v w then v else w

-- a value is logged: from here on the objective is to be smaller
abbrev pub logged : Formula → State → ℤ → State
logged f s v = record (with_row s (at_most_row f.objective (v -ℤ pos 1))) { least = Some (smaller s.least v) }

-- the result, unless a row doesn't hold at the point: then the first such row is named. The rows are numbered from n.
abbrev pub if_hold : {A : Type 0} → Point → ℕ → List PlainRow → Result A Refusal → Result A Refusal
if_hold p n [] result = result
if_hold p n (row ∷ rows) result = if holds p row then if_hold p (n + 1) rows result else Err (NotASolution n)

-- the state after a `soli` line of these literals, or why it is refused; all rows of the formula are looked at, the deleted
-- ones too
abbrev pub after_soli : Formula → State → List Lit → Result State Refusal
after_soli f s ls =
    if_known f.vars ls
    (if is_full f.vars ls
    then if_hold (named_point ls) 1 f.rows (Ok (logged f s (value_at (named_point ls) f.objective)))
    else Err NotFull)

-- ---- del

-- the live rows without those of these numbers, taken from left to right, or the first number that isn't live
abbrev pub deleted : List RowNo → List NumberedRow → Result (List NumberedRow) Refusal
deleted [] live = Ok live
deleted (n ∷ ns) live = if is_numbered n.0 live then deleted ns (without n.0 live) else Err (BadId n.0)

-- ---- steps

-- what the line makes of the state, or why not. Of a `rup` line it doesn't say whether its row follows.
abbrev pub after : Formula → State → Line → Result State Refusal
after f s (Pol steps) = and_then (pol_row f.vars s.live steps) (λ row. Ok (with_row s row))
after f s (Rup w) = and_then (rup_row f.vars w) (λ row. Ok (with_row s row))
after f s (Soli ls) = after_soli f s ls
after f s (Del ids) = and_then (deleted ids s.live) (λ live. Ok (record s { live = live }))
after f s line = Err Syntax

-- the row of a `rup` line follows from the live rows
abbrev pub Follows : State → Line → Type 0
Follows s (Rup w) = Implies (live_rows s) (in_normal_form w)
Follows s line = Unit {0}

-- the line leads from s to t
pub record Step (f : Formula) (s : State) (line : Line) (t : State) : Type 0 where
  pub leads : after f s line ≡ Ok t
  pub follows : Follows s line
