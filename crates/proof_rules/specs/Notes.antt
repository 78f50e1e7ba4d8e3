-- When a note is true: honest loads, and fresh and later learned rows.
use Rattle.std.specs.Prelude.{◌≡◌, ℕ, ◌+◌, ◌<◌, Bool, true, false, ◌&&◌, ◌||◌, ◌==◌, nat_lt, IsTrue, IsFalse, List, [], ◌∷◌, ◌++◌, length, count_by, Contains, All, Some}
use Rattle.hrt_base.specs.declared.literal.Lit.{Lit}
use Rattle.hrt_base.specs.declared.literal.Term.{Term}
use Rattle.hrt_base.specs.declared.numbered.RowNo.{RowNo}
use Rattle.pb_rows.specs.Terms.{PlainRow, opposite_lit}
use Rattle.pb_rows.specs.Points.{IsCovered, Point}
use Rattle.pb_rows.specs.Rows.{AllHold, holds, in_normal_form}
use Rattle.pb_rows.specs.Closure.{IsClosure, Literals, Propagates, among, is_same_lit}
use Rattle.pb_rows.specs.Formula.{NumberedRow, is_numbered, row_of}
use Rattle.rank_tables.specs.Numbers.{is_in, numbers_to}
use Rattle.rank_tables.specs.Instance.{Lists, pair_count}
use Rattle.rank_tables.specs.Tables.{IsPairNo}
use Rattle.stability_model.specs.Model.{pair_row, pair_row_no, point_of_pairs}
use Rattle.proof_lines.specs.declared.note.Note.{Note}
use Rattle.proof_lines.specs.declared.note.Note.TheVariants.{Unit as UnitRow, Bound as BoundRow, Load, Learn, Drop}
use Rattle.proof_rules.specs.Held.{Held, held_rows}

-- ---- loads

-- the number is that of a pair's row, which doesn't hold at the point
abbrev pub IsBroken : Lists → Point → RowNo → Type 0
IsBroken lists point id = (p : ℕ) × IsPairNo lists p × (id.0 ≡ pair_row_no lists p) × IsFalse (holds point (in_normal_form (pair_row lists p)))

-- at the point of the pairs all held rows hold, and each row that is named, one or more, is that of a pair and doesn't hold
pub record HonestLoad (lists : Lists) (held : List PlainRow) (trues : List ℕ) (ids : List RowNo) : Type 0 where
  pub some : 0 < length ids
  pub held_hold : AllHold (point_of_pairs trues) held
  pub broken : All (IsBroken lists (point_of_pairs trues)) ids

-- ---- learned rows

-- neither the literal nor its opposite is in the set
pub record IsOpen (set : Literals) (l : Lit) : Type 0 where
  pub not_true : IsFalse (set l)
  pub not_false : IsFalse (set (opposite_lit l))

-- each decision is open in the closure of the rows under the decisions before it; some stand before all
abbrev pub AreDecisions : List PlainRow → List Lit → List Lit → Type 0
AreDecisions rows earlier [] = Unit {0}
AreDecisions rows earlier (d ∷ later) = ((set : Literals) × IsClosure rows (among earlier) set × IsOpen set d) × AreDecisions rows (earlier ++ d ∷ []) later

-- a term of the row has the literal, which the row propagates
abbrev pub Asserts : Literals → PlainRow → Lit → Type 0
Asserts set row l = (t : Term) × Contains row.terms t × (t.lit ≡ l) × Propagates set row t

-- The decisions and the literal are over the variables 1 to vars. Each decision is open in the closure under those before it. Under
-- all of them the held rows aren't refuted and leave the literal open, and the new row propagates it.
pub record Fresh (vars : ℕ) (held : List PlainRow) (row : PlainRow) (decisions : List Lit) (l : Lit) : Type 0 where
  pub decisions_known : All (λ d. IsCovered vars d.var) decisions
  pub known : IsCovered vars l.var
  pub decided : AreDecisions held [] decisions
  pub set : Literals
  pub closure : IsClosure held (among decisions) set
  pub leaves_open : IsOpen set l
  pub asserts : Asserts set row l

-- ---- later ones

-- the set with one literal put into it
abbrev pub with_lit : Lit → Literals → Literals
with_lit l set k = is_same_lit k l || set k

-- how many literals over the variables up to vars are in the set
abbrev pub set_size : ℕ → Literals → ℕ
set_size vars set = count_by (λ v. set (record { var = v; neg = false })) (numbers_to vars) + count_by (λ v. set (record { var = v; neg = true })) (numbers_to vars)

-- The sizes of the closures under more and more of the decisions; the literal is put into the last.
abbrev pub HaveSizes : ℕ → List PlainRow → List Lit → List Lit → Lit → List ℕ → Type 0
HaveSizes vars rows earlier [] l sizes = (set : Literals) × IsClosure rows (among earlier) set × (sizes ≡ set_size vars (with_lit l set) ∷ [])
HaveSizes vars rows earlier (d ∷ later) l sizes =
    (set : Literals) × (rest : List ℕ) × IsClosure rows (among earlier) set × (sizes ≡ set_size vars set ∷ rest) × HaveSizes vars rows (earlier ++ d ∷ []) later l rest

-- dictionary order: a list is greater than each of its proper prefixes
abbrev pub is_greater : List ℕ → List ℕ → Bool
is_greater [] bs = false
is_greater (a ∷ more) [] = true
is_greater (a ∷ more) (b ∷ bs) = nat_lt b a || (a == b && is_greater more bs)

-- what a learn note says, beside its row: the rows held just before it, the decisions, and the literal
pub record LearnedRow : Type 0 where
  pub held : List PlainRow
  pub decisions : List Lit
  pub asserts : Lit

-- the first one's sizes are the greater list
pub record Later (vars : ℕ) (b a : LearnedRow) : Type 0 where
  pub sizes : List ℕ
  pub sizes_before : List ℕ
  pub are : HaveSizes vars b.held [] b.decisions b.asserts sizes
  pub were : HaveSizes vars a.held [] a.decisions a.asserts sizes_before
  pub greater : IsTrue (is_greater sizes sizes_before)

-- ---- notes

-- the row with the number is live, and it is fresh over the held rows with these decisions and this literal
abbrev pub LearnsFresh : ℕ → List NumberedRow → Held → RowNo → List Lit → Lit → Type 0
LearnsFresh vars live held id decisions l = (row : PlainRow) × (row_of id.0 live ≡ Some row) × Fresh vars (held_rows live held) row decisions l

-- what a note says is so, where these rows are live and held
abbrev pub IsTrueNote : Lists → List NumberedRow → Held → Note → Type 0
IsTrueNote lists live held (UnitRow id) = IsTrue (is_numbered id.0 live)
IsTrueNote lists live held (BoundRow id) = IsTrue (is_numbered id.0 live)
IsTrueNote lists live held (Load trues ids) = HonestLoad lists (held_rows live held) trues ids
IsTrueNote lists live held (Learn id decisions l) = LearnsFresh (pair_count lists) live held id decisions l
IsTrueNote lists live held (Drop id) = IsTrue (is_in id.0 held.learned)
