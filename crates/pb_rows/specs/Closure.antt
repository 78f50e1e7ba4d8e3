-- Propagation by sets of literals. A set is a test.
use Rattle.std.specs.Prelude.{◌+◌, ◌-◌, ◌<◌, ◌≤◌, ℕ, ℤ, pos, ◌-ℤ◌, Bool, false, not, ◌&&◌, ◌==◌, if◌then◌else◌, IsTrue, IsFalse, List, [], ◌∷◌, All, slice_index_or}
use Rattle.std.specs.List.{list_any}
use Rattle.hrt_base.specs.declared.literal.Lit.{Lit}
use Rattle.hrt_base.specs.declared.literal.Term.{Term}
use Rattle.hrt_base.specs.declared.literal.Value.{Value}
use Rattle.hrt_base.specs.declared.literal.Value.TheVariants.{False, Free, True}
use Rattle.pb_rows.specs.Terms.{PlainRow, opposite_lit, positive_part}
use Rattle.pb_rows.specs.Rows.{opposite_row}

-- a set of literals: whether each literal is in it
abbrev pub Literals : Type 0
Literals = Lit → Bool

-- no literal
abbrev pub none : Literals
none l = false

-- two literals have one variable and one sign
abbrev pub is_same_lit : Lit → Lit → Bool
is_same_lit a b = (a.var == b.var) && (if a.neg then b.neg else not b.neg)

-- the literals of a list
abbrev pub among : List Lit → Literals
among literals l = list_any (is_same_lit l) literals

-- whether a variable's value makes true its literal with this sign
abbrev pub makes_true : Value → Bool → Bool
makes_true Free neg = false
makes_true True neg = not neg
makes_true False neg = neg

-- what an array makes true: variable v stands at place v - 1
abbrev pub literals_of : List Value → Literals
literals_of values l = makes_true (slice_index_or values (l.var - 1) Free) l.neg

-- ---- slack

-- the coefficient, where it isn't negative, of a term whose literal isn't false, else 0; a literal is false where its opposite
-- is in the set
abbrev pub nonfalse_share : Literals → Term → ℕ
nonfalse_share set t = if set (opposite_lit t.lit) then 0 else positive_part t.coef

-- the sum of the coefficients of the literals that aren't false
abbrev pub nonfalse_sum : Literals → List Term → ℕ
nonfalse_sum set [] = 0
nonfalse_sum set (t ∷ ts) = nonfalse_share set t + nonfalse_sum set ts

-- the sum of the coefficients of the literals that aren't false, minus the degree
abbrev pub slack : Literals → PlainRow → ℤ
slack set r = pos (nonfalse_sum set r.terms) -ℤ pos r.degree

-- the slack is below 0: the row can't hold any more
abbrev pub Falsified : Literals → PlainRow → Type 0
Falsified set r = nonfalse_sum set r.terms < r.degree

-- the term's literal is neither true nor false, and its coefficient exceeds the slack
pub record Propagates (set : Literals) (r : PlainRow) (t : Term) : Type 0 where
  pub free : IsTrue (not (set t.lit) && not (set (opposite_lit t.lit)))
  pub exceeds : nonfalse_sum set r.terms < r.degree + positive_part t.coef

-- ---- quiet sets

-- the term's literal is in the set, unless it is false or its coefficient is at most the slack
abbrev pub IsSettled : Literals → PlainRow → Term → Type 0
IsSettled set r t = IsFalse (set (opposite_lit t.lit)) → nonfalse_sum set r.terms < r.degree + positive_part t.coef → IsTrue (set t.lit)

-- the row isn't falsified under the set, which holds every literal that the row propagates
pub record Keeps (set : Literals) (r : PlainRow) : Type 0 where
  pub unfalsified : r.degree ≤ nonfalse_sum set r.terms
  pub settled : All (IsSettled set r) r.terms

-- the set holds the given literals, never both signs of a variable, and all that a row propagates under it, and it falsifies
-- no row
pub record IsQuiet (rows : List PlainRow) (given set : Literals) : Type 0 where
  pub has_given : (l : Lit) → IsTrue (given l) → IsTrue (set l)
  pub consistent : (l : Lit) → IsTrue (set l) → IsFalse (set (opposite_lit l))
  pub kept : All (Keeps set) rows

-- there is no quiet set
abbrev pub Refuted : List PlainRow → Literals → Type 0
Refuted rows given = (set : Literals) → IsQuiet rows given set → ⊥

-- the set is the least quiet one
pub record IsClosure (rows : List PlainRow) (given set : Literals) : Type 0 where
  pub quiet : IsQuiet rows given set
  pub least : (other : Literals) → IsQuiet rows given other → (l : Lit) → IsTrue (set l) → IsTrue (other l)

-- the rows together with the row's opposite are refuted, with nothing given
abbrev pub Implies : List PlainRow → PlainRow → Type 0
Implies rows r = Refuted (opposite_row r ∷ rows) none
