-- The trail, by its entries, oldest first. A decision opens a level; an entry with a reason stands at the level of the entry before
-- it, at level 0 where no decision is before it.
use Rattle.std.specs.Prelude.{◌+◌, ◌-◌, ◌<◌, ◌==◌, ℕ, Bool, true, false, if◌then◌else◌, IsTrue, IsFalse, List, [], ◌∷◌, Option, Some, None, map, is_none}
use Rattle.std.specs.List.{list_any}
use Rattle.hrt_base.specs.declared.literal.Lit.{Lit}
use Rattle.hrt_base.specs.declared.literal.Value.{Value}
use Rattle.hrt_base.specs.declared.literal.Value.TheVariants.{False, Free, True}
use Rattle.pb_rows.specs.Terms.{opposite_lit}
use Rattle.pb_rows.specs.Closure.{Literals, among}

-- a literal that became true, and the place of the row that propagated it, none where it was decided
pub record Entry : Type 0 where
  pub lit : Lit
  pub reason : Option ℕ

-- whether the literal was decided
abbrev pub is_decision : Entry → Bool
is_decision e = is_none e.reason

-- the literals, oldest first
abbrev pub lits_of : List Entry → List Lit
lits_of entries = map (λ e. e.lit) entries

-- the literals as a set
abbrev pub set_of : List Entry → Literals
set_of entries = among (lits_of entries)

-- the decided literals, oldest first
abbrev pub decisions_of : List Entry → List Lit
decisions_of [] = []
decisions_of (e ∷ entries) = if is_decision e then e.lit ∷ decisions_of entries else decisions_of entries

-- the level at the end: how many decisions there are
abbrev pub level_of : List Entry → ℕ
level_of [] = 0
level_of (e ∷ entries) = (if is_decision e then 1 else 0) + level_of entries

-- the entries up to a level: those before the decision that opens the next one
abbrev pub up_to : ℕ → List Entry → List Entry
up_to k [] = []
up_to k (e ∷ entries) =
    if is_decision e then (if k == 0 then [] else e ∷ up_to (k - 1) entries)
    else e ∷ up_to k entries

-- ---- what a variable has on the trail

-- the value of a variable
abbrev pub value_in : List Entry → ℕ → Value
value_in entries v =
    if set_of entries (record { var = v; neg = false }) then True
    else (if set_of entries (record { var = v; neg = true }) then False else Free)

-- the reason of a variable's literal, none where it was decided or the variable is free
abbrev pub reason_in : List Entry → ℕ → Option ℕ
reason_in [] v = None
reason_in (e ∷ entries) v = if v == e.lit.var then e.reason else reason_in entries v

-- whether a reason is the row at a place
abbrev pub is_row : ℕ → Option ℕ → Bool
is_row place None = false
is_row place (Some p) = place == p

-- whether the row at a place is the reason of an entry
abbrev pub is_reason_in : List Entry → ℕ → Bool
is_reason_in entries place = list_any (λ e. is_row place e.reason) entries

-- the level at which a variable's literal stands, none where the variable is free; the first entry stands behind `below` decisions
abbrev pub level_from : ℕ → List Entry → ℕ → Option ℕ
level_from below [] v = None
level_from below (e ∷ entries) v =
    let here = (if is_decision e then 1 else 0) + below in
    if v == e.lit.var then Some here else level_from here entries v

-- the level at which a variable's literal stands, none where the variable is free
abbrev pub level_in : List Entry → ℕ → Option ℕ
level_in entries v = level_from 0 entries v

-- ---- due literals

-- the literal is false, and was false at no lower level
pub record IsNewlyFalse (entries : List Entry) (l : Lit) : Type 0 where
  pub now : IsTrue (set_of entries (opposite_lit l))
  pub below : (k : ℕ) → k < level_of entries → IsFalse (set_of (up_to k entries) (opposite_lit l))

-- the opposites of the literals: those that became false
abbrev pub opposites : List Entry → List Lit
opposites entries = map (λ e. opposite_lit e.lit) entries
