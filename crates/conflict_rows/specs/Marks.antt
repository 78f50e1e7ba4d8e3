-- What the code keeps of a trail: by variable the place of its literal, the sign and the level.
use Rattle.std.specs.Prelude.{◌-◌, ◌==◌, ℕ, Bool, false, not, nat_le, nat_lt, ◌&&◌, if◌then◌else◌, List, count_by, slice_index_or}
use Rattle.pb_rows.specs.Terms.{PlainRow, opposite_lit}
use Rattle.pb_rows.specs.Closure.{Literals}
use Rattle.conflict_rows.specs.declared.marks.Mark.{Mark}

-- a free variable
abbrev pub no_mark : Mark
no_mark = record { place = 0; neg = false; level = 0 }

-- the mark of a variable: variable v stands at place v - 1, and there is no variable 0
abbrev pub mark_of : List Mark → ℕ → Mark
mark_of marks v = if v == 0 then no_mark else slice_index_or marks (v - 1) no_mark

-- whether the mark is that of the literal with this sign, which is true
abbrev pub marks_true : Mark → Bool → Bool
marks_true m neg = nat_lt 0 m.place && (if m.neg then neg else not neg)

-- the literals that are true
abbrev pub set_now : List Mark → Literals
set_now marks l = marks_true (mark_of marks l.var) l.neg

-- the literals at the first k places of the trail
abbrev pub set_before : List Mark → ℕ → Literals
set_before marks k l = marks_true (mark_of marks l.var) l.neg && nat_le (mark_of marks l.var).place k

-- the literals up to a level
abbrev pub set_up_to : List Mark → ℕ → Literals
set_up_to marks k l = marks_true (mark_of marks l.var) l.neg && nat_le (mark_of marks l.var).level k

-- the literals of a level
abbrev pub set_of_level : List Mark → ℕ → Literals
set_of_level marks k l = marks_true (mark_of marks l.var) l.neg && (mark_of marks l.var).level == k

-- whether the level is above 0, and just one literal of the row became false at it
abbrev pub is_one_at : List Mark → ℕ → PlainRow → Bool
is_one_at marks level r = nat_lt 0 level && count_by (λ u. set_of_level marks level (opposite_lit u.lit)) r.terms == 1
