use Rattle.std.proofs.Common.{◌≡◌, ◌∙◌, ◌+◌, ◌++◌, ◌∷◌, [], ℕ, if◌then◌else◌, is_none, ap, arith, false, length, subst, sym}
use Rattle.hrt_base.specs.declared.literal.Lit.{Lit}
use Rattle.hrt_base.specs.declared.literal.Value.{Value}
use Rattle.pb_rows.specs.Terms.{opposite_lit}
use Rattle.pb_rows.specs.Points.{IsCovered}
use Rattle.pb_rows.specs.Closure.{among}
use Rattle.pb_propagate.specs.declared.trail.Mark.{Mark}
use Rattle.pb_propagate.specs.Entries.{level_of}
use Rattle.std.proofs.Math.ListN.{set}
use Rattle.std.proofs.Common.{◌-◌}
use Rattle.pb_propagate.specs.Rooms.{AreTables}
use Rattle.pb_propagate.specs.Tables.{TrailState, entries_of, number_of}
use Rattle.pb_propagate.proofs.Tabled.{among-shown, at-most-one, one-more, room-left, starts-are, starts-few, tables-push, trail-facts, trail_of, view-pushed}
use Rattle.pb_propagate.proofs.trail.Trail.put.Goals as goal

pub open_level-requires : goal.open_level-requires
open_level-requires c =
    let covered = subst (λ (t : TrailState). IsCovered t.vars c.args.lit.var) (sym c.self.view_is) c.requires.covered in
    let untrue = among-shown _ _ _ _ _ c.self.view_is c.args.lit c.requires.untrue in
    let unfalse = among-shown _ _ _ _ _ c.self.view_is (opposite_lit c.args.lit) c.requires.unfalse in
    let m : Mark = record { level = 0; reason = c.args.reason } in
    let left = room-left _ _ _ _ _ c.self.invariant c.args.lit m covered untrue unfalse in
    omega (arith, left, starts-few _ _ _ _ _ c.self.invariant, c.self.inside.starts.ok.0, c.self.invariant.room_for_starts)

pub overflow_cast-level : goal.overflow_cast-level
overflow_cast-level c =
    let covered = subst (λ (t : TrailState). IsCovered t.vars c.args.lit.var) (sym c.self.view_is) c.requires.covered in
    let untrue = among-shown _ _ _ _ _ c.self.view_is c.args.lit c.requires.untrue in
    let unfalse = among-shown _ _ _ _ _ c.self.view_is (opposite_lit c.args.lit) c.requires.unfalse in
    let m : Mark = record { level = 0; reason = c.args.reason } in
    let left = room-left _ _ _ _ _ c.self.invariant c.args.lit m covered untrue unfalse in
    let more = ap length c.open_level.ensures.items ∙ one-more (is_none (number_of c.args.reason)) c.self.inside.starts.items c.len.result in
    omega (arith, left, more, at-most-one (is_none (number_of c.args.reason)), starts-few _ _ _ _ _ c.self.invariant, c.len-level.ensures, c.open_level.new.starts.ok.0, c.self.invariant.few_vars)

pub push_reserved-requires : goal.push_reserved-requires
push_reserved-requires c =
    let covered = subst (λ (t : TrailState). IsCovered t.vars c.args.lit.var) (sym c.self.view_is) c.requires.covered in
    let untrue = among-shown _ _ _ _ _ c.self.view_is c.args.lit c.requires.untrue in
    let unfalse = among-shown _ _ _ _ _ c.self.view_is (opposite_lit c.args.lit) c.requires.unfalse in
    let m : Mark = record { level = 0; reason = c.args.reason } in
    let left = room-left _ _ _ _ _ c.self.invariant c.args.lit m covered untrue unfalse in
    omega (arith, left, c.self.inside.literals.ok.0, c.self.invariant.room)

pub push_reserved-requires-2 : goal.push_reserved-requires-2
push_reserved-requires-2 c =
    let covered = subst (λ (t : TrailState). IsCovered t.vars c.args.lit.var) (sym c.self.view_is) c.requires.covered in
    let untrue = among-shown _ _ _ _ _ c.self.view_is c.args.lit c.requires.untrue in
    let unfalse = among-shown _ _ _ _ _ c.self.view_is (opposite_lit c.args.lit) c.requires.unfalse in
    let m : Mark = record { level = 0; reason = c.args.reason } in
    let left = room-left _ _ _ _ _ c.self.invariant c.args.lit m covered untrue unfalse in
    omega (arith, left, c.self.inside.due.ok.0, c.self.invariant.few, c.self.invariant.room_for_due)

abbrev made : (c : goal.After-self-2-1) → Mark
made c = record { level = c.len-level.result; reason = c.args.reason }

covered : (c : goal.After-self-2-1) → IsCovered (length c.self.inside.values.items) c.args.lit.var
covered c = subst (λ (t : TrailState). IsCovered t.vars c.args.lit.var) (sym c.self.view_is) c.requires.covered

untrue : (c : goal.After-self-2-1) → among c.self.inside.literals.items c.args.lit ≡ false
untrue c = among-shown _ _ _ _ _ c.self.view_is c.args.lit c.requires.untrue

unfalse : (c : goal.After-self-2-1) → among c.self.inside.literals.items (opposite_lit c.args.lit) ≡ false
unfalse c = among-shown _ _ _ _ _ c.self.view_is (opposite_lit c.args.lit) c.requires.unfalse

due-is : (c : goal.After-self-2-1) → c.push_reserved-2.new.self.items ≡ c.self.inside.due.items ++ opposite_lit c.args.lit ∷ []
due-is c = c.push_reserved-2.ensures.items ∙ ap (λ (l : Lit). c.self.inside.due.items ++ l ∷ []) c.opposite.ensures

starts-is : (c : goal.After-self-2-1) → c.open_level.new.starts.items ≡ c.self.inside.starts.items ++ (if is_none (number_of c.args.reason) then length c.self.inside.literals.items ∷ [] else [])
starts-is c =
    let count : c.len.result ≡ length c.self.inside.literals.items = omega (arith, c.len.ensures, c.self.inside.literals.ok.0) in
    c.open_level.ensures.items ∙ ap (λ (n : ℕ). c.self.inside.starts.items ++ (if is_none (number_of c.args.reason) then n ∷ [] else [])) count

level-is : (c : goal.After-self-2-1) → c.len-level.result ≡ (if is_none (number_of c.args.reason) then 1 else 0) + level_of (entries_of c.self.inside.marks.items c.self.inside.literals.items)
level-is c =
    let more = ap length c.open_level.ensures.items ∙ one-more (is_none (number_of c.args.reason)) c.self.inside.starts.items c.len.result in
    omega (arith, more, c.len-level.ensures, c.open_level.new.starts.ok.0, starts-are _ _ _ _ _ c.self.invariant)

tables : (c : goal.After-self-2-1) → AreTables (set c.self.inside.values.items (c.args.lit.var - 1) c.value_for.result) (set c.self.inside.marks.items (c.args.lit.var - 1) (made c)) c.push_reserved.new.self c.open_level.new.starts c.push_reserved-2.new.self
tables c =
    let all = tables-push _ _ _ _ _ c.self.invariant c.args.lit (made c) (covered c) (untrue c) (unfalse c) c.push_reserved.new.self c.open_level.new.starts c.push_reserved-2.new.self
    c.push_reserved.ensures.items (due-is c) (starts-is c) (level-is c) (λ h. ap (λ (t : TrailState). t.due) c.self.view_is ∙ c.requires.idle h)
    (omega (arith, c.push_reserved.ensures.capacity)) (omega (arith, c.open_level.ensures.capacity)) (omega (arith, c.push_reserved-2.ensures.capacity)) in
    subst (λ (v : Value). AreTables (set c.self.inside.values.items (c.args.lit.var - 1) v) (set c.self.inside.marks.items (c.args.lit.var - 1) (made c)) c.push_reserved.new.self c.open_level.new.starts c.push_reserved-2.new.self) (sym c.value_for.ensures) all

pub invariant_of-self : goal.invariant_of-self
invariant_of-self c = tables c

pub returns-clause-is : goal.returns-clause-is
returns-clause-is c =
    let shown = view-pushed _ _ _ _ _ c.self.invariant c.args.lit (made c) (covered c) (untrue c) (unfalse c) c.args.self.now c.self.view_is c.push_reserved.new.self.items c.push_reserved-2.new.self.items c.push_reserved.ensures.items (due-is c) in
    ap (λ (v : Value). trail_of (length (set c.self.inside.values.items (c.args.lit.var - 1) v)) (entries_of (set c.self.inside.marks.items (c.args.lit.var - 1) (made c)) c.push_reserved.new.self.items) c.push_reserved-2.new.self.items) c.value_for.ensures
    ∙ shown

pub returns-clause-order : goal.returns-clause-order
returns-clause-order c = trail-facts _ _ _ _ _ (tables c)
