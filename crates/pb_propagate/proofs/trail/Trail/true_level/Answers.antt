use Rattle.std.proofs.Common.{◌≡◌, ◌<◌, ◌-◌, ◌∙◌, Some, None, true, false, ap, arith, length, subst, sym}
use Rattle.std.proofs.lemmas.List.{get_or_read}
use Rattle.pb_rows.specs.Terms.{opposite_lit}
use Rattle.pb_rows.specs.Points.{IsCovered}
use Rattle.pb_propagate.specs.Entries.{set_of}
use Rattle.pb_propagate.specs.Tables.{TrailState, no_mark, entries_of, mark_of}
use Rattle.pb_propagate.specs.declared.trail.Mark.{Mark}
use Rattle.pb_propagate.specs.Serving.{IsTrueFrom}
use Rattle.pb_propagate.proofs.Backs.{true-from, true-never}
use Rattle.pb_propagate.proofs.Tabled.{trail-facts}
use Rattle.pb_propagate.proofs.trail.Trail.true_level.Goals as goal

pub returns-then-is_true-clause-from : goal.returns-then-is_true-clause-from
returns-then-is_true-clause-from c =
    let l = c.args.lit in
    let covered = subst (λ (t : TrailState). IsCovered t.vars l.var) (sym c.self.view_is) c.requires in
    let here : l.var - 1 < length c.self.inside.marks.items = omega (arith, covered.first, covered.last, c.self.invariant.marked) in
    let read : c.index.result.now ≡ mark_of c.self.inside.marks.items l = get_or_read c.self.inside.marks.items (l.var - 1) c.index.result.now here c.index.ensures no_mark in
    let is : set_of (entries_of c.self.inside.marks.items c.self.inside.literals.items) l ≡ true = ap (λ (t : TrailState). set_of t.entries l) c.self.view_is ∙ sym c.is_true.ensures ∙ c.if-is_true.true in
    let from = true-from _ _ _ _ _ c.self.invariant l is in
    subst (λ (t : TrailState). IsTrueFrom t.entries l (Some c.index.result.now.level)) c.self.view_is
    (subst (λ (m : Mark). IsTrueFrom (entries_of c.self.inside.marks.items c.self.inside.literals.items) l (Some m.level)) (sym read) from)

pub returns-then-is_true-clause-alone : goal.returns-then-is_true-clause-alone
returns-then-is_true-clause-alone c =
    let l = c.args.lit in
    let is : set_of (entries_of c.self.inside.marks.items c.self.inside.literals.items) l ≡ true = ap (λ (t : TrailState). set_of t.entries l) c.self.view_is ∙ sym c.is_true.ensures ∙ c.if-is_true.true in
    subst (λ (t : TrailState). set_of t.entries (opposite_lit l) ≡ false) c.self.view_is ((trail-facts _ _ _ _ _ c.self.invariant).consistent.consistent l is)

pub returns-else-is_true-clause-from : goal.returns-else-is_true-clause-from
returns-else-is_true-clause-from c =
    let l = c.args.lit in
    let is : set_of (entries_of c.self.inside.marks.items c.self.inside.literals.items) l ≡ false = ap (λ (t : TrailState). set_of t.entries l) c.self.view_is ∙ sym c.is_true.ensures ∙ c.if-is_true.false in
    subst (λ (t : TrailState). IsTrueFrom t.entries l None) c.self.view_is (true-never _ _ _ _ _ c.self.invariant l is)
