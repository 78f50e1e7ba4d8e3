use Rattle.std.proofs.Common.{◌≡◌, ◌<◌, ◌-◌, ◌∙◌, Some, ap, arith, length, sym}
use Rattle.std.proofs.lemmas.List.{get_or_read}
use Rattle.hrt_base.specs.declared.literal.Value.TheVariants.{Free}
use Rattle.pb_propagate.specs.declared.trail.Mark.{Mark}
use Rattle.pb_propagate.specs.Entries.{level_in, value_in}
use Rattle.pb_propagate.specs.Tables.{TrailState, entries_of, no_mark}
use Rattle.pb_propagate.proofs.Backs.{level-free, level-taken, taken-covered}
use Rattle.pb_propagate.proofs.trail.Trail.level_of.Goals as goal

taken : (c : goal.In_default) → value_in (entries_of c.self.inside.marks.items c.self.inside.literals.items) c.args.var ≡ Free → ⊥
taken c e = c.in_default.not-Free (c.value.ensures ∙ sym (ap (λ (t : TrailState). value_in t.entries c.args.var) c.self.view_is) ∙ e)

pub overflow_sub-var : goal.overflow_sub-var
overflow_sub-var c = let covered = taken-covered _ _ _ _ _ c.self.invariant c.args.var (taken c) in omega (arith, covered.first)

pub index-requires : goal.index-requires
index-requires c =
    let covered = taken-covered _ _ _ _ _ c.self.invariant c.args.var (taken c) in
    omega (arith, covered.first, covered.last, c.self.invariant.marked, c.self.inside.marks.ok.0)

pub returns-in-Free : goal.returns-in-Free
returns-in-Free c =
    level-free _ _ _ _ _ c.self.invariant c.args.var (ap (λ (t : TrailState). value_in t.entries c.args.var) c.self.view_is ∙ sym c.value.ensures ∙ c.in-Free.is)
    ∙ ap (λ (t : TrailState). level_in t.entries c.args.var) c.self.view_is

pub returns-in_default : goal.returns-in_default
returns-in_default c =
    let not_free : value_in (entries_of c.self.inside.marks.items c.self.inside.literals.items) c.args.var ≡ Free → ⊥ = λ e. c.in_default.not-Free (c.value.ensures ∙ sym (ap (λ (t : TrailState). value_in t.entries c.args.var) c.self.view_is) ∙ e) in
    let covered = taken-covered _ _ _ _ _ c.self.invariant c.args.var not_free in
    let here : c.args.var - 1 < length c.self.inside.marks.items = omega (arith, covered.first, covered.last, c.self.invariant.marked) in
    let read = get_or_read c.self.inside.marks.items (c.args.var - 1) c.index.result.now here c.index.ensures no_mark in
    ap (λ (m : Mark). Some m.level) read ∙ level-taken _ _ _ _ _ c.self.invariant c.args.var not_free
    ∙ ap (λ (t : TrailState). level_in t.entries c.args.var) c.self.view_is
