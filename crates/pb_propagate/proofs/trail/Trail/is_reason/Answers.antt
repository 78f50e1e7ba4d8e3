use Rattle.std.proofs.Common.{◌∙◌, ap, ap₂, length, subst, sym, ℕ, Bool, List}
use Rattle.std.specs.List.{All, list_any}
use Rattle.hrt_base.specs.declared.literal.Lit.{Lit}
use Rattle.pb_rows.specs.Points.{IsCovered}
use Rattle.pb_propagate.specs.declared.trail.Mark.{Mark}
use Rattle.pb_propagate.specs.Entries.{is_reason_in, is_row}
use Rattle.pb_propagate.specs.Tables.{TrailState, mark_of, number_of}
use Rattle.pb_propagate.proofs.Marks.{any-entry}
use Rattle.pb_propagate.proofs.trail.Trail.is_reason.Goals as goal

pub any_marked-requires : goal.any_marked-requires
any_marked-requires c =
    subst (λ (ms : List Mark). All (λ (l : Lit). IsCovered (length ms) l.var) c.deref-2.result.now) (sym c.deref.ensures.value)
    (subst (λ (ls : List Lit). All (λ (l : Lit). IsCovered (length c.self.inside.marks.items) l.var) ls) (sym c.deref-2.ensures.value)
    (subst (λ (n : ℕ). All (λ (l : Lit). IsCovered n l.var) c.self.inside.literals.items) (sym c.self.invariant.marked) c.self.invariant.table.covered))

pub returns : goal.returns
returns c =
    let found : List Mark → List Lit → Bool = λ ms ls. list_any (λ (l : Lit). is_row c.args.place.0 (number_of (mark_of ms l).reason)) ls in
    c.any_marked.ensures ∙ ap₂ found c.deref.ensures.value c.deref-2.ensures.value ∙ any-entry c.self.inside.marks.items c.self.inside.literals.items c.args.place.0
    ∙ ap (λ (t : TrailState). is_reason_in t.entries c.args.place.0) c.self.view_is
