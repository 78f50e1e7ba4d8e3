use Rattle.std.proofs.Common.{◌<◌, ◌-◌, ◌∙◌, List, ap, arith, length, subst, sym}
use Rattle.std.proofs.lemmas.List.{get_or_read}
use Rattle.hrt_base.specs.declared.literal.Lit.{Lit}
use Rattle.hrt_base.specs.declared.literal.Value.TheVariants.{Free}
use Rattle.pb_rows.specs.Points.{IsCovered}
use Rattle.pb_rows.specs.Closure.{among, makes_true}
use Rattle.propagation.proofs.Tables.{table_at}
use Rattle.pb_propagate.specs.Entries.{set_of}
use Rattle.pb_propagate.specs.Tables.{TrailState}
use Rattle.pb_propagate.proofs.Marks.{lits-entries}
use Rattle.pb_propagate.proofs.trail.Trail.is_true.Goals as goal

pub returns : goal.returns
returns c =
    let covered = subst (λ (t : TrailState). IsCovered t.vars c.args.lit.var) (sym c.self.view_is) c.requires in
    let here : c.args.lit.var - 1 < length c.self.inside.values.items = omega (arith, covered.first, covered.last) in
    c.makes_true.ensures
    ∙ ap (λ v. makes_true v c.args.lit.neg) (get_or_read c.self.inside.values.items (c.args.lit.var - 1) c.index.result.now here c.index.ensures Free)
    ∙ table_at _ _ c.self.invariant.table c.args.lit covered.first
    ∙ ap (λ (ls : List Lit). among ls c.args.lit) (sym (lits-entries c.self.inside.marks.items c.self.inside.literals.items))
    ∙ ap (λ (t : TrailState). set_of t.entries c.args.lit) c.self.view_is
