use Rattle.std.proofs.Common.{◌<◌, None, length, subst, sym, ap, ◌∙◌, arith}
use Rattle.rank_tables.specs.Instance.{Lists}
use Rattle.stability_model.specs.Model.{hospital_row_no}
use Rattle.stability_model.proofs.Growing.{number_at}
use Rattle.stability_model.proofs.Places.{names_hospital_row}
use Rattle.stability_model.proofs.model.Model.hospital_row.Goals as goal

pub index-requires : goal.index-requires
index-requires c =
    let known = subst (λ (lists : Lists). c.args.h < length lists.hospitals) (sym c.self.view_is) c.requires in
    omega (arith, c.self.inside.hospital_rows.ok.0, (number_at _ _ c.args.h c.self.inside.hospital_rows.items None c.self.invariant.hospitals_are known).0)

pub returns-clause-number : goal.returns-clause-number
returns-clause-number c =
    let known = subst (λ (lists : Lists). c.args.h < length lists.hospitals) (sym c.self.view_is) c.requires in
    c.index.ensures ∙ (number_at _ _ c.args.h c.self.inside.hospital_rows.items c.index.result.now c.self.invariant.hospitals_are known).1 ∙ ap (λ (lists : Lists). hospital_row_no lists c.args.h) c.self.view_is

pub returns-clause-row : goal.returns-clause-row
returns-clause-row c = names_hospital_row c.args.self.now c.args.h _ c.requires (returns-clause-number c)
