use Rattle.std.proofs.Common.{◌<◌, None, length, subst, sym, ap, ◌∙◌, arith}
use Rattle.rank_tables.specs.Instance.{Lists}
use Rattle.stability_model.specs.Model.{resident_row_no}
use Rattle.stability_model.proofs.Growing.{number_at}
use Rattle.stability_model.proofs.Places.{names_resident_row}
use Rattle.stability_model.proofs.model.Model.resident_row.Goals as goal

pub index-requires : goal.index-requires
index-requires c =
    let known = subst (λ (lists : Lists). c.args.r < length lists.residents) (sym c.self.view_is) c.requires in
    omega (arith, c.self.inside.resident_rows.ok.0, (number_at _ _ c.args.r c.self.inside.resident_rows.items None c.self.invariant.residents_are known).0)

pub returns-clause-number : goal.returns-clause-number
returns-clause-number c =
    let known = subst (λ (lists : Lists). c.args.r < length lists.residents) (sym c.self.view_is) c.requires in
    c.index.ensures ∙ (number_at _ _ c.args.r c.self.inside.resident_rows.items c.index.result.now c.self.invariant.residents_are known).1 ∙ ap (λ (lists : Lists). resident_row_no lists c.args.r) c.self.view_is

pub returns-clause-row : goal.returns-clause-row
returns-clause-row c = names_resident_row c.args.self.now c.args.r _ c.requires (returns-clause-number c)
