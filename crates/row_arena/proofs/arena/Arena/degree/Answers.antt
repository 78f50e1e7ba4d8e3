use mir.Syntax.{w128}
use mir.Val.{SFits}
use Rattle.std.proofs.Common.{◌∙◌, pos, ap, arith}
use Rattle.std.proofs.lemmas.Int.{to_z-of_z}
use Rattle.pb_rows.specs.Terms.{PlainRow}
use Rattle.row_arena.proofs.Placed.{kept-in, place-in, row-in}
use Rattle.row_arena.proofs.arena.Arena.degree.Goals as goal

pub index-requires : goal.index-requires
index-requires c = omega (arith, place-in _ _ _ c.args.place.0 c.self.view_is c.requires, c.self.inside.rows.ok.0)

pub signed-requires : goal.signed-requires
signed-requires c =
    let k = kept-in _ _ _ c.args.place.0 c.self.view_is c.self.invariant c.requires in
    omega (arith, k.short.degree, ap (λ (r : PlainRow). r.degree) (row-in _ _ _ c.args.place.0 c.index.result.now c.self.view_is c.requires c.index.ensures))

pub returns : goal.returns
returns c =
    let fits : SFits w128 c.signed.result = record { sfits = c.signed.type_inv } in
    to_z-of_z w128 c.signed.result fits ∙ c.signed.ensures ∙ ap (λ (r : PlainRow). pos r.degree) (row-in _ _ _ c.args.place.0 c.index.result.now c.self.view_is c.requires c.index.ensures)
