use Rattle.std.proofs.Common.{ap, arith, length}
use Rattle.pb_rows.specs.Terms.{PlainRow}
use Rattle.row_arena.proofs.Placed.{kept-in, place-in, row-in}
use Rattle.row_arena.proofs.arena.Arena.len.Goals as goal

pub index-requires : goal.index-requires
index-requires c = omega (arith, place-in _ _ _ c.args.place.0 c.self.view_is c.requires, c.self.inside.rows.ok.0)

pub returns-clause-value : goal.returns-clause-value
returns-clause-value c =
    omega (arith, c.len.ensures, c.index.result.now.terms.ok.0, ap (λ (r : PlainRow). length r.terms) (row-in _ _ _ c.args.place.0 c.index.result.now c.self.view_is c.requires c.index.ensures))

pub returns-clause-kept : goal.returns-clause-kept
returns-clause-kept c = kept-in _ _ _ c.args.place.0 c.self.view_is c.self.invariant c.requires
