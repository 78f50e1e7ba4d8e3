use Rattle.std.proofs.Common.{◌+◌, subst, sym, arith}
use Rattle.rank_tables.specs.Instance.{Lists}
use Rattle.rank_tables.specs.Tables.{IsPairNo}
use Rattle.stability_model.specs.Model.{IsRow, pair_row}
use Rattle.stability_model.proofs.Growing.{is_row_of, pair_row_few}
use Rattle.stability_model.proofs.ModelExact.{tells_blocking}
use Rattle.stability_model.proofs.model.Model.pair_row.Goals as goal

pub overflow_add-result : goal.overflow_add-result
overflow_add-result c =
    let known = subst (λ (lists : Lists). IsPairNo lists c.args.p.0) (sym c.self.view_is) c.requires in
    omega (arith, pair_row_few _ _ _ _ c.self.inside.before_pairs c.args.p.0 c.self.invariant known)

pub returns-clause-row : goal.returns-clause-row
returns-clause-row c =
    let known = subst (λ (lists : Lists). IsPairNo lists c.args.p.0) (sym c.self.view_is) c.requires in
    subst (λ (lists : Lists). IsRow lists (c.self.inside.before_pairs + c.args.p.0) (pair_row lists c.args.p.0)) c.self.view_is (is_row_of _ _ _ _ c.self.inside.before_pairs c.args.p.0 c.self.invariant known)

pub returns-clause-blocking : goal.returns-clause-blocking
returns-clause-blocking c = tells_blocking c.args.self.now c.args.p.0
