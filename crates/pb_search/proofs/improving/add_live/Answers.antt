use Rattle.std.proofs.Common.{refl}
use Rattle.pb_search.proofs.Improved.{adds_live, one_broken}
use Rattle.pb_search.proofs.improving.add_live.Goals as goal

pub return_to_lowest-requires-clause-broken : goal.return_to_lowest-requires-clause-broken
return_to_lowest-requires-clause-broken c =
    one_broken c.args.engine.now c.add_row.new.self c.in_ok-place.place.0 c.args.id.0 c.in_ok-row.row _ c.in_ok-place.ensures.ok c.level-level.ensures.order c.in_ok-place.place refl (c.requires.broken c.in_ok-row.row c.in_ok-row.ensures)

pub returns : goal.returns
returns c =
    adds_live c.args.engine.now c.add_row.new.self c.in_ok-place.place.0 c.args.id.0 c.in_ok-row.row _ c.in_ok-place.ensures.ok c.level-level.ensures.order c.in_ok-place.place refl c.args.id c.args.deriv.now c.return_to_lowest.new.engine refl c.in_ok-row.ensures
    (c.requires.broken c.in_ok-row.row c.in_ok-row.ensures) c.return_to_lowest.ensures
