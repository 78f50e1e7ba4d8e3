use Rattle.std.proofs.Common.{List, subst, sym}
use Rattle.std.specs.List.{All}
use Rattle.row_arena.specs.declared.arena.Place.{Place}
use Rattle.pb_search.specs.Returning.{GoesBack, IsBroken}
use Rattle.pb_search.proofs.LoadedRows.{loaded_broken, loads_broken}
use Rattle.pb_search.proofs.loading.load_broken.Goals as goal

pub return_to_lowest-requires-clause-broken : goal.return_to_lowest-requires-clause-broken
return_to_lowest-requires-clause-broken c =
    subst (λ (ps : List Place). All (IsBroken c.load.new.engine) ps) (sym c.deref.ensures.value)
    (loaded_broken c.args.deriv.now.lists c.args.pairs.now c.in_ok-places.places.items c.args.engine.now c.load.new.engine c.in_ok-places.ensures.rows c.level-level.ensures.order c.in_ok-places.ensures.falsified)

pub returns : goal.returns
returns c =
    loads_broken c.args.deriv.now.lists c.args.pairs.now c.in_ok-places.places.items c.args.engine.now c.load.new.engine c.in_ok-places.ensures.rows c.level-level.ensures.order c.return_to_lowest.new.engine c.args.deriv.now c.load.new.deriv
    c.in_ok-places.ensures.note c.in_ok-places.ensures.new c.in_ok-places.ensures.agree c.load.ensures.ready c.load.ensures.valid c.in_ok-places.ensures.falsified
    (subst (λ (ps : List Place). GoesBack ps c.load.new.engine c.return_to_lowest.new.engine) c.deref.ensures.value c.return_to_lowest.ensures)
