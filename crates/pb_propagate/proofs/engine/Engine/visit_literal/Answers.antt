use Rattle.row_arena.specs.declared.arena.Place.{Place}
use Rattle.pb_propagate.specs.Scans.{IsScanned, StopsAt}
use Rattle.std.proofs.Common.{◌≡◌, List, length, subst, sym, true}
use Rattle.pb_propagate.specs.Engines.{EngineState, is_due_literal}
use Rattle.pb_propagate.specs.Parts.{shown}
use Rattle.pb_propagate.specs.Visits.{ServesLiteral}
use Rattle.pb_propagate.proofs.Settled.{engine-scanned, engine-settled, serves-settled}
use Rattle.pb_propagate.proofs.engine.Engine.visit_literal.Given.{Over}
use Rattle.pb_propagate.proofs.engine.Engine.visit_literal.Goals as goal

stop : (g : Over) (c : goal.In-Some g) → StopsAt (shown c.self.inside.arena c.self.inside.trail c.self.inside.due_rows.items) c.args.lit c.scan.new.trail c.in-Some.place.0
stop g c = subst (λ (ds : List Place). StopsAt (shown c.self.inside.arena c.self.inside.trail ds) c.args.lit c.scan.new.trail c.in-Some.place.0) c.deref-2.ensures.value c.in-Some.ensures

done : (g : Over) (c : goal.After-settle g) → IsScanned (shown c.self.inside.arena c.self.inside.trail c.self.inside.due_rows.items) c.args.lit (length c.self.inside.arena.held) c.scan.new.trail
done g c = subst (λ (ds : List Place). IsScanned (shown c.self.inside.arena c.self.inside.trail ds) c.args.lit (length c.self.inside.arena.held) c.scan.new.trail) c.deref-2.ensures.value c.in-None.ensures

pub invariant_of-self : goal.invariant_of-self
invariant_of-self g c =
    engine-scanned c.self.inside.arena c.self.inside.trail c.scan.new.trail c.self.inside.places.items c.self.inside.due_rows.items c.args.lit c.self.invariant
    (subst (λ (e : EngineState). is_due_literal c.args.lit e ≡ true) (sym c.self.view_is) c.requires) (stop g c).scanned

pub returns-in-Some-clause-sound : goal.returns-in-Some-clause-sound
returns-in-Some-clause-sound g c =
    (engine-scanned c.self.inside.arena c.self.inside.trail c.scan.new.trail c.self.inside.places.items c.self.inside.due_rows.items c.args.lit c.self.invariant
    (subst (λ (e : EngineState). is_due_literal c.args.lit e ≡ true) (sym c.self.view_is) c.requires) (stop g c).scanned).sound

pub invariant_of-self-in-None : goal.invariant_of-self-in-None
invariant_of-self-in-None g c =
    engine-settled c.self.inside.arena c.self.inside.trail c.scan.new.trail c.self.inside.places.items c.self.inside.due_rows.items c.args.lit c.self.invariant
    (subst (λ (e : EngineState). is_due_literal c.args.lit e ≡ true) (sym c.self.view_is) c.requires) c.settle.new.self (done g c) c.settle.ensures.is

pub returns-in-None-clause-sound : goal.returns-in-None-clause-sound
returns-in-None-clause-sound g c =
    (engine-settled c.self.inside.arena c.self.inside.trail c.scan.new.trail c.self.inside.places.items c.self.inside.due_rows.items c.args.lit c.self.invariant
    (subst (λ (e : EngineState). is_due_literal c.args.lit e ≡ true) (sym c.self.view_is) c.requires) c.settle.new.self (done g c) c.settle.ensures.is).sound

pub returns-in-None-clause-does : goal.returns-in-None-clause-does
returns-in-None-clause-does g c =
    subst (λ (e : EngineState). ServesLiteral e (shown c.self.inside.arena c.settle.new.self c.self.inside.due_rows.items) c.args.lit) c.self.view_is
    (serves-settled c.self.inside.arena c.self.inside.trail c.scan.new.trail c.self.inside.places.items c.self.inside.due_rows.items c.args.lit c.self.invariant
    (subst (λ (e : EngineState). is_due_literal c.args.lit e ≡ true) (sym c.self.view_is) c.requires) c.settle.new.self (done g c) c.settle.ensures.is c.settle.ensures.order.few)
