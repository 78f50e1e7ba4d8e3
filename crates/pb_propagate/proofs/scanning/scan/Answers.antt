use Rattle.std.proofs.Common.{arith, get_or, refl}
use Rattle.pb_propagate.specs.Parts.{shown}
use Rattle.pb_propagate.proofs.Looking.{place-held, place-is, places-count, scanned-none, scanned-step, some_held}
use Rattle.pb_propagate.proofs.scanning.scan.Goals as goal

pub loop-k-init : goal.loop-k-init
loop-k-init g c = scanned-none (shown c.args.arena.now c.args.trail.now c.args.due_rows.now) c.args.lit c.args.trail.now refl refl refl

pub look-requires-clause-held : goal.look-requires-clause-held
look-requires-clause-held g c = place-held c.args.places.now c.args.arena.now.held c.requires.places c.loop-k.k (record { 0 = 0 }) c.loop-k-test.true

pub loop-k-preserved : goal.loop-k-preserved
loop-k-preserved g c =
    let old = shown c.args.arena.now c.args.trail.now c.args.due_rows.now in
    let count = places-count c.args.places.now c.args.arena.now.held c.requires.places in
    scanned-step old c.args.lit c.requires.sound c.requires.due c.loop-k.k some_held (get_or c.args.places.now c.loop-k.k (record { 0 = 0 })).0 c.loop-k.trail c.look.new.trail (omega (arith, c.loop-k-test.true, count))
    (place-is c.args.places.now c.args.arena.now.held c.requires.places c.loop-k.k (record { 0 = 0 }) some_held c.loop-k-test.true) c.loop-k.invariant c.if-look.ensures
