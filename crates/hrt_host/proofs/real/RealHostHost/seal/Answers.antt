use Rattle.std.proofs.Common.{◌<◌, length, ap, arith, refl}
use Rattle.std.proofs.lemmas.Bool.Decides.{when_true}
use Rattle.hrt_host.proofs.Entrance.{gate_set}
use Rattle.hrt_host.proofs.real.RealHostHost.seal.Goals as goal
use Rattle.hrt_host.specs.Doors.{door_begun}
use Rattle.hrt_host.specs.Real.{real_world}

pub returns-clause-sealed : goal.returns-clause-sealed
unfolding real_world
returns-clause-sealed c =
    let inside : c.place.result < length c.args.self.now.gates = omega arith in
    record { read_faults = refl; write_faults = refl; begun = gate_set _ _ _ _ _ c.place.ensures.at inside (ap door_begun (when_true _ _ c.if-not-closed.false c.close-closed.ensures.closed)); content = λ t. absurd t }
