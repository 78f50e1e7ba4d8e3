-- One door is set.
use Rattle.std.proofs.Common.{◌≡◌, ℕ, ◌<◌, List, length, get_or, set, sym, ◌∙◌, ap, if◌then◌else◌, ◌==◌}
use Rattle.hrt_base.specs.declared.port.Port.{Port}
use Rattle.hrt_base.specs.declared.host.Begun.{Begun}
use Rattle.hrt_base.specs.declared.host.Begun.TheVariants.{Idle}
use Rattle.hrt_base.specs.World.{port_no, put}
use Rattle.hrt_base.proofs.Pieces.{put_back}
use Rattle.hrt_host.specs.Seat.{at_place}
use Rattle.hrt_host.specs.Doors.{door_begun, gates_begun}
use Rattle.hrt_host.specs.declared.gate.Door.{Door}
use Rattle.hrt_host.specs.declared.gate.Gate.{Gate}
use Rattle.hrt_host.proofs.Places.{at_place_or, at_place_set}

pub gate_put : (gates : List Gate) (port : Port) (i : ℕ) (x : Gate) → i ≡ port_no port → i < length gates → gates_begun (set gates i x) ≡ put port (door_begun x.door) (gates_begun gates)
gate_put gates port i x at inside k p =
    let begun = λ (g : Gate). door_begun g.door in
    (at_place_set begun Idle gates i x (port_no p) inside ∙ ap (λ (n : ℕ). if port_no p == n then begun x else at_place begun Idle gates (port_no p)) at) k

pub gate_set : (gates : List Gate) (port : Port) (i : ℕ) (x : Gate) (b : Begun) → i ≡ port_no port → i < length gates → door_begun x.door ≡ b → gates_begun (set gates i x) ≡ put port b (gates_begun gates)
gate_set gates port i x b at inside is = gate_put gates port i x at inside ∙ ap (λ (c : Begun). put port c (gates_begun gates)) is

pub gate_kept : (gates : List Gate) (port : Port) (i : ℕ) (r x : Gate) → i ≡ port_no port → i < length gates → door_begun x.door ≡ door_begun (get_or gates i r).door → gates_begun (set gates i x) ≡ gates_begun gates
gate_kept gates port i r x at inside same =
    let begun = λ (g : Gate). door_begun g.door in
    let was : gates_begun gates port ≡ begun (get_or gates i r) = ap (λ (n : ℕ). at_place begun Idle gates n) (sym at) ∙ at_place_or begun Idle gates i r inside in
    gate_put gates port i x at inside ∙ ap (λ (b : Begun). put port b (gates_begun gates)) (same ∙ sym was) ∙ put_back port (gates_begun gates)
