-- What a host in memory was told to do, computed.
use Rattle.std.proofs.Common.{◌≡◌, ◌-◌, ◌^◌, true, false, List, [], ◌∷◌, Some, None, refl}
use Rattle.std.specs.Prelude.{codes}
use Rattle.hrt_base.specs.declared.port.Port.TheVariants.{Model, Proof}
use Rattle.hrt_host.specs.Plan.{RoomFor, one_more, faults_after, first_room, other_rooms}

room : List RoomFor
room = record { port = Model; name = codes "m"; bytes = 3 } ∷ record { port = Proof; name = codes "m"; bytes = 5 } ∷ record { port = Model; name = codes "m"; bytes = 7 } ∷ []

first_of_two : first_room Model (codes "m") room ≡ Some 3
unfolding room
first_of_two = refl

of_its_port : first_room Proof (codes "m") room ≡ Some 5
unfolding room
of_its_port = refl

other_name : first_room Model (codes "n") room ≡ None
unfolding room
other_name = refl

-- and the next time the other one
next_of_two : first_room Model (codes "m") (other_rooms Model (codes "m") room) ≡ Some 7
unfolding room
next_of_two = refl

-- a count stays at the greatest u64
at_its_end : one_more (2 ^ 64 - 1) ≡ 2 ^ 64 - 1
at_its_end = refl

no_fault : faults_after false 3 ≡ 3
no_fault = refl

one_fault : faults_after true 3 ≡ 4
one_fault = refl
