-- A file is written and read back.
use Rattle.std.proofs.Common.{◌≡◌, [], refl, Some, None}
use Rattle.std.specs.Prelude.{codes}
use Rattle.hrt_base.specs.declared.port.Port.TheVariants.{Model, Proof, Report}
use Rattle.hrt_base.specs.World.{Content, started, appended, sealed}

empty : Content
empty = record { name = λ p. []; rest = λ p. []; sent = λ p. []; file = λ n. None }

written : Content
written = appended Model (codes "two") (appended Model (codes "one ") (started Model (codes "m") empty))

sent_in_order : written.sent Model ≡ codes "one two"
unfolding empty written
sent_in_order = refl

other_port : written.sent Proof ≡ []
unfolding empty written
other_port = refl

no_file_yet : written.file (codes "m") ≡ None
unfolding empty written
no_file_yet = refl

file_is_sent : (sealed Model written).file (codes "m") ≡ Some (codes "one two")
unfolding empty written
file_is_sent = refl

still_sent : (sealed Model written).sent Model ≡ codes "one two"
unfolding empty written
still_sent = refl

begun_anew : (started Model (codes "m") (sealed Model written)).sent Model ≡ []
unfolding empty written
begun_anew = refl

empty_name : (sealed Report (appended Report (codes "x") empty)).file [] ≡ None
unfolding empty
empty_name = refl
