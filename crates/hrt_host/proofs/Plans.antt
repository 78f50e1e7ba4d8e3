-- What a call leaves of what a host in memory was told to do.
use Rattle.std.proofs.Common.{◌≡◌, ◌≢◌, ℕ, ◌<◌, min, Bool, true, false, ◌||◌, List, [], ◌∷◌, length, map, refl, arith, ◌==◌}
use Rattle.std.specs.Prelude.{Result, Ok, Err, OnErr}
use Rattle.std.proofs.lemmas.Bool.Decides.{nat_tests}
use Rattle.hrt_base.specs.declared.port.Port.{Port}
use Rattle.hrt_host.specs.Memory.{plan_of, memory_left}
use Rattle.hrt_host.specs.Plan.{RoomFor, counted, one_more}
use Rattle.hrt_host.specs.Rooms.{room_for}
use Rattle.hrt_host.specs.declared.rooms.Room.{Room}
use Rattle.hrt_host.specs.declared.seat.Seat.{Seat}

-- one more call, with these rooms and this left
pub plan_after : (calls next : ℕ) (failing : List ℕ) (most : ℕ) (rooms after : List Room) (seats now : List Seat) (given : List RoomFor) (left : Port → ℕ)
    → next ≡ one_more calls → map room_for after ≡ given → memory_left now ≡ left
    → plan_of next failing most after now ≡ record (counted (plan_of calls failing most rooms seats)) { rooms = given; left = left }
plan_after calls next failing most rooms after seats now given left one room is k = record { calls = one k; failing = failing; most = most; rooms = room k; left = is k }

-- one more call, and nothing else
pub plan_same : (calls next : ℕ) (failing : List ℕ) (most : ℕ) (rooms : List Room) (seats now : List Seat)
    → next ≡ one_more calls → memory_left now ≡ memory_left seats → plan_of next failing most rooms now ≡ counted (plan_of calls failing most rooms seats)
plan_same calls next failing most rooms seats now one is k = record { calls = one k; failing = failing; most = most; rooms = map room_for rooms; left = is k }

-- nothing is moved only where nothing is left to read
pub moved_none : (rest : List ℕ) (n room most : ℕ) → n ≡ min (min (length rest) room) most → 0 < room → 0 < most → (n ≡ 0 → rest ≡ []) × (rest ≡ [] → n ≡ 0)
moved_none [] n room most is some more = (λ _. refl, λ _. omega arith)
moved_none (x ∷ xs) n room most is some more = (λ none. absurd (omega arith), λ e. absurd (cc e))

-- a write fails where no room is left, and only there but where it is told to
pub no_room : (a : Bool) (left room : ℕ) → left ≡ room → room ≡ 0 → true ≡ (a || (left == 0))
no_room true left room is none = refl
no_room false left room is none = grind (arith, nat_tests)

pub some_room : (a : Bool) (left room : ℕ) → a ≡ false → left ≡ room → room ≢ 0 → false ≡ (a || (left == 0))
some_room true left room e is some = absurd (cc e)
some_room false left room e is some = grind (arith, nat_tests)

-- another room is left to one port
pub plan_left : (calls : ℕ) (failing : List ℕ) (most : ℕ) (rooms : List Room) (seats now : List Seat) (left : Port → ℕ)
    → memory_left now ≡ left → plan_of calls failing most rooms now ≡ record (plan_of calls failing most rooms seats) { left = left }
plan_left calls failing most rooms seats now left is k = record { calls = calls; failing = failing; most = most; rooms = map room_for rooms; left = is k }

-- what holds anyway holds where a call failed
pub on_err_of : {T E P : Type 0} (r : Result T E) → P → OnErr r P
on_err_of (Ok x) p = tt
on_err_of (Err e) p = p
