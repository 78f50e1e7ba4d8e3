-- What a host in memory was told to do: which calls fail, how much a call moves, and what there is room for.
use Rattle.std.specs.Prelude.{ℕ, ◌+◌, ◌-◌, ◌^◌, min, Bool, ◌&&◌, List, [], ◌∷◌, Option, Some, None, unwrap_or, if◌then◌else◌, ◌==◌, bytes_eq}
use Rattle.std.specs.List.{list_any}
use Rattle.hrt_base.specs.declared.port.Port.{Port}
use Rattle.hrt_base.specs.World.{port_no, put}

-- room for what a port will write under a name
pub record RoomFor : Type 0 where
  pub port : Port
  pub name : List ℕ
  pub bytes : ℕ

-- the calls so far, those that fail, how much a call moves, and the room that is given and left
pub record Plan : Type 0 where
  -- how many calls there were
  pub calls : ℕ
  -- the numbers of the calls that fail
  pub failing : List ℕ
  -- the most bytes that a read or a write moves
  pub most : ℕ
  -- the rooms that no port has begun yet
  pub rooms : List RoomFor
  -- the room that is left to a port that is begun for writing
  pub left : Port → ℕ

-- one more than a count, which stays at the greatest u64
abbrev pub one_more : ℕ → ℕ
one_more n = min (n + 1) (2 ^ 64 - 1)

-- one more call
abbrev pub counted : Plan → Plan
counted p = record p { calls = one_more p.calls }

-- whether the next call is one of those that fail
abbrev pub fails_next : Plan → Bool
fails_next p = list_any (λ k. k == one_more p.calls) p.failing

-- a count of faults after a call that failed or didn't
abbrev pub faults_after : Bool → ℕ → ℕ
faults_after failed n = if failed then one_more n else n

-- whether a room is for this port and this name
abbrev pub is_for : Port → List ℕ → RoomFor → Bool
is_for port name r = (port_no r.port == port_no port) && bytes_eq r.name name

-- the first room for a port and a name
abbrev pub first_room : Port → List ℕ → List RoomFor → Option ℕ
first_room port name [] = None
first_room port name (r ∷ rs) = if is_for port name r then Some r.bytes else first_room port name rs

-- the rooms without that one
abbrev pub other_rooms : Port → List ℕ → List RoomFor → List RoomFor
other_rooms port name [] = []
other_rooms port name (r ∷ rs) = if is_for port name r then rs else r ∷ other_rooms port name rs

-- a port is begun for writing in its first room of that name
abbrev pub entered : Port → List ℕ → Plan → Plan
entered port name p = record p { rooms = other_rooms port name p.rooms; left = put port (unwrap_or (first_room port name p.rooms) 0) p.left }

-- a port has this room left
abbrev pub with_left : Port → ℕ → Plan → Plan
with_left port room p = record p { left = put port room p.left }
