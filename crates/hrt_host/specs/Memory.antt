-- What a host in memory is to the program, and what it was told to do.
use Rattle.std.specs.Prelude.{ℕ, ◌+◌, ◌&&◌, List, [], ◌∷◌, ◌++◌, map, if◌then◌else◌, bytes_eq}
use Rattle.hrt_base.specs.declared.port.Port.{Port}
use Rattle.hrt_base.specs.declared.host.Begun.{Begun}
use Rattle.hrt_base.specs.declared.host.Begun.TheVariants.{Idle}
use Rattle.hrt_base.specs.World.{Content, World, port_no, store}
use Rattle.hrt_host.specs.Plan.{Plan, with_left}
use Rattle.hrt_host.specs.Rooms.{room_for}
use Rattle.hrt_host.specs.Seat.{at_place, file_of, begun_of, is_writing, rest_of, sent_by, name_by, left_of}
use Rattle.hrt_host.specs.declared.rooms.Room.{Room}
use Rattle.hrt_host.specs.declared.file.File.{File}
use Rattle.hrt_host.specs.declared.seat.Seat.{Seat}
use Rattle.hrt_host.specs.declared.memory.MemoryHost.{MemoryHost}

-- the names and the bytes, by the files and the seats
abbrev pub memory_content : List File → List Seat → Content
memory_content files seats = record {
  name = λ p. at_place (name_by files) [] seats (port_no p);
  rest = λ p. at_place (λ s. rest_of files s.stand) [] seats (port_no p);
  sent = λ p. at_place (sent_by files) [] seats (port_no p);
  file = file_of files;
}

-- how a port stands, by the seats
abbrev pub memory_begun : List Seat → Port → Begun
memory_begun seats p = at_place (λ s. begun_of s.stand) Idle seats (port_no p)

-- what a host of these counts, files and seats is to the program
abbrev pub world_of : ℕ → ℕ → List File → List Seat → World
world_of read_faults write_faults files seats = record {
  read_faults = read_faults;
  write_faults = write_faults;
  begun = memory_begun seats;
  content = memory_content files seats;
}

-- what the host is to the program
unfoldable pub memory_world : MemoryHost → World
memory_world m = world_of m.read_faults m.write_faults m.files.items m.seats

-- the room that is left to a port, by the seats
abbrev pub memory_left : List Seat → Port → ℕ
memory_left seats p = at_place left_of 0 seats (port_no p)

-- what a host of these fields was told to do
abbrev pub plan_of : ℕ → List ℕ → ℕ → List Room → List Seat → Plan
plan_of calls failing most rooms seats = record {
  calls = calls;
  failing = failing;
  most = most;
  rooms = map room_for rooms;
  left = memory_left seats;
}

-- what the host was told to do
unfoldable pub memory_plan : MemoryHost → Plan
memory_plan m = plan_of m.calls m.failing.items m.most m.rooms.items m.seats

-- the content with a file of this name
abbrev pub with_file : List ℕ → List ℕ → Content → Content
with_file name bytes c = record c { file = store name bytes c.file }

-- room was given: to a port that is begun for writing under that name, or for when it will be
abbrev pub given : Port → List ℕ → ℕ → World → Plan → Plan
given port name bytes w p =
    if is_writing (w.begun port) && bytes_eq (w.content.name port) name then with_left port (p.left port + bytes) p
    else record p { rooms = p.rooms ++ record { port = port; name = name; bytes = bytes } ∷ [] }
