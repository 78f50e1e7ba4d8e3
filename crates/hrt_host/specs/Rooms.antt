-- The rooms of a host in memory.
use Rattle.hrt_host.specs.Plan.{RoomFor}
use Rattle.hrt_host.specs.declared.rooms.Room.{Room}

-- a room by its port, its name and its size
abbrev pub room_for : Room → RoomFor
room_for r = record { port = r.port; name = r.file.name.items; bytes = r.file.room }
