use Rattle.std.proofs.Common.{◌≡◌, ◌++◌, map, take, drop}
use Rattle.hrt_host.specs.Plan.{first_room, other_rooms}
use Rattle.hrt_host.specs.Rooms.{room_for}
use Rattle.hrt_host.proofs.rooms.take_room.Given as goal

abbrev pub invariant-loop-k : goal.invariant-loop-k
invariant-loop-k l = record {
  same : l.rooms.items ≡ l.fn.rooms.items;
  first : first_room l.port l.name (map room_for l.fn.rooms.items) ≡ first_room l.port l.name (map room_for (drop l.k l.rooms.items));
  others : other_rooms l.port l.name (map room_for l.fn.rooms.items) ≡ map room_for (take l.k l.rooms.items) ++ other_rooms l.port l.name (map room_for (drop l.k l.rooms.items));
}
