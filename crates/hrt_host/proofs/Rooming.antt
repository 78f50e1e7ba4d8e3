-- A search for a room.
use Rattle.std.proofs.Common.{◌≡◌, ℕ, zero, suc, ◌+◌, ◌<◌, Bool, true, false, List, [], ◌∷◌, ◌++◌, length, get_or, add-one, take, drop, map, sym, ◌∙◌, ap, arith, Some, if◌then◌else◌}
use Rattle.hrt_base.specs.declared.port.Port.{Port}
use Rattle.hrt_host.specs.Plan.{RoomFor, is_for, first_room, other_rooms}
use Rattle.hrt_host.specs.Rooms.{room_for}
use Rattle.hrt_host.specs.declared.rooms.Room.{Room}

first_step : (port : Port) (name : List ℕ) (rs : List Room) (k : ℕ) (r : Room) → k < length rs → r ≡ get_or rs k r → is_for port name (room_for r) ≡ false
    → first_room port name (map room_for (drop k rs)) ≡ first_room port name (map room_for (drop (suc k) rs))
first_step port name [] k r inside is other = absurd (omega arith)
first_step port name (q ∷ rs) zero r inside is other =
    ap (λ (b : Bool). if b then Some (room_for q).bytes else first_room port name (map room_for rs)) (ap (λ (x : Room). is_for port name (room_for x)) (sym is) ∙ other)
first_step port name (q ∷ rs) (suc k) r inside is other = first_step port name rs k r (omega arith) is other

others_step : (port : Port) (name : List ℕ) (rs : List Room) (k : ℕ) (r : Room) → k < length rs → r ≡ get_or rs k r → is_for port name (room_for r) ≡ false
    → map room_for (take k rs) ++ other_rooms port name (map room_for (drop k rs)) ≡ map room_for (take (suc k) rs) ++ other_rooms port name (map room_for (drop (suc k) rs))
others_step port name [] k r inside is other = absurd (omega arith)
others_step port name (q ∷ rs) zero r inside is other =
    ap (λ (b : Bool). if b then map room_for rs else room_for q ∷ other_rooms port name (map room_for rs)) (ap (λ (x : Room). is_for port name (room_for x)) (sym is) ∙ other)
others_step port name (q ∷ rs) (suc k) r inside is other = ap (λ (l : List RoomFor). room_for q ∷ l) (others_step port name rs k r (omega arith) is other)

pub first_here : (port : Port) (name : List ℕ) (rs : List Room) (k : ℕ) (r t : Room) → k < length rs → r ≡ get_or rs k r → t ≡ get_or rs k t → is_for port name (room_for r) ≡ true
    → first_room port name (map room_for (drop k rs)) ≡ Some t.file.room
first_here port name [] k r t inside is too this = absurd (omega arith)
first_here port name (q ∷ rs) zero r t inside is too this =
    ap (λ (b : Bool). if b then Some (room_for q).bytes else first_room port name (map room_for rs)) (ap (λ (x : Room). is_for port name (room_for x)) (sym is) ∙ this)
    ∙ ap (λ (x : Room). Some x.file.room) (sym too)
first_here port name (q ∷ rs) (suc k) r t inside is too this = first_here port name rs k r t (omega arith) is too this

others_at : (port : Port) (name : List ℕ) (rs : List Room) (k : ℕ) (r : Room) → k < length rs → r ≡ get_or rs k r → is_for port name (room_for r) ≡ true
    → map room_for (take k rs) ++ other_rooms port name (map room_for (drop k rs)) ≡ map room_for (take k rs ++ drop (suc k) rs)
others_at port name [] k r inside is this = absurd (omega arith)
others_at port name (q ∷ rs) zero r inside is this =
    ap (λ (b : Bool). if b then map room_for rs else room_for q ∷ other_rooms port name (map room_for rs)) (ap (λ (x : Room). is_for port name (room_for x)) (sym is) ∙ this)
others_at port name (q ∷ rs) (suc k) r inside is this = ap (λ (l : List RoomFor). room_for q ∷ l) (others_at port name rs k r (omega arith) is this)

-- the same, with the next place as loops count it
pub first_next : (port : Port) (name : List ℕ) (rs : List Room) (k : ℕ) (r : Room) → k < length rs → r ≡ get_or rs k r → is_for port name (room_for r) ≡ false
    → first_room port name (map room_for (drop k rs)) ≡ first_room port name (map room_for (drop (k + 1) rs))
first_next port name rs k r inside is other = rw add-one (first_step port name rs k r inside is other)

pub others_next : (port : Port) (name : List ℕ) (rs : List Room) (k : ℕ) (r : Room) → k < length rs → r ≡ get_or rs k r → is_for port name (room_for r) ≡ false
    → map room_for (take k rs) ++ other_rooms port name (map room_for (drop k rs)) ≡ map room_for (take (k + 1) rs) ++ other_rooms port name (map room_for (drop (k + 1) rs))
others_next port name rs k r inside is other = rw add-one (others_step port name rs k r inside is other)

pub others_here : (port : Port) (name : List ℕ) (rs : List Room) (k : ℕ) (r : Room) → k < length rs → r ≡ get_or rs k r → is_for port name (room_for r) ≡ true
    → map room_for (take k rs) ++ other_rooms port name (map room_for (drop k rs)) ≡ map room_for (take k rs ++ drop (k + 1) rs)
others_here port name rs k r inside is this = rw add-one (others_at port name rs k r inside is this)
