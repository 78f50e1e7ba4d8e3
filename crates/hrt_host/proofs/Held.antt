-- What a change at one seat does to what the host is to the program.
use Rattle.std.proofs.Common.{◌≡◌, ℕ, ◌<◌, List, [], ◌++◌, length, get_or, set, refl, sym, ◌∙◌, ap, ap₂, arith, Some, None, Option, if◌then◌else◌, ◌==◌}
use Rattle.hrt_base.specs.declared.port.Port.{Port}
use Rattle.hrt_base.specs.declared.host.Begun.{Begun}
use Rattle.hrt_base.specs.declared.host.Begun.TheVariants.{Idle, Reading, Writing}
use Rattle.hrt_base.specs.World.{port_no, put}
use Rattle.hrt_base.specs.Calls.{Opened, Started, Taken, Sent}
use Rattle.hrt_base.proofs.Pieces.{put_here, put_back}
use Rattle.hrt_host.specs.Seat.{at_place, bytes_at, name_at, file_of, begun_of, rest_of, kept, sent_by, name_by, left_of, left_at, StandsAs, Grown, Roomier}
use Rattle.hrt_host.specs.Memory.{memory_content, memory_begun, memory_left, world_of}
use Rattle.hrt_host.specs.declared.file.File.{File}
use Rattle.hrt_host.specs.declared.seat.Stand.{Stand}
use Rattle.hrt_host.specs.declared.seat.Stand.TheVariants.{Idle as at_rest, Reading as reads, Writing as writes}
use Rattle.hrt_host.specs.declared.seat.Seat.{Seat}
use Rattle.hrt_host.proofs.Places.{at_place_or, at_place_set}
use Rattle.hrt_host.proofs.Standing.{idle_left, idle_rest, reading_left, written}

-- f of each port's seat
abbrev pub seat_map : {B : Type 0} → (Seat → B) → B → List Seat → Port → B
seat_map f d seats p = at_place f d seats (port_no p)

-- one seat is set
module _ (files : List File) (seats : List Seat) (port : Port) (i : ℕ) (r x : Seat) (at : i ≡ port_no port) (inside : i < length seats) where
  abbrev pub s : Seat
  s = get_or seats i r

  pub place_put : {B : Type 0} (f : Seat → B) (d : B) → seat_map f d (set seats i x) ≡ put port (f x) (seat_map f d seats)
  place_put f d k p = (at_place_set f d seats i x (port_no p) inside ∙ ap (λ (n : ℕ). if port_no p == n then f x else at_place f d seats (port_no p)) at) k

  pub place_was : {B : Type 0} (f : Seat → B) (d : B) → seat_map f d seats port ≡ f s
  place_was f d = ap (λ (n : ℕ). at_place f d seats n) (sym at) ∙ at_place_or f d seats i r inside

  pub place_is : {B : Type 0} (f : Seat → B) (d : B) → seat_map f d (set seats i x) port ≡ f x
  place_is f d = (λ k. place_put f d k port) ∙ put_here port (f x) (seat_map f d seats)

  pub place_kept : {B : Type 0} (f : Seat → B) (d : B) → f x ≡ f s → seat_map f d (set seats i x) ≡ seat_map f d seats
  place_kept {B} f d same =
      place_put f d ∙ ap (λ (b : B). put port b (seat_map f d seats)) (same ∙ sym (place_was f d)) ∙ put_back port (seat_map f d seats)

  pub same_sent : x.file ≡ s.file → x.sealed_at ≡ s.sealed_at → sent_by files x ≡ sent_by files s
  same_sent file last = ap₂ (λ (f : File) (o : Option ℕ). kept bytes_at files f.bytes.items o) file last

  pub same_name : x.file ≡ s.file → x.sealed_at ≡ s.sealed_at → name_by files x ≡ name_by files s
  same_name file last = ap₂ (λ (f : File) (o : Option ℕ). kept name_at files f.name.items o) file last

  pub was_begun : {b : Begun} → memory_begun seats port ≡ b → begun_of s.stand ≡ b
  was_begun was = sym (place_was (λ q. begun_of q.stand) Idle) ∙ was

  pub read_taken : (r w : ℕ) (bytes : List ℕ) → StandsAs s x → rest_of files s.stand ≡ bytes ++ rest_of files x.stand
      → Taken (Unit {0}) port bytes (world_of r w files seats) (world_of r w files (set seats i x))
  read_taken r w bytes same front =
      let rest = λ (q : Seat). rest_of files q.stand in
      record {
        read_faults = refl;
        write_faults = refl;
        begun = place_kept (λ q. begun_of q.stand) Idle same.begun;
        front = λ _. place_was rest [] ∙ front ∙ ap (λ (l : List ℕ). bytes ++ l) (sym (place_is rest []));
        content = λ _ k. record {
          name = place_kept (name_by files) [] (same_name same.file same.sealed_at) k;
          rest = (place_put rest [] ∙ ap (λ (l : List ℕ). put port l (seat_map rest [] seats)) (sym (place_is rest []))) k;
          sent = place_kept (sent_by files) [] (same_sent same.file same.sealed_at) k;
          file = file_of files;
        };
      }

  pub rest_was : (memory_content files seats).rest port ≡ rest_of files s.stand
  rest_was = place_was (λ q. rest_of files q.stand) []

  -- nothing is left to a port that is not written
  pub read_left : memory_begun seats port ≡ Reading → StandsAs s x → memory_left (set seats i x) ≡ memory_left seats
  read_left was same =
      let before = was_begun was in
      place_kept left_of 0 (reading_left x.stand x.file.room (same.begun ∙ before) ∙ sym (reading_left s.stand s.file.room before))

  pub write_sent : (r w : ℕ) (bytes : List ℕ) → Grown bytes s x → s.sealed_at ≡ None → Sent (Unit {0}) port bytes (world_of r w files seats) (world_of r w files (set seats i x))
  write_sent r w bytes grown here =
      let sent : sent_by files x ≡ sent_by files s ++ bytes = rw (grown.sealed_at, here) grown.bytes in
      let name : name_by files x ≡ name_by files s = rw (grown.sealed_at, here) grown.name in
      record {
        read_faults = refl;
        write_faults = refl;
        begun = place_kept (λ q. begun_of q.stand) Idle (ap begun_of grown.stand);
        content = λ _ k. record {
          name = place_kept (name_by files) [] name k;
          rest = place_kept (λ q. rest_of files q.stand) [] (ap (rest_of files) grown.stand) k;
          sent = (place_put (sent_by files) [] ∙ ap (λ (l : List ℕ). put port l (seat_map (sent_by files) [] seats)) (sent ∙ ap (λ (l : List ℕ). l ++ bytes) (sym (place_was (sent_by files) [])))) k;
          file = file_of files;
        };
      }

  pub left_was : memory_begun seats port ≡ Writing → memory_left seats port ≡ s.file.room
  left_was was = place_was left_of 0 ∙ ap (λ (t : Stand). left_at t s.file.room) (written s.stand (was_begun was))

  pub left_put : x.stand ≡ writes → memory_left (set seats i x) ≡ put port x.file.room (memory_left seats)
  left_put is = place_put left_of 0 ∙ ap (λ (t : Stand). put port (left_at t x.file.room) (memory_left seats)) is

  pub left_none : x.stand ≡ at_rest → memory_left (set seats i x) ≡ put port 0 (memory_left seats)
  left_none is = place_put left_of 0 ∙ ap (λ (t : Stand). put port (left_at t x.file.room) (memory_left seats)) is

  pub left_idle : memory_begun seats port ≡ Idle → (file : ℕ) → x.stand ≡ reads file 0 → memory_left (set seats i x) ≡ memory_left seats
  left_idle was file is = place_kept left_of 0 (ap (λ (t : Stand). left_at t x.file.room) is ∙ sym (idle_left s.stand s.file.room (was_begun was)))

  pub roomier_world : (r w more : ℕ) → Roomier more s x → world_of r w files (set seats i x) ≡ world_of r w files seats
  roomier_world r w more same k = record {
    read_faults = r;
    write_faults = w;
    begun = place_kept (λ q. begun_of q.stand) Idle (ap begun_of same.stand) k;
    content = record {
      name = place_kept (name_by files) [] (ap₂ (kept name_at files) same.name same.sealed_at) k;
      rest = place_kept (λ q. rest_of files q.stand) [] (ap (rest_of files) same.stand) k;
      sent = place_kept (sent_by files) [] (ap₂ (kept bytes_at files) same.bytes same.sealed_at) k;
      file = file_of files;
    };
  }

  pub roomier_left : Roomier 0 s x → memory_left (set seats i x) ≡ memory_left seats
  roomier_left same = let room : x.file.room ≡ s.file.room = omega (arith, same.room) in place_kept left_of 0 (ap₂ left_at same.stand room)

  pub read_opened : (r w file : ℕ) (name : List ℕ) → memory_begun seats port ≡ Idle → x.stand ≡ reads file 0 → x.file ≡ s.file → x.sealed_at ≡ s.sealed_at → file_of files name ≡ Some (bytes_at files file)
      → Opened (Unit {0}) port name (world_of r w files seats) (world_of r w files (set seats i x))
  read_opened r w file name was stand own last found = record {
    read_faults = refl;
    write_faults = refl;
    begun = place_put (λ q. begun_of q.stand) Idle ∙ ap (λ (t : Stand). put port (begun_of t) (memory_begun seats)) stand;
    content = λ _. (
      bytes_at files file,
      found,
      λ k. record {
        name = place_kept (name_by files) [] (same_name own last) k;
        rest = (place_put (λ q. rest_of files q.stand) [] ∙ ap (λ (t : Stand). put port (rest_of files t) (memory_content files seats).rest) stand) k;
        sent = place_kept (sent_by files) [] (same_sent own last) k;
        file = file_of files;
      },
    );
  }

  pub write_started : (r w : ℕ) (f : File) (name : List ℕ) → memory_begun seats port ≡ Idle → x.stand ≡ writes → x.file ≡ f → x.sealed_at ≡ None → f.name.items ≡ name → f.bytes.items ≡ []
      → Started (Unit {0}) port name (world_of r w files seats) (world_of r w files (set seats i x))
  write_started r w f name was stand own here named empty =
      let c = memory_content files seats in
      let name_now : name_by files x ≡ name = rw (here, own) named in
      let sent_now : sent_by files x ≡ [] = rw (here, own) empty in
      record {
        read_faults = refl;
        write_faults = refl;
        begun = place_put (λ q. begun_of q.stand) Idle ∙ ap (λ (t : Stand). put port (begun_of t) (memory_begun seats)) stand;
        content = λ _ k. record {
          name = (place_put (name_by files) [] ∙ ap (λ (l : List ℕ). put port l c.name) name_now) k;
          rest = place_kept (λ q. rest_of files q.stand) [] (ap (rest_of files) stand ∙ sym (idle_rest files s.stand (was_begun was))) k;
          sent = (place_put (sent_by files) [] ∙ ap (λ (l : List ℕ). put port l c.sent) sent_now) k;
          file = file_of files;
        };
      }

pub sent_at : (files : List File) (seats : List Seat) (port : Port) (i : ℕ) (q : Seat) → i ≡ port_no port → i < length seats → (memory_content files seats).sent port ≡ sent_by files (get_or seats i q)
sent_at files seats port i q at inside = place_was files seats port i q q at inside (sent_by files) []
