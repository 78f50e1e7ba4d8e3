-- What a seat, which is a port of a host in memory, has left to read, has written and has room for.
use Rattle.std.specs.Prelude.{◌≡◌, ◌≢◌, ℕ, zero, suc, ◌+◌, Bool, true, false, ◌&&◌, List, [], ◌∷◌, ◌++◌, length, drop, Option, Some, None, is_none, if◌then◌else◌, ◌==◌, bytes_eq, nat_lt}
use Rattle.hrt_base.specs.declared.host.Begun.{Begun}
use Rattle.hrt_base.specs.declared.host.Begun.TheVariants.{Idle, Reading, Writing}
use Rattle.hrt_host.specs.declared.file.File.{File}
use Rattle.hrt_host.specs.declared.seat.Stand.{Stand}
use Rattle.hrt_host.specs.declared.seat.Stand.TheVariants.{Idle as at_rest, Reading as reads, Writing as writes}
use Rattle.hrt_host.specs.declared.seat.Seat.{Seat}

-- f of the element at a place, or a default
abbrev pub at_place : {A B : Type 0} → (A → B) → B → List A → ℕ → B
at_place f d [] i = d
at_place f d (x ∷ xs) zero = f x
at_place f d (x ∷ xs) (suc i) = at_place f d xs i

-- the bytes of the file at a place, and none where there is no file
abbrev pub bytes_at : List File → ℕ → List ℕ
bytes_at files k = at_place (λ f. f.bytes.items) [] files k

-- the name of the file at a place, and the empty one where there is no file
abbrev pub name_at : List File → ℕ → List ℕ
name_at files k = at_place (λ f. f.name.items) [] files k

-- the first, if there is one, or else the other
abbrev pub or_else : Option (List ℕ) → Option (List ℕ) → Option (List ℕ)
or_else (Some x) o = Some x
or_else None o = o

-- the bytes of a file where this is its name and isn't empty, else none
abbrev pub answer : File → List ℕ → Option (List ℕ)
answer f n = if length f.name.items == 0 then None else if bytes_eq n f.name.items then Some f.bytes.items else None

-- the newest file of a name
abbrev pub file_of : List File → List ℕ → Option (List ℕ)
file_of [] n = None
file_of (f ∷ fs) n = or_else (file_of fs n) (answer f n)

-- how a port stands
abbrev pub begun_of : Stand → Begun
begun_of at_rest = Idle
begun_of (reads file taken) = Reading
begun_of writes = Writing

-- whether a port is begun for writing
abbrev pub is_writing : Begun → Bool
is_writing Idle = false
is_writing Reading = false
is_writing Writing = true

-- what is left to read
abbrev pub rest_of : List File → Stand → List ℕ
rest_of files at_rest = []
rest_of files (reads file taken) = drop taken (bytes_at files file)
rest_of files writes = []

-- what is in the seat, or in the file that was sealed
abbrev pub kept : (List File → ℕ → List ℕ) → List File → List ℕ → Option ℕ → List ℕ
kept at files here None = here
kept at files here (Some k) = at files k

-- what was written at a seat
abbrev pub sent_by : List File → Seat → List ℕ
sent_by files s = kept bytes_at files s.file.bytes.items s.sealed_at

-- the name under which a seat was written
abbrev pub name_by : List File → Seat → List ℕ
name_by files s = kept name_at files s.file.name.items s.sealed_at

-- the room that is left, where the seat is written
abbrev pub left_at : Stand → ℕ → ℕ
left_at at_rest room = 0
left_at (reads file taken) room = 0
left_at writes room = room

-- the room that is left at a seat: none unless it is written
abbrev pub left_of : Seat → ℕ
left_of s = left_at s.stand s.file.room

-- whether the file that was sealed, if one was, is below n
abbrev pub named_below : ℕ → Option ℕ → Bool
named_below n None = true
named_below n (Some k) = nat_lt k n

-- whether the file that is read, if one is, is below n
abbrev pub reads_below : ℕ → Stand → Bool
reads_below n at_rest = true
reads_below n (reads file taken) = nat_lt file n
reads_below n writes = true

-- whether a seat that is written is written at its own file and not at one that was sealed
abbrev pub writes_here : Option ℕ → Stand → Bool
writes_here sealed_at at_rest = true
writes_here sealed_at (reads file taken) = true
writes_here sealed_at writes = is_none sealed_at

-- whether a seat names only files below n and, where it is written, is written at its own file
abbrev pub seat_below : ℕ → Seat → Bool
seat_below n s = named_below n s.sealed_at && (reads_below n s.stand && writes_here s.sealed_at s.stand)

-- the same of all seats
abbrev pub all_below : ℕ → List Seat → Bool
all_below n [] = true
all_below n (s ∷ ss) = seat_below n s && all_below n ss

-- 1 where a seat that stands so is written and this name isn't empty, and else 0
abbrev pub writer_at : Stand → List ℕ → ℕ
writer_at at_rest name = 0
writer_at (reads file taken) name = 0
writer_at writes name = if length name == 0 then 0 else 1

-- 1 where a seat is written under a name, and else 0
abbrev pub writer_of : Seat → ℕ
writer_of s = writer_at s.stand s.file.name.items

-- how many of the seats are written under a name
abbrev pub writers : List Seat → ℕ
writers [] = 0
writers (s ∷ ss) = writer_of s + writers ss

-- but for what it has left to read, a seat is as it was
pub record StandsAs (old new : Seat) : Type 0 where
  pub begun : begun_of new.stand ≡ begun_of old.stand
  pub file : new.file ≡ old.file
  pub sealed_at : new.sealed_at ≡ old.sealed_at
  pub below : (n : ℕ) → reads_below n new.stand ≡ reads_below n old.stand

-- these bytes were appended at a seat, into its room
pub record Grown (more : List ℕ) (old new : Seat) : Type 0 where
  pub stand : new.stand ≡ old.stand
  pub sealed_at : new.sealed_at ≡ old.sealed_at
  pub name : new.file.name.items ≡ old.file.name.items
  pub bytes : new.file.bytes.items ≡ old.file.bytes.items ++ more
  pub room : new.file.room + length more ≡ old.file.room

-- a seat was given more room
pub record Roomier (more : ℕ) (old new : Seat) : Type 0 where
  pub stand : new.stand ≡ old.stand
  pub sealed_at : new.sealed_at ≡ old.sealed_at
  pub name : new.file.name.items ≡ old.file.name.items
  pub bytes : new.file.bytes.items ≡ old.file.bytes.items
  pub room : new.file.room ≡ old.file.room + more

-- what was written at a seat became the newest file, or stays where it has no name
pub record Finished (old new : Seat) (before after : List File) : Type 0 where
  pub stand : new.stand ≡ at_rest
  pub filed : length old.file.name.items ≢ 0 → (after ≡ before ++ old.file ∷ []) × (new.sealed_at ≡ Some (length before))
  pub nameless : length old.file.name.items ≡ 0 → (after ≡ before) × (new.sealed_at ≡ old.sealed_at) × (new.file ≡ old.file)
