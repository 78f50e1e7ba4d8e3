-- What reading files does to a host.
use Rattle.std.specs.Prelude.{◌≡◌, ◌⊎◌, ◌≤◌, ◌<◌, ◌↔◌, ℕ, List, [], length, Some}
use Rattle.hrt_base.specs.declared.port.Port.{Port}
use Rattle.hrt_base.specs.declared.host.Begun.TheVariants.{Reading, Writing}
use Rattle.hrt_base.specs.declared.failure.ReadEnd.{ReadEnd}
use Rattle.hrt_base.specs.declared.failure.ReadEnd.TheVariants as end
use Rattle.hrt_base.specs.World.{World, Content, put, with_rest}
use Rattle.hrt_inputs.specs.declared.limit.Limit.{Limit}
use Rattle.hrt_inputs.specs.declared.stop.Stop.{Stop}
use Rattle.hrt_inputs.specs.declared.stop.Stop.TheVariants.{Exceeded, NoMemory, ReadFault}

-- the content but for what is left to read
abbrev pub but_for_rest : Content → Content → Content
but_for_rest old new = record { name = old.name; rest = new.rest; sent = old.sent; file = old.file }

-- Nothing but reading was done. The ports that are begun for writing are those that were.
pub record OnlyRead (told : Type 0) (old new : World) : Type 0 where
  pub later : old.read_faults ≤ new.read_faults
  pub write_faults : new.write_faults ≡ old.write_faults
  pub writers : (p : Port) → (new.begun p ≡ Writing) ↔ (old.begun p ≡ Writing)
  pub content : told → new.content ≡ but_for_rest old.content new.content

-- a file was read to its end on a port, and no call failed
pub record WasRead (told : Type 0) (port : Port) (name bytes : List ℕ) (old new : World) : Type 0 where
  pub only_read : OnlyRead told old new
  pub read_faults : new.read_faults ≡ old.read_faults
  pub begun : new.begun ≡ put port Reading old.begun
  pub file : told → old.content.file name ≡ Some bytes
  pub content : told → new.content ≡ with_rest port [] old.content

-- a file has more bytes than the limit, and no call failed; how far it was read isn't told
pub record IsTooLong (told : Type 0) (port : Port) (name : List ℕ) (limit : ℕ) (old new : World) : Type 0 where
  pub only_read : OnlyRead told old new
  pub read_faults : new.read_faults ≡ old.read_faults
  pub begun : new.begun ≡ put port Reading old.begun
  pub file : told → (bytes : List ℕ) × (old.content.file name ≡ Some bytes) × (limit < length bytes)
  pub content : told → new.content ≡ with_rest port (new.content.rest port) old.content

-- this port was begun for reading, or none was begun
pub record BeginsAtMost (port : Port) (old new : World) : Type 0 where
  pub begun : (new.begun ≡ old.begun) ⊎ (new.begun ≡ put port Reading old.begun)

-- it is this port
abbrev pub IsAt : Port → Port → Type 0
IsAt port p = p ≡ port

-- of every port but these the name, what is left to read and what was sent are as they were
pub record KeepsPorts (told : Type 0) (But : Port → Type 0) (old new : World) : Type 0 where
  pub name : told → (p : Port) → (But p → ⊥) → new.content.name p ≡ old.content.name p
  pub rest : told → (p : Port) → (But p → ⊥) → new.content.rest p ≡ old.content.rest p
  pub sent : told → (p : Port) → (But p → ⊥) → new.content.sent p ≡ old.content.sent p

-- why a file was not read, where this is the limit on its bytes
abbrev pub unread : ReadEnd → Limit → Stop
unread end.TooLong limit = Exceeded limit
unread end.Failed limit = ReadFault
unread end.NoMemory limit = NoMemory
