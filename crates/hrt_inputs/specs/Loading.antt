-- What the loading of an instance and of pairs comes to.
use Rattle.std.specs.Prelude.{◌≡◌, ◌⊎◌, ℕ, List, [], Some, Result, Ok, Err}
use Rattle.hrt_base.specs.declared.port.Port.{Port}
use Rattle.hrt_base.specs.declared.port.Port.TheVariants.{Instance, Pairs}
use Rattle.hrt_base.specs.declared.host.Begun.TheVariants.{Reading}
use Rattle.hrt_base.specs.Calls.{Rose}
use Rattle.hrt_base.specs.World.{World, put, with_rest}
use Rattle.rank_tables.specs.Instance.{Lists}
use Rattle.hrt_reader.specs.Kinds.{number}
use Rattle.hrt_reader.specs.PairsAnswer.{pairs_number}
use Rattle.hrt_inputs.specs.declared.limit.Limit.{Limit}
use Rattle.hrt_inputs.specs.declared.limit.Limit.TheVariants.{InstanceBytes, PairsBytes}
use Rattle.hrt_inputs.specs.declared.stop.Stop.{Stop}
use Rattle.hrt_inputs.specs.declared.stop.Stop.TheVariants.{Refused, Exceeded, PairsRefused, ModelRefused, ProofRefused, ReadFault, NoMemory}
use Rattle.hrt_inputs.specs.Inputs.{OnlyRead}
use Rattle.hrt_inputs.specs.Rejections.{Rejection, refused, exceeded, pairs_refused}
use Rattle.hrt_inputs.specs.Taken.{pairs_in, taken_lists}

-- the lists of a text could not be had, and this is why
abbrev pub StopsText : Result Lists Rejection → Stop → Type 0
StopsText lists (Refused kind line) = lists ≡ Err (refused (record { line = line; kind = number kind }))
StopsText lists (Exceeded limit) = lists ≡ Err (exceeded limit)
StopsText lists (PairsRefused kind line) = ⊥
StopsText lists (ModelRefused kind line) = ⊥
StopsText lists (ProofRefused refusal) = ⊥
StopsText lists ReadFault = ⊥
StopsText lists NoMemory = Unit {0}

-- a file was read to its end on a port with no call failed, and its bytes are read as this value
pub record IsRead {A : Type 0} (told : Type 0) (port : Port) (name : List ℕ) (read : List ℕ → Result A Rejection) (value : A) (old new : World) : Type 0 where
  pub only_read : OnlyRead told old new
  pub read_faults : new.read_faults ≡ old.read_faults
  pub begun : new.begun ≡ put port Reading old.begun
  pub content : told → new.content ≡ with_rest port [] old.content
  pub spelled : told → (bytes : List ℕ) × (old.content.file name ≡ Some bytes) × (read bytes ≡ Ok value)

-- a file was read on a port to its end, or further than its limit, with no call failed, and is not taken
pub record IsNotTaken {A : Type 0} (told : Type 0) (port : Port) (name : List ℕ) (limit : Limit) (read : List ℕ → Result A Rejection) (rejection : Rejection) (old new : World) : Type 0 where
  pub only_read : OnlyRead told old new
  pub read_faults : new.read_faults ≡ old.read_faults
  pub begun : new.begun ≡ put port Reading old.begun
  pub content : told → new.content ≡ with_rest port (new.content.rest port) old.content
  pub out : told → (new.content.rest port ≡ []) ⊎ (rejection ≡ exceeded limit)
  pub due : told → (bytes : List ℕ) × (old.content.file name ≡ Some bytes) × (read bytes ≡ Err rejection)

-- the file spells these lists, which have no more pairs and terms than are taken
abbrev pub IsLoaded : (told : Type 0) → List ℕ → Lists → World → World → Type 0
IsLoaded told name lists old new = IsRead told Instance name taken_lists lists old new

-- the file is no instance that is taken
abbrev pub IsRejected : (told : Type 0) → List ℕ → Rejection → World → World → Type 0
IsRejected told name rejection old new = IsNotTaken told Instance name InstanceBytes taken_lists rejection old new

-- reading failed
pub record FailedToRead (told : Type 0) (old new : World) : Type 0 where
  pub only_read : OnlyRead told old new
  pub rose : Rose old.read_faults new.read_faults

-- the lists of a file could not be had, and this is why
abbrev pub StopsLoading : (told : Type 0) → List ℕ → Stop → World → World → Type 0
StopsLoading told name (Refused kind line) old new = IsRejected told name (refused (record { line = line; kind = number kind })) old new
StopsLoading told name (Exceeded what) old new = IsRejected told name (exceeded what) old new
StopsLoading told name (PairsRefused kind line) old new = ⊥
StopsLoading told name (ModelRefused kind line) old new = ⊥
StopsLoading told name (ProofRefused refusal) old new = ⊥
StopsLoading told name ReadFault old new = FailedToRead told old new
StopsLoading told name NoMemory old new = OnlyRead told old new

-- ---- pairs

-- the pairs of a text could not be had, and this is why
abbrev pub StopsPairsText : Result (List ℕ) Rejection → Stop → Type 0
StopsPairsText pairs (Refused kind line) = ⊥
StopsPairsText pairs (Exceeded limit) = ⊥
StopsPairsText pairs (PairsRefused kind line) = pairs ≡ Err (pairs_refused (record { line = line; kind = pairs_number kind }))
StopsPairsText pairs (ModelRefused kind line) = ⊥
StopsPairsText pairs (ProofRefused refusal) = ⊥
StopsPairsText pairs ReadFault = ⊥
StopsPairsText pairs NoMemory = Unit {0}

-- the file spells these pairs of the instance
abbrev pub ArePairsLoaded : (told : Type 0) → List ℕ → Lists → List ℕ → World → World → Type 0
ArePairsLoaded told name lists pairs old new = IsRead told Pairs name (pairs_in lists) pairs old new

-- the file is no text of pairs of the instance that is taken
abbrev pub ArePairsRejected : (told : Type 0) → List ℕ → Lists → Rejection → World → World → Type 0
ArePairsRejected told name lists rejection old new = IsNotTaken told Pairs name PairsBytes (pairs_in lists) rejection old new

-- the pairs of a file could not be had, and this is why
abbrev pub StopsLoadingPairs : (told : Type 0) → List ℕ → Lists → Stop → World → World → Type 0
StopsLoadingPairs told name lists (Refused kind line) old new = ⊥
StopsLoadingPairs told name lists (Exceeded what) old new = ArePairsRejected told name lists (exceeded what) old new
StopsLoadingPairs told name lists (PairsRefused kind line) old new = ArePairsRejected told name lists (pairs_refused (record { line = line; kind = pairs_number kind })) old new
StopsLoadingPairs told name lists (ModelRefused kind line) old new = ⊥
StopsLoadingPairs told name lists (ProofRefused refusal) old new = ⊥
StopsLoadingPairs told name lists ReadFault old new = FailedToRead told old new
StopsLoadingPairs told name lists NoMemory old new = OnlyRead told old new
