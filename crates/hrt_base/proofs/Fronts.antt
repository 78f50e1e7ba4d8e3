-- Texts of which a front was sent.
use Rattle.std.proofs.Common.{◌≡◌, ℕ, ◌+◌, min, List, ◌++◌, length, take, sym, subst, ◌∙◌, arith, Result, Ok, Err, OnErr}
use Rattle.std.proofs.lemmas.List.{take-append-le, take_min}
use Rattle.std.proofs.Math.Seq.{take-append-add}
use Rattle.hrt_base.specs.declared.port.Port.{Port}
use Rattle.hrt_base.specs.World.{World}
use Rattle.hrt_base.specs.Calls.{Sent, SentFront, SentPart, SentSoFar}
use Rattle.hrt_base.proofs.Pieces.{sent_none, sent_so_far, sent_then}

pub none_front : (told : Type 0) (port : Port) (text : List ℕ) (w : World) → SentFront told port text w w
none_front told port text w = record { front = (0, sent_so_far told port _ w w (sent_none told port w)) }

pub part_front : (told : Type 0) (port : Port) (text : List ℕ) (w u : World) → SentPart told port text w u → SentFront told port text w u
part_front told port text w u part = record { front = part.part }

pub front_then : (told : Type 0) (port : Port) (a b : List ℕ) (w v u : World) → Sent told port a w v → SentFront told port b v u → SentFront told port (a ++ b) w u
front_then told port a b w v u first second =
    let k = second.front.0 in
    record { front = (length a + k, subst (λ (l : List ℕ). SentSoFar told port l w u) (sym (take-append-add a b k)) (sent_then told port a (take k b) w v u first second.front.1)) }

pub front_longer : (told : Type 0) (port : Port) (a b : List ℕ) (w u : World) → SentFront told port a w u → SentFront told port (a ++ b) w u
front_longer told port a b w u first =
    let k = first.front.0 in
    let n = min k (length a) in
    let same : take k a ≡ take n (a ++ b) = sym (take_min k a) ∙ sym (take-append-le n a b (omega arith)) in
    record { front = (n, subst (λ (l : List ℕ). SentSoFar told port l w u) same first.front.1) }

-- a text begins with another
pub record BeginsWith (front whole : List ℕ) : Type 0 where
  pub rest : List ℕ
  pub is : whole ≡ front ++ rest

pub front_of : (told : Type 0) (port : Port) (a whole : List ℕ) (w u : World) → BeginsWith a whole → SentFront told port a w u → SentFront told port whole w u
front_of told port a whole w u begins front = subst (λ (l : List ℕ). SentFront told port l w u) (sym begins.is) (front_longer told port a begins.rest w u front)

-- ---- what is so after any refusal

pub on_err : {A E : Type 0} (r : Result A E) (P : Type 0) → P → OnErr r P
on_err (Ok x) P h = tt
on_err (Err e) P h = h

pub sent_as : (told : Type 0) (port : Port) (a b : List ℕ) (w u : World) → a ≡ b → Sent told port a w u → Sent told port b w u
sent_as told port a b w u same sent = subst (λ (l : List ℕ). Sent told port l w u) same sent

pub front_as : (told : Type 0) (port : Port) (a b : List ℕ) (w u : World) → a ≡ b → SentFront told port a w u → SentFront told port b w u
front_as told port a b w u same front = subst (λ (l : List ℕ). SentFront told port l w u) same front
