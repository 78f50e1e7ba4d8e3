-- How a model and a proof follow each other on their ports.
use Rattle.std.proofs.Common.{◌≡◌, ℕ, List, length, sym, ap, ◌∙◌, subst, inr}
use Rattle.std.proofs.lemmas.List.{length-map}
use Rattle.hrt_base.specs.declared.numbered.PairNo.{PairNo}
use Rattle.hrt_base.specs.declared.port.Port.{Port}
use Rattle.hrt_base.specs.declared.port.Port.TheVariants.{Model as ModelPort, Proof as ProofPort}
use Rattle.hrt_base.specs.World.{World}
use Rattle.hrt_base.specs.Calls.{NotWritten, Sent, SentFront}
use Rattle.hrt_base.proofs.Pieces.{sent_failed}
use Rattle.rank_tables.specs.Instance.{Lists}
use Rattle.rank_tables.specs.Tables.{numbers_of}
use Rattle.promotion_heuristic.specs.Promotion.{promotion}
use Rattle.opb_text.specs.Spelling.{model_text}
use Rattle.hrt_base.proofs.Fronts.{part_front}
use Rattle.hrt_solve.specs.declared.ends.BoundEnd.{BoundEnd}
use Rattle.hrt_solve.specs.declared.ends.SolveEnd.{SolveEnd}
use Rattle.hrt_solve.specs.Gauged.{AreNumbersOf, IsMost, bound_claim, found_claim}
use Rattle.hrt_solve.specs.Writing.{IsBoundText, IsBounded, IsProof, IsQuickText, IsQuickEnd, IsSolvedQuickly, SentBoth, SentInPart, SentWhole, StopsWriting}

-- ---- one text

pub seal_failed : (told : Type 0) (port : Port) (text : List ℕ) (w v u : World) → Sent told port text w v → NotWritten told v u → SentFront told port text w u
seal_failed told port text w v u sent failed = part_front told port text w u (sent_failed told port text w v u sent failed)

-- ---- two texts

pub sent_both : (told : Type 0) (lists : Lists) (text : List ℕ) (w v u : World) → SentWhole told ModelPort (model_text lists) w v → SentWhole told ProofPort text v u → SentBoth told lists text w u
sent_both told lists text w v u first second = record { between = v; model = first; proof = second }

pub front_behind : (told : Type 0) (lists : Lists) (text : List ℕ) (w v u : World) → SentWhole told ModelPort (model_text lists) w v → SentFront told ProofPort text v u → SentInPart told lists text w u
front_behind told lists text w v u first second = inr (record { between = v; model = first; proof = second })

-- ---- the jobs

pub in_part : (told : Type 0) (Is : Lists → List ℕ → Type 0) (lists seen : Lists) (text : List ℕ) (w u : World) → seen ≡ lists → Is seen text → SentInPart told seen text w u → StopsWriting told (Is lists) lists w u
in_part told Is lists seen text w u same is part = subst (λ (l : Lists). StopsWriting told (Is l) l w u) same (inr (record { text = text; is = is; sent = part }))

pub bound_text : (seen : Lists) (end : BoundEnd) (text : List ℕ) → AreNumbersOf seen end.deleted end.ceiling → IsProof seen text (bound_claim end.ceiling) 0 → IsBoundText seen text
bound_text seen end text numbers proof = record { deleted = end.deleted; top = end.ceiling; numbers = numbers; is_proof = proof }

-- the promotion's matching has as many pairs as are listed
promoted : (lists : Lists) (pairs : List PairNo) → numbers_of pairs ≡ promotion lists → length pairs ≡ length (promotion lists)
promoted lists pairs is = sym (length-map pairs (λ p. p.0)) ∙ ap length is

pub quick_text : (seen : Lists) (end : SolveEnd) (text : List ℕ) → IsQuickEnd seen end → IsProof seen text (found_claim end.ceiling (length end.pairs.items)) end.conflicts → IsQuickText seen text
quick_text seen end text said proof = record {
  deleted = end.deleted;
  top = end.ceiling;
  numbers = said.numbers;
  is_proof = subst (λ (n : ℕ). IsProof seen text (found_claim end.ceiling n) 0) (promoted seen end.pairs.items said.pairs_are) (subst (λ (n : ℕ). IsProof seen text (found_claim end.ceiling (length end.pairs.items)) n) said.conflicts_are proof);
}

pub bounds : (told : Type 0) (lists seen : Lists) (end : BoundEnd) (text : List ℕ) (w u : World) → seen ≡ lists → AreNumbersOf seen end.deleted end.ceiling → IsMost seen end.ceiling → IsProof seen text (bound_claim end.ceiling) 0 →
    SentBoth told seen text w u → IsBounded told lists end w u
bounds told lists seen end text w u same numbers most proof sent =
    subst (λ (l : Lists). IsBounded told l end w u) same (record { numbers = numbers; most = most; proof = record { text = text; is_proof = proof; sent = sent } })

pub solves : (told : Type 0) (lists seen : Lists) (end : SolveEnd) (text : List ℕ) (w u : World) → seen ≡ lists → IsQuickEnd seen end → IsProof seen text (found_claim end.ceiling (length end.pairs.items)) end.conflicts →
    SentBoth told seen text w u → IsSolvedQuickly told lists end w u
solves told lists seen end text w u same said proof sent =
    subst (λ (l : Lists). IsSolvedQuickly told l end w u) same (record { said = said; proof = record { text = text; is_proof = proof; sent = sent } })
