-- What writing a model and a proof of it does to a host.
use Rattle.std.specs.Prelude.{◌≡◌, ◌⊎◌, ◌==◌, ℕ, List, length, IsTrue}
use Rattle.hrt_base.specs.declared.port.Port.{Port}
use Rattle.hrt_base.specs.declared.port.Port.TheVariants.{Model as ModelPort, Proof as ProofPort}
use Rattle.hrt_base.specs.declared.host.Begun.TheVariants.{Idle}
use Rattle.hrt_base.specs.World.{World, appended, put, sealed}
use Rattle.rank_tables.specs.Instance.{Lists}
use Rattle.rank_tables.specs.Stability.{is_weakly_stable}
use Rattle.rank_tables.specs.Tables.{numbers_of}
use Rattle.stability_model.specs.Model.{formula}
use Rattle.hrt_base.specs.Calls.{SentFront}
use Rattle.opb_text.specs.Spelling.{model_text}
use Rattle.proof_lines.specs.declared.line.Claim.{Claim}
use Rattle.proof_rules.specs.Texts.{IsValidText}
use Rattle.proof_rules.specs.Told.{AreTrueNotes, held_by}
use Rattle.derivation.specs.Traces.{IsLawfulProof}
use Rattle.promotion_heuristic.specs.Promotion.{promotion}
use Rattle.hrt_solve.specs.declared.ends.BoundEnd.{BoundEnd}
use Rattle.hrt_solve.specs.declared.ends.SolveEnd.{SolveEnd}
use Rattle.hrt_solve.specs.Gauged.{AreNumbersOf, IsMost, bound_claim, found_claim}

-- a text was written on a port, which was then sealed
pub record SentWhole (told : Type 0) (port : Port) (text : List ℕ) (old new : World) : Type 0 where
  pub read_faults : new.read_faults ≡ old.read_faults
  pub write_faults : new.write_faults ≡ old.write_faults
  pub begun : new.begun ≡ put port Idle old.begun
  pub content : told → new.content ≡ sealed port (appended port text old.content)

-- the model was written and sealed, and then a text
pub record SentBoth (told : Type 0) (lists : Lists) (text : List ℕ) (old new : World) : Type 0 where
  pub between : World
  pub model : SentWhole told ModelPort (model_text lists) old between
  pub proof : SentWhole told ProofPort text between new

-- the model was written and sealed, and then a front of a text
pub record SentFrontBehind (told : Type 0) (lists : Lists) (text : List ℕ) (old new : World) : Type 0 where
  pub between : World
  pub model : SentWhole told ModelPort (model_text lists) old between
  pub proof : SentFront told ProofPort text between new

-- a front of the model was written, or the whole and then a front of a text
abbrev pub SentInPart : (told : Type 0) → Lists → List ℕ → World → World → Type 0
SentInPart told lists text old new = SentFront told ModelPort (model_text lists) old new ⊎ SentFrontBehind told lists text old new

-- ---- proofs

-- The text is a valid proof of the model with this claim. Its notes are true, its lines keep the law of a written proof, and it says of
-- so many rows that they were learned.
pub record IsProof (lists : Lists) (text : List ℕ) (claim : Claim) (learned : ℕ) : Type 0 where
  pub valid : IsValidText (formula lists) text claim
  pub notes_true : AreTrueNotes lists text
  pub lawful : IsLawfulProof lists text
  pub learned_are : (held_by lists text).learn_notes ≡ learned

-- the model was written, and a proof of it
pub record WritesProof (told : Type 0) (lists : Lists) (claim : Claim) (learned : ℕ) (old new : World) : Type 0 where
  pub text : List ℕ
  pub is_proof : IsProof lists text claim learned
  pub sent : SentBoth told lists text old new

-- the model was written in part, or whole and then in part a text of which this holds
pub record WritesInPart (told : Type 0) (Is : List ℕ → Type 0) (lists : Lists) (old new : World) : Type 0 where
  pub text : List ℕ
  pub is : Is text
  pub sent : SentInPart told lists text old new

-- nothing was done, or the model and such a text were written in part
abbrev pub StopsWriting : (told : Type 0) → (List ℕ → Type 0) → Lists → World → World → Type 0
StopsWriting told Is lists old new = (new ≡ old) ⊎ WritesInPart told Is lists old new

-- ---- the jobs

-- the text is a proof that no weakly stable matching is larger than the ceiling
pub record IsBoundText (lists : Lists) (text : List ℕ) : Type 0 where
  pub deleted : ℕ
  pub top : ℕ
  pub numbers : AreNumbersOf lists deleted top
  pub is_proof : IsProof lists text (bound_claim top) 0

-- the text is a proof that no weakly stable matching is larger than the ceiling, and that one is as large as the promotion's
pub record IsQuickText (lists : Lists) (text : List ℕ) : Type 0 where
  pub deleted : ℕ
  pub top : ℕ
  pub numbers : AreNumbersOf lists deleted top
  pub is_proof : IsProof lists text (found_claim top (length (promotion lists))) 0

-- the numbers are the instance's, no weakly stable matching is larger than the ceiling, and the written proof says so
pub record IsBounded (told : Type 0) (lists : Lists) (end : BoundEnd) (old new : World) : Type 0 where
  pub numbers : AreNumbersOf lists end.deleted end.ceiling
  pub most : IsMost lists end.ceiling
  pub proof : WritesProof told lists (bound_claim end.ceiling) 0 old new

-- what is said of an instance without a search: its numbers, and the promotion's matching, which is best where it is as
-- large as the ceiling
pub record IsQuickEnd (lists : Lists) (end : SolveEnd) : Type 0 where
  pub numbers : AreNumbersOf lists end.deleted end.ceiling
  pub most : IsMost lists end.ceiling
  pub pairs_are : numbers_of end.pairs.items ≡ promotion lists
  pub stable : IsTrue (is_weakly_stable lists (numbers_of end.pairs.items))
  pub first_is : end.first ≡ length end.pairs.items
  pub conflicts_are : end.conflicts ≡ 0
  pub best_is : end.best ≡ (length end.pairs.items == end.ceiling)

-- the instance's numbers and the promotion's matching are told, and the model and a proof of them were written
pub record IsSolvedQuickly (told : Type 0) (lists : Lists) (end : SolveEnd) (old new : World) : Type 0 where
  pub said : IsQuickEnd lists end
  pub proof : WritesProof told lists (found_claim end.ceiling (length end.pairs.items)) end.conflicts old new
