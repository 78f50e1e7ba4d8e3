-- What a solve comes to: a search behind the first matching, unless that is as large as the ceiling.
use Rattle.std.specs.Prelude.{◌≡◌, ◌≤◌, ◌<◌, ◌^◌, ◌-◌, ℕ, Bool, true, false, if◌then◌else◌, List, ◌++◌, length, IsTrue}
use Rattle.std.specs.List.Sorted.{IsStrictlyIncreasing}
use Rattle.hrt_base.specs.World.{World}
use Rattle.pb_rows.specs.Closure.{Refuted, none}
use Rattle.rank_tables.specs.Instance.{Lists, pair_count}
use Rattle.rank_tables.specs.Stability.{Best, is_weakly_stable}
use Rattle.rank_tables.specs.Tables.{numbers_of}
use Rattle.proof_lines.specs.declared.line.Claim.{Claim}
use Rattle.proof_rules.specs.States.{State}
use Rattle.proof_rules.specs.Valid.{Proving}
use Rattle.proof_rules.specs.Held.{Held, held_rows}
use Rattle.proof_rules.specs.Told.{Tells, learned_rows, notes_of}
use Rattle.derivation.specs.Steps.{end_lines}
use Rattle.promotion_heuristic.specs.Promotion.{promotion}
use Rattle.conflict_bound.specs.Conflicts.{AreLater}
use Rattle.lazy_stability.specs.Laws.{AreRowsLazy}
use Rattle.hrt_solve.specs.declared.ends.SolveEnd.{SolveEnd}
use Rattle.hrt_solve.specs.Gauged.{AreNumbersOf, IsMost, found_claim}
use Rattle.hrt_solve.specs.Writing.{IsProof, SentBoth}

-- ---- the written proof

-- each row that the text learns is later than the one before it
abbrev pub LearnsLater : Lists → List ℕ → Type 0
LearnsLater lists text = AreLater (pair_count lists) (learned_rows (notes_of lists text))

-- propagation alone doesn't refute the rows that are held where the text makes its claim
pub record LeavesOpen (lists : Lists) (text : List ℕ) : Type 0 where
  pub front : List ℕ
  pub claim : Claim
  pub is : text ≡ front ++ end_lines claim
  pub state : State
  pub held : Held
  pub tells : Tells lists front (Proving state) held
  pub unrefuted : Refuted (held_rows state.live held) none → ⊥

-- what is claimed of a matching of so many pairs: that none is larger, where it is best, or that none is larger than the ceiling
abbrev pub solve_claim : Bool → ℕ → ℕ → Claim
solve_claim best top size = if best then found_claim size size else found_claim top size

-- The text is the proof of a solve. Its load notes are honest, and no row of a pair is held without one. It learns rows, each later than
-- the one before it: at most 2^n - 1 of n pairs, and no more than the budget allows. Where it doesn't show that its matching is best, it
-- learns as many as the budget allows, and leaves open whether a larger one exists.
pub record IsSolveProof (lists : Lists) (budget top size learned : ℕ) (best : Bool) (text : List ℕ) : Type 0 where
  pub is_proof : IsProof lists text (solve_claim best top size) learned
  pub lazy : AreRowsLazy lists text
  pub later : LearnsLater lists text
  pub few : learned ≤ 2 ^ pair_count lists - 1
  pub within : learned ≤ budget
  pub spent : best ≡ false → learned ≡ budget
  pub left_open : best ≡ false → LeavesOpen lists text

-- the text is the proof of some solve with this budget
pub record IsSolveText (lists : Lists) (budget : ℕ) (text : List ℕ) : Type 0 where
  pub deleted : ℕ
  pub top : ℕ
  pub numbers : AreNumbersOf lists deleted top
  pub size : ℕ
  pub learned : ℕ
  pub best : Bool
  pub is_proof : IsSolveProof lists budget top size learned best text

-- ---- what is told

-- the first matching is as large as the ceiling: it is told, and nothing was searched
pub record IsFirst (lists : Lists) (end : SolveEnd) : Type 0 where
  pub pairs_are : numbers_of end.pairs.items ≡ promotion lists
  pub conflicts_are : end.conflicts ≡ 0
  pub best : IsTrue end.best

-- The numbers are the instance's, and the pairs are a weakly stable matching, rising. It is best, or shorter than the ceiling, which no
-- weakly stable matching passes. With a budget of 2^n or more, n the number of pairs, it is best.
pub record IsSolveEnd (lists : Lists) (budget : ℕ) (end : SolveEnd) : Type 0 where
  pub numbers : AreNumbersOf lists end.deleted end.ceiling
  pub most : IsMost lists end.ceiling
  pub first_is : end.first ≡ length (promotion lists)
  pub unsearched : end.first ≡ end.ceiling → IsFirst lists end
  pub stable : IsTrue (is_weakly_stable lists (numbers_of end.pairs.items))
  pub rising : IsStrictlyIncreasing (numbers_of end.pairs.items)
  pub best : end.best ≡ true → Best lists (numbers_of end.pairs.items)
  pub shorter : end.best ≡ false → length end.pairs.items < end.ceiling
  pub settles : 2 ^ pair_count lists ≤ budget → IsTrue end.best

-- the numbers and the matching are told, and the model and the proof of them were written
pub record IsSolved (told : Type 0) (lists : Lists) (budget : ℕ) (end : SolveEnd) (old new : World) : Type 0 where
  pub said : IsSolveEnd lists budget end
  pub text : List ℕ
  pub is_proof : IsSolveProof lists budget end.ceiling (length end.pairs.items) end.conflicts end.best text
  pub sent : SentBoth told lists text old new
