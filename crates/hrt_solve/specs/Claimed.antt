-- What must stand before a proof is ended with a claim, and what it is then.
use Rattle.std.specs.Prelude.{◌≡◌, ◌<◌, ℕ, Bool, true, false, List}
use Rattle.hrt_base.specs.declared.numbered.PairNo.{PairNo}
use Rattle.rank_tables.specs.Instance.{Lists}
use Rattle.stability_model.specs.Model.{formula}
use Rattle.proof_lines.specs.declared.line.Claim.{Claim}
use Rattle.proof_lines.specs.declared.line.Line.TheVariants.{Conclusion}
use Rattle.proof_rules.specs.Claims.{Shows}
use Rattle.derivation.specs.Derived.{Derived, StaysValid}
use Rattle.derivation.specs.Steps.{IsWritable, concluded}
use Rattle.lazy_stability.specs.Laws.{AreRowsLazy}
use Rattle.pb_search.specs.declared.found.Found.{Found}
use Rattle.pb_search.specs.declared.found.Found.TheVariants.{Best, Bounded}
use Rattle.pb_search.specs.Knowing.{HasContradiction}
use Rattle.pb_search.specs.Moves.{IsSpent}
use Rattle.hrt_solve.specs.Lawful.{IsLawfulSoFar}
use Rattle.hrt_solve.specs.Writing.{IsProof}

-- the derivation stands for the empty text with the law, and shows the claim, which can be written
pub record CanClaim (lists : Lists) (claim : Claim) (d : Derived) : Type 0 where
  pub lists_are : d.lists ≡ lists
  pub so_far : IsLawfulSoFar lists d
  pub shown : Shows (formula lists) d.state claim
  pub writable : IsWritable (Conclusion claim)

-- the proof was ended; where it stood for the empty text, what is pending is the whole of it, and rows of pairs are held by its load notes alone
pub record EndsProof (lists : Lists) (claim : Claim) (old new : Derived) : Type 0 where
  pub is : new ≡ concluded claim old
  pub valid : StaysValid old new
  pub is_proof : IsProof lists new.pending claim old.held.learn_notes
  pub lazy : AreRowsLazy lists new.pending

-- ---- what a search found

-- the pairs that were found, and whether they are best
abbrev pub AreParts : Found → List PairNo → Bool → Type 0
AreParts (Best found) pairs best = (pairs ≡ found.items) × (best ≡ true)
AreParts (Bounded found) pairs best = (pairs ≡ found.items) × (best ≡ false)

-- why the search ended at a matching of so many pairs: it is best, as a row that holds nowhere shows, or the budget is spent
abbrev pub EndsAt : ℕ → ℕ → ℕ → Derived → Bool → Type 0
EndsAt budget top size d true = HasContradiction d
EndsAt budget top size d false = (size < top) × IsSpent budget d
