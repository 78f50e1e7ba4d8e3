-- What a valid proof of an instance's model says of matchings.
use Rattle.std.specs.Prelude.{ℕ, List, length, IsTrue, ℤ, pos, neg_ℤ, ◌≤ℤ◌, Option, Some, None}
use Rattle.rank_tables.specs.Instance.{Lists}
use Rattle.rank_tables.specs.Stability.{is_weakly_stable}
use Rattle.stability_model.specs.Model.{formula}
use Rattle.proof_lines.specs.declared.line.Claim.{Claim}
use Rattle.proof_lines.specs.declared.line.Claim.TheVariants.{Bounds, Unsat, Nothing}
use Rattle.proof_rules.specs.Texts.{IsValidText}

-- no weakly stable matching has more than -l pairs, if there is an l: the objective, minus the number of pairs, is at least l
abbrev pub NoneIsLarger : Lists → Option ℤ → Type 0
NoneIsLarger lists None = Unit {0}
NoneIsLarger lists (Some l) = (m : List ℕ) → IsTrue (is_weakly_stable lists m) → pos (length m) ≤ℤ neg_ℤ l

-- some weakly stable matching has at least -u pairs, if there is a u: the objective is at most u there
abbrev pub OneIsAsLarge : Lists → Option ℤ → Type 0
OneIsAsLarge lists None = Unit {0}
OneIsAsLarge lists (Some u) = (m : List ℕ) × IsTrue (is_weakly_stable lists m) × (neg_ℤ u ≤ℤ pos (length m))

-- what the claim says of weakly stable matchings is so: the bounds on their numbers of pairs, that there is none, or nothing
abbrev pub SaysOfMatchings : Lists → Claim → Type 0
SaysOfMatchings lists (Bounds lower upper) = NoneIsLarger lists lower × OneIsAsLarge lists upper
SaysOfMatchings lists Unsat = (m : List ℕ) → IsTrue (is_weakly_stable lists m) → ⊥
SaysOfMatchings lists Nothing = Unit {0}

-- whatever bytes are a valid proof of the model, what its claim says of matchings is so
abbrev pub VerifiedBounds : Type 0
VerifiedBounds = (lists : Lists) (bytes : List ℕ) (claim : Claim) → IsValidText (formula lists) bytes claim → SaysOfMatchings lists claim
