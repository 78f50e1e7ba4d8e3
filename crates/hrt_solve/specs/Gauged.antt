-- What the deletion rules and the ceiling come to for an instance, and what a proof claims of it.
pub use Rattle.matching_log.specs.Logged.{value_of}
use Rattle.std.specs.Prelude.{◌≡◌, ◌≤◌, ℕ, List, length, count_by, IsTrue, Option, Some, None}
use Rattle.hrt_base.specs.declared.numbered.RowNo.{RowNo}
use Rattle.pb_rows.specs.Formula.{row_of}
use Rattle.rank_tables.specs.Numbers.{numbers_to}
use Rattle.rank_tables.specs.Instance.{Lists, pair_count}
use Rattle.rank_tables.specs.Stability.{is_weakly_stable}
use Rattle.stability_model.specs.Gone.{AreGone, Pairs}
use Rattle.proof_lines.specs.declared.line.Claim.{Claim}
use Rattle.proof_lines.specs.declared.line.Claim.TheVariants.{Bounds}
use Rattle.derivation.specs.Derived.{Derived}
use Rattle.capacity_bound.specs.Ceiling.{IsCeiling}
use Rattle.matching_log.specs.Logged.{ceiling_row}

-- so many pairs are gone, and this is the ceiling
pub record AreNumbersOf (lists : Lists) (deleted top : ℕ) : Type 0 where
  pub gone : Pairs
  pub are : AreGone lists gone
  pub deleted_is : deleted ≡ count_by gone (numbers_to (pair_count lists))
  pub ceiling_is : IsCeiling lists top

-- no weakly stable matching has more than n pairs
abbrev pub IsMost : Lists → ℕ → Type 0
IsMost lists n = (m : List ℕ) → IsTrue (is_weakly_stable lists m) → length m ≤ n

-- ---- claims

-- the claim that no weakly stable matching has more than n pairs
abbrev pub bound_claim : ℕ → Claim
bound_claim n = Bounds (Some (value_of n)) None

-- the claim that no weakly stable matching has more than n pairs, and that one has at least `size`
abbrev pub found_claim : ℕ → ℕ → Claim
found_claim n size = Bounds (Some (value_of n)) (Some (value_of size))

-- ---- derivations

-- the row of this number is live and says that the objective is at least -n; without a number the instance has no pair
abbrev pub HasBoundRow : Lists → ℕ → Option RowNo → Derived → Type 0
HasBoundRow lists n None d = pair_count lists ≡ 0
HasBoundRow lists n (Some id) d = row_of id.0 d.state.live ≡ Some (ceiling_row lists n)

-- a derivation that shows the bound, and isn't concluded
pub record IsGauged (lists : Lists) (n : ℕ) (id : Option RowNo) (d : Derived) : Type 0 where
  pub lists_are : d.lists ≡ lists
  pub unconcluded : d.claim ≡ None
  pub bound : HasBoundRow lists n id d
