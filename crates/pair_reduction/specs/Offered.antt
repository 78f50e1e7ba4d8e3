-- The offers that were made for the reduction: their rows stay live until it ends.
use Rattle.std.specs.Prelude.{◌≡◌, ℕ, ◌-◌, ◌≤◌, Bool, true, ◌&&◌, nat_lt, List, ◌++◌, length, Some}
use Rattle.hrt_base.specs.declared.numbered.RowNo.{RowNo}
use Rattle.pb_rows.specs.Formula.{NumberedRow, row_of}
use Rattle.rank_tables.specs.Instance.{Lists, pair_count, rank_by_hospital}
use Rattle.rank_tables.specs.Tables.{IsPairNo}
use Rattle.derivation.specs.Deletions.{Deletions}
use Rattle.derivation.specs.Derived.{Derived}
use Rattle.pair_reduction.specs.declared.offered.Offers.{Offers}
use Rattle.pair_reduction.specs.Flags.{flag_count, is_marked}
use Rattle.pair_reduction.specs.Offers.{offer_row}
use Rattle.pair_reduction.specs.Reduced.{Reduces}

-- the row of each offer that is recorded is live, and there are as many rows as recorded offers
pub record AreOffers (lists : Lists) (live : List NumberedRow) (offers : Offers) : Type 0 where
  pub places : length offers.offered.items ≡ pair_count lists
  pub rows : (q : ℕ) → IsPairNo lists q → is_marked offers.offered.items q ≡ true → (n : ℕ) × (row_of n live ≡ Some (offer_row lists q))
  pub count : length offers.made.items ≡ flag_count offers.offered.items

-- pairs were deleted, by the offers from before and by some that were made for it
pub record ReducesBy (lists : Lists) (old new : Derived) (before after : Deletions) (had has : Offers) : Type 0 where
  pub made : List RowNo
  pub more : has.made.items ≡ had.made.items ++ made
  pub reduces : Reduces lists old new before after made
  pub offers : AreOffers lists new.state.live has
  pub stay : (q : ℕ) → 1 ≤ q → is_marked had.offered.items q ≡ true → is_marked has.offered.items q ≡ true

-- how many offers weren't made yet
abbrev pub offers_left : Lists → Offers → ℕ
offers_left lists offers = pair_count lists - length offers.made.items

-- whether q is marked and has a smaller rank with its hospital than p with its own; for pairs of one hospital: it strictly
-- prefers q to p
abbrev pub is_offering : Lists → List Bool → ℕ → ℕ → Bool
is_offering lists only p q = nat_lt (rank_by_hospital lists q) (rank_by_hospital lists p) && is_marked only q
