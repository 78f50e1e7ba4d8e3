-- What the deletions of a visit are served by: the pair from which on they are, and the rows that they take.
use Rattle.std.specs.Prelude.{◌≡◌, ℕ, ◌≤◌, true, false, List, Option, Some, None}
use Rattle.hrt_base.specs.declared.numbered.PairNo.{PairNo}
use Rattle.pb_rows.specs.Formula.{NumberedRow}
use Rattle.rank_tables.specs.Numbers.{is_in}
use Rattle.rank_tables.specs.Instance.{Lists}
use Rattle.rank_tables.specs.Tables.{IsPairNo}
use Rattle.derivation.specs.Deletions.{is_deleted}
use Rattle.pair_reduction.specs.declared.sides.Side.{Side}
use Rattle.pair_reduction.specs.declared.sides.Side.TheVariants.{Resident, Hospital}
use Rattle.pair_reduction.specs.declared.known.Known.{Known}
use Rattle.pair_reduction.specs.Flags.{is_marked}
use Rattle.pair_reduction.specs.Known.{marks_on}
use Rattle.pair_reduction.specs.Reduced.{HasOffers}
use Rattle.pair_reduction.specs.Sides.{is_passed, list_of, other, rank_on}

-- the rows by which pair w is deleted are live: rule A takes no more than the unit rows, rule B the offers of as many residents as
-- the hospital has posts
abbrev pub IsServed : Side → Lists → List NumberedRow → ℕ → Type 0
IsServed Resident lists live w = Unit {0}
IsServed Hospital lists live w = HasOffers lists w live

-- a pair of a list that is to be deleted: it is passed and isn't gone
pub record IsDue (side : Side) (lists : Lists) (known : Known) (n p : ℕ) : Type 0 where
  pub number : IsPairNo lists p
  pub list : list_of side lists p ≡ n
  pub passed : is_passed side lists (is_marked (marks_on (other side) known)) p ≡ true
  pub left : is_deleted known.gone p ≡ false

-- the first of some pairs to be deleted, by rank
pub record IsFirst (side : Side) (lists : Lists) (known : Known) (n : ℕ) (ps : List ℕ) (p : ℕ) : Type 0 where
  pub due : IsDue side lists known n p
  pub least : (w : ℕ) → is_in w ps ≡ true → IsDue side lists known n w → rank_on side lists p ≤ rank_on side lists w

-- the first of some pairs to be deleted, where one is to be
abbrev pub FirstOf : Side → Lists → Known → ℕ → List ℕ → Option PairNo → Type 0
FirstOf side lists known n ps None = (w : ℕ) → is_in w ps ≡ true → IsDue side lists known n w → ⊥
FirstOf side lists known n ps (Some p) = IsFirst side lists known n ps p.0
