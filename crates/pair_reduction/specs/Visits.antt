-- What trying a pair of a list does, on a visit of the list.
use Rattle.std.specs.Prelude.{◌≡◌, ℕ, ◌≤◌, true}
use Rattle.rank_tables.specs.Instance.{Lists}
use Rattle.derivation.specs.Deletions.{is_deleted}
use Rattle.pair_reduction.specs.declared.sides.Side.{Side}
use Rattle.pair_reduction.specs.declared.known.Known.{Known}
use Rattle.pair_reduction.specs.Flags.{is_marked}
use Rattle.pair_reduction.specs.Known.{IsKept, Pays, marks_on, waiting_on}
use Rattle.pair_reduction.specs.Sides.{is_free, is_passed, other}

-- pair p was tried: it is marked if it is free
pub record TriesMark (side : Side) (lists : Lists) (old new : Known) (p : ℕ) : Type 0 where
  pub kept : IsKept lists new
  pub pays : Pays old new
  pub gone : new.gone ≡ old.gone
  pub unmarked : marks_on (other side) new ≡ marks_on (other side) old
  pub rests : waiting_on side new ≡ waiting_on side old
  pub grows : (q : ℕ) → 1 ≤ q → is_marked (marks_on side old) q ≡ true → is_marked (marks_on side new) q ≡ true
  pub done : is_free side lists (is_deleted old.gone) p ≡ true → is_marked (marks_on side new) p ≡ true

-- pair w was tried: it is deleted if it is passed
pub record TriesDelete (side : Side) (lists : Lists) (old new : Known) (w : ℕ) : Type 0 where
  pub kept : IsKept lists new
  pub pays : Pays old new
  pub unmarked : (s : Side) → marks_on s new ≡ marks_on s old
  pub rests : waiting_on side new ≡ waiting_on side old
  pub grows : (q : ℕ) → is_deleted old.gone q ≡ true → is_deleted new.gone q ≡ true
  pub done : is_passed side lists (is_marked (marks_on (other side) old)) w ≡ true → is_deleted new.gone w ≡ true
