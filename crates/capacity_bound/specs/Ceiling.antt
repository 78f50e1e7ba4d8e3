-- What the ceiling says.
use Rattle.std.specs.Prelude.{◌≡◌, ℕ, ◌≤◌, List, length, IsTrue, IsFalse}
use Rattle.rank_tables.specs.Numbers.{is_in}
use Rattle.rank_tables.specs.Instance.{Lists}
use Rattle.rank_tables.specs.Stability.{is_matching}
use Rattle.stability_model.specs.Gone.{AreGone, Pairs, ceiling}

-- no matching all of whose pairs are outside the set has more than n pairs
pub record BoundsMatchings (lists : Lists) (gone : Pairs) (n : ℕ) : Type 0 where
  pub each : (m : List ℕ) → IsTrue (is_matching lists m) → ((p : ℕ) → IsTrue (is_in p m) → IsFalse (gone p)) → length m ≤ n

-- n is the ceiling of the instance: that of whichever set holds exactly the pairs that are gone
pub record IsCeiling (lists : Lists) (n : ℕ) : Type 0 where
  pub of_each : (gone : Pairs) → AreGone lists gone → n ≡ ceiling lists gone
