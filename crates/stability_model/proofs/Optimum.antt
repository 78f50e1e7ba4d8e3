-- A weakly stable matching, in whatever order it is written, is a point at which all rows hold.
use Rattle.std.proofs.Common.{◌≡◌, ℕ, true, List, length, ◌∙◌}
use Rattle.rank_tables.specs.Numbers.{is_distinct}
use Rattle.rank_tables.specs.Instance.{Lists}
use Rattle.rank_tables.specs.Stability.{is_weakly_stable}
use Rattle.stability_model.specs.Model.{all_rows_hold, pairs_of_point, point_of_pairs}
use Rattle.rank_tables.proofs.Membership.{Matching, are_pairs, in_order_length, in_order_stable, stable_parts}
use Rattle.stability_model.proofs.ModelExact.{ModelExact}

-- ---- a list of distinct pairs, in any order, and the list of its point

pub length_of_point : (lists : Lists) (m : List ℕ) → is_distinct m ≡ true → are_pairs lists m ≡ true → length (pairs_of_point lists (point_of_pairs m)) ≡ length m
length_of_point lists m d r = in_order_length lists m d r

-- the rows at the point of a list of distinct pairs
pub ListExact : (lists : Lists) (m : List ℕ) → is_distinct m ≡ true → are_pairs lists m ≡ true → all_rows_hold lists (point_of_pairs m) ≡ is_weakly_stable lists m
ListExact lists m d r = ModelExact lists (point_of_pairs m) ∙ in_order_stable lists m d r

-- a weakly stable list is a point at which all rows hold
pub point_of_stable : (lists : Lists) (m : List ℕ) → is_weakly_stable lists m ≡ true → all_rows_hold lists (point_of_pairs m) ≡ true
point_of_stable lists m h = let parts : Matching lists m = stable_parts lists m h in ListExact lists m parts.distinct parts.in_range ∙ h
