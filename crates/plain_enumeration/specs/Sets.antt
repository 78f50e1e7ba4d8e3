-- Sets of pairs, each known by a number.
use Rattle.std.specs.Prelude.{ℕ, ◌-◌, Bool, ◌==◌, List, filter}
use Rattle.std.specs.Int.{bit_at}
use Rattle.rank_tables.specs.Numbers.{numbers_to}

-- the most pairs of an instance whose sets are all tried
abbrev pub most_pairs_tried : ℕ
most_pairs_tried = 12

-- whether pair p is in the set of this number: its bit p - 1 is 1
abbrev pub is_member : ℕ → ℕ → Bool
is_member set p = bit_at set (p - 1) == 1

-- the pairs from 1 to the count that are in the set, rising
abbrev pub members : ℕ → ℕ → List ℕ
members set count = filter (is_member set) (numbers_to count)
