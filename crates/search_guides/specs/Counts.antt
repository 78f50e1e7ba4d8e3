-- In how many told rows a variable occurred.
use Rattle.std.specs.Prelude.{ℕ, ◌+◌, ◌-◌, ◌/◌, ◌^◌, ◌==◌, ◌||◌, if◌then◌else◌, nat_lt, List, [], ◌∷◌, length, map, slice_index, slice_set}
use Rattle.hrt_base.specs.declared.literal.Term.{Term}
use Rattle.search_guides.specs.Restarts.{Tallies}

-- what a guide by activity shows: in how many told rows each variable occurred, from variable 1 on, and its tallies
pub record Activity : Type 0 where
  pub counts : List ℕ
  pub tallies : Tallies

-- every count halved
abbrev pub halved : List ℕ → List ℕ
halved counts = map (λ n. n / 2) counts

-- the counts are halved where this one of them reaches 2^32
abbrev pub kept_small : ℕ → List ℕ → List ℕ
kept_small n counts = if nat_lt n (2 ^ 32) then counts else halved counts

-- one more for a variable of the table
abbrev pub raised : ℕ → List ℕ → List ℕ
raised v counts =
    if v == 0 || nat_lt (length counts) v then counts
    else kept_small (slice_index counts (v - 1) + 1) (slice_set counts (v - 1) (slice_index counts (v - 1) + 1))

-- one more for each variable of a row, one after another
abbrev pub counted : List Term → List ℕ → List ℕ
counted [] counts = counts
counted (t ∷ ts) counts = counted ts (raised t.lit.var counts)
