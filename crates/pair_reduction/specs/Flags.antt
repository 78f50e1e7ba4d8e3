-- Flags of lists and of pairs.
use Rattle.std.specs.Prelude.{◌≡◌, ℕ, ◌-◌, Bool, true, false, List, count_by, slice_index_or}
use Rattle.rank_tables.specs.Numbers.{is_in}

-- each number that waits is in the stack
abbrev pub AreStacked : List Bool → List ℕ → Type 0
AreStacked flags stack = (n : ℕ) → slice_index_or flags n false ≡ true → is_in n stack ≡ true

-- whether list n waits
abbrev pub is_waiting : List Bool → ℕ → Bool
is_waiting flags n = slice_index_or flags n false

-- whether pair p is marked
abbrev pub is_marked : List Bool → ℕ → Bool
is_marked flags p = slice_index_or flags (p - 1) false

-- how many flags are set
abbrev pub flag_count : List Bool → ℕ
flag_count flags = count_by (λ b. b) flags
