-- How many rows a search may learn.
use Rattle.std.specs.Prelude.{Bool, ◌&&◌, nat_le, ℕ, ◌^◌, List, length, Option, Some, None, if◌then◌else◌}
use Rattle.std.specs.Str.{all_ascii_digits}
use Rattle.std.specs.Str.Parse.{digits_value}

-- the most that words can say
abbrev pub most_conflicts : ℕ
most_conflicts = 10 ^ 12

-- what is meant where they say nothing
abbrev pub usual_conflicts : ℕ
usual_conflicts = 1000000

-- a number is one to twenty digits and nothing else
abbrev pub is_number : List ℕ → Bool
is_number word = nat_le 1 (length word) && nat_le (length word) 20 && all_ascii_digits word

-- the number that the word is, unless it is greater than this
abbrev pub number_up_to : ℕ → List ℕ → Option ℕ
number_up_to most word = if is_number word && nat_le (digits_value 10 word) most then Some (digits_value 10 word) else None
