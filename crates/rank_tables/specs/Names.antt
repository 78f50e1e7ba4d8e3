-- What a name is.
use Rattle.std.specs.Prelude.{ℕ, Bool, true, not, ◌&&◌, ◌||◌, ◌==◌, nat_le, List, [], ◌∷◌, length, bytes_eq}
use Rattle.std.specs.List.{list_all, list_any}

-- a byte from 33 to 126, or from 128 on, that is none of : ( ) #
abbrev pub is_name_byte : ℕ → Bool
is_name_byte b =
    (nat_le 33 b && nat_le b 126 || nat_le 128 b && nat_le b 255)
    && not (b == 58) && not (b == 40) && not (b == 41) && not (b == 35)

-- 1 to 64 such bytes
abbrev pub is_name : List ℕ → Bool
is_name bytes = nat_le 1 (length bytes) && nat_le (length bytes) 64 && list_all is_name_byte bytes

-- whether the name is one of these
abbrev pub is_among : List ℕ → List (List ℕ) → Bool
is_among name names = list_any (bytes_eq name) names

-- whether no name is one of them twice
abbrev pub are_apart : List (List ℕ) → Bool
are_apart [] = true
are_apart (name ∷ names) = not (is_among name names) && are_apart names
