-- Numbers and literals, of any size.
use Rattle.std.specs.Prelude.{ℕ, ◌^◌, min, Bool, true, false, ◌==◌, nat_le, nat_abs, if◌then◌else◌, List, [], ◌∷◌, length, ℤ, pos, neg_ℤ, Option, Some, None, option_map}
use Rattle.std.specs.Str.{all_ascii_digits}
use Rattle.std.specs.Str.Parse.{digits_value}
use Rattle.hrt_base.specs.declared.literal.Lit.{Lit}

-- one digit or more
abbrev pub read_digits : List ℕ → Option ℕ
read_digits [] = None
read_digits (b ∷ bytes) = if all_ascii_digits (b ∷ bytes) then Some (digits_value 10 (b ∷ bytes)) else None

-- an optional sign and digits
abbrev pub read_number : List ℕ → Option ℤ
read_number [] = None
read_number (b ∷ bytes) =
    if b == 45 then option_map (λ n. neg_ℤ (pos n)) (read_digits bytes)
    else if b == 43 then option_map pos (read_digits bytes)
    else option_map pos (read_digits (b ∷ bytes))

-- digits without a leading zero
abbrev pub read_positive : List ℕ → Option ℕ
read_positive [] = None
read_positive (b ∷ bytes) = if b == 48 then None else read_digits (b ∷ bytes)

-- the number of a row: at most 18 digits
abbrev pub read_id : List ℕ → Option ℕ
read_id bytes = if nat_le (length bytes) 18 then read_positive bytes else None

-- `x` and a number. One above 4,294,967,295 is read as that.
abbrev pub read_variable : List ℕ → Option ℕ
read_variable [] = None
read_variable (b ∷ bytes) = if b == 120 then option_map (λ v. min v 4294967295) (read_positive bytes) else None

-- a variable, or its opposite behind `~`
abbrev pub read_literal : List ℕ → Option Lit
read_literal [] = None
read_literal (b ∷ bytes) =
    if b == 126 then option_map (λ v. record { var = v; neg = true }) (read_variable bytes)
    else option_map (λ v. record { var = v; neg = false }) (read_variable (b ∷ bytes))

-- ---- sizes

-- within 2^120, on either side of 0
abbrev pub is_small : ℤ → Bool
is_small z = nat_le (nat_abs z) (2 ^ 120)

-- ---- lists of tokens that are all read

-- two things that were read, joined; None where either was not
abbrev pub both : {A B C : Type 0} → (A → B → C) → Option A → Option B → Option C
both join None second = None
both join (Some a) None = None
both join (Some a) (Some b) = Some (join a b)

-- what the tokens read as, in order; None where one of them isn't read
abbrev pub read_each : {A : Type 0} → (List ℕ → Option A) → List (List ℕ) → Option (List A)
read_each read [] = Some []
read_each read (t ∷ ts) = both (λ x xs. x ∷ xs) (read t) (read_each read ts)
