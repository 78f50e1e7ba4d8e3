-- A letter and a number are a name.
use Rattle.std.proofs.Common.{◌≡◌, ◌+◌, ◌%◌, ◌<◌, ◌≤◌, ℕ, Bool, true, false, ◌&&◌, [], ◌∷◌, length, refl, ◌∙◌, arith, nat_eq, nat_le}
use Rattle.std.specs.Prelude.{◌^◌, decimal}
use Rattle.std.specs.List.{list_all}
use Rattle.std.proofs.lemmas.Bool.Decides.{nat_tests}
use Rattle.std.proofs.lemmas.Fmt.{decimal_by_steps, length-decimal-le}
use Rattle.std.proofs.lemmas.List.Folds.{list_all-append}
use Rattle.rank_tables.specs.Names.{is_name, is_name_byte}

digit_byte : (d : ℕ) → d < 10 → is_name_byte (48 + d) ≡ true
digit_byte d h =
    let low : nat_le 33 (48 + d) ≡ true = grind (arith, nat_tests) in
    let high : nat_le (48 + d) 126 ≡ true = grind (arith, nat_tests) in
    let colon : nat_eq (48 + d) 58 ≡ false = grind (arith, nat_tests) in
    let opening : nat_eq (48 + d) 40 ≡ false = grind (arith, nat_tests) in
    let closing : nat_eq (48 + d) 41 ≡ false = grind (arith, nat_tests) in
    let comment : nat_eq (48 + d) 35 ≡ false = grind (arith, nat_tests) in
    rw (low, high, colon, opening, closing, comment) refl

both : (a b : Bool) → a ≡ true → b ≡ true → (a && b) ≡ true
both a b x y = rw (x, y) refl

digits_bytes : (n : ℕ) → n < 2 ^ 64 → list_all is_name_byte (decimal n) ≡ true
digits_bytes n small =
    decimal_by_steps (λ _ ds. list_all is_name_byte ds ≡ true)
    (λ m h. both (is_name_byte (48 + m)) true (digit_byte m h) refl)
    (λ m ds h rest. list_all-append is_name_byte ds ((48 + m % 10) ∷ [])
    ∙ both (list_all is_name_byte ds) (is_name_byte (48 + m % 10) && true) rest (both (is_name_byte (48 + m % 10)) true (digit_byte (m % 10) (omega arith)) refl))
    n small

pub number_name : (letter n : ℕ) → is_name_byte letter ≡ true → n < 2 ^ 32 → is_name (letter ∷ decimal n) ≡ true
number_name letter n h small =
    let short : length (decimal n) ≤ 10 = length-decimal-le 10 n (omega arith) (omega (arith, small)) (omega (arith, small)) in
    let some : nat_le 1 (length (letter ∷ decimal n)) ≡ true = grind (arith, nat_tests) in
    let few : nat_le (length (letter ∷ decimal n)) 64 ≡ true = grind (arith, nat_tests) in
    both (nat_le 1 (length (letter ∷ decimal n)) && nat_le (length (letter ∷ decimal n)) 64) (list_all is_name_byte (letter ∷ decimal n))
    (both _ _ some few) (both (is_name_byte letter) (list_all is_name_byte (decimal n)) h (digits_bytes n (omega (arith, small))))
