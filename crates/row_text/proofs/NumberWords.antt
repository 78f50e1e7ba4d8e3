-- Numbers, variables and literals are read back from what is written for them.
use Rattle.std.proofs.Common.{◌≡◌, ℕ, suc, ◌-◌, ◌^◌, ◌<◌, ◌≤◌, min, ℤ, pos, negsuc, neg_ℤ, nat_abs, Bool, true, false, eqb, List, [], ◌∷◌, ◌++◌, length, get_or, Some, refl, ap, ◌∙◌, arith}
use Rattle.std.specs.Prelude.{codes, decimal, option_map}
use Rattle.std.specs.Fmt.{signed_decimal}
use Rattle.std.specs.List.{list_all}
use Rattle.std.specs.Str.{all_ascii_digits}
use Rattle.std.specs.Str.Parse.{digits_value}
use Rattle.std.proofs.lemmas.Bool.{and_parts, le-leb, leb-true}
use Rattle.std.proofs.lemmas.Bool.Decides.{nat_tests}
use Rattle.std.proofs.lemmas.Fmt.{decimal_is_IsNumeral_wide, first_decimal, length-decimal-le}
use Rattle.std.proofs.lemmas.Str.Parse.{IsNumeralModel, numerals_by_value, tells_all_ascii_digits}
use Rattle.hrt_base.specs.declared.literal.Lit.{Lit}
use Rattle.row_text.specs.Numbers.{read_digits, read_id, read_literal, read_number, read_positive, read_variable}
use Rattle.row_text.specs.Rows.{literal_text, signed_text}
use Rattle.row_text.proofs.Words.{digits_letters, is_letter, is_word, letters_word}

own : IsNumeralModel (λ ds. all_ascii_digits ds ≡ true) (digits_value 10)
own = numerals_by_value _ tells_all_ascii_digits

-- the text is digits that write the number
pub record Writes (n : ℕ) (ds : List ℕ) : Type 0 where
  pub some : 0 < length ds
  pub digits : all_ascii_digits ds ≡ true
  pub value : digits_value 10 ds ≡ n

pub decimal_writes : (n : ℕ) → n < 10 ^ 64 → Writes n (decimal n)
decimal_writes n h = let d = decimal_is_IsNumeral_wide n h in record { some = d.0.0; digits = own.from (decimal n) d.0.1; value = d.1 }

pub digits_read : (n : ℕ) (ds : List ℕ) → Writes n ds → read_digits ds ≡ Some n
digits_read n [] w = absurd (omega (arith, w.some))
digits_read n (b ∷ ds) w = rw (w.digits, w.value) refl

first_digit : (b : ℕ) (ds : List ℕ) → all_ascii_digits (b ∷ ds) ≡ true → (48 ≤ b) × (b ≤ 57)
first_digit b ds h =
    let t = and_parts _ (all_ascii_digits ds) h in
    let r = and_parts _ _ t.0 in
    (leb-true _ _ r.0, leb-true _ _ r.1)

-- a digit is no sign, and no other byte either
pub not_first : (b c : ℕ) → (b ≡ c → ⊥) → eqb b c ≡ false
not_first b c h = grind (arith, nat_tests)

unsigned_read : (n : ℕ) (ds : List ℕ) → Writes n ds → read_number ds ≡ Some (pos n)
unsigned_read n [] w = absurd (omega (arith, w.some))
unsigned_read n (b ∷ ds) w =
    let d = first_digit b ds w.digits in
    let minus : eqb b 45 ≡ false = not_first b 45 (λ e. absurd (omega (arith, d.0))) in
    let plus : eqb b 43 ≡ false = not_first b 43 (λ e. absurd (omega (arith, d.0))) in
    rw (minus, plus) (ap (option_map pos) (digits_read n (b ∷ ds) w))

pub signed_read : (z : ℤ) → nat_abs z < 10 ^ 64 → read_number (signed_decimal z) ≡ Some z
signed_read (pos n) h = unsigned_read n (decimal n) (decimal_writes n h)
signed_read (negsuc n) h = ap (option_map (λ m. neg_ℤ (pos m))) (digits_read (suc n) (decimal (suc n)) (decimal_writes (suc n) h))

pub with_sign_read : (z : ℤ) → nat_abs z < 10 ^ 64 → read_number (signed_text z) ≡ Some z
with_sign_read (pos n) h = ap (option_map pos) (digits_read n (decimal n) (decimal_writes n h))
with_sign_read (negsuc n) h = signed_read (negsuc n) h

-- ---- row numbers, variables, literals

positive_by : (n : ℕ) (ds : List ℕ) → Writes n ds → 48 < get_or ds 0 0 → read_positive ds ≡ Some n
positive_by n [] w h = absurd (omega (arith, w.some))
positive_by n (b ∷ ds) w h = let other : eqb b 48 ≡ false = not_first b 48 (λ e. absurd (omega arith)) in rw other (digits_read n (b ∷ ds) w)

positive_read : (n : ℕ) → 1 ≤ n → n < 2 ^ 64 → read_positive (decimal n) ≡ Some n
positive_read n low high = positive_by n (decimal n) (decimal_writes n (omega arith)) (first_decimal n (omega arith) high)

pub id_read : (n : ℕ) → 1 ≤ n → n ≤ 10 ^ 18 - 1 → read_id (decimal n) ≡ Some n
id_read n low high =
    let few : length (decimal n) ≤ 18 = length-decimal-le 18 n (omega arith) (omega arith) (omega arith) in
    rw (le-leb (length (decimal n)) 18 few) (positive_read n low (omega arith))

pub variable_read : (v : ℕ) → 1 ≤ v → v ≤ 4294967295 → read_variable (codes "x" ++ decimal v) ≡ Some v
variable_read v low high =
    let same : min v 4294967295 ≡ v = omega arith in
    ap (option_map (λ n. min n 4294967295)) (positive_read v low (omega arith)) ∙ ap Some same

literal_by : (v : ℕ) (neg : Bool) → 1 ≤ v → v ≤ 4294967295 → read_literal (literal_text (record { var = v; neg = neg })) ≡ Some (record { var = v; neg = neg })
literal_by v true low high = ap (option_map (λ (n : ℕ). let l : Lit = record { var = n; neg = true } in l)) (variable_read v low high)
literal_by v false low high = ap (option_map (λ (n : ℕ). let l : Lit = record { var = n; neg = false } in l)) (variable_read v low high)

pub literal_read : (l : Lit) → 1 ≤ l.var → l.var ≤ 4294967295 → read_literal (literal_text l) ≡ Some l
literal_read l low high = literal_by l.var l.neg low high

-- ---- they are words

digits_word : (n : ℕ) (ds : List ℕ) → Writes n ds → is_word ds ≡ true
digits_word n [] w = absurd (omega (arith, w.some))
digits_word n (b ∷ ds) w = letters_word b ds (digits_letters (b ∷ ds) w.digits)

pub decimal_word : (n : ℕ) → n < 10 ^ 64 → is_word (decimal n) ≡ true
decimal_word n h = digits_word n (decimal n) (decimal_writes n h)

decimal_letters : (n : ℕ) → n < 10 ^ 64 → list_all is_letter (decimal n) ≡ true
decimal_letters n h = digits_letters (decimal n) (decimal_writes n h).digits

pub signed_word : (z : ℤ) → nat_abs z < 10 ^ 64 → is_word (signed_decimal z) ≡ true
signed_word (pos n) h = decimal_word n h
signed_word (negsuc n) h = letters_word 45 (decimal (suc n)) (decimal_letters (suc n) h)

pub with_sign_word : (z : ℤ) → nat_abs z < 10 ^ 64 → is_word (signed_text z) ≡ true
with_sign_word (pos n) h = letters_word 43 (decimal n) (decimal_letters n h)
with_sign_word (negsuc n) h = signed_word (negsuc n) h

pub variable_word : (v : ℕ) → v ≤ 4294967295 → is_word (codes "x" ++ decimal v) ≡ true
variable_word v high = letters_word 120 (decimal v) (decimal_letters v (omega arith))

literal_word_by : (v : ℕ) (neg : Bool) → v ≤ 4294967295 → is_word (literal_text (record { var = v; neg = neg })) ≡ true
literal_word_by v true high = letters_word 126 (120 ∷ decimal v) (decimal_letters v (omega arith))
literal_word_by v false high = variable_word v high

pub literal_word : (l : Lit) → l.var ≤ 4294967295 → is_word (literal_text l) ≡ true
literal_word l high = literal_word_by l.var l.neg high
