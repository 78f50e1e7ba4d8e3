-- Numbers as `hrt_base` reads them are those of any size, kept where they are small.
use Rattle.std.proofs.Common.{◌≡◌, ℕ, zero, suc, ◌^◌, ℤ, pos, neg_ℤ, nat_abs, Bool, true, false, List, [], ◌∷◌, length, Some, None, refl, ap, arith, if◌then◌else◌, ◌==◌, nat_le}
use Rattle.std.specs.Prelude.{option_map}
use Rattle.std.specs.Str.{all_ascii_digits}
use Rattle.std.specs.Str.Parse.{digits_value}
use Rattle.std.proofs.lemmas.Bool.{ne_eqb}
use Rattle.hrt_base.specs.Number.{number_text, digits_text}
use Rattle.hrt_base.specs.declared.number.NumberText.{NumberText}
use Rattle.hrt_base.specs.declared.number.NumberText.TheVariants.{Number, TooBig as too_big, NotNumber}
use Rattle.row_text.specs.declared.readings.Reading.{Reading}
use Rattle.row_text.specs.declared.readings.Reading.TheVariants.{Unspelled, TooBig, Value}
use Rattle.row_text.specs.Numbers.{is_small, read_digits, read_number}
use Rattle.row_text.specs.Readings.{reading}

abbrev pub kept : NumberText → Reading ℤ
kept (Number z) = Value z
kept too_big = TooBig
kept NotNumber = Unspelled

abbrev signed : Bool → ℕ → ℤ
signed negative n = if negative then neg_ℤ (pos n) else pos n

abs-signed : (negative : Bool) (n : ℕ) → nat_abs (signed negative n) ≡ n
abs-signed true zero = refl
abs-signed true (suc n) = refl
abs-signed false n = refl

by_tests : (digits small : Bool) (z : ℤ) → is_small z ≡ small → (n : ℕ) (f : ℕ → ℤ) → f n ≡ z
    → kept (if digits then (if small then Number z else too_big) else NotNumber) ≡ reading is_small (option_map f (if digits then Some n else None))
by_tests false small z s n f e = refl
by_tests true true z s n f e = rw (e, s) refl
by_tests true false z s n f e = rw (e, s) refl

digits-kept : (negative : Bool) (ds : List ℕ) → kept (digits_text negative ds) ≡ reading is_small (option_map (signed negative) (read_digits ds))
digits-kept negative [] = refl
digits-kept negative (b ∷ bytes) =
    let v : ℕ = digits_value 10 (b ∷ bytes) in
    let some : (length (b ∷ bytes) == 0) ≡ false = ne_eqb (length (b ∷ bytes)) 0 (λ (e : length (b ∷ bytes) ≡ 0). absurd (omega arith)) in
    rw some
    (by_tests (all_ascii_digits (b ∷ bytes)) (nat_le v (2 ^ 120)) (signed negative v) (ap (λ (n : ℕ). nat_le n (2 ^ 120)) (abs-signed negative v)) v (signed negative) refl)

pub number_text-kept : (bytes : List ℕ) → kept (number_text bytes) ≡ reading is_small (read_number bytes)
number_text-kept [] = refl
number_text-kept (c ∷ ds) = elim (c == 45) as (λ b. kept (if b then digits_text true ds else if c == 43 then digits_text false ds else digits_text false (c ∷ ds)) ≡ reading is_small (if b then option_map (λ n. neg_ℤ (pos n)) (read_digits ds) else if c == 43 then option_map pos (read_digits ds) else option_map pos (read_digits (c ∷ ds)))) [
  | true ↦ digits-kept true ds
  | false ↦ elim (c == 43) as (λ b. kept (if b then digits_text false ds else digits_text false (c ∷ ds)) ≡ reading is_small (if b then option_map pos (read_digits ds) else option_map pos (read_digits (c ∷ ds)))) [
    | true ↦ digits-kept false ds
    | false ↦ digits-kept false (c ∷ ds)
  ]
]
