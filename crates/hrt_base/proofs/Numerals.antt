-- What is written for a number is read back as that number, and no shorter text is.
use Rattle.std.proofs.Common.{◌≡◌, ℕ, zero, suc, ◌+◌, ◌<◌, ◌≤◌, ◌^◌, ℤ, pos, negsuc, neg_ℤ, nat_abs, Bool, true, false, List, [], ◌∷◌, length, refl, ap, subst, ◌∙◌, arith, if◌then◌else◌, ◌==◌, nat_le}
use Rattle.std.specs.Fmt.{decimal, signed_decimal}
use Rattle.std.specs.Str.{all_ascii_digits}
use Rattle.std.specs.Str.Parse.{IsNumeral, digits_value}
use Rattle.std.specs.Int.Signed.{mag}
use Rattle.std.proofs.lemmas.Bool.Decides.{nat_tests}
use Rattle.std.proofs.lemmas.Int.Digits.{digits_value-lt}
use Rattle.std.proofs.lemmas.Str.Parse.{IsNumeralModel, numerals_by_value, tells_all_ascii_digits, digit_from_value}
use Rattle.std.proofs.lemmas.Fmt.{decimal_is_IsNumeral_wide, length-decimal-le_wide}
use Rattle.hrt_base.specs.Number.{number_text, digits_text}
use Rattle.hrt_base.specs.declared.number.NumberText.{NumberText}
use Rattle.hrt_base.specs.declared.number.NumberText.TheVariants.{Number, TooBig, NotNumber}

own : IsNumeralModel (λ ds. all_ascii_digits ds ≡ true) (digits_value 10)
own = numerals_by_value _ tells_all_ascii_digits

-- digits without a sign
plain_text : (ds : List ℕ) → IsNumeral 10 ds → number_text ds ≡ digits_text false ds
plain_text [] h = absurd (omega (arith, h.0))
plain_text (c ∷ cs) h = let digit = digit_from_value c h.1.0 in grind (arith, nat_tests)

within : Bool → ℕ → NumberText
within negative v = if nat_le v (2 ^ 120) then Number (if negative then neg_ℤ (pos v) else pos v) else TooBig

digits_read : (negative : Bool) (ds : List ℕ) → IsNumeral 10 ds → digits_text negative ds ≡ within negative (digits_value 10 ds)
unfolding within
digits_read negative [] h = absurd (omega (arith, h.0))
digits_read negative (c ∷ cs) h = rw (own.from (c ∷ cs) h.1) (grind (arith, nat_tests))

pub read_back : (z : ℤ) → mag z < 2 ^ 127 → number_text (signed_decimal z) ≡ (if nat_le (nat_abs z) (2 ^ 120) then Number z else TooBig)
unfolding within
read_back (pos n) small =
    let d = decimal_is_IsNumeral_wide n (omega arith) in
    plain_text (decimal n) d.0 ∙ digits_read false (decimal n) d.0 ∙ ap (within false) d.1
read_back (negsuc n) small =
    let d = decimal_is_IsNumeral_wide (suc n) (omega arith) in
    digits_read true (decimal (suc n)) d.0 ∙ ap (within true) d.1

opened : (none all small : Bool) (x z : ℤ) → (if none then NotNumber else if all then (if small then Number x else TooBig) else NotNumber) ≡ Number z → (all ≡ true) × (small ≡ true) × (z ≡ x)
opened true all small x z e = absurd (cc e)
opened false false small x z e = absurd (cc e)
opened false true false x z e = absurd (cc e)
opened false true true x z e = (refl, refl, cc e)

is_at_most : (m n : ℕ) → nat_le m n ≡ true → m ≤ n
is_at_most m n e = grind (arith, nat_tests)

signed : Bool → ℕ → ℤ
signed negative v = if negative then neg_ℤ (pos v) else pos v

-- digits that spell a number
spelled : (negative : Bool) (ds : List ℕ) (z : ℤ) → digits_text negative ds ≡ Number z → IsNumeral 10 ds × (digits_value 10 ds ≤ 2 ^ 120) × (z ≡ signed negative (digits_value 10 ds))
unfolding signed
spelled negative [] z e = absurd (cc e)
spelled negative (c ∷ cs) z e =
    let o = opened (length (c ∷ cs) == 0) (all_ascii_digits (c ∷ cs)) (nat_le (digits_value 10 (c ∷ cs)) (2 ^ 120)) (signed negative (digits_value 10 (c ∷ cs))) z e in
    ((omega arith, own.to (c ∷ cs) o.0), is_at_most _ _ o.1, o.2)

length_least : (ds : List ℕ) (v : ℕ) → IsNumeral 10 ds → digits_value 10 ds ≡ v → v ≤ 2 ^ 120 → length (decimal v) ≤ length ds
length_least ds v h is small = length-decimal-le_wide (length ds) v h.0 (subst (λ (n : ℕ). n < 10 ^ length ds) is (digits_value-lt 10 ds h.1)) (omega arith)

unsigned_least : (ds : List ℕ) (z : ℤ) → digits_text false ds ≡ Number z → length (signed_decimal z) ≤ length ds
unfolding signed
unsigned_least ds z e = let s = spelled false ds z e in rw s.2 (length_least ds (digits_value 10 ds) s.0 refl s.1)

signed_length : (ds : List ℕ) (v : ℕ) → IsNumeral 10 ds → digits_value 10 ds ≡ v → v ≤ 2 ^ 120 → length (signed_decimal (signed true v)) ≤ length ds + 1
unfolding signed
signed_length ds zero h is small = omega (arith, length_least ds 0 h is small)
signed_length ds (suc v) h is small = omega (arith, length_least ds (suc v) h is small)

negative_least : (ds : List ℕ) (z : ℤ) → digits_text true ds ≡ Number z → length (signed_decimal z) ≤ length ds + 1
negative_least ds z e = let s = spelled true ds z e in rw s.2 (signed_length ds (digits_value 10 ds) s.0 refl s.1)

pub shortest : (z : ℤ) (text : List ℕ) → number_text text ≡ Number z → length (signed_decimal z) ≤ length text
shortest z [] e = absurd (cc e)
shortest z (c ∷ ds) e = elim (c == 45) as (λ b. (if b then digits_text true ds else if c == 43 then digits_text false ds else digits_text false (c ∷ ds)) ≡ Number z → length (signed_decimal z) ≤ length (c ∷ ds)) [
  | true ↦ λ m. omega (arith, negative_least ds z m)
  | false ↦ elim (c == 43) as (λ b. (if b then digits_text false ds else digits_text false (c ∷ ds)) ≡ Number z → length (signed_decimal z) ≤ length (c ∷ ds)) [
    | true ↦ λ p. omega (arith, unsigned_least ds z p)
    | false ↦ λ p. unsigned_least (c ∷ ds) z p
  ]
] e
