use Rattle.std.proofs.Common.{◌≡◌, ◌≤◌, ◌^◌, Bool, true, false, ℕ, List, length, min, Some, None, if◌then◌else◌, refl, ap, ◌∙◌, arith, [], ◌∷◌, ◌==◌}
use Rattle.std.specs.Prelude.{option_map}
use Rattle.std.specs.Str.{all_ascii_digits}
use Rattle.std.specs.Str.Parse.{digits_value}
use Rattle.std.proofs.lemmas.Bool.{le-leb}
use Rattle.std.proofs.lemmas.Str.Parse.{IsNumeralModel, numerals_by_value, tells_all_ascii_digits, digits_value_short}
use Rattle.row_text.specs.Numbers.{read_digits, read_positive}
use Rattle.row_text.proofs.numbers.read_id.Goals as goal

own : IsNumeralModel (λ ds. all_ascii_digits ds ≡ true) (digits_value 10)
own = numerals_by_value _ tells_all_ascii_digits

below_cap : (digits : Bool) (v : ℕ) → (digits ≡ true → v ≤ 10 ^ 18) → option_map (λ n. min n (10 ^ 18)) (if digits then Some v else None) ≡ (if digits then Some v else None)
below_cap false v h = refl
below_cap true v h = let small : min v (10 ^ 18) ≡ v = omega (arith, h refl) in ap Some small

short : (b : ℕ) (bytes : List ℕ) → length (b ∷ bytes) ≤ 18 → all_ascii_digits (b ∷ bytes) ≡ true → digits_value 10 (b ∷ bytes) ≤ 10 ^ 18
short b bytes few h = omega (arith, digits_value_short own (b ∷ bytes) 18 h few)

uncapped : (bytes : List ℕ) → length bytes ≤ 18 → option_map (λ n. min n (10 ^ 18)) (read_positive bytes) ≡ read_positive bytes
uncapped [] few = refl
uncapped (b ∷ bytes) few = elim (b == 48) as (λ t. option_map (λ n. min n (10 ^ 18)) (if t then None else read_digits (b ∷ bytes)) ≡ (if t then None else read_digits (b ∷ bytes))) [
  | true ↦ refl
  | false ↦ below_cap (all_ascii_digits (b ∷ bytes)) (digits_value 10 (b ∷ bytes)) (short b bytes few)
]

pub returns : goal.returns
returns c =
    let few : length c.args.token.now ≤ 18 = omega arith in
    rw (le-leb (length c.args.token.now) 18 few) (c.read_positive.ensures ∙ uncapped c.args.token.now few)
