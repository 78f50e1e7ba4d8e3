-- What a text spells is made: its numbers are in their ranges, and what must not be missing isn't.
use Rattle.std.proofs.Common.{◌≡◌, ℕ, ◌+◌, ◌*◌, ◌-◌, ◌^◌, ◌<◌, ◌≤◌, min, Bool, true, false, eqb, List, [], ◌∷◌, length, map, Option, Some, None, refl, subst, arith, if◌then◌else◌}
use Rattle.std.specs.Prelude.{bytes_eq, codes, nat_le, option_map}
use Rattle.std.specs.Char.{digit_value}
use Rattle.std.specs.List.{list_all}
use Rattle.std.specs.Str.{all_ascii_digits}
use Rattle.std.specs.Str.Parse.{digits_value}
use Rattle.std.proofs.lemmas.Bool.{and_from, and_parts, eqb-false, le-leb, leb-true}
use Rattle.std.proofs.lemmas.Int.Digits.{digits_value-lt, digits_value_is, number_after_ge}
use Rattle.std.proofs.lemmas.Str.{digit_value_digit}
use Rattle.std.proofs.lemmas.Str.Parse.{IsNumeralModel, digit_from_value, digits_value_short, numerals_by_value, tells_all_ascii_digits}
use Rattle.hrt_base.specs.declared.literal.Lit.{Lit}
use Rattle.hrt_base.specs.declared.numbered.RowNo.{RowNo}
use Rattle.row_text.specs.Numbers.{both, read_digits, read_each, read_id, read_literal, read_positive, read_variable}
use Rattle.row_text.proofs.Ranges.{IsVariable, both_some, if_some, literal_range, map_some, positive_range, unless_some, variable_range}
use Rattle.proof_lines.specs.Spelling.{one_or_more, read_count, read_row_no, row_no}
use Rattle.proof_lines.specs.Texts.{is_spellable_id, is_spellable_literal, is_spellable_variable, is_nonempty_and_all}

-- ---- numbers

own : IsNumeralModel (λ ds. all_ascii_digits ds ≡ true) (digits_value 10)
own = numerals_by_value _ tells_all_ascii_digits

within_ids : (n : ℕ) → 1 ≤ n → n < 10 ^ 18 → is_spellable_id (row_no n) ≡ true
within_ids n low high = and_from (nat_le 1 n) (nat_le n (10 ^ 18 - 1)) (le-leb 1 n low) (le-leb n (10 ^ 18 - 1) (omega arith))

digits_short : (t : List ℕ) (n : ℕ) → length t ≤ 18 → read_positive t ≡ Some n → n < 10 ^ 18
digits_short [] n few e = absurd cc
digits_short (b ∷ ds) n few e =
    let u = unless_some (eqb b 48) (read_digits (b ∷ ds)) n e in
    let i = if_some (all_ascii_digits (b ∷ ds)) (Some (digits_value 10 (b ∷ ds))) n u.1 in
    let is : digits_value 10 (b ∷ ds) ≡ n = cc (i.1) in
    let short : digits_value 10 (b ∷ ds) < 10 ^ 18 = digits_value_short own (b ∷ ds) 18 i.0 few in
    subst (λ (m : ℕ). m < 10 ^ 18) is short

pub id_is_made : (t : List ℕ) (n : ℕ) → read_id t ≡ Some n → is_spellable_id (row_no n) ≡ true
id_is_made t n e =
    let i = if_some (nat_le (length t) 18) (read_positive t) n e in
    within_ids n (positive_range t n i.1).0 (digits_short t n (leb-true (length t) 18 i.0) i.1)

pub row_no_made : (t : List ℕ) (r : RowNo) → read_row_no t ≡ Some r → is_spellable_id r ≡ true
row_no_made t r e =
    let m = map_some row_no (read_id t) r e in
    subst (λ (s : RowNo). is_spellable_id s ≡ true) m.2 (id_is_made t m.0 m.1)

in_range : (v : ℕ) → IsVariable v → is_spellable_variable v ≡ true
in_range v r = and_from (nat_le 1 v) (nat_le v 4294967295) (le-leb 1 v r.0) (le-leb v 4294967295 r.1)

pub variable_is_made : (t : List ℕ) (v : ℕ) → read_variable t ≡ Some v → is_spellable_variable v ≡ true
variable_is_made t v e = in_range v (variable_range t v e)

pub literal_is_made : (t : List ℕ) (l : Lit) → read_literal t ≡ Some l → is_spellable_literal l ≡ true
literal_is_made t l e = in_range l.var (literal_range t l e)

-- ---- lists

pub each_made : {A : Type 0} (read : List ℕ → Option A) (test : A → Bool) → ((t : List ℕ) (x : A) → read t ≡ Some x → test x ≡ true) → (ts : List (List ℕ)) (xs : List A) → read_each read ts ≡ Some xs → list_all test xs ≡ true
each_made read test h [] [] e = refl
each_made read test h [] (x ∷ xs) e = absurd cc
each_made {A} read test h (t ∷ ts) xs e =
    let b = both_some (λ (x : A) (ys : List A). x ∷ ys) (read t) (read_each read ts) xs e in
    let here : test b.first ≡ true = h t b.first b.first_is in
    let later : list_all test b.second ≡ true = each_made read test h ts b.second b.second_is in
    subst (λ (ys : List A). list_all test ys ≡ true) b.joined_is (and_from (test b.first) (list_all test b.second) here later)

pub some_made : {A : Type 0} (test : A → Bool) (o : Option (List A)) (xs : List A) → ((ys : List A) → o ≡ Some ys → list_all test ys ≡ true) → one_or_more o ≡ Some xs → is_nonempty_and_all test xs ≡ true
some_made test None xs h e = absurd cc
some_made test (Some []) xs h e = absurd cc
some_made {A} test (Some (y ∷ ys)) xs h e =
    let is : y ∷ ys ≡ xs = cc e in
    subst (λ (zs : List A). is_nonempty_and_all test zs ≡ true) is (h (y ∷ ys) refl)

-- ---- counts

count_by : (zero_word : Bool) (t : List ℕ) (n : ℕ) → (if zero_word then Some 0 else read_id t) ≡ Some n → nat_le n (10 ^ 18 - 1) ≡ true
count_by true t n e = let is : 0 ≡ n = cc e in subst (λ (m : ℕ). nat_le m (10 ^ 18 - 1) ≡ true) is refl
count_by false t n e = (and_parts (nat_le 1 n) (nat_le n (10 ^ 18 - 1)) (id_is_made t n e)).1

pub count_made : (ts : List (List ℕ)) (n : ℕ) → read_count ts ≡ Some n → nat_le n (10 ^ 18 - 1) ≡ true
count_made [] n e = absurd cc
count_made (t ∷ []) n e = count_by (bytes_eq t (codes "0")) t n e
count_made (t ∷ u ∷ ts) n e = absurd cc
