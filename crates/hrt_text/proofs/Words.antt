-- Words of a spelled line: names and capacities, and what tokens they are.
use Rattle.std.proofs.Common.{◌≡◌, ℕ, ◌<◌, ◌≤◌, Bool, true, not, ◌&&◌, eqb, leb, List, [], ◌∷◌, ◌++◌, length, map, refl, sym, ap, ◌∙◌, append_assoc, arith}
use Rattle.std.specs.Prelude.{decimal}
use Rattle.std.specs.List.{list_all, join_with_byte, AllByRecursion}
use Rattle.std.specs.Str.{all_ascii_digits}
use Rattle.std.proofs.lemmas.Bool.{and_parts, and_from, leb-true, le-leb}
use Rattle.std.proofs.lemmas.Bool.Decides.{nat_tests}
use Rattle.std.proofs.lemmas.List.{append-nil}
use Rattle.std.proofs.lemmas.Str.Parse.{IsNumeralModel, numerals_by_value, tells_all_ascii_digits}
use Rattle.std.proofs.lemmas.Fmt.{digits_decimal, digits_value-decimal, length-decimal-le, decimal_nonempty}
use Rattle.hrt_text.specs.Text.{Token, word, class_of, is_word_class, led_by, all_of, onward_from, tokens}
use Rattle.rank_tables.specs.Names.{is_name, is_name_byte}
use Rattle.hrt_text.specs.Grammar.{is_capacity}
use Rattle.std.specs.Str.Parse.{digits_value}
use Rattle.hrt_text.proofs.Scan.{behind, run_more}

pub all_weaker : {X : Type 0} (p q : X → Bool) → ((x : X) → p x ≡ true → q x ≡ true) → (xs : List X) → list_all p xs ≡ true → list_all q xs ≡ true
all_weaker p q h [] e = refl
all_weaker p q h (x ∷ xs) e =
    let t = and_parts (p x) (list_all p xs) e in
    and_from (q x) (list_all q xs) (h x t.0) (all_weaker p q h xs t.1)

abbrev pub is_letter : ℕ → Bool
is_letter b = is_word_class (class_of b)

abbrev pub is_plain : ℕ → Bool
is_plain b = not (eqb b 10) && not (eqb b 13)

pub record IsWord (w : List ℕ) : Type 0 where
  pub some : 0 < length w
  pub letters : list_all is_letter w ≡ true
  pub plain : list_all is_plain w ≡ true

letter_from_name : (b : ℕ) → is_name_byte b ≡ true → is_letter b ≡ true
letter_from_name b h = grind (arith, nat_tests)

plain_from_name : (b : ℕ) → is_name_byte b ≡ true → is_plain b ≡ true
plain_from_name b h = grind (arith, nat_tests)

pub IsWord-from_name : (w : List ℕ) → is_name w ≡ true → IsWord w
IsWord-from_name w h =
    let a = and_parts (leb 1 (length w) && leb (length w) 64) (list_all is_name_byte w) h in
    let b = and_parts (leb 1 (length w)) (leb (length w) 64) a.0 in
    let some : 1 ≤ length w = leb-true _ _ b.0 in
    record { some = omega arith; letters = all_weaker is_name_byte is_letter letter_from_name w a.1; plain = all_weaker is_name_byte is_plain plain_from_name w a.1 }

-- capacities

own : IsNumeralModel (λ ds. all_ascii_digits ds ≡ true) (digits_value 10)
own = numerals_by_value _ tells_all_ascii_digits

pub value_back : (n : ℕ) → n ≤ 20000 → digits_value 10 (decimal n) ≡ n
value_back n le = digits_value-decimal own n (omega arith)

pub capacity_back : (n : ℕ) → n ≤ 20000 → is_capacity (decimal n) ≡ true
capacity_back n le =
    let some : 0 < length (decimal n) = decimal_nonempty n (omega arith) in
    let few : length (decimal n) ≤ 5 = length-decimal-le 5 n (omega arith) (omega arith) (omega arith) in
    let value : digits_value 10 (decimal n) ≡ n = value_back n le in
    rw (digits_decimal own n (omega arith), value, le-leb n 20000 le, le-leb 1 (length (decimal n)) (omega arith), le-leb (length (decimal n)) 5 few) refl

letter_from_digit : (b : ℕ) → 48 ≤ b → b ≤ 57 → is_letter b ≡ true
letter_from_digit b low high = grind (arith, nat_tests)

plain_from_digit : (b : ℕ) → 48 ≤ b → b ≤ 57 → is_plain b ≡ true
plain_from_digit b low high = grind (arith, nat_tests)

all_digits : (p : ℕ → Bool) → ((b : ℕ) → 48 ≤ b → b ≤ 57 → p b ≡ true) → (ds : List ℕ) → all_ascii_digits ds ≡ true → list_all p ds ≡ true
all_digits p h [] e = refl
all_digits p h (b ∷ ds) e =
    let t = and_parts _ (all_ascii_digits ds) e in
    let r = and_parts _ _ t.0 in
    and_from (p b) (list_all p ds) (h b (leb-true _ _ r.0) (leb-true _ _ r.1)) (all_digits p h ds t.1)

pub IsWord-decimal : (n : ℕ) → n ≤ 20000 → IsWord (decimal n)
IsWord-decimal n le = record {
  some = decimal_nonempty n (omega arith);
  letters = all_digits is_letter letter_from_digit (decimal n) (digits_decimal own n (omega arith));
  plain = all_digits is_plain plain_from_digit (decimal n) (digits_decimal own n (omega arith));
}

-- tokens

pub onward_word : (w x : List ℕ) → list_all is_letter w ≡ true → onward_from (w ++ x) ≡ behind w (onward_from x)
onward_word [] x h = refl
onward_word (b ∷ w) x h =
    let t = and_parts (is_letter b) (list_all is_letter w) h in
    run_more b (w ++ x) t.0 ∙ ap (behind (b ∷ [])) (onward_word w x t.1)

-- no word goes on at the front of x
abbrev pub Ends : List ℕ → Type 0
Ends x = (onward_from x).run ≡ []

pub tokens_ends : (x : List ℕ) → Ends x → tokens x ≡ (onward_from x).after
tokens_ends x e = ap (λ (r : List ℕ). led_by r (onward_from x).after) e

pub tokens_word : (w x : List ℕ) → IsWord w → Ends x → tokens (w ++ x) ≡ word w ∷ tokens x
tokens_word [] x h e = absurd (omega (arith, h.some))
tokens_word (b ∷ w) x h e =
    let after : List Token = (onward_from x).after in
    ap all_of (onward_word (b ∷ w) x h.letters)
    ∙ ap (λ (r : List ℕ). led_by ((b ∷ w) ++ r) after) e
    ∙ ap (λ (v : List ℕ). word (b ∷ v) ∷ after) (append-nil w)
    ∙ ap (λ (ts : List Token). word (b ∷ w) ∷ ts) (sym (tokens_ends x e))

pub tokens_joined : (ns : List (List ℕ)) (x : List ℕ) → AllByRecursion IsWord ns → 0 < length ns → Ends x → tokens (join_with_byte 32 ns ++ x) ≡ map word ns ++ tokens x
tokens_joined [] x h some e = absurd (omega arith)
tokens_joined (w ∷ []) x h some e = tokens_word w x h.0 e
tokens_joined (w ∷ v ∷ ns) x h some e =
    ap tokens (append_assoc w (32 ∷ join_with_byte 32 (v ∷ ns)) x)
    ∙ tokens_word w (32 ∷ (join_with_byte 32 (v ∷ ns) ++ x)) h.0 refl
    ∙ ap (λ (ts : List Token). word w ∷ ts) (tokens_joined (v ∷ ns) x h.1 (omega arith) e)
