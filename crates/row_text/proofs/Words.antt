-- Words with single spaces between them are the tokens of their text.
use Rattle.std.proofs.Common.{◌≡◌, ℕ, ◌≤◌, Bool, true, false, not, ◌&&◌, ◌||◌, eqb, inl, inr, List, [], ◌∷◌, ◌++◌, refl, ap, ◌∙◌, arith}
use Rattle.std.specs.Prelude.{bytes_eq, codes}
use Rattle.std.specs.List.{list_all}
use Rattle.std.specs.Str.{all_ascii_digits}
use Rattle.std.proofs.lemmas.Bool.{and_from, and_parts, leb-true, not-true, or_cases, or_left}
use Rattle.std.proofs.lemmas.Bool.Decides.{nat_tests}
use Rattle.std.proofs.lemmas.List.{append-nil}
use Rattle.std.proofs.lemmas.List.Folds.{list_all-append}
use Rattle.std.proofs.lemmas.Slice.Eq.{bytes_eq-Decides}
use Rattle.row_text.specs.Tokens.{Onward, all_of, onward_from, spaced, tokens, words_text}
use Rattle.row_text.proofs.Scan.{behind, is_apart, onward, run_more}

-- no byte that ends a word or a line
abbrev pub is_letter : ℕ → Bool
is_letter b = not (is_apart b) && (not (eqb b 10) && not (eqb b 13))

-- no byte that ends a line
abbrev pub is_plain : ℕ → Bool
is_plain b = not (eqb b 10) && not (eqb b 13)

abbrev pub is_word : List ℕ → Bool
is_word [] = false
is_word (b ∷ bs) = list_all is_letter (b ∷ bs) || bytes_eq (b ∷ bs) (codes ";")

onward_word : (w x : List ℕ) → list_all is_letter w ≡ true → onward_from (w ++ x) ≡ behind w (onward_from x)
onward_word [] x h = refl
onward_word (b ∷ w) x h =
    let t = and_parts (is_letter b) (list_all is_letter w) h in
    let within : is_apart b ≡ false = not-true (is_apart b) (and_parts (not (is_apart b)) (is_plain b) t.0).0 in
    run_more b (w ++ x) within ∙ ap (behind (b ∷ [])) (onward_word w x t.1)

letters_ahead : (b : ℕ) (bs x : List ℕ) (ws : List (List ℕ)) → list_all is_letter (b ∷ bs) ≡ true → onward_from x ≡ onward [] ws → tokens ((b ∷ bs) ++ x) ≡ (b ∷ bs) ∷ ws
letters_ahead b bs x ws h e =
    ap all_of (onward_word (b ∷ bs) x h ∙ ap (behind (b ∷ bs)) e) ∙ ap (λ (v : List ℕ). (b ∷ v) ∷ ws) (append-nil bs)

semicolon_ahead : (w x : List ℕ) (ws : List (List ℕ)) → w ≡ codes ";" → onward_from x ≡ onward [] ws → tokens (w ++ x) ≡ w ∷ ws
semicolon_ahead w x ws is e = rw is (ap (λ (o : Onward). codes ";" ∷ all_of o) e)

word_ahead : (w x : List ℕ) (ws : List (List ℕ)) → is_word w ≡ true → onward_from x ≡ onward [] ws → tokens (w ++ x) ≡ w ∷ ws
word_ahead [] x ws h e = absurd cc
word_ahead (b ∷ bs) x ws h e = elim (or_cases (list_all is_letter (b ∷ bs)) (bytes_eq (b ∷ bs) (codes ";")) h) [
  | inl letters ↦ letters_ahead b bs x ws letters e
  | inr same ↦ semicolon_ahead (b ∷ bs) x ws ((bytes_eq-Decides (b ∷ bs) (codes ";")).0 same) e
]

spaced_onward : (ws : List (List ℕ)) → list_all is_word ws ≡ true → onward_from (spaced ws) ≡ onward [] ws
spaced_onward [] h = refl
spaced_onward (w ∷ ws) h =
    let t = and_parts (is_word w) (list_all is_word ws) h in
    ap (onward []) (word_ahead w (spaced ws) ws t.0 (spaced_onward ws t.1))

pub tokens-words_text : (ws : List (List ℕ)) → list_all is_word ws ≡ true → tokens (words_text ws) ≡ ws
tokens-words_text [] h = refl
tokens-words_text (w ∷ ws) h =
    let t = and_parts (is_word w) (list_all is_word ws) h in
    word_ahead w (spaced ws) ws t.0 (spaced_onward ws t.1)

-- ---- their text has no byte that ends a line

letters_plain : (w : List ℕ) → list_all is_letter w ≡ true → list_all is_plain w ≡ true
letters_plain [] h = refl
letters_plain (b ∷ w) h =
    let t = and_parts (is_letter b) (list_all is_letter w) h in
    and_from (is_plain b) (list_all is_plain w) (and_parts (not (is_apart b)) (is_plain b) t.0).1 (letters_plain w t.1)

semicolon_plain : (w : List ℕ) → w ≡ codes ";" → list_all is_plain w ≡ true
semicolon_plain w is = rw is refl

word_plain : (w : List ℕ) → is_word w ≡ true → list_all is_plain w ≡ true
word_plain [] h = refl
word_plain (b ∷ bs) h = elim (or_cases (list_all is_letter (b ∷ bs)) (bytes_eq (b ∷ bs) (codes ";")) h) [
  | inl letters ↦ letters_plain (b ∷ bs) letters
  | inr same ↦ semicolon_plain (b ∷ bs) ((bytes_eq-Decides (b ∷ bs) (codes ";")).0 same)
]

both_plain : (u v : List ℕ) → list_all is_plain u ≡ true → list_all is_plain v ≡ true → list_all is_plain (u ++ v) ≡ true
both_plain u v h k = list_all-append is_plain u v ∙ and_from (list_all is_plain u) (list_all is_plain v) h k

spaced_plain : (ws : List (List ℕ)) → list_all is_word ws ≡ true → list_all is_plain (spaced ws) ≡ true
spaced_plain [] h = refl
spaced_plain (w ∷ ws) h =
    let t = and_parts (is_word w) (list_all is_word ws) h in
    both_plain w (spaced ws) (word_plain w t.0) (spaced_plain ws t.1)

pub words_text_plain : (ws : List (List ℕ)) → list_all is_word ws ≡ true → list_all is_plain (words_text ws) ≡ true
words_text_plain [] h = refl
words_text_plain (w ∷ ws) h =
    let t = and_parts (is_word w) (list_all is_word ws) h in
    both_plain w (spaced ws) (word_plain w t.0) (spaced_plain ws t.1)

-- ---- words of letters

pub letters_word : (b : ℕ) (bs : List ℕ) → list_all is_letter (b ∷ bs) ≡ true → is_word (b ∷ bs) ≡ true
letters_word b bs h = or_left (list_all is_letter (b ∷ bs)) (bytes_eq (b ∷ bs) (codes ";")) h

pub all_words : (vs ws : List (List ℕ)) → list_all is_word vs ≡ true → list_all is_word ws ≡ true → list_all is_word (vs ++ ws) ≡ true
all_words vs ws h k = list_all-append is_word vs ws ∙ and_from (list_all is_word vs) (list_all is_word ws) h k

letter_from_digit : (b : ℕ) → 48 ≤ b → b ≤ 57 → is_letter b ≡ true
letter_from_digit b low high = grind (arith, nat_tests)

pub digits_letters : (ds : List ℕ) → all_ascii_digits ds ≡ true → list_all is_letter ds ≡ true
digits_letters [] e = refl
digits_letters (b ∷ ds) e =
    let t = and_parts _ (all_ascii_digits ds) e in
    let r = and_parts _ _ t.0 in
    and_from (is_letter b) (list_all is_letter ds) (letter_from_digit b (leb-true _ _ r.0) (leb-true _ _ r.1)) (digits_letters ds t.1)
