-- A row is read back from its words.
use Rattle.std.proofs.Common.{◌≡◌, ℕ, ◌^◌, ◌<◌, ◌≤◌, ℤ, pos, negsuc, nat_abs, true, false, List, [], ◌∷◌, ◌++◌, Option, Some, refl, ap, ap₂, ◌∙◌, arith}
use Rattle.std.specs.Prelude.{bytes_eq, codes, decimal, flat_map}
use Rattle.std.specs.Fmt.{signed_decimal}
use Rattle.std.specs.List.{list_all}
use Rattle.std.proofs.lemmas.Bool.{and_from, and_parts, leb-true}
use Rattle.hrt_base.specs.declared.literal.Term.{Term}
use Rattle.pb_rows.specs.Terms.{Written}
use Rattle.row_text.specs.Numbers.{both, is_small}
use Rattle.row_text.specs.Rows.{is_small_row, is_small_term, literal_text, read_row, read_term, row_words, signed_text, term_words, with_term}
use Rattle.row_text.proofs.NumberWords.{literal_read, literal_word, signed_read, signed_word, with_sign_read, with_sign_word}
use Rattle.row_text.proofs.Words.{is_word}

pub small_abs : (z : ℤ) → is_small z ≡ true → nat_abs z < 10 ^ 64
small_abs z h = omega (arith, leb-true (nat_abs z) (2 ^ 120) h)

-- its literals have variables from 1 to 4,294,967,295
pub record IsMadeTerm (t : Term) : Type 0 where
  pub low : 1 ≤ t.lit.var
  pub high : t.lit.var ≤ 4294967295

abbrev pub AllMade : List Term → Type 0
AllMade [] = Unit {0}
AllMade (t ∷ ts) = IsMadeTerm t × AllMade ts

no_end : (z : ℤ) → bytes_eq (signed_text z) (codes ">=") ≡ false
no_end (pos n) = refl
no_end (negsuc n) = refl

pub term_back : (t : Term) → is_small_term t ≡ true → IsMadeTerm t → read_term (signed_text t.coef) (literal_text t.lit) ≡ Some t
term_back t small made =
    ap₂ (both (λ (c : ℤ) (l : Rattle.hrt_base.specs.declared.literal.Lit.Lit). let u : Term = record { coef = c; lit = l } in u)) (with_sign_read t.coef (small_abs t.coef small)) (literal_read t.lit made.low made.high)

row_ahead : (t : Term) (ts : List (List ℕ)) → is_small_term t ≡ true → IsMadeTerm t → read_row (signed_text t.coef ∷ literal_text t.lit ∷ ts) ≡ both with_term (Some t) (read_row ts)
row_ahead t ts small made = rw (no_end t.coef) (ap (λ (o : Option Term). both with_term o (read_row ts)) (term_back t small made))

abbrev tail_words : ℤ → List (List ℕ)
tail_words n = codes ">=" ∷ signed_decimal n ∷ codes ";" ∷ []

terms_back : (ts : List Term) (n : ℤ) → list_all is_small_term ts ≡ true → is_small n ≡ true → AllMade ts → read_row (flat_map term_words ts ++ tail_words n) ≡ Some (record { terms = ts; at_least = n })
terms_back [] n small right made = ap (Rattle.std.specs.Prelude.option_map (λ (z : ℤ). let r : Written = record { terms = []; at_least = z } in r)) (signed_read n (small_abs n right))
terms_back (t ∷ ts) n small right made =
    let s = and_parts (is_small_term t) (list_all is_small_term ts) small in
    row_ahead t (flat_map term_words ts ++ tail_words n) s.0 made.0 ∙ ap (both with_term (Some t)) (terms_back ts n s.1 right made.1)

pub row_back : (row : Written) → is_small_row row ≡ true → AllMade row.terms → read_row (row_words row) ≡ Some row
row_back row small made =
    let s = and_parts (list_all is_small_term row.terms) (is_small row.at_least) small in
    terms_back row.terms row.at_least s.0 s.1 made

-- ---- its words

terms_words : (ts : List Term) (n : ℤ) → list_all is_small_term ts ≡ true → is_small n ≡ true → AllMade ts → list_all is_word (flat_map term_words ts ++ tail_words n) ≡ true
terms_words [] n small right made = and_from (is_word (signed_decimal n)) true (signed_word n (small_abs n right)) refl
terms_words (t ∷ ts) n small right made =
    let s = and_parts (is_small_term t) (list_all is_small_term ts) small in
    and_from (is_word (signed_text t.coef)) _ (with_sign_word t.coef (small_abs t.coef s.0))
    (and_from (is_word (literal_text t.lit)) _ (literal_word t.lit made.0.high) (terms_words ts n s.1 right made.1))

pub row_words_are : (row : Written) → is_small_row row ≡ true → AllMade row.terms → list_all is_word (row_words row) ≡ true
row_words_are row small made =
    let s = and_parts (list_all is_small_term row.terms) (is_small row.at_least) small in
    terms_words row.terms row.at_least s.0 s.1 made
