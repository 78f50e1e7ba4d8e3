-- The lines of a canonical spelling, and what they say.
use Rattle.std.proofs.Common.{◌≡◌, ◌∙◌, ℕ, ◌^◌, ◌<◌, true, List, [], ◌∷◌, ◌++◌, length, map, Some, ℤ, pos, negsuc, refl, sym, ap, ap₂, append_assoc, arith}
use Rattle.std.specs.Prelude.{codes, decimal, flat_map, option_map}
use Rattle.std.specs.Fmt.{signed_decimal}
use Rattle.std.specs.List.{AllByRecursion, cons_option, list_all}
use Rattle.std.proofs.lemmas.Bool.{and_from, and_parts}
use Rattle.std.proofs.lemmas.List.{append-nil}
use Rattle.hrt_base.specs.declared.literal.Term.{Term}
use Rattle.pb_rows.specs.Terms.{Written}
use Rattle.hrt_text.proofs.PlainLines.{ended_line, line_ahead}
use Rattle.row_text.specs.Numbers.{both}
use Rattle.row_text.specs.Rows.{is_small_row, is_small_term, literal_text, read_row, row_text, row_words, signed_text, term_text, term_words}
use Rattle.row_text.specs.Tokens.{spaced, tokens, words_text}
use Rattle.row_text.proofs.NumberWords.{decimal_word, literal_word, with_sign_word}
use Rattle.row_text.proofs.RowBack.{AllMade, row_back, row_words_are, small_abs, term_back}
use Rattle.row_text.proofs.RowWords.{row_text_spaced, terms_ahead}
use Rattle.row_text.proofs.Words.{is_word, tokens-words_text, words_text_plain}
use Rattle.opb_text.specs.Refusal.{lines_of}
use Rattle.opb_text.specs.Spelling.{header_line, objective_line, row_line}
use Rattle.opb_text.specs.Statements.{Line, constraint, minimize, read_objective, read_statement, statements}

-- ---- words

abbrev pub header_words : ℕ → ℕ → Line
header_words vars rows = codes "*" ∷ codes "#variable=" ∷ decimal vars ∷ codes "#constraint=" ∷ decimal rows ∷ []

abbrev pub objective_words : List Term → Line
objective_words terms = codes "min:" ∷ (flat_map term_words terms ++ codes ";" ∷ [])

header_text : (vars rows : ℕ) → header_line vars rows ≡ ended_line (words_text (header_words vars rows))
header_text vars rows =
    let tail : List ℕ = codes " #constraint= " ++ (decimal rows ++ []) in
    ap (λ (l : List ℕ). codes "* #variable= " ++ (decimal vars ++ (codes " #constraint= " ++ (l ++ 10 ∷ [])))) (sym (append-nil (decimal rows)))
    ∙ ap (λ (l : List ℕ). codes "* #variable= " ++ l) (sym (append_assoc (decimal vars) tail (10 ∷ [])))

objective_text : (terms : List Term) → objective_line terms ≡ ended_line (words_text (objective_words terms))
objective_text terms =
    ap (λ (l : List ℕ). codes "min: " ++ l) (sym (append_assoc (flat_map term_text terms) (59 ∷ []) (10 ∷ [])))
    ∙ ap (λ (l : List ℕ). ended_line (codes "min:" ++ l)) (sym (terms_ahead terms (codes ";" ∷ []) (59 ∷ []) refl))

first_spaced : (ws : List (List ℕ)) → 0 < length ws → spaced ws ≡ 32 ∷ words_text ws
first_spaced [] h = absurd (omega arith)
first_spaced (w ∷ ws) h = refl

some_words : (ts : List Term) (w : List ℕ) (ws : List (List ℕ)) → 0 < length (flat_map term_words ts ++ w ∷ ws)
some_words [] w ws = omega arith
some_words (t ∷ ts) w ws = omega arith

row_text_words : (row : Written) → row_text row ≡ words_text (row_words row)
row_text_words row =
    let e : 32 ∷ row_text row ≡ 32 ∷ words_text (row_words row) =
    row_text_spaced row ∙ first_spaced (row_words row) (some_words row.terms (codes ">=") (signed_decimal row.at_least ∷ codes ";" ∷ [])) in
    cc

row_line_text : (row : Written) → row_line row ≡ ended_line (words_text (row_words row))
row_line_text row = ap ended_line (row_text_words row)

-- ---- they are words

-- its variables are from 1 on, and its numbers within 2^120
pub record IsPlainRow (row : Written) : Type 0 where
  pub small : is_small_row row ≡ true
  pub made : AllMade row.terms

pub record ArePlainTerms (terms : List Term) : Type 0 where
  pub small : list_all is_small_term terms ≡ true
  pub made : AllMade terms

header_words_are : (vars rows : ℕ) → vars < 10 ^ 64 → rows < 10 ^ 64 → list_all is_word (header_words vars rows) ≡ true
header_words_are vars rows h k = and_from (is_word (decimal vars)) _ (decimal_word vars h) (and_from (is_word (decimal rows)) true (decimal_word rows k) refl)

end_words_are : (ts : List Term) → list_all is_small_term ts ≡ true → AllMade ts → list_all is_word (flat_map term_words ts ++ codes ";" ∷ []) ≡ true
end_words_are [] small made = refl
end_words_are (t ∷ ts) small made =
    let s = and_parts (is_small_term t) (list_all is_small_term ts) small in
    and_from (is_word (signed_text t.coef)) _ (with_sign_word t.coef (small_abs t.coef s.0)) (and_from (is_word (literal_text t.lit)) _ (literal_word t.lit made.0.high) (end_words_are ts s.1 made.1))

objective_words_are : (ts : List Term) → ArePlainTerms ts → list_all is_word (objective_words ts) ≡ true
objective_words_are ts h = end_words_are ts h.small h.made

-- ---- lines

words_ahead : (ws : Line) (text : List ℕ) → list_all is_word ws ≡ true → lines_of (ended_line (words_text ws) ++ text) ≡ ws ∷ lines_of text
words_ahead ws text h = ap (map tokens) (line_ahead (words_text ws) text (words_text_plain ws h)) ∙ ap (λ (t : Line). t ∷ lines_of text) (tokens-words_text ws h)

rows_lines : (rows : List Written) → AllByRecursion IsPlainRow rows → lines_of (flat_map row_line rows) ≡ map row_words rows
rows_lines [] h = refl
rows_lines (row ∷ rows) h =
    ap (λ (l : List ℕ). lines_of (l ++ flat_map row_line rows)) (row_line_text row)
    ∙ words_ahead (row_words row) (flat_map row_line rows) (row_words_are row h.0.small h.0.made)
    ∙ ap (λ (ls : List Line). row_words row ∷ ls) (rows_lines rows h.1)

abbrev pub spelling_of : ℕ → ℕ → List Term → List Written → List ℕ
spelling_of vars count terms rows = header_line vars count ++ (objective_line terms ++ flat_map row_line rows)

abbrev pub words_of : ℕ → ℕ → List Term → List Written → List Line
words_of vars count terms rows = header_words vars count ∷ objective_words terms ∷ map row_words rows

pub spelled_lines : (vars count : ℕ) (terms : List Term) (rows : List Written) → vars < 10 ^ 64 → count < 10 ^ 64 → ArePlainTerms terms → AllByRecursion IsPlainRow rows
    → lines_of (spelling_of vars count terms rows) ≡ words_of vars count terms rows
spelled_lines vars count terms rows h k plain all =
    let later : List ℕ = flat_map row_line rows in
    ap (λ (l : List ℕ). lines_of (l ++ (objective_line terms ++ later))) (header_text vars count)
    ∙ words_ahead (header_words vars count) (objective_line terms ++ later) (header_words_are vars count h k)
    ∙ ap (λ (ls : List Line). header_words vars count ∷ ls)
    (ap (λ (l : List ℕ). lines_of (l ++ later)) (objective_text terms) ∙ words_ahead (objective_words terms) later (objective_words_are terms plain)
    ∙ ap (λ (ls : List Line). objective_words terms ∷ ls) (rows_lines rows all))

-- ---- what they say

objective_back : (ts : List Term) → list_all is_small_term ts ≡ true → AllMade ts → read_objective (flat_map term_words ts ++ codes ";" ∷ []) ≡ Some ts
objective_back [] small made = refl
objective_back (t ∷ ts) small made =
    let s = and_parts (is_small_term t) (list_all is_small_term ts) small in
    ap₂ (both (λ (x : Term) (xs : List Term). x ∷ xs)) (term_back t s.0 made.0) (objective_back ts s.1 made.1)

pub objective_says : (ts : List Term) → ArePlainTerms ts → read_statement (objective_words ts) ≡ Some (minimize ts)
objective_says ts h = ap (option_map minimize) (objective_back ts h.small h.made)

-- a row's line is no comment and no objective
by_row : (z : ℤ) (ws : Line) → read_statement (signed_text z ∷ ws) ≡ option_map constraint (read_row (signed_text z ∷ ws))
by_row (pos n) ws = refl
by_row (negsuc n) ws = refl

row_statement : (ts : List Term) (n : ℤ) → let ws : Line = flat_map term_words ts ++ codes ">=" ∷ signed_decimal n ∷ codes ";" ∷ [] in read_statement ws ≡ option_map constraint (read_row ws)
row_statement [] n = refl
row_statement (t ∷ ts) n = by_row t.coef (literal_text t.lit ∷ (flat_map term_words ts ++ codes ">=" ∷ signed_decimal n ∷ codes ";" ∷ []))

pub row_says : (row : Written) → IsPlainRow row → read_statement (row_words row) ≡ Some (constraint row)
row_says row h = row_statement row.terms row.at_least ∙ ap (option_map constraint) (row_back row h.small h.made)

pub rows_say : (rows : List Written) → AllByRecursion IsPlainRow rows → statements (map row_words rows) ≡ map constraint rows
rows_say [] h = refl
rows_say (row ∷ rows) h = ap₂ cons_option (row_says row h.0) (rows_say rows h.1)
