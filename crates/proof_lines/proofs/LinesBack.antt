-- Lines are read back from their words and from their text.
use Rattle.std.proofs.Common.{◌≡◌, ℕ, zero, suc, ◌+◌, ◌-◌, ◌^◌, ◌<◌, ◌≤◌, ℤ, pos, negsuc, nat_abs, true, false, not, ◌&&◌, eqb, List, [], ◌∷◌, length, map, Option, Some, None, refl, ap, ap₂, arith, if◌then◌else◌}
use Rattle.std.specs.Prelude.{bytes_eq, codes, decimal, flat_map, option_map}
use Rattle.std.specs.Fmt.{signed_decimal}
use Rattle.std.specs.List.{list_all}
use Rattle.std.proofs.lemmas.Bool.{and_from, and_parts, le-leb, leb-true, not-true}
use Rattle.std.proofs.lemmas.Fmt.{decimal_digit}
use Rattle.std.proofs.lemmas.List.{length-append}
use Rattle.hrt_base.specs.declared.literal.Lit.{Lit}
use Rattle.hrt_base.specs.declared.literal.Term.{Term}
use Rattle.hrt_base.specs.declared.numbered.RowNo.{RowNo}
use Rattle.hrt_text.specs.Text.{without_return}
use Rattle.hrt_text.proofs.PlainLines.{without_return-plain}
use Rattle.row_text.specs.Numbers.{both, is_small, read_each, read_id, read_literal, read_number}
use Rattle.row_text.specs.Rows.{literal_text}
use Rattle.row_text.proofs.NumberWords.{decimal_word, id_read, signed_read, signed_word}
use Rattle.row_text.proofs.RowBack.{AllMade, row_back, row_words_are, small_abs}
use Rattle.row_text.proofs.Words.{is_plain, is_word, tokens-words_text, words_text_plain}
use Rattle.proof_lines.specs.declared.line.PolStep.{PolStep}
use Rattle.proof_lines.specs.declared.line.Claim.{Claim}
use Rattle.proof_lines.specs.declared.line.Claim.TheVariants.{Bounds, Unsat, Nothing}
use Rattle.proof_lines.specs.declared.line.Line.{Line}
use Rattle.proof_lines.specs.declared.line.Line.TheVariants.{Header, Count, Pol, Rup, Soli, Del, Output, Conclusion, End, Comment, Blank}
use Rattle.proof_lines.specs.Spelling.{is_small_bound, is_small_claim, is_small_line, is_small_step, most_bytes, one_or_more, read_bound, read_claim, read_count, read_line, read_row_no, read_steps, read_tokens, row_no}
use Rattle.proof_lines.specs.Texts.{bound_text, claim_words, id_text, is_spellable, is_spellable_id, is_spellable_literal, is_spellable_step, is_spellable_term, is_nonempty_and_all, line_text, line_words, spelling, step_words}
use Rattle.proof_lines.proofs.StepsBack.{decimal_not, decimal_not_low, made_id_read, made_id_word, made_literal_read, made_literal_word, steps_back, steps_words_are, variable_made}

-- ---- lists

pub literals_back : (lits : List Lit) → list_all is_spellable_literal lits ≡ true → read_each read_literal (map literal_text lits) ≡ Some lits
literals_back [] made = refl
literals_back (l ∷ lits) made =
    let m = and_parts (is_spellable_literal l) (list_all is_spellable_literal lits) made in
    ap₂ (both (λ (x : Lit) xs. x ∷ xs)) (made_literal_read l m.0) (literals_back lits m.1)

pub literals_words : (lits : List Lit) → list_all is_spellable_literal lits ≡ true → list_all is_word (map literal_text lits) ≡ true
literals_words [] made = refl
literals_words (l ∷ lits) made =
    let m = and_parts (is_spellable_literal l) (list_all is_spellable_literal lits) made in
    and_from (is_word (literal_text l)) (list_all is_word (map literal_text lits)) (made_literal_word l m.0) (literals_words lits m.1)

pub row_no_back : (r : RowNo) → is_spellable_id r ≡ true → read_row_no (id_text r) ≡ Some r
row_no_back r made = ap (option_map row_no) (made_id_read r made)

pub ids_back : (ids : List RowNo) → list_all is_spellable_id ids ≡ true → read_each read_row_no (map id_text ids) ≡ Some ids
ids_back [] made = refl
ids_back (r ∷ ids) made =
    let m = and_parts (is_spellable_id r) (list_all is_spellable_id ids) made in
    ap₂ (both (λ (x : RowNo) xs. x ∷ xs)) (row_no_back r m.0) (ids_back ids m.1)

pub some_ids_back : (ids : List RowNo) → is_nonempty_and_all is_spellable_id ids ≡ true → one_or_more (read_each read_row_no (map id_text ids)) ≡ Some ids
some_ids_back [] made = absurd cc
some_ids_back (r ∷ ids) made = ap one_or_more (ids_back (r ∷ ids) made)

pub ids_words : (ids : List RowNo) → list_all is_spellable_id ids ≡ true → list_all is_word (map id_text ids) ≡ true
ids_words [] made = refl
ids_words (r ∷ ids) made =
    let m = and_parts (is_spellable_id r) (list_all is_spellable_id ids) made in
    and_from (is_word (id_text r)) (list_all is_word (map id_text ids)) (made_id_word r m.0) (ids_words ids m.1)

pub some_ids_words : (ids : List RowNo) → is_nonempty_and_all is_spellable_id ids ≡ true → list_all is_word (map id_text ids) ≡ true
some_ids_words [] made = absurd cc
some_ids_words (r ∷ ids) made = ids_words (r ∷ ids) made

-- ---- counts

count_zero : decimal 0 ≡ 48 ∷ []
count_zero = decimal_digit 0 (omega arith)

not_zero_by : (n : ℕ) (ds : List ℕ) → read_id ds ≡ Some n → bytes_eq ds (codes "0") ≡ false
not_zero_by n [] e = refl
not_zero_by n (b ∷ []) e = elim (eqb b 48) as (λ t. (if t then None else Rattle.row_text.specs.Numbers.read_digits (b ∷ [])) ≡ Some n → t && true ≡ false) [ true ↦ λ k. absurd cc | false ↦ λ k. refl ] e
not_zero_by n (b ∷ c ∷ ds) e = elim (eqb b 48) as (λ t. t && false ≡ false) [ true ↦ refl | false ↦ refl ]

count_back : (n : ℕ) → n ≤ 10 ^ 18 - 1 → read_count (decimal n ∷ []) ≡ Some n
count_back zero high = rw count_zero refl
count_back (suc n) high =
    let id : read_id (decimal (suc n)) ≡ Some (suc n) = id_read (suc n) (omega arith) high in
    rw (not_zero_by (suc n) (decimal (suc n)) id, id) refl

-- ---- claims

not_word_lower : (z : ℤ) → nat_abs z < 10 ^ 64 → bytes_eq (signed_decimal z) (codes "-INF") ≡ false
not_word_lower (pos n) h = decimal_not_low n 45 (codes "INF") h (omega arith)
not_word_lower (negsuc n) h = decimal_not (suc n) 73 (codes "NF") h (omega arith)

not_word_upper : (z : ℤ) → nat_abs z < 10 ^ 64 → bytes_eq (signed_decimal z) (codes "INF") ≡ false
not_word_upper (pos n) h = decimal_not n 73 (codes "NF") h (omega arith)
not_word_upper (negsuc n) h = refl

lower_back : (o : Option ℤ) → is_small_bound o ≡ true → read_bound (codes "-INF") (bound_text (codes "-INF") o) ≡ Some o
lower_back None small = refl
lower_back (Some z) small = rw (not_word_lower z (small_abs z small)) (ap (option_map (λ (x : ℤ). Some x)) (signed_read z (small_abs z small)))

upper_back : (o : Option ℤ) → is_small_bound o ≡ true → read_bound (codes "INF") (bound_text (codes "INF") o) ≡ Some o
upper_back None small = refl
upper_back (Some z) small = rw (not_word_upper z (small_abs z small)) (ap (option_map (λ (x : ℤ). Some x)) (signed_read z (small_abs z small)))

claim_back : (claim : Claim) → is_small_claim claim ≡ true → read_claim (claim_words claim) ≡ Some claim
claim_back (Bounds l u) small =
    let s = and_parts (is_small_bound l) (is_small_bound u) small in
    ap₂ (both Bounds) (lower_back l s.0) (upper_back u s.1)
claim_back Unsat small = refl
claim_back Nothing small = refl

bound_word : (word : List ℕ) (o : Option ℤ) → is_word word ≡ true → is_small_bound o ≡ true → is_word (bound_text word o) ≡ true
bound_word word None h small = h
bound_word word (Some z) h small = signed_word z (small_abs z small)

claim_words_are : (claim : Claim) → is_small_claim claim ≡ true → list_all is_word (claim_words claim) ≡ true
claim_words_are (Bounds l u) small =
    let s = and_parts (is_small_bound l) (is_small_bound u) small in
    and_from (is_word (bound_text (codes "-INF") l)) _ (bound_word (codes "-INF") l refl s.0) (and_from (is_word (bound_text (codes "INF") u)) true (bound_word (codes "INF") u refl s.1) refl)
claim_words_are Unsat small = refl
claim_words_are Nothing small = refl

-- ---- lines

terms_made : (ts : List Term) → list_all is_spellable_term ts ≡ true → AllMade ts
terms_made [] made = tt
terms_made (t ∷ ts) made =
    let m = and_parts (is_spellable_term t) (list_all is_spellable_term ts) made in
    let v = variable_made t.lit.var m.0 in
    (record { low = v.0; high = v.1 }, terms_made ts m.1)

some_steps_back : (steps : List PolStep) → is_nonempty_and_all is_spellable_step steps ≡ true → list_all is_small_step steps ≡ true → one_or_more (read_steps (flat_map step_words steps)) ≡ Some steps
some_steps_back [] made small = absurd cc
some_steps_back (step ∷ steps) made small = ap one_or_more (steps_back (step ∷ steps) made small)

some_steps_words : (steps : List PolStep) → is_nonempty_and_all is_spellable_step steps ≡ true → list_all is_small_step steps ≡ true → list_all is_word (flat_map step_words steps) ≡ true
some_steps_words [] made small = absurd cc
some_steps_words (step ∷ steps) made small = steps_words_are (step ∷ steps) made small

pub words_back : (line : Line) → is_spellable line ≡ true → is_small_line line ≡ true → read_tokens (line_words line) ≡ Some line
words_back Header made small = refl
words_back (Count n) made small = ap (option_map Count) (count_back n (leb-true n (10 ^ 18 - 1) made))
words_back (Pol steps) made small = ap (option_map Pol) (some_steps_back steps made small)
words_back (Rup row) made small = ap (option_map Rup) (row_back row small (terms_made row.terms made))
words_back (Soli lits) made small = ap (option_map Soli) (literals_back lits made)
words_back (Del ids) made small = ap (option_map Del) (some_ids_back ids made)
words_back Output made small = refl
words_back (Conclusion claim) made small = ap (option_map Conclusion) (claim_back claim small)
words_back End made small = refl
words_back Comment made small = refl
words_back Blank made small = refl

pub line_words_are : (line : Line) → is_spellable line ≡ true → is_small_line line ≡ true → list_all is_word (line_words line) ≡ true
line_words_are Header made small = refl
line_words_are (Count n) made small = and_from (is_word (decimal n)) true (decimal_word n (omega (arith, leb-true n (10 ^ 18 - 1) made))) refl
line_words_are (Pol steps) made small = some_steps_words steps made small
line_words_are (Rup row) made small = row_words_are row small (terms_made row.terms made)
line_words_are (Soli lits) made small = literals_words lits made
line_words_are (Del ids) made small = some_ids_words ids made
line_words_are Output made small = refl
line_words_are (Conclusion claim) made small = claim_words_are claim small
line_words_are End made small = refl
line_words_are Comment made small = refl
line_words_are Blank made small = refl

-- What is written for a line reads as the line.
pub line_back : (line : Line) → is_spellable line ≡ true → is_small_line line ≡ true → length (line_text line) ≤ most_bytes → read_line (spelling line) ≡ Some line
line_back line made small short =
    let words = line_words_are line made small in
    let few : length (spelling line) + 1 ≤ most_bytes = omega (arith, length-append (spelling line) (10 ∷ [])) in
    let same : without_return (spelling line) ≡ spelling line = without_return-plain (spelling line) (words_text_plain (line_words line) words) in
    rw (le-leb (length (spelling line) + 1) most_bytes few, same, tokens-words_text (line_words line) words) (words_back line made small)
