-- Only a line without tokens reads as blank.
use Rattle.std.proofs.Common.{◌≡◌, ℕ, Bool, true, false, ◌&&◌, List, [], ◌∷◌, Option, Some, None, refl, if◌then◌else◌}
use Rattle.std.specs.Prelude.{bytes_eq, codes, nat_le, length, ◌+◌, ◌==◌, option_map}
use Rattle.hrt_text.specs.Text.{without_return}
use Rattle.row_text.specs.Tokens.{are, is_comment, tokens}
use Rattle.row_text.specs.Numbers.{read_each, read_literal}
use Rattle.row_text.specs.Rows.{read_row}
use Rattle.proof_lines.specs.declared.line.Line.{Line}
use Rattle.proof_lines.specs.declared.line.Line.TheVariants.{Header, Count, Pol, Rup, Soli, Del, Output, Conclusion, End, Comment}
use Rattle.proof_lines.specs.FirstLine.{is_blank, is_blank_text}
use Rattle.proof_lines.specs.Spelling.{end_words, header_words, most_bytes, one_or_more, output_words, read_claim, read_count, read_del, read_steps, read_tokens}

not_blank : {A : Type 0} (make : A → Line) (o : Option A) → ((x : A) → is_blank (Some (make x)) ≡ false) → is_blank (option_map make o) ≡ false
not_blank make None h = refl
not_blank make (Some x) h = h x

by_tests : (comment f pol rup soli del conclusion output header end : Bool) (ts : List (List ℕ)) → is_blank (
    if comment then Some Comment
    else if f then option_map Count (read_count ts)
    else if pol then option_map Pol (one_or_more (read_steps ts))
    else if rup then option_map Rup (read_row ts)
    else if soli then option_map Soli (read_each read_literal ts)
    else if del then option_map Del (read_del ts)
    else if conclusion then option_map Conclusion (read_claim ts)
    else if output then Some Output
    else if header then Some Header
    else if end then Some End
    else None) ≡ false
by_tests true f pol rup soli del conclusion output header end ts = refl
by_tests false true pol rup soli del conclusion output header end ts = not_blank Count (read_count ts) (λ x. refl)
by_tests false false true rup soli del conclusion output header end ts = not_blank Pol (one_or_more (read_steps ts)) (λ x. refl)
by_tests false false false true soli del conclusion output header end ts = not_blank Rup (read_row ts) (λ x. refl)
by_tests false false false false true del conclusion output header end ts = not_blank Soli (read_each read_literal ts) (λ x. refl)
by_tests false false false false false true conclusion output header end ts = not_blank Del (read_del ts) (λ x. refl)
by_tests false false false false false false true output header end ts = not_blank Conclusion (read_claim ts) (λ x. refl)
by_tests false false false false false false false true header end ts = refl
by_tests false false false false false false false false true end ts = refl
by_tests false false false false false false false false false true ts = refl
by_tests false false false false false false false false false false ts = refl

-- no token
abbrev pub has_none : List (List ℕ) → Bool
has_none [] = true
has_none (t ∷ ts) = false

blank_tokens : (ts : List (List ℕ)) → is_blank (read_tokens ts) ≡ has_none ts
blank_tokens [] = refl
blank_tokens (t ∷ ts) =
    by_tests (is_comment (t ∷ ts)) (bytes_eq t (codes "f")) (bytes_eq t (codes "pol")) (bytes_eq t (codes "rup")) (bytes_eq t (codes "soli")) (bytes_eq t (codes "del")) (bytes_eq t (codes "conclusion"))
    (are (t ∷ ts) output_words) (are (t ∷ ts) header_words) (are (t ∷ ts) end_words) ts

by_length : (short : Bool) (ts : List (List ℕ)) → is_blank (if short then read_tokens ts else None) ≡ (short && has_none ts)
by_length true ts = blank_tokens ts
by_length false ts = refl

pub blank_text : (bytes : List ℕ) → is_blank_text bytes ≡ (nat_le (length bytes + 1) most_bytes && has_none (tokens (without_return bytes)))
blank_text bytes = by_length (nat_le (length bytes + 1) most_bytes) (tokens (without_return bytes))
