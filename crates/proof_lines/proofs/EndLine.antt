-- Only the end line's words read as the end.
use Rattle.std.proofs.Common.{◌≡◌, ℕ, Bool, true, false, ◌&&◌, List, [], ◌∷◌, Option, Some, None, inl, inr, refl, sym, ap, ◌∙◌, if◌then◌else◌}
use Rattle.std.specs.Prelude.{bytes_eq, codes, nat_le, length, ◌+◌, option_map}
use Rattle.std.proofs.lemmas.Bool.{and_parts, cases_Bool}
use Rattle.std.proofs.lemmas.Slice.Eq.{bytes_eq-Decides}
use Rattle.hrt_text.specs.Text.{without_return}
use Rattle.row_text.specs.Tokens.{are, is_comment, tokens}
use Rattle.row_text.specs.Numbers.{read_each, read_literal}
use Rattle.row_text.specs.Rows.{read_row}
use Rattle.proof_lines.specs.declared.line.Line.{Line}
use Rattle.proof_lines.specs.declared.line.Line.TheVariants.{Header, Count, Pol, Rup, Soli, Del, Output, Conclusion, Comment}
use Rattle.proof_lines.specs.FirstLine.{is_end, is_end_text}
use Rattle.proof_lines.specs.Spelling.{end_words, header_words, most_bytes, one_or_more, output_words, read_claim, read_count, read_del, read_steps, read_tokens}

-- lists of tokens that are these words
pub are-same : (ts us : List (List ℕ)) → are ts us ≡ true → ts ≡ us
are-same [] [] h = refl
are-same [] (u ∷ us) h = absurd cc
are-same (t ∷ ts) [] h = absurd cc
are-same (t ∷ ts) (u ∷ us) h =
    let p = and_parts (bytes_eq t u) (are ts us) h in
    let first : t ≡ u = (bytes_eq-Decides t u).0 p.0 in
    let others : ts ≡ us = are-same ts us p.1 in
    cc

no_end : {A : Type 0} (make : A → Line) (o : Option A) → ((x : A) → is_end (Some (make x)) ≡ false) → is_end (option_map make o) ≡ false
no_end make None h = refl
no_end make (Some x) h = h x

by_tests : (comment f pol rup soli del conclusion output header : Bool) (ts : List (List ℕ)) → is_end (
    if comment then Some Comment
    else if f then option_map Count (read_count ts)
    else if pol then option_map Pol (one_or_more (read_steps ts))
    else if rup then option_map Rup (read_row ts)
    else if soli then option_map Soli (read_each read_literal ts)
    else if del then option_map Del (read_del ts)
    else if conclusion then option_map Conclusion (read_claim ts)
    else if output then Some Output
    else if header then Some Header
    else None) ≡ false
by_tests true f pol rup soli del conclusion output header ts = refl
by_tests false true pol rup soli del conclusion output header ts = no_end Count (read_count ts) (λ x. refl)
by_tests false false true rup soli del conclusion output header ts = no_end Pol (one_or_more (read_steps ts)) (λ x. refl)
by_tests false false false true soli del conclusion output header ts = no_end Rup (read_row ts) (λ x. refl)
by_tests false false false false true del conclusion output header ts = no_end Soli (read_each read_literal ts) (λ x. refl)
by_tests false false false false false true conclusion output header ts = no_end Del (read_del ts) (λ x. refl)
by_tests false false false false false false true output header ts = no_end Conclusion (read_claim ts) (λ x. refl)
by_tests false false false false false false false true header ts = refl
by_tests false false false false false false false false true ts = refl
by_tests false false false false false false false false false ts = refl

other_words : (t : List ℕ) (ts : List (List ℕ)) → are (t ∷ ts) end_words ≡ false → is_end (read_tokens (t ∷ ts)) ≡ false
other_words t ts h =
    rw h (by_tests (is_comment (t ∷ ts)) (bytes_eq t (codes "f")) (bytes_eq t (codes "pol")) (bytes_eq t (codes "rup")) (bytes_eq t (codes "soli")) (bytes_eq t (codes "del")) (bytes_eq t (codes "conclusion")) (are (t ∷ ts) output_words) (are (t ∷ ts) header_words) ts)

end_tokens : (ts : List (List ℕ)) → is_end (read_tokens ts) ≡ are ts end_words
end_tokens [] = refl
end_tokens (t ∷ ts) = elim (cases_Bool (are (t ∷ ts) end_words)) [
  | inl same ↦ ap (λ (us : List (List ℕ)). is_end (read_tokens us)) (are-same (t ∷ ts) end_words same) ∙ sym same
  | inr other ↦ other_words t ts other ∙ sym other
]

by_length : (short : Bool) (ts : List (List ℕ)) → is_end (if short then read_tokens ts else None) ≡ (short && are ts end_words)
by_length true ts = end_tokens ts
by_length false ts = refl

pub end_text : (bytes : List ℕ) → is_end_text bytes ≡ (nat_le (length bytes + 1) most_bytes && are (tokens (without_return bytes)) end_words)
end_text bytes = by_length (nat_le (length bytes + 1) most_bytes) (tokens (without_return bytes))
