-- Lines without a line feed and a carriage return are the lines of their text.
use Rattle.std.proofs.Common.{◌≡◌, ℕ, true, false, not, eqb, List, [], ◌∷◌, ◌++◌, map, refl, ap, ◌∙◌, append_assoc}
use Rattle.std.specs.Prelude.{flat_map}
use Rattle.std.specs.List.{list_all, AllByRecursion}
use Rattle.std.proofs.lemmas.Bool.{and_from, and_parts, not-true}
use Rattle.std.proofs.lemmas.List.Folds.{list_all-append}
use Rattle.hrt_text.specs.Text.{lines, without_return}
use Rattle.hrt_text.proofs.Scan.{is_no_feed, part_ends}
use Rattle.hrt_text.proofs.Words.{all_weaker, is_plain}

abbrev pub IsPlain : List ℕ → Type 0
IsPlain line = list_all is_plain line ≡ true

no_feed : (b : ℕ) → is_plain b ≡ true → is_no_feed b ≡ true
no_feed b h = (and_parts (not (eqb b 10)) (not (eqb b 13)) h).0

no_return : (b : ℕ) → is_plain b ≡ true → eqb b 13 ≡ false
no_return b h = not-true (eqb b 13) (and_parts (not (eqb b 10)) (not (eqb b 13)) h).1

-- nothing is dropped at its end
pub without_return-plain : (line : List ℕ) → IsPlain line → without_return line ≡ line
without_return-plain [] h = refl
without_return-plain (b ∷ []) h = rw (no_return b (and_parts (is_plain b) true h).0) refl
without_return-plain (b ∷ c ∷ line) h = ap (λ (l : List ℕ). b ∷ l) (without_return-plain (c ∷ line) (and_parts (is_plain b) (list_all is_plain (c ∷ line)) h).1)

pub plain_append : (a b : List ℕ) → IsPlain a → IsPlain b → IsPlain (a ++ b)
plain_append a b h k = list_all-append is_plain a b ∙ and_from (list_all is_plain a) (list_all is_plain b) h k

-- ---- with its line feed

abbrev pub ended_line : List ℕ → List ℕ
ended_line line = line ++ 10 ∷ []

pub line_ahead : (line text : List ℕ) → IsPlain line → lines (ended_line line ++ text) ≡ line ∷ lines text
line_ahead line text h =
    ap lines (append_assoc line (10 ∷ []) text)
    ∙ ap (map without_return) (part_ends line text (all_weaker is_plain is_no_feed no_feed line h))
    ∙ ap (λ (l : List ℕ). l ∷ lines text) (without_return-plain line h)

pub lines_back : (ls : List (List ℕ)) → AllByRecursion IsPlain ls → lines (flat_map ended_line ls) ≡ ls
lines_back [] h = refl
lines_back (l ∷ ls) h = line_ahead l (flat_map ended_line ls) h.0 ∙ ap (λ (x : List (List ℕ)). l ∷ x) (lines_back ls h.1)
