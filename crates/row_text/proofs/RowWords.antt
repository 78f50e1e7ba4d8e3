-- A row as text is its words with single spaces between them.
use Rattle.std.proofs.Common.{◌≡◌, ℕ, List, [], ◌∷◌, ◌++◌, map, refl, sym, ap, ◌∙◌, append_assoc}
use Rattle.std.specs.Prelude.{codes, flat_map}
use Rattle.std.proofs.lemmas.List.{append-nil}
use Rattle.std.specs.Fmt.{signed_decimal}
use Rattle.hrt_base.specs.declared.literal.Term.{Term}
use Rattle.pb_rows.specs.Terms.{Written}
use Rattle.row_text.specs.Rows.{literal_text, row_text, row_words, signed_text, term_text, term_words}
use Rattle.row_text.specs.Tokens.{spaced}

pub spaced_append : (vs ws : List (List ℕ)) → spaced (vs ++ ws) ≡ spaced vs ++ spaced ws
spaced_append [] ws = refl
spaced_append (v ∷ vs) ws = ap (λ (l : List ℕ). 32 ∷ (v ++ l)) (spaced_append vs ws) ∙ ap (λ (l : List ℕ). 32 ∷ l) (sym (append_assoc v (spaced vs) (spaced ws)))

-- words, a colon and words
pub colon_between : (front : List ℕ) (vs ws : List (List ℕ)) → ((front ++ spaced vs) ++ codes " :") ++ spaced ws ≡ front ++ spaced (vs ++ codes ":" ∷ ws)
colon_between front vs ws =
    append_assoc (front ++ spaced vs) (codes " :") (spaced ws) ∙ append_assoc front (spaced vs) (codes " :" ++ spaced ws)
    ∙ ap (λ (l : List ℕ). front ++ l) (sym (spaced_append vs (codes ":" ∷ ws)))

-- items, each of which is some words
pub spaced_items : {A : Type 0} (words : A → List (List ℕ)) (xs : List A) → spaced (flat_map words xs) ≡ flat_map (λ x. spaced (words x)) xs
spaced_items words [] = refl
spaced_items words (x ∷ xs) = spaced_append (words x) (flat_map words xs) ∙ ap (λ (l : List ℕ). spaced (words x) ++ l) (spaced_items words xs)

-- items, each of which is one word
pub spaced_mapped : {A : Type 0} (word : A → List ℕ) (xs : List A) → spaced (map word xs) ≡ flat_map (λ x. spaced (word x ∷ [])) xs
spaced_mapped word [] = refl
spaced_mapped word (x ∷ xs) =
    ap (λ (l : List ℕ). 32 ∷ (word x ++ l)) (spaced_mapped word xs)
    ∙ ap (λ (l : List ℕ). 32 ∷ (l ++ flat_map (λ y. spaced (word y ∷ [])) xs)) (sym (append-nil (word x)))

abbrev tail_text : Written → List ℕ
tail_text row = codes ">= " ++ signed_decimal row.at_least ++ codes " ;"

term_ahead : (t : Term) (l : List ℕ) → 32 ∷ (term_text t ++ l) ≡ 32 ∷ (signed_text t.coef ++ 32 ∷ (literal_text t.lit ++ 32 ∷ l))
term_ahead t l =
    ap (λ (r : List ℕ). 32 ∷ r) (append_assoc (signed_text t.coef) (32 ∷ (literal_text t.lit ++ 32 ∷ [])) l ∙ ap (λ (r : List ℕ). signed_text t.coef ++ 32 ∷ r) (append_assoc (literal_text t.lit) (32 ∷ []) l))

pub terms_ahead : (ts : List Term) (ws : List (List ℕ)) (l : List ℕ) → spaced ws ≡ 32 ∷ l → spaced (flat_map term_words ts ++ ws) ≡ 32 ∷ (flat_map term_text ts ++ l)
terms_ahead [] ws l e = e
terms_ahead (t ∷ ts) ws l e =
    ap (λ (r : List ℕ). 32 ∷ (signed_text t.coef ++ 32 ∷ (literal_text t.lit ++ r))) (terms_ahead ts ws l e)
    ∙ sym (term_ahead t (flat_map term_text ts ++ l)) ∙ ap (λ (r : List ℕ). 32 ∷ r) (sym (append_assoc (term_text t) (flat_map term_text ts) l))

pub row_text_spaced : (row : Written) → 32 ∷ row_text row ≡ spaced (row_words row)
row_text_spaced row =
    let terms : List ℕ = flat_map term_text row.terms in
    let number : List ℕ = signed_decimal row.at_least in
    ap (λ (r : List ℕ). 32 ∷ r) (append_assoc (terms ++ codes ">= ") number (codes " ;") ∙ append_assoc terms (codes ">= ") (number ++ codes " ;"))
    ∙ sym (terms_ahead row.terms (codes ">=" ∷ number ∷ codes ";" ∷ []) (tail_text row) refl)
