-- The tokens of a line, from its form.
use Rattle.std.proofs.Common.{◌≡◌, ℕ, true, List, [], ◌∷◌, ap, ◌∙◌, inl, inr}
use Rattle.std.specs.Prelude.{bytes_eq, codes}
use Rattle.std.proofs.lemmas.Bool.{and_parts, cases_Bool}
use Rattle.std.proofs.lemmas.Slice.Eq.{bytes_eq-Decides}
use Rattle.hrt_text.specs.Text.{Token, colon, opening, closing, word, Row}
use Rattle.hrt_text.specs.Grammar.{Form, resident, hospital, finish, other, form_by, form_of, resident_form, hospital_form, finish_form, is_header}
use Rattle.hrt_reader.specs.Accepted.{header_line, end_line}

-- the line has the tokens of its form
abbrev pub HasShape : Row → Form → Type 0
HasShape row (resident name items) = row ≡ word (codes "resident") ∷ word name ∷ colon ∷ items
HasShape row (hospital name posts items) = row ≡ word (codes "hospital") ∷ word name ∷ word posts ∷ colon ∷ items
HasShape row finish = row ≡ end_line
HasShape row other = Unit {0}

resident_shape : (first : List ℕ) (tokens : List Token) → first ≡ codes "resident" → HasShape (word first ∷ tokens) (resident_form tokens)
resident_shape first [] e = tt
resident_shape first (colon ∷ tokens) e = tt
resident_shape first (opening ∷ tokens) e = tt
resident_shape first (closing ∷ tokens) e = tt
resident_shape first (word name ∷ []) e = tt
resident_shape first (word name ∷ colon ∷ tokens) e = ap (λ (w : List ℕ). word w ∷ word name ∷ colon ∷ tokens) e
resident_shape first (word name ∷ opening ∷ tokens) e = tt
resident_shape first (word name ∷ closing ∷ tokens) e = tt
resident_shape first (word name ∷ word w ∷ tokens) e = tt

hospital_shape : (first : List ℕ) (tokens : List Token) → first ≡ codes "hospital" → HasShape (word first ∷ tokens) (hospital_form tokens)
hospital_shape first [] e = tt
hospital_shape first (colon ∷ tokens) e = tt
hospital_shape first (opening ∷ tokens) e = tt
hospital_shape first (closing ∷ tokens) e = tt
hospital_shape first (word name ∷ []) e = tt
hospital_shape first (word name ∷ colon ∷ tokens) e = tt
hospital_shape first (word name ∷ opening ∷ tokens) e = tt
hospital_shape first (word name ∷ closing ∷ tokens) e = tt
hospital_shape first (word name ∷ word posts ∷ []) e = tt
hospital_shape first (word name ∷ word posts ∷ colon ∷ tokens) e = ap (λ (w : List ℕ). word w ∷ word name ∷ word posts ∷ colon ∷ tokens) e
hospital_shape first (word name ∷ word posts ∷ opening ∷ tokens) e = tt
hospital_shape first (word name ∷ word posts ∷ closing ∷ tokens) e = tt
hospital_shape first (word name ∷ word posts ∷ word w ∷ tokens) e = tt

finish_shape : (first : List ℕ) (tokens : List Token) → first ≡ codes "end" → HasShape (word first ∷ tokens) (finish_form tokens)
finish_shape first [] e = ap (λ (w : List ℕ). word w ∷ []) e
finish_shape first (t ∷ tokens) e = tt

equal : (v w : List ℕ) → bytes_eq v w ≡ true → v ≡ w
equal v w e = (bytes_eq-Decides v w).0 e

-- by the first of three words that is the line's
by_first : (first : List ℕ) (tokens : List Token) → HasShape (word first ∷ tokens) (form_by first tokens)
by_first first tokens = elim (cases_Bool (bytes_eq first (codes "resident"))) [
  | inl is ↦ rw is (resident_shape first tokens (equal first (codes "resident") is))
  | inr unlike ↦
      elim (cases_Bool (bytes_eq first (codes "hospital"))) [
        | inl is ↦ rw (unlike, is) (hospital_shape first tokens (equal first (codes "hospital") is))
        | inr none ↦
            elim (cases_Bool (bytes_eq first (codes "end"))) [
              | inl is ↦ rw (unlike, none, is) (finish_shape first tokens (equal first (codes "end") is))
              | inr nothing ↦ rw (unlike, none, nothing) tt
            ]
      ]
]

pub shape : (row : Row) → HasShape row (form_of row)
shape [] = tt
shape (colon ∷ row) = tt
shape (opening ∷ row) = tt
shape (closing ∷ row) = tt
shape (word first ∷ row) = by_first first row

pub header_shape : (row : Row) → is_header row ≡ true → row ≡ header_line
header_shape [] h = absurd cc
header_shape (colon ∷ row) h = absurd cc
header_shape (opening ∷ row) h = absurd cc
header_shape (closing ∷ row) h = absurd cc
header_shape (word first ∷ []) h = absurd cc
header_shape (word first ∷ colon ∷ row) h = absurd cc
header_shape (word first ∷ opening ∷ row) h = absurd cc
header_shape (word first ∷ closing ∷ row) h = absurd cc
header_shape (word first ∷ word second ∷ []) h =
    let t = and_parts (bytes_eq first (codes "hrt")) (bytes_eq second (codes "1")) h in
    ap (λ (w : List ℕ). word w ∷ word second ∷ []) (equal first (codes "hrt") t.0) ∙ ap (λ (w : List ℕ). word (codes "hrt") ∷ word w ∷ []) (equal second (codes "1") t.1)
header_shape (word first ∷ word second ∷ t ∷ row) h = absurd cc
