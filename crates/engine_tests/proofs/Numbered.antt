-- Numbers that no row has.
use Rattle.std.proofs.Common.{◌≡◌, ◌==◌, ℕ, false, List, [], ◌∷◌, refl, None, inl, inr}
use Rattle.std.proofs.lemmas.Bool.{cases_Bool}
use Rattle.pb_rows.specs.Formula.{NumberedRow, is_numbered, row_of}

pub unnumbered : (n : ℕ) (rows : List NumberedRow) → row_of n rows ≡ None → is_numbered n rows ≡ false
unnumbered n [] h = refl
unnumbered n (x ∷ rows) h = elim (cases_Bool (x.number == n)) [
  | inl here ↦ let g = (rw here at h) in absurd (cc)
  | inr there ↦ let g = (rw there at h) in rw there (unnumbered n rows g)
]
