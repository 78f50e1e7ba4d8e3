-- Rows that wait and are at least as strong as another.
use Rattle.std.proofs.Common.{◌≡◌, ◌≤◌, ◌<◌, ℕ, zero, suc, List, [], ◌∷◌, length, get_or, refl, sym, subst, ◌++◌, ◌⊎◌, inl, inr, ap, ◌∙◌, arith, Some, None, Contains}
use Rattle.std.proofs.lemmas.List.Elements.{Contains-append_cases, Contains-append_left, Contains-append_right}
use Rattle.pb_rows.specs.Terms.{PlainRow}
use Rattle.pb_rows.specs.Formula.{NumberedRow, rows_of}
use Rattle.rup_engine.specs.Queue.{IsStrongPlace, Places, waiting_entries, place_at}
use Rattle.rup_engine.proofs.Alike.{HasAsStrong, one_before}

pub strong-among : (places : Places) (row : PlainRow) (j : ℕ) → IsStrongPlace row (place_at places j) → HasAsStrong (rows_of (waiting_entries places)) row
strong-among [] row j h = absurd h
strong-among (None ∷ places) row zero h = absurd h
strong-among (None ∷ places) row (suc j) h = strong-among places row j h
strong-among (Some s ∷ places) row zero h = (s.row, (0, omega arith, refl), h.0, h.1)
strong-among (Some s ∷ places) row (suc j) h = one_before s.row row (rows_of (waiting_entries places)) (strong-among places row j h)

pub strong-place : (places : Places) (row other : PlainRow) (k : ℕ) → k < length (rows_of (waiting_entries places)) → get_or (rows_of (waiting_entries places)) k other ≡ other → other.terms ≡ row.terms → row.degree ≤ other.degree →
    (j : ℕ) × (j < length places) × IsStrongPlace row (place_at places j)
strong-place [] row other k h e same more = absurd (omega arith)
strong-place (None ∷ places) row other k h e same more =
    let rest = strong-place places row other k h e same more in
    (suc rest.0, omega (arith, rest.1), rest.2)
strong-place (Some s ∷ places) row other zero h e same more = (zero, omega arith, (ap (λ (r : PlainRow). r.terms) e ∙ same, omega (arith, more, ap (λ (r : PlainRow). r.degree) e)))
strong-place (Some s ∷ places) row other (suc k) h e same more =
    let rest = strong-place places row other k (omega (arith, h)) e same more in
    (suc rest.0, omega (arith, rest.1), rest.2)

-- ---- joined lists

rows_of-append : (xs ys : List NumberedRow) → rows_of (xs ++ ys) ≡ rows_of xs ++ rows_of ys
rows_of-append [] ys = refl
rows_of-append (x ∷ xs) ys = ap (λ (rs : List PlainRow). x.row ∷ rs) (rows_of-append xs ys)

pub strong-first : (xs ys : List NumberedRow) (row : PlainRow) → HasAsStrong (rows_of xs) row → HasAsStrong (rows_of (xs ++ ys)) row
strong-first xs ys row h = (h.0, subst (λ (rs : List PlainRow). Contains rs h.0) (sym (rows_of-append xs ys)) (Contains-append_left (rows_of xs) (rows_of ys) h.0 h.1), h.2, h.3)

pub strong-second : (xs ys : List NumberedRow) (row : PlainRow) → HasAsStrong (rows_of ys) row → HasAsStrong (rows_of (xs ++ ys)) row
strong-second xs ys row h = (h.0, subst (λ (rs : List PlainRow). Contains rs h.0) (sym (rows_of-append xs ys)) (Contains-append_right (rows_of xs) (rows_of ys) h.0 h.1), h.2, h.3)

pub strong-either : (xs ys : List NumberedRow) (row : PlainRow) → HasAsStrong (rows_of (xs ++ ys)) row → HasAsStrong (rows_of xs) row ⊎ HasAsStrong (rows_of ys) row
strong-either xs ys row h =
    let c : Contains (rows_of xs ++ rows_of ys) h.0 = subst (λ (rs : List PlainRow). Contains rs h.0) (rows_of-append xs ys) h.1 in
    elim (Contains-append_cases (rows_of xs) (rows_of ys) h.0 c) [ inl d ↦ inl (h.0, d, h.2, h.3) | inr d ↦ inr (h.0, d, h.2, h.3) ]
