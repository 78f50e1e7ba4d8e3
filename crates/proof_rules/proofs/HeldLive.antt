-- Held rows stay live.
use Rattle.std.proofs.Common.{◌≡◌, nat_le, map, ℕ, ◌+◌, ◌<◌, ◌≤◌, ◌==◌, Bool, true, false, cond, not, ◌||◌, List, [], ◌∷◌, ◌++◌, length, ◌⊎◌, refl, sym, ap, ◌∙◌, subst, inl, inr, arith}
use Rattle.std.proofs.lemmas.List.{append-nil, length-append, length-map}
use Rattle.std.proofs.lemmas.Bool.{and_parts, leb-true, cases_eq, cases_lt, eq-eqb, eqb-true, ne_eqb}
use Rattle.pb_rows.specs.Terms.{PlainRow}
use Rattle.pb_rows.specs.Rows.{in_normal_form}
use Rattle.pb_rows.specs.Formula.{NumberedRow, is_numbered, numbered_from, without}
use Rattle.rank_tables.specs.Numbers.{is_in, numbers_to}
use Rattle.rank_tables.specs.Instance.{Lists, pair_count}
use Rattle.stability_model.specs.Model.{formula, hospital_rows, pair_row, pair_row_no, resident_rows, rows, written_rows}
use Rattle.rank_tables.proofs.Numbers.{is_in-numbers_to}
use Rattle.proof_rules.specs.States.{first_state}
use Rattle.proof_rules.specs.Held.{Held, HeldAreLive, first_held, is_held, keeping}
use Rattle.proof_rules.proofs.Held.{is_held-keeping}

one_of : (b c : Bool) → (b || c) ≡ true → (b ≡ true) ⊎ (c ≡ true)
one_of true c h = inl refl
one_of false c h = inr h

or_left : (b c : Bool) → b ≡ true → (b || c) ≡ true
or_left true c h = refl
or_left false c h = absurd (cc)

or_right : (b c : Bool) → c ≡ true → (b || c) ≡ true
or_right true c h = refl
or_right false c h = h

-- ---- live numbers

pub numbered-front : (n : ℕ) (live more : List NumberedRow) → is_numbered n live ≡ true → is_numbered n (live ++ more) ≡ true
numbered-front n [] more h = absurd (cc)
numbered-front n (e ∷ live) more h = elim (one_of (e.number == n) (is_numbered n live) h) [
  | inl s ↦ or_left (e.number == n) (is_numbered n (live ++ more)) s
  | inr s ↦ or_right (e.number == n) (is_numbered n (live ++ more)) (numbered-front n live more s)
]

kept_step : (n : ℕ) (b : Bool) (e : NumberedRow) (kept : List NumberedRow) (rest : Bool) → (b ≡ false → (e.number == n) ≡ false) → is_numbered n kept ≡ rest → is_numbered n (cond b (e ∷ kept) kept) ≡ ((e.number == n) || rest)
kept_step n true e kept rest h k = ap (λ (r : Bool). (e.number == n) || r) k
kept_step n false e kept rest h k = rw (h refl) k

-- another number stays
pub numbered-without : (n k : ℕ) → (k ≡ n → ⊥) → (live : List NumberedRow) → is_numbered n (without k live) ≡ is_numbered n live
numbered-without n k other [] = refl
numbered-without n k other (e ∷ live) =
    kept_step n (not (e.number == k)) e (without k live) (is_numbered n live) (λ s. ne_eqb e.number n (λ q. other (sym (eqb-true e.number k (not_false (e.number == k) s)) ∙ q))) (numbered-without n k other live)
  where
    not_false : (b : Bool) → not b ≡ false → b ≡ true
    not_false true s = refl
    not_false false s = cc

numbered-from : (n k : ℕ) (rows : List PlainRow) → k ≤ n → n < k + length rows → is_numbered n (numbered_from k rows) ≡ true
numbered-from n k [] h i = absurd (omega arith)
numbered-from n k (row ∷ rows) h i = elim (cases_eq k n) [
  | inl e ↦ or_left (k == n) (is_numbered n (numbered_from (k + 1) rows)) (eq-eqb k n e)
  | inr e ↦ or_right (k == n) (is_numbered n (numbered_from (k + 1) rows)) (numbered-from n (k + 1) rows (above k n h e) (omega (arith, i)))
]
  where
    above : (a b : ℕ) → a ≤ b → (a ≡ b → ⊥) → a + 1 ≤ b
    above a b l ne = elim (cases_lt a b) [ inl lt ↦ omega (arith, lt) | inr le ↦ absurd (ne (omega (arith, l, le))) ]

-- ---- held ones

pub held_live-push : (held : Held) (live more : List NumberedRow) → HeldAreLive live held → HeldAreLive (live ++ more) held
held_live-push held live more h n i = numbered-front n live more (h n i)

pub held_live-keeping : (held : Held) (numbers : List ℕ) (live : List NumberedRow) → ((n : ℕ) → is_in n numbers ≡ true → is_numbered n live ≡ true) → HeldAreLive live held → HeldAreLive live (keeping numbers held)
held_live-keeping held numbers live k h n i = elim (one_of (is_held held n) (is_in n numbers) (sym (is_held-keeping held numbers n) ∙ i)) [ inl s ↦ h n s | inr s ↦ k n s ]

-- ---- at the start

first_numbers : (k n : ℕ) → is_in n (numbers_to k ++ []) ≡ true → (1 ≤ n) × (n ≤ k)
first_numbers k n h =
    let here : is_in n (numbers_to k) ≡ true = subst (λ (ns : List ℕ). is_in n ns ≡ true) (append-nil (numbers_to k)) h in
    let parts = and_parts (nat_le 1 n) (nat_le n k) (sym (is_in-numbers_to k n) ∙ here) in
    (leb-true 1 n parts.0, leb-true n k parts.1)

rows-count : (lists : Lists) → length (resident_rows lists) + length (hospital_rows lists) ≤ length (rows lists)
rows-count lists =
    omega (
      arith,
      length-map (written_rows lists) in_normal_form,
      length-append (resident_rows lists ++ hospital_rows lists) (map (pair_row lists) (numbers_to (pair_count lists))),
      length-append (resident_rows lists) (hospital_rows lists),
    )

pub held_live-first : (lists : Lists) → HeldAreLive (first_state (formula lists)).live (first_held lists)
held_live-first lists n i =
    let within = first_numbers (pair_row_no lists 0) n i in
    numbered-from n 1 (rows lists) within.0 (omega (arith, within.1, rows-count lists))
