-- Row numbers between two.
use Rattle.std.proofs.Common.{◌≡◌, ◌≤◌, ◌+◌, ◌==◌, ◌&&◌, ◌||◌, ℕ, Bool, true, false, nat_le, nat_lt, List, [], ◌∷◌, ◌++◌, refl, sym, ap, ◌∙◌, subst, inl, inr, arith}
use Rattle.std.proofs.lemmas.Bool.{and_parts, cases_Bool, cases_eq, cases_lt, eq-eqb, eqb-true, le-leb, lt-leb, le-ltb, lt-ltb, ltb-true, ne_eqb, true≢false}
use Rattle.std.proofs.lemmas.List.{length-append, map-append}
use Rattle.hrt_base.specs.declared.numbered.RowNo.{RowNo}
use Rattle.rank_tables.specs.Numbers.{is_distinct, is_in}
use Rattle.proof_rules.specs.Held.{row_numbers}
use Rattle.proof_rules.proofs.Held.{is_in-append}
use Rattle.agreement.proofs.Numbers.{distinct_append}
use Rattle.conflict_cuts.specs.Forgetting.{AreBetween}

none_between : (first n : ℕ) → (nat_le first n && nat_lt n first) ≡ false
none_between first n = elim (cases_lt n first) [
  | inl l ↦ let late : nat_le first n ≡ false = lt-leb first n l in rw late refl
  | inr g ↦ let past : nat_lt n first ≡ false = le-ltb n first g in rw past (either (nat_le first n))
]
  where
    either : (b : Bool) → (b && false) ≡ false
    either true = refl
    either false = refl

pub between_none : (first : ℕ) (ids : List RowNo) → ids ≡ [] → AreBetween first first ids
between_none first ids e = subst (AreBetween first first) (sym e) (record { each = λ n. sym (none_between first n); distinct = refl; count = omega arith })

one_more : (first last n : ℕ) → first ≤ last → (b : Bool) → b ≡ (nat_le first n && nat_lt n last) → (b || ((last == n) || false)) ≡ (nat_le first n && nat_lt n (last + 1))
one_more first last n l b e = elim (cases_eq last n) [
  | inl s ↦
      let here : (last == n) ≡ true = eq-eqb last n s in
      let low : nat_le first n ≡ true = le-leb first n (omega arith) in
      let high : nat_lt n (last + 1) ≡ true = lt-ltb n (last + 1) (omega arith) in
      rw (here, low, high) (to_true b)
  | inr ne ↦
      let other : (last == n) ≡ false = ne_eqb last n ne in
      rw (other, e) (or_none _ ∙ ap (λ (t : Bool). nat_le first n && t) (elim (cases_lt n last) [
        | inl lt ↦ let high : nat_lt n (last + 1) ≡ true = lt-ltb n (last + 1) (omega arith) in lt-ltb n last lt ∙ sym high
        | inr ge ↦ let low : nat_lt n (last + 1) ≡ false = le-ltb n (last + 1) (above n last ge ne) in le-ltb n last ge ∙ sym low
      ]))
]
  where
    to_true : (c : Bool) → (c || true) ≡ true
    to_true true = refl
    to_true false = refl

    or_none : (c : Bool) → (c || false) ≡ c
    or_none true = refl
    or_none false = refl

    above : (a b : ℕ) → b ≤ a → (b ≡ a → ⊥) → b + 1 ≤ a
    above a b g ne = elim (cases_lt b a) [ inl lt ↦ omega (arith, lt) | inr le ↦ absurd (ne (omega (arith, g, le))) ]

pub between_push : (first last : ℕ) (ids more : List RowNo) (id : RowNo) → first ≤ last → id.0 ≡ last → more ≡ ids ++ id ∷ [] → AreBetween first last ids → AreBetween first (last + 1) more
between_push first last ids more id l is e b = subst (AreBetween first (last + 1)) (sym e) (record {
  each = λ n. parts n ∙ one_more first last n l (is_in n (row_numbers ids)) (b.each n);
  distinct = ap is_distinct joined ∙ distinct_append (row_numbers ids) (last ∷ []) b.distinct refl (λ n i j.
      let same : last ≡ n = only n j in
      let late = (and_parts (nat_le first n) (nat_lt n last) (sym (b.each n) ∙ i)).1 in
      omega (arith, ltb-true n last late, same));
  count = omega (arith, length-append ids (id ∷ []), b.count);
})
  where
    joined : row_numbers (ids ++ id ∷ []) ≡ row_numbers ids ++ last ∷ []
    joined = map-append (λ (r : RowNo). r.0) ids (id ∷ []) ∙ ap (λ (n : ℕ). row_numbers ids ++ n ∷ []) is

    parts : (n : ℕ) → is_in n (row_numbers (ids ++ id ∷ [])) ≡ (is_in n (row_numbers ids) || ((last == n) || false))
    parts n = ap (is_in n) joined ∙ is_in-append n (row_numbers ids) (last ∷ [])

    only : (n : ℕ) → is_in n (last ∷ []) ≡ true → last ≡ n
    only n h = elim (cases_Bool (last == n)) [ inl y ↦ eqb-true last n y | inr y ↦ let no : ((last == n) || false) ≡ false = rw y refl in absurd (true≢false (sym h ∙ no)) ]
