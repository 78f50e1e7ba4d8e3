-- The rows of pair numbers: a row after a push, and the numbers that a table gives to a list.
use Rattle.std.proofs.Common.{◌≡◌, ℕ, suc, ◌+◌, ◌-◌, ◌<◌, Bool, cond, nat_lt, ◌==◌, if◌then◌else◌, List, [], ◌∷◌, ◌++◌, length, map, get_or, slice_index, take, inl, inr, refl, sym, ap, ◌∙◌, arith, add-one, eq-eqb, length-append}
use Rattle.std.specs.List.{concat, filter, All}
use Rattle.std.proofs.lemmas.List.{append-nil, length-take-le, map-append, take_more, get_or_append_left, get_or_push}
use Rattle.std.proofs.lemmas.List.Elements.{All-head, All-tail, filter-append}
use Rattle.std.proofs.lemmas.Bool.{cases_eq, ne_eqb}
use Rattle.hrt_base.specs.declared.numbered.PairNo.{PairNo}
use Rattle.rank_tables.specs.declared.marks.Mark.{Mark}
use Rattle.rank_tables.specs.Numbers.{numbers_to}
use Rattle.rank_tables.specs.Tables.{numbers_of}
use Rattle.rank_tables.specs.Building.{mark_of, rank_or_0, with_ranks, marked, numbers_with, marks_with, numbered}
use Rattle.rank_tables.proofs.Below.{numbers_to-within}

pub filter_same : {A : Type 0} (p q : A → Bool) (xs : List A) → All (λ x. p x ≡ q x) xs → filter p xs ≡ filter q xs
filter_same p q [] same = refl
filter_same p q (x ∷ xs) same =
    rw (All-head (λ x. p x ≡ q x) x xs same, filter_same p q xs (All-tail (λ x. p x ≡ q x) x xs same)) refl

numbers_with-push : (xs : List ℕ) (y v : ℕ) → numbers_with (xs ++ y ∷ []) v ≡ numbers_with xs v ++ (if y == v then (length xs + 1) ∷ [] else [])
numbers_with-push xs y v =
    let test : ℕ → Bool = λ p. slice_index (xs ++ y ∷ []) (p - 1) == v in
    let before : ℕ → Bool = λ p. slice_index xs (p - 1) == v in
    let n = length xs in
    let same : filter test (numbers_to n) ≡ filter before (numbers_to n) =
    filter_same test before (numbers_to n) (λ k d l.
    let within = numbers_to-within n n (omega arith) k d l in
    ap (λ x. x == v) (get_or_append_left xs (y ∷ []) 0 (get_or (numbers_to n) k d - 1) (omega (arith, within.0, within.1)))) in
    let last : test (suc n) ≡ (y == v) = ap (λ x. x == v) (get_or_push xs y 0 (suc n - 1) (omega arith)) in
    ap (λ k. filter test (numbers_to k)) (length-append xs (y ∷ []) ∙ add-one n)
    ∙ filter-append test (numbers_to n) (suc n ∷ [])
    ∙ ap (λ zs. zs ++ cond (test (suc n)) (suc n ∷ []) []) same
    ∙ ap (λ b. filter before (numbers_to n) ++ cond b (suc n ∷ []) []) last
    ∙ ap (λ k. filter before (numbers_to n) ++ cond (y == v) (k ∷ []) []) (sym (add-one n))

pub numbers_with-more : (values : List ℕ) (i v : ℕ) → i < length values →
    numbers_with (take (i + 1) values) v ≡ numbers_with (take i values) v ++ (if get_or values i 0 == v then (i + 1) ∷ [] else [])
numbers_with-more values i v h =
    ap (λ xs. numbers_with xs v) (take_more values i 0 h) ∙ numbers_with-push (take i values) (get_or values i 0) v
    ∙ ap (λ k. numbers_with (take i values) v ++ (if get_or values i 0 == v then (k + 1) ∷ [] else [])) (length-take-le i values (omega arith))

-- a row of numbers, and one of marks, after the step for place i
pub row_numbers : (values : List ℕ) (i v y : ℕ) (old new : List PairNo) → i < length values → y ≡ get_or values i 0 →
    new ≡ (if v == y then old ++ record { 0 = i + 1 } ∷ [] else old) → numbers_of old ≡ numbers_with (take i values) v →
    numbers_of new ≡ numbers_with (take (i + 1) values) v
row_numbers values i v y old new h read pushed before = elim (cases_eq v y) [
  | inl same ↦
      let now : get_or values i 0 ≡ v = sym read ∙ sym same in
      let step : new ≡ old ++ record { 0 = i + 1 } ∷ [] = pushed ∙ ap (λ b. if b then old ++ record { 0 = i + 1 } ∷ [] else old) (eq-eqb v y same) in
      ap numbers_of step ∙ map-append (λ (p : PairNo). p.0) old (record { 0 = i + 1 } ∷ []) ∙ ap (λ ns. ns ++ (i + 1) ∷ []) before
      ∙ sym (numbers_with-more values i v h ∙ ap (λ b. numbers_with (take i values) v ++ (if b then (i + 1) ∷ [] else [])) (eq-eqb (get_or values i 0) v now))
  | inr other ↦
      let step : new ≡ old = pushed ∙ ap (λ b. if b then old ++ record { 0 = i + 1 } ∷ [] else old) (ne_eqb v y other) in
      ap numbers_of step ∙ before
      ∙ sym (numbers_with-more values i v h
      ∙ ap (λ b. numbers_with (take i values) v ++ (if b then (i + 1) ∷ [] else [])) (ne_eqb (get_or values i 0) v (λ e. other (sym (read ∙ e))))
      ∙ append-nil (numbers_with (take i values) v))
]

pub row_marks : (keys values : List ℕ) (i v x y : ℕ) (old new : List Mark) → i < length values → x ≡ get_or keys i 0 → y ≡ get_or values i 0 →
    new ≡ (if v == y then old ++ mark_of x (i + 1) ∷ [] else old) → old ≡ marks_with keys (take i values) v →
    new ≡ marks_with keys (take (i + 1) values) v
row_marks keys values i v x y old new h key read pushed before =
    let mark : ℕ → Mark = λ p. mark_of (slice_index keys (p - 1)) p in
    let one : mark (i + 1) ≡ mark_of x (i + 1) = ap (λ k. mark_of k (i + 1)) (ap (slice_index keys) (omega arith) ∙ sym key) in
    elim (cases_eq v y) [
      | inl same ↦
          let now : get_or values i 0 ≡ v = sym read ∙ sym same in
          pushed ∙ ap (λ b. if b then old ++ mark_of x (i + 1) ∷ [] else old) (eq-eqb v y same)
          ∙ ap (λ ms. ms ++ mark_of x (i + 1) ∷ []) before
          ∙ ap (λ m. marks_with keys (take i values) v ++ m ∷ []) (sym one)
          ∙ sym (ap (map mark) (numbers_with-more values i v h ∙ ap (λ b. numbers_with (take i values) v ++ (if b then (i + 1) ∷ [] else [])) (eq-eqb (get_or values i 0) v now))
          ∙ map-append mark (numbers_with (take i values) v) ((i + 1) ∷ []))
      | inr other ↦
          pushed ∙ ap (λ b. if b then old ++ mark_of x (i + 1) ∷ [] else old) (ne_eqb v y other) ∙ before
          ∙ sym (ap (map mark) (numbers_with-more values i v h
          ∙ ap (λ b. numbers_with (take i values) v ++ (if b then (i + 1) ∷ [] else [])) (ne_eqb (get_or values i 0) v (λ e. other (sym (read ∙ e))))
          ∙ append-nil (numbers_with (take i values) v)))
    ]

-- the numbers that a table gives to a list, by the marks that it was written from
listed-some : (rank : ℕ → ℕ) (xs : List ℕ) (marks : List Mark) (table : List ℕ) → ((i : ℕ) → slice_index table i ≡ marked i marks 0) →
    map (λ (m : Mark). slice_index table m.number) (map (λ x. mark_of x (rank x)) xs) ≡ map (λ r. marked r marks 0) xs
listed-some rank [] marks table e = refl
listed-some rank (x ∷ xs) marks table e =
    ap (λ v. v ∷ map (λ (m : Mark). slice_index table m.number) (map (λ x. mark_of x (rank x)) xs)) (e x)
    ∙ ap (λ vs. marked x marks 0 ∷ vs) (listed-some rank xs marks table e)

pub listed-numbered : (groups : List (List ℕ)) (marks : List Mark) (table : List ℕ) → ((i : ℕ) → slice_index table i ≡ marked i marks 0) →
    filter (nat_lt 0) (map (λ (m : Mark). slice_index table m.number) (with_ranks groups)) ≡ numbered groups marks
listed-numbered groups marks table e = ap (filter (nat_lt 0)) (listed-some (rank_or_0 groups) (concat groups) marks table e)
