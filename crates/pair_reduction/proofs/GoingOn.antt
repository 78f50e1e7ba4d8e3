-- A derivation goes on: what it had stays.
use Rattle.std.proofs.Common.{◌≡◌, ℕ, ◌+◌, Bool, true, false, not, ◌||◌, ◌==◌, List, [], ◌∷◌, ◌++◌, append_assoc, if◌then◌else◌, refl, sym, ap, ap₂, ◌∙◌, inl, inr, arith}
use Rattle.std.specs.Prelude.{Option, Some, None, IfSome}
use Rattle.std.proofs.lemmas.Bool.{and_from, and_parts, eq-eqb, false_from_ne_true, not-true, or_cases, or_left, or_right, true≢false}
use Rattle.std.proofs.lemmas.List.{append-nil}
use Rattle.hrt_base.specs.declared.numbered.RowNo.{RowNo}
use Rattle.pb_rows.specs.Terms.{PlainRow}
use Rattle.pb_rows.specs.Formula.{NumberedRow, is_numbered, row_of}
use Rattle.rank_tables.specs.Numbers.{is_distinct, is_in}
use Rattle.proof_rules.specs.Held.{row_numbers}
use Rattle.proof_rules.proofs.Held.{is_in-append}
use Rattle.derivation.specs.Deletions.{AreUnitRows, Deletions, unit_row_no, unit_row}
use Rattle.derivation.specs.Derived.{Derived, StaysValid}
use Rattle.derivation.specs.Steps.{with_new_row}
use Rattle.derivation.proofs.Readiness.{row_front, row_numbered}
use Rattle.pair_reduction.specs.Reduced.{AreMade, GoesOn, KeepsLive}

-- ---- going on

pub goes_nowhere : (d : Derived) → GoesOn d d
goes_nowhere d = record { more = ([], sym (append-nil d.pending)); later = omega arith; lists = refl; claim = refl; least = refl; valid = λ text h. h }

pub goes_further : (a b c : Derived) → GoesOn a b → GoesOn b c → GoesOn a c
goes_further a b c g h = record { more = (g.more.0 ++ h.more.0, h.more.1 ∙ ap (λ (t : List ℕ). t ++ h.more.0) g.more.1 ∙ append_assoc a.pending g.more.0 h.more.0); later = omega (arith, g.later, h.later); lists = h.lists ∙ g.lists; claim = h.claim ∙ g.claim; least = h.least ∙ g.least; valid = λ text s. h.valid text (g.valid text s) }

pub kept_further : (a b c : Derived) → KeepsLive a b → KeepsLive b c → KeepsLive a c
kept_further a b c g h n row e = h n row (g n row e)

pub units_kept : (a b : Derived) (deletions : Deletions) → KeepsLive a b → AreUnitRows a.state.live deletions → AreUnitRows b.state.live deletions
units_kept a b deletions kept units p = by (unit_row_no deletions p) (units p)
  where
    by : (o : Option RowNo) → IfSome o (λ id. row_of id.0 a.state.live ≡ Some (unit_row p)) → IfSome o (λ id. row_of id.0 b.state.live ≡ Some (unit_row p))
    by None h = tt
    by (Some id) h = kept id.0 (unit_row p) h

pub goes_row : (row : PlainRow) (text : List ℕ) (old new : Derived) → new ≡ with_new_row row text old → StaysValid old new → GoesOn old new
goes_row row text old new e valid =
    let next : new.state.next ≡ old.state.next + 1 = ap (λ (d : Derived). d.state.next) e in
    record { more = (text, ap (λ (d : Derived). d.pending) e); later = omega arith; lists = ap (λ (d : Derived). d.lists) e; claim = ap (λ (d : Derived). d.claim) e; least = ap (λ (d : Derived). d.state.least) e; valid = valid }

pub kept_row : (row : PlainRow) (text : List ℕ) (old new : Derived) → new ≡ with_new_row row text old → KeepsLive old new
kept_row row text old new e n other found =
    ap (λ (d : Derived). row_of n d.state.live) e ∙ row_front n other old.state.live (record { number = old.state.next; row = row } ∷ []) found

-- ---- the numbers of the rows

numbered_step : (b c : Bool) (row : PlainRow) (rest : Option PlainRow) → (c ≡ true → (other : PlainRow) × (rest ≡ Some other)) → (b || c) ≡ true → (other : PlainRow) × ((if b then Some row else rest) ≡ Some other)
numbered_step true c row rest h e = (row, refl)
numbered_step false c row rest h e = h e

pub numbered_row : (n : ℕ) (live : List NumberedRow) → is_numbered n live ≡ true → (row : PlainRow) × (row_of n live ≡ Some row)
numbered_row n [] e = absurd (true≢false (sym e))
numbered_row n (entry ∷ live) e = numbered_step (entry.number == n) (is_numbered n live) entry.row (row_of n live) (numbered_row n live) e

pub kept_numbered : (old new : Derived) → KeepsLive old new → (n : ℕ) → is_numbered n old.state.live ≡ true → is_numbered n new.state.live ≡ true
kept_numbered old new kept n h = let found = numbered_row n old.state.live h in row_numbered n found.0 new.state.live (kept n found.0 found.1)

-- ---- rows that were made

pub distinct_append : (xs ys : List ℕ) → is_distinct xs ≡ true → is_distinct ys ≡ true → ((n : ℕ) → is_in n xs ≡ true → is_in n ys ≡ true → ⊥) → is_distinct (xs ++ ys) ≡ true
distinct_append [] ys h k apart = k
distinct_append (x ∷ xs) ys h k apart =
    let parts = and_parts (not (is_in x xs)) (is_distinct xs) h in
    let before : is_in x xs ≡ false = not-true (is_in x xs) parts.0 in
    let behind : is_in x ys ≡ false = false_from_ne_true (is_in x ys) (apart x (or_left (x == x) (is_in x xs) (eq-eqb x x refl))) in
    and_from (not (is_in x (xs ++ ys))) (is_distinct (xs ++ ys)) (ap not (is_in-append x xs ys ∙ ap₂ (λ (a b : Bool). a || b) before behind))
    (distinct_append xs ys parts.1 k (λ n i j. apart n (or_right (x == n) (is_in n xs) i) j))

numbers_append : (xs ys : List RowNo) → row_numbers (xs ++ ys) ≡ row_numbers xs ++ row_numbers ys
numbers_append [] ys = refl
numbers_append (x ∷ xs) ys = ap (λ (ns : List ℕ). x.0 ∷ ns) (numbers_append xs ys)

pub numbers_in : (n : ℕ) (xs ys : List RowNo) → is_in n (row_numbers (xs ++ ys)) ≡ (is_in n (row_numbers xs) || is_in n (row_numbers ys))
numbers_in n xs ys = ap (is_in n) (numbers_append xs ys) ∙ is_in-append n (row_numbers xs) (row_numbers ys)

pub made_none : (a b : Derived) → AreMade a b []
made_none a b = record { distinct = refl; each = λ n i. absurd (true≢false (sym i)) }

pub made_further : (a b c : Derived) (xs ys : List RowNo) → GoesOn a b → GoesOn b c → KeepsLive b c → AreMade a b xs → AreMade b c ys → AreMade a c (xs ++ ys)
made_further a b c xs ys g h kept m k = record {
  distinct = ap is_distinct (numbers_append xs ys) ∙ distinct_append (row_numbers xs) (row_numbers ys) m.distinct k.distinct (λ n i j. let one = m.each n i in let two = k.each n j in omega (arith, one.1, two.0));
  each = λ n i. elim (or_cases (is_in n (row_numbers xs)) (is_in n (row_numbers ys)) (sym (numbers_in n xs ys) ∙ i)) [
    | inl e ↦ let one = m.each n e in (one.0, omega (arith, one.1, h.later), kept_numbered b c kept n one.2)
    | inr e ↦ let two = k.each n e in (omega (arith, two.0, g.later), two.1, two.2)
  ];
}
