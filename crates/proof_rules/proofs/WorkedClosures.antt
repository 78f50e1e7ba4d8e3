-- Propagation, worked by hand: what follows, and what doesn't.
use Rattle.std.specs.Prelude.{◌≡◌, ℕ, ◌+◌, ◌<◌, ◌≤◌, Bool, true, false, if◌then◌else◌, List, [], ◌∷◌, pos, Ok, refl}
use Rattle.std.proofs.Common.{arith, inr, sym, ◌∙◌, nat_lt}
use Rattle.std.proofs.lemmas.Bool.{true≢false}
use Rattle.std.proofs.lemmas.List.Elements.{All-nil, All-cons, All-from_recursion}
use Rattle.hrt_base.specs.declared.literal.Lit.{Lit}
use Rattle.pb_rows.specs.Terms.{PlainRow}
use Rattle.pb_rows.specs.Rows.{opposite_row}
use Rattle.pb_rows.specs.Closure.{Implies, IsSettled, Keeps, none}
use Rattle.pb_rows.proofs.Implied.{refuted-none}
use Rattle.proof_lines.specs.declared.line.Line.TheVariants.{Rup}
use Rattle.proof_rules.specs.Refusals.{NotImplied}
use Rattle.proof_rules.specs.States.{live_rows, with_row}
use Rattle.proof_rules.specs.Valid.{Moves, Proving}
use Rattle.proof_rules.specs.Refused.{Refuses}
use Rattle.proof_rules.proofs.FarBounds.{free-follows}
use Rattle.proof_rules.proofs.Made.{made_hold}
use Rattle.proof_rules.proofs.Worked.{not_x, row, s0, w, worked, x}

-- ---- no row is short of more than one literal, so nothing is propagated, though no point satisfies all four

abbrev four : List PlainRow
four =
    row (w 1 (x 1) ∷ w 1 (x 2) ∷ []) 1
    ∷ row (w 1 (not_x 1) ∷ w 1 (x 2) ∷ []) 1
    ∷ row (w 1 (x 1) ∷ w 1 (not_x 2) ∷ []) 1
    ∷ row (w 1 (not_x 1) ∷ w 1 (not_x 2) ∷ []) 1
    ∷ []

pair-kept : (a b : Lit) → Keeps none (row (w 1 a ∷ w 1 b ∷ []) 1)
pair-kept a b = record {
  unfalsified = omega arith;
  settled = All-cons (IsSettled none (row (w 1 a ∷ w 1 b ∷ []) 1)) (w 1 a) (w 1 b ∷ []) (λ f below. absurd (omega (arith, below)))
      (All-cons (IsSettled none (row (w 1 a ∷ w 1 b ∷ []) 1)) (w 1 b) [] (λ f below. absurd (omega (arith, below))) (All-nil (IsSettled none (row (w 1 a ∷ w 1 b ∷ []) 1))));
}

empty-kept : Keeps none (row [] 0)
empty-kept = record { unfalsified = omega arith; settled = All-nil (IsSettled none (row [] 0)) }

four-not_refuted : Implies four (row [] 1) → ⊥
four-not_refuted i = i none (record {
  has_given = λ l g. g;
  consistent = λ l t. absurd (true≢false (sym t));
  kept = All-from_recursion (Keeps none) (row [] 0 ∷ four) (empty-kept, (pair-kept (x 1) (x 2), (pair-kept (not_x 1) (x 2), (pair-kept (x 1) (not_x 2), (pair-kept (not_x 1) (not_x 2), tt)))));
})

-- ---- x1 follows from two of them: ~x1 propagates x2 and then falsifies

abbrev two : List PlainRow
two = row (w 1 (x 1) ∷ w 1 (x 2) ∷ []) 1 ∷ row (w 1 (x 1) ∷ w 1 (not_x 2) ∷ []) 1 ∷ []

abbrev unit : PlainRow
unit = row (w 1 (x 1) ∷ []) 1

one_unset : (b : Bool) → 1 ≤ (if b then 0 else 1) + 0 → b ≡ false
one_unset true h = absurd (omega (arith, h))
one_unset false h = refl

one_small : (b : Bool) → (if b then 0 else 1) + 0 < 1 + 1
one_small true = omega arith
one_small false = omega arith

other_unset : (a b : Bool) → a ≡ true → 1 ≤ (if a then 0 else 1) + ((if b then 0 else 1) + 0) → b ≡ false
other_unset true b e h = one_unset b (omega (arith, h))
other_unset false b e h = absurd (true≢false (sym e))

other_small : (a b : Bool) → a ≡ true → (if a then 0 else 1) + ((if b then 0 else 1) + 0) < 1 + 1
other_small true true e = omega arith
other_small true false e = omega arith
other_small false b e = absurd (true≢false (sym e))

abbrev first : PlainRow
first = row (w 1 (x 1) ∷ w 1 (x 2) ∷ []) 1

abbrev second : PlainRow
second = row (w 1 (x 1) ∷ w 1 (not_x 2) ∷ []) 1

two-implies : Implies two unit
two-implies set q =
    let opp : Keeps set (opposite_row unit) = q.kept 0 unit (omega arith) in
    let one : Keeps set first = q.kept 1 unit (omega arith) in
    let other : Keeps set second = q.kept 2 unit (omega arith) in
    let x1_not : set (x 1) ≡ false = one_unset (set (x 1)) opp.unfalsified in
    let x1_false : set (not_x 1) ≡ true = opp.settled 0 (w 1 (x 1)) (omega arith) x1_not (one_small (set (x 1))) in
    let x2_unfalse : set (not_x 2) ≡ false = other_unset (set (not_x 1)) (set (not_x 2)) x1_false one.unfalsified in
    let x2_true : set (x 2) ≡ true = one.settled 1 (w 1 (x 1)) (omega arith) x2_unfalse (other_small (set (not_x 1)) (set (not_x 2)) x1_false) in
    true≢false (sym x2_true ∙ other_unset (set (not_x 1)) (set (x 2)) x1_false other.unfalsified)

-- ---- refused lines of the worked proof

-- `rup +1 x1 >= 1 ;` as the first step
not-implied : Refuses worked (Proving s0) (Rup (record { terms = w 1 (x 1) ∷ []; at_least = pos 1 })) NotImplied
not-implied = inr (record {
  there = Proving (with_row s0 (row (w 1 (x 1) ∷ []) 1));
  leads = refl;
  fails = λ o. refuted-none (nat_lt 1) (opposite_row (row (w 1 (x 1) ∷ []) 1) ∷ live_rows s0) o
      (made_hold {A = ℕ} (nat_lt 1) 1 (opposite_row (row (w 1 (x 1) ∷ []) 1) ∷ live_rows s0) (Ok 0) 0 refl).0;
  why_is = refl;
})

-- a row of degree 0 follows from any rows, also with 2^120 in it
pub most-moves : Moves worked (Proving s0) (Rup (record { terms = w 1329227995784915872903807060280344576 (x 1) ∷ []; at_least = pos 0 })) (Proving (with_row s0 (row (w 1329227995784915872903807060280344576 (x 1) ∷ []) 0)))
most-moves = record { leads = refl; owed = free-follows (live_rows s0) (row (w 1329227995784915872903807060280344576 (x 1) ∷ []) 0) refl }
