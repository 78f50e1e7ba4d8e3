-- Tests of the rules that pass, one item after another.
use Rattle.std.proofs.Common.{◌≡◌, ℕ, ◌+◌, ◌<◌, Bool, true, false, nat_le, List, [], ◌∷◌, if◌then◌else◌, refl, arith}
use Rattle.std.specs.Prelude.{Result, Ok, Err}
use Rattle.std.proofs.lemmas.Bool.Decides.{nat_tests}
use Rattle.hrt_base.specs.declared.literal.Lit.{Lit}
use Rattle.pb_rows.specs.Terms.{PlainRow}
use Rattle.pb_rows.specs.Points.{Point}
use Rattle.pb_rows.specs.Rows.{holds}
use Rattle.proof_rules.specs.Refusals.{Refusal, BadVariable, NotASolution}
use Rattle.proof_rules.specs.States.{if_hold, if_known}
use Rattle.proof_checker.specs.Tests.{known_literals}

abbrev Nothing : Type 0
Nothing = Result (Unit {0}) Refusal

abbrev holding_from : Point → ℕ → List PlainRow → Nothing
holding_from p n rows = if_hold p n rows (Ok tt)

pub above : (n m : ℕ) → m < n → nat_le n m ≡ false
above n m h = grind (arith, nat_tests)

-- ---- any answer

known_by : {A : Type 0} (b : Bool) (n : ℕ) (r s : Result A Refusal) (t : Nothing) → (if b then t else Err (BadVariable n)) ≡ Ok tt → (t ≡ Ok tt → r ≡ s) → (if b then r else Err (BadVariable n)) ≡ s
known_by true n r s t h k = k h
known_by false n r s t h k = absurd (cc h)

pub known-passes : {A : Type 0} (vars : ℕ) (ls : List Lit) (r : Result A Refusal) → known_literals vars ls ≡ Ok tt → if_known vars ls r ≡ r
known-passes vars [] r h = refl
known-passes vars (l ∷ ls) r h = known_by (nat_le l.var vars) l.var (if_known vars ls r) r (known_literals vars ls) h (λ k. known-passes vars ls r k)

unknown_by : {A : Type 0} (b : Bool) (n : ℕ) (r : Result A Refusal) (t : Nothing) (e : Refusal) → (if b then t else Err (BadVariable n)) ≡ Err e → (t ≡ Err e → r ≡ Err e) → (if b then r else Err (BadVariable n)) ≡ Err e
unknown_by true n r t e h k = k h
unknown_by false n r t e h k = cc h

pub known-stops : {A : Type 0} (vars : ℕ) (ls : List Lit) (r : Result A Refusal) (e : Refusal) → known_literals vars ls ≡ Err e → if_known vars ls r ≡ Err e
known-stops vars [] r e h = absurd (cc h)
known-stops vars (l ∷ ls) r e h = unknown_by (nat_le l.var vars) l.var (if_known vars ls r) (known_literals vars ls) e h (λ k. known-stops vars ls r e k)

hold_by : {A : Type 0} (b : Bool) (n : ℕ) (r s : Result A Refusal) (t : Nothing) → (if b then t else Err (NotASolution n)) ≡ Ok tt → (t ≡ Ok tt → r ≡ s) → (if b then r else Err (NotASolution n)) ≡ s
hold_by true n r s t h k = k h
hold_by false n r s t h k = absurd (cc h)

pub hold-passes : {A : Type 0} (p : Point) (n : ℕ) (rows : List PlainRow) (r : Result A Refusal) → holding_from p n rows ≡ Ok tt → if_hold p n rows r ≡ r
hold-passes p n [] r h = refl
hold-passes p n (row ∷ rows) r h = hold_by (holds p row) n (if_hold p (n + 1) rows r) r (holding_from p (n + 1) rows) h (λ k. hold-passes p (n + 1) rows r k)

broken_by : {A : Type 0} (b : Bool) (n : ℕ) (r : Result A Refusal) (t : Nothing) (e : Refusal) → (if b then t else Err (NotASolution n)) ≡ Err e → (t ≡ Err e → r ≡ Err e) → (if b then r else Err (NotASolution n)) ≡ Err e
broken_by true n r t e h k = k h
broken_by false n r t e h k = cc h

pub hold-stops : {A : Type 0} (p : Point) (n : ℕ) (rows : List PlainRow) (r : Result A Refusal) (e : Refusal) → holding_from p n rows ≡ Err e → if_hold p n rows r ≡ Err e
hold-stops p n [] r e h = absurd (cc h)
hold-stops p n (row ∷ rows) r e h = broken_by (holds p row) n (if_hold p (n + 1) rows r) (holding_from p (n + 1) rows) e h (λ k. hold-stops p (n + 1) rows r e k)
