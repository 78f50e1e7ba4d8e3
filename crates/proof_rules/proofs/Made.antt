-- What a result that was answered says of the tests on the way to it.
use Rattle.std.proofs.Common.{◌≡◌, ℕ, ◌+◌, Bool, true, false, List, [], ◌∷◌, if◌then◌else◌, nat_le, refl}
use Rattle.std.specs.Prelude.{Result, Ok, Err}
use Rattle.std.proofs.lemmas.List.Elements.{All-cons, All-nil}
use Rattle.hrt_base.specs.declared.literal.Lit.{Lit}
use Rattle.pb_rows.specs.Terms.{PlainRow}
use Rattle.pb_rows.specs.Points.{Point}
use Rattle.pb_rows.specs.Rows.{AllHold, holds}
use Rattle.proof_rules.specs.Refusals.{Refusal, and_then}
use Rattle.proof_rules.specs.States.{if_known, if_hold}

pub made_if : {A : Type 0} (b : Bool) (r : Result A Refusal) (e : Refusal) (x : A) → (if b then r else Err e) ≡ Ok x → (b ≡ true) × (r ≡ Ok x)
made_if true r e x h = (refl, h)
made_if false r e x h = absurd (cc)

pub made_then : {A B : Type 0} (r : Result A Refusal) (next : A → Result B Refusal) (y : B) → and_then r next ≡ Ok y → (x : A) × (r ≡ Ok x) × (next x ≡ Ok y)
made_then (Ok x) next y h = (x, refl, h)
made_then (Err e) next y h = absurd (cc)

pub made_known : {A : Type 0} (vars : ℕ) (ls : List Lit) (r : Result A Refusal) (x : A) → if_known vars ls r ≡ Ok x → r ≡ Ok x
made_known vars [] r x h = h
made_known vars (l ∷ ls) r x h = made_known vars ls r x (made_if (nat_le l.var vars) (if_known vars ls r) _ x h).1

pub made_hold : {A : Type 0} (p : Point) (n : ℕ) (rows : List PlainRow) (r : Result A Refusal) (x : A) → if_hold p n rows r ≡ Ok x → AllHold p rows × (r ≡ Ok x)
made_hold p n [] r x h = (All-nil (λ row. holds p row ≡ true), h)
made_hold p n (row ∷ rows) r x h =
    let now = made_if (holds p row) (if_hold p (n + 1) rows r) _ x h in
    let rest = made_hold p (n + 1) rows r x now.1 in
    (All-cons (λ row. holds p row ≡ true) row rows now.0 rest.0, rest.1)
