-- Rows of an engine, in a derivation that agrees with it.
use Rattle.std.proofs.Common.{◌≡◌, ◌==◌, ℕ, true, false, List, [], ◌∷◌, ap, ◌∙◌, inl, inr}
use Rattle.std.specs.Prelude.{IfOk, IsTrue, Some, Result, Ok, Err}
use Rattle.std.specs.List.{All}
use Rattle.std.proofs.lemmas.Bool.{cases_eq, eq-eqb, ne_eqb}
use Rattle.std.proofs.lemmas.List.Elements.{All-head, All-tail}
use Rattle.pb_rows.specs.Terms.{PlainRow}
use Rattle.pb_rows.specs.Formula.{is_numbered, row_of}
use Rattle.proof_rules.specs.Held.{is_held as is_held_number}
use Rattle.row_arena.specs.Held.{Held, HeldRows, is_held, row_at, tag_at}
use Rattle.pb_propagate.specs.Engines.{EngineState}
use Rattle.derivation.specs.Derived.{Derived}
use Rattle.derivation.proofs.Readiness.{row_numbered}
use Rattle.agreement.specs.Agreement.{Agree, IsHeldIn}

-- what stands at a place goes by a held number, under which its row is live
pub record IsAgreed (d : Derived) (held : List Held) (place : ℕ) : Type 0 where
  pub number : IsTrue (is_held_number d.held (tag_at place held))
  pub live : row_of (tag_at place held) d.state.live ≡ Some (row_at place held)

agreed_in : (d : Derived) (held : List Held) (place : ℕ) → All (IsHeldIn d) held → is_held place held ≡ true → IsAgreed d held place
agreed_in d [] place all h = absurd (cc)
agreed_in d (x ∷ held) place all h = elim (cases_eq place x.place) [
  | inl e ↦
      let one : IsHeldIn d x = All-head (IsHeldIn d) x held all in
      let here : (place == x.place) ≡ true = eq-eqb place x.place e in
      record { number = rw here one.held; live = rw here one.row.live }
  | inr ne ↦
      let there : (place == x.place) ≡ false = ne_eqb place x.place ne in
      let rest = agreed_in d held place (All-tail (IsHeldIn d) x held all) (rw there at h) in
      record { number = rw there rest.number; live = rw there rest.live }
]

pub agreed : (e : EngineState) (d : Derived) (place : ℕ) → Agree e d → is_held place e.held ≡ true → IsAgreed d e.held place
agreed e d place agree h = agreed_in d e.held place agree.rows h

-- the tag as an arena tells it
pub tag_is : (e : EngineState) (arena : HeldRows) (place tag : ℕ) → arena ≡ record { vars = e.vars; held = e.held } → tag ≡ tag_at place arena.held → tag ≡ tag_at place e.held
tag_is e arena place tag is told = told ∙ ap (λ (a : HeldRows). tag_at place a.held) is

pub tag_live : (e : EngineState) (d : Derived) (place tag : ℕ) → Agree e d → is_held place e.held ≡ true → tag ≡ tag_at place e.held → row_of tag d.state.live ≡ Some (row_at place e.held)
tag_live e d place tag agree h is = ap (λ (n : ℕ). row_of n d.state.live) is ∙ (agreed e d place agree h).live

pub tag_numbered : (e : EngineState) (d : Derived) (place tag : ℕ) → Agree e d → is_held place e.held ≡ true → tag ≡ tag_at place e.held → is_numbered tag d.state.live ≡ true
tag_numbered e d place tag agree h is = row_numbered tag (row_at place e.held) d.state.live (tag_live e d place tag agree h is)

-- the row that the derivation gives is that of the engine
pub row_given : {E : Type 0} (e : EngineState) (d : Derived) (place tag : ℕ) (result : Result PlainRow E) → Agree e d → is_held place e.held ≡ true → tag ≡ tag_at place e.held → IfOk result (λ row. row_of tag d.state.live ≡ Some row) → IfOk result (λ row. row ≡ row_at place e.held)
row_given e d place tag (Ok row) agree h is given = (let same : row_of tag d.state.live ≡ Some (row_at place e.held) = tag_live e d place tag agree h is in let found : row_of tag d.state.live ≡ Some row = given in cc)
row_given e d place tag (Err x) agree h is given = tt
