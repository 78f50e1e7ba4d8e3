-- Rows that are deleted: the others are as they were.
use Rattle.std.proofs.Common.{◌≡◌, ℕ, ◌<◌, Bool, true, false, cond, not, ◌==◌, List, [], ◌∷◌, if◌then◌else◌, length, refl, sym, ap, ◌∙◌, subst, arith}
use Rattle.std.specs.Prelude.{IsFalse, Option, Some, Result, Ok, Err}
use Rattle.std.specs.List.{All}
use Rattle.std.proofs.lemmas.Bool.{eqb-true, false_from_ne_true, true≢false}
use Rattle.std.proofs.lemmas.List.Elements.{All-head, All-tail}
use Rattle.hrt_base.specs.declared.numbered.RowNo.{RowNo}
use Rattle.pb_rows.specs.Formula.{NumberedRow, is_numbered, row_of, without}
use Rattle.rank_tables.specs.Instance.{Lists}
use Rattle.stability_model.specs.Model.{rows}
use Rattle.proof_lines.specs.declared.line.Line.TheVariants.{Del}
use Rattle.proof_rules.specs.Refusals.{Refusal, and_then}
use Rattle.proof_rules.specs.States.{State, deleted}
use Rattle.proof_rules.specs.Held.{Held, NoneIsDeleted, is_held}
use Rattle.proof_rules.proofs.HeldLive.{numbered-without}
use Rattle.proof_rules.proofs.Made.{made_if}
use Rattle.derivation.specs.Derived.{Derived}
use Rattle.derivation.specs.Ready.{IsReady, IsSpare}
use Rattle.derivation.specs.Steps.{Takes}

-- ---- one row

other_entry : (n k : ℕ) (b : Bool) (entry : NumberedRow) (live : List NumberedRow) → (entry.number == k) ≡ b → (k ≡ n → ⊥) → row_of n (without k live) ≡ row_of n live → row_of n (cond (not b) (entry ∷ without k live) (without k live)) ≡ row_of n (entry ∷ live)
other_entry n k true entry live e other h =
    let differs : (entry.number == n) ≡ false = false_from_ne_true (entry.number == n) (λ f. other (sym (eqb-true entry.number k e) ∙ eqb-true entry.number n f)) in
    h ∙ ap (λ (b : Bool). if b then Some entry.row else row_of n live) (sym differs)
other_entry n k false entry live e other h = ap (λ (o : Option _). if entry.number == n then Some entry.row else o) h

pub row_without : (n k : ℕ) (live : List NumberedRow) → (k ≡ n → ⊥) → row_of n (without k live) ≡ row_of n live
row_without n k [] other = refl
row_without n k (entry ∷ live) other = other_entry n k (entry.number == k) entry live refl other (row_without n k live other)

-- ---- several

abbrev pub AreOthers : ℕ → List RowNo → Type 0
AreOthers n ids = All (λ (id : RowNo). id.0 ≡ n → ⊥) ids

pub row-deleted : (n : ℕ) (ids : List RowNo) (live left : List NumberedRow) → AreOthers n ids → deleted ids live ≡ Ok left → row_of n left ≡ row_of n live
row-deleted n [] live left others e = let same : live ≡ left = cc in ap (row_of n) (sym same)
row-deleted n (id ∷ ids) live left others e =
    row-deleted n ids (without id.0 live) left (All-tail (λ (i : RowNo). i.0 ≡ n → ⊥) id ids others) (made_if (is_numbered id.0 live) _ _ left e).1
    ∙ row_without n id.0 live (All-head (λ (i : RowNo). i.0 ≡ n → ⊥) id ids others)

pub live-deleted : (n : ℕ) (ids : List RowNo) (live left : List NumberedRow) → AreOthers n ids → deleted ids live ≡ Ok left → is_numbered n left ≡ is_numbered n live
live-deleted n [] live left others e = let same : live ≡ left = cc in ap (is_numbered n) (sym same)
live-deleted n (id ∷ ids) live left others e =
    live-deleted n ids (without id.0 live) left (All-tail (λ (i : RowNo). i.0 ≡ n → ⊥) id ids others) (made_if (is_numbered id.0 live) _ _ left e).1
    ∙ numbered-without n id.0 (All-head (λ (i : RowNo). i.0 ≡ n → ⊥) id ids others) live

-- ---- rows that may be deleted

abbrev pub MayGo : Lists → Held → RowNo → Type 0
MayGo lists held id = IsFalse (is_held held id.0) × (length (rows lists) < id.0)

pub none_deleted-left : (lists : Lists) (held : Held) (ids : List RowNo) (live left : List NumberedRow) → All (MayGo lists held) ids → deleted ids live ≡ Ok left → NoneIsDeleted lists live held → NoneIsDeleted lists left held
none_deleted-left lists held ids live left may e all = record {
  model_live = λ k first last.
      row-deleted k ids live left (λ i d l is. let behind = (may i d l).1 in omega (arith, behind, is, last)) e ∙ all.model_live k first last;
  held_live = λ n h.
      live-deleted n ids live left (λ i d l is. true≢false (sym h ∙ ap (is_held held) (sym is) ∙ (may i d l).0)) e ∙ all.held_live n h;
}

-- ---- the call

pub del_leads : (r : Result (List NumberedRow) Refusal) (s t : State) → and_then r (λ live. Ok (record s { live = live })) ≡ Ok t → (live : List NumberedRow) × (r ≡ Ok live) × (t ≡ record s { live = live })
del_leads (Ok live) s t e = (live, refl, cc)
del_leads (Err why) s t e = absurd (cc)

pub ready_forgotten : (ids : List RowNo) (old new : Derived) → All (IsSpare old) ids → Takes (Del ids) old new → IsReady old → IsReady new
ready_forgotten ids old new spare takes ready =
    let gone = del_leads (deleted ids old.state.live) old.state new.state takes.step.leads in
    let live_is : new.state.live ≡ gone.0 = ap (λ (s : State). s.live) gone.2 in
    let left : NoneIsDeleted old.lists gone.0 old.held =
    none_deleted-left old.lists old.held ids old.state.live gone.0 (λ i d l. let one = spare i d l in (one.not_held, one.behind_model)) gone.1 (record { model_live = ready.model_live; held_live = ready.held_live }) in
    let now : NoneIsDeleted old.lists new.state.live old.held = subst (λ (l : List NumberedRow). NoneIsDeleted old.lists l old.held) (sym live_is) left in
    subst IsReady (sym takes.is) (record { unconcluded = ready.unconcluded; model_live = now.model_live; held_live = now.held_live })
