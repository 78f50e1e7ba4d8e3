-- What the line and the note of the bound row do to a derivation.
use Rattle.std.proofs.Common.{◌≡◌, ℕ, ◌-◌, ◌<◌, ◌≤◌, ◌^◌, true, List, [], ◌∷◌, ◌++◌, nat_le, length, refl, sym, ap, ap₂, ◌∙◌, subst, inr, arith}
use Rattle.std.specs.Prelude.{IsTrue, slice_get, Option, Some, Result, Ok, Err, IsOk, OnErr, is_ok, decimal}
use Rattle.std.proofs.lemmas.Bool.{and_from, le-leb}
use Rattle.std.proofs.lemmas.Fmt.{length-decimal-le}
use Rattle.std.proofs.lemmas.List.{length-append}
use Rattle.hrt_base.specs.declared.numbered.RowNo.{RowNo}
use Rattle.pb_rows.specs.Terms.{PlainRow}
use Rattle.pb_rows.specs.Formula.{row_of}
use Rattle.rank_tables.specs.Instance.{Lists, pair_count}
use Rattle.rank_tables.specs.WellFormed.{IsWellFormed}
use Rattle.stability_model.specs.Model.{rows}
use Rattle.stability_model.specs.Gone.{ceiling}
use Rattle.proof_lines.specs.declared.line.PolStep.{PolStep}
use Rattle.proof_lines.specs.declared.line.Line.TheVariants.{Pol}
use Rattle.proof_lines.specs.declared.note.Note.TheVariants.{Bound as BoundRow}
use Rattle.proof_lines.specs.Spelling.{most_bytes, row_no}
use Rattle.proof_lines.specs.Texts.{is_spellable_id, line_text, note_text}
use Rattle.proof_rules.specs.Refusals.{Refusal, and_then}
use Rattle.proof_rules.specs.Pol.{pol_row}
use Rattle.proof_rules.specs.States.{IsInOrder, State, with_row}
use Rattle.derivation.specs.Deletions.{AreUnitRows, Deletions, is_deleted}
use Rattle.derivation.specs.Derived.{Derived}
use Rattle.derivation.specs.Pieces.{ALine, ANote, TakesLine, TakesNote, traced}
use Rattle.derivation.specs.Ready.{IsReady}
use Rattle.derivation.specs.Steps.{IsWritable, Takes, with_new_row, with_note}
use Rattle.derivation.specs.Traces.{IsLawfulPol, NamesCeiling, Trace}
use Rattle.derivation.proofs.NoneDeleted.{model_below, none_deleted}
use Rattle.derivation.proofs.Readiness.{ready_note, ready_row, row_last, row_numbered}
use Rattle.capacity_bound.specs.Steps.{AddsRows, bound_operands}
use Rattle.capacity_bound.specs.Bound.{AddsBoundLawfully, DerivesBound, StopsEarly, bound_row, with_bound, with_bound_row}
use Rattle.capacity_bound.proofs.BoundLine.{AddsUp, bound_adds_up}

-- ---- notes of rows

pub on_err : {T E P : Type 0} (result : Result T E) → P → OnErr result P
on_err (Ok x) p = tt
on_err (Err x) p = p

pub note_made : (n next : ℕ) → n ≡ next → 1 ≤ next → next < 10 ^ 18 → is_spellable_id (row_no n) ≡ true
note_made n next e first last = and_from (nat_le 1 n) (nat_le n (10 ^ 18 - 1)) (le-leb 1 n (omega arith)) (le-leb n (10 ^ 18 - 1) (omega arith))

pub note_short : (n : ℕ) → n < 10 ^ 18 → length (note_text (BoundRow (row_no n))) ≤ most_bytes
note_short n h = omega (arith, length-append (decimal n ++ []) (10 ∷ []), length-append (decimal n) [], length-decimal-le 18 n (omega arith) h (omega arith))

-- ---- a line whose row is known

taken_row : (steps : List PolStep) (old new : Derived) (row : PlainRow) → pol_row (pair_count old.lists) old.state.live steps ≡ Ok row → Takes (Pol steps) old new → new ≡ with_new_row row (line_text (Pol steps)) old
taken_row steps old new row made taken =
    let ok : Ok (with_row old.state row) ≡ Ok new.state = sym (ap (λ (r : Result PlainRow Refusal). and_then r (λ made. Ok (with_row old.state made))) made) ∙ taken.step.leads in
    let state : new.state ≡ with_row old.state row = cc in
    taken.is ∙ ap (λ (s : State). record old { state = s; pending = old.pending ++ line_text (Pol steps) }) state

-- ---- the bound row

module _ (lists : Lists) (deletions : Deletions) (old : Derived) (same : old.lists ≡ lists) (ready : IsReady old) (order : IsInOrder old.state) (few : old.state.next < 10 ^ 18) (units : AreUnitRows old.state.live deletions) (most : pair_count lists ≤ 100000) (formed : IsWellFormed lists) (some : 0 < pair_count lists) where
  model : (k : ℕ) → 1 ≤ k → k ≤ length (rows lists) → row_of k old.state.live ≡ slice_get (rows lists) (k - 1)
  model = subst (λ (l : Lists). (k : ℕ) → 1 ≤ k → k ≤ length (rows l) → row_of k old.state.live ≡ slice_get (rows l) (k - 1)) same ready.model_live

  up : AddsUp (pair_count lists) old.state.live (bound_operands lists deletions) (ceiling lists (is_deleted deletions))
  up = bound_adds_up lists deletions old.state.live old.state.next order (omega arith) units model most formed some

  pub operands_some : (operands : List PolStep) → operands ≡ bound_operands lists deletions → 0 < length operands
  operands_some operands are = omega (arith, ap length are, up.some)

  module _ (operands steps : List PolStep) (are : operands ≡ bound_operands lists deletions) (added : AddsRows operands steps) where
    adds : AddsRows (bound_operands lists deletions) steps
    adds = subst (λ (s : List PolStep). AddsRows s steps) are added

    pub line_writable : IsWritable (Pol steps)
    line_writable = up.writable steps adds

    row_made : pol_row (pair_count old.lists) old.state.live steps ≡ Ok (bound_row lists deletions)
    row_made = ap (λ (l : Lists). pol_row (pair_count l) old.state.live steps) same ∙ up.row steps adds

    pub line_makes : IsOk (pol_row (pair_count old.lists) old.state.live steps)
    line_makes = ap (λ (r : Result PlainRow Refusal). is_ok r) row_made

    module _ (made : Derived) (taken : Takes (Pol steps) old made) where
      made_is : made ≡ with_bound_row lists deletions steps old
      made_is = taken_row steps old made (bound_row lists deletions) row_made taken

      pub stops_early : (new : Derived) → new ≡ made → StopsEarly lists deletions old new
      stops_early new e = inr (record { steps = steps; adds = adds; is = e ∙ made_is })

      module _ (id : RowNo) (new : Derived) (number : id.0 ≡ old.state.next) (noted : new ≡ with_note (BoundRow id) made) where
        new_is : new ≡ with_bound lists deletions steps old
        new_is = noted ∙ ap₂ (λ (n : ℕ) (d : Derived). with_note (BoundRow (row_no n)) d) number made_is

        pub has_bound : DerivesBound lists deletions (Some id) old new
        has_bound = record { some = some; number = ap row_no number; steps = steps; adds = adds; is = new_is }

        pub row_there : row_of id.0 new.state.live ≡ Some (bound_row lists deletions)
        row_there = ap₂ (λ (n : ℕ) (d : Derived). row_of n d.state.live) number new_is ∙ row_last old.state.next (bound_row lists deletions) old.state.live order

        pub ready_again : IsReady new
        ready_again =
            let now : Derived = with_bound_row lists deletions steps old in
            let found : row_of old.state.next now.state.live ≡ Some (bound_row lists deletions) = row_last old.state.next (bound_row lists deletions) old.state.live order in
            subst IsReady (sym new_is)
            (ready_note (BoundRow (row_no old.state.next)) now (row_numbered old.state.next (bound_row lists deletions) now.state.live found) (ready_row (bound_row lists deletions) (line_text (Pol steps)) old ready))

        pub lawful : IsTrue (is_spellable_id id) → length (note_text (BoundRow id)) ≤ most_bytes → AddsBoundLawfully lists deletions (Some id) old new
        lawful spelled short are t none =
            let there : row_of id.0 made.state.live ≡ Some (bound_row lists deletions) = ap₂ (λ (n : ℕ) (d : Derived). row_of n d.state.live) number made_is ∙ row_last old.state.next (bound_row lists deletions) old.state.live order in
            let ready_made : IsReady made = subst IsReady (sym made_is) (ready_row (bound_row lists deletions) (line_text (Pol steps)) old ready) in
            let line : TakesLine (Pol steps) old made = record { writable = line_writable; unconcluded = ready.unconcluded; takes = taken } in
            let note : TakesNote (BoundRow id) made new =
            record { made = spelled; short = short; unconcluded = ready_made.unconcluded; so = row_numbered id.0 (bound_row lists deletions) made.state.live there; is = noted } in
            let same_made : made.lists ≡ lists = ap (λ (d : Derived). d.lists) made_is ∙ same in
            let behind : length (rows made.lists) < id.0 =
            omega (arith, ap (λ (l : Lists). length (rows l)) same_made, ap (λ (l : Lists). length (rows l)) same, number, model_below old ready order) in
            let names : NamesCeiling made.lists made.state.live id = subst (λ (l : Lists). NamesCeiling l made.state.live id) (sym same_made) (record { gone = is_deleted deletions; are = are; row = there }) in
            let pairs : 0 < pair_count made.lists = subst (λ (l : Lists). 0 < pair_count l) (sym same_made) some in
            let mid : Trace = traced (ALine (Pol steps)) old made t in
            let next : made.state.next ≡ new.state.next = sym (ap (λ (d : Derived). d.state.next) noted) in
            record {
              steps = steps;
              told = traced (ANote (BoundRow id)) made new mid;
              lawful = (
                made,
                line,
                (none_deleted old ready, subst (λ (s : Option ℕ). IsLawfulPol old.lists old.state.next t.told.held s steps) (sym none) tt),
                (new, note, (none_deleted made ready_made, (behind, pairs, none, names)), (refl, refl)),
              );
              since = ap (λ (n : ℕ). Some n) next;
              units = refl;
            }
