-- Rows that an analysis lays down.
use Rattle.std.proofs.Common.{◌≡◌, ◌<◌, ◌≤◌, ◌+◌, ◌==◌, ℕ, true, false, if◌then◌else◌, List, [], ◌∷◌, ◌++◌, refl, sym, ap, ◌∙◌, subst, inl, inr, arith}
use Rattle.std.specs.Prelude.{Option, Some}
use Rattle.std.specs.List.{All}
use Rattle.std.proofs.lemmas.Bool.{cases_lt, ne_eqb}
use Rattle.std.proofs.lemmas.List.Elements.{All-nil, All-push}
use Rattle.hrt_base.specs.declared.numbered.RowNo.{RowNo}
use Rattle.pb_rows.specs.Terms.{PlainRow}
use Rattle.pb_rows.specs.Formula.{NumberedRow, is_numbered, row_of}
use Rattle.proof_lines.specs.declared.line.Line.TheVariants.{Pol}
use Rattle.proof_lines.specs.Texts.{line_text}
use Rattle.proof_rules.specs.Held.{Held as HeldNumbers}
use Rattle.proof_rules.specs.States.{IsInOrder as AreNumbersInOrder, State}
use Rattle.proof_rules.proofs.HeldLive.{numbered-front}
use Rattle.proof_rules.proofs.Numbers.{numbered-push}
use Rattle.derivation.specs.Derived.{Derived}
use Rattle.derivation.specs.Pieces.{ALine, Adds, IsCutPiece, Piece, TakesPiece}
use Rattle.derivation.specs.Ready.{IsReady}
use Rattle.derivation.specs.Steps.{with_new_row}
use Rattle.derivation.specs.Traces.{IsKnownStep}
use Rattle.derivation.proofs.Readiness.{ready_row, row_last, row_numbered}
use Rattle.pb_propagate.specs.Engines.{EngineState}
use Rattle.conflict_rows.specs.declared.marks.Mark.{Mark}
use Rattle.agreement.proofs.Growing.{derivations_followed}
use Rattle.agreement.proofs.Lines.{steps_leave}
use Rattle.conflict_cuts.specs.Laid.{IsNewest, IsSet, Lays, MakesRow}

-- ---- rows by number

other_row : (n : ℕ) (more : NumberedRow) (live : List NumberedRow) → (more.number ≡ n → ⊥) → row_of n (live ++ more ∷ []) ≡ row_of n live
other_row n more [] other = let no : (more.number == n) ≡ false = ne_eqb more.number n other in rw no refl
other_row n more (x ∷ live) other = ap (λ (o : Option PlainRow). if x.number == n then Some x.row else o) (other_row n more live other)

-- ---- one row

module _ (first : ℕ) (old new : Derived) (id : RowNo) (row : PlainRow) (made : MakesRow first old new id row) where
  pub next_is : new.state.next ≡ old.state.next + 1
  next_is = ap (λ (s : State). s.next) made.state

  live_is : new.state.live ≡ old.state.live ++ record { number = old.state.next; row = row } ∷ []
  live_is = ap (λ (s : State). s.live) made.state

  pub lists_are : new.lists ≡ old.lists
  lists_are = ap (λ (d : Derived). d.lists) made.takes.takes.is

  held_are : new.held ≡ old.held
  held_are = ap (λ (d : Derived). d.held) made.takes.takes.is

  pub rows_before : (n : ℕ) → n < old.state.next → row_of n new.state.live ≡ row_of n old.state.live
  rows_before n l = ap (row_of n) live_is ∙ other_row n (record { number = old.state.next; row = row }) old.state.live (λ e. omega (arith, l, e))

  is_new : new ≡ with_new_row row (line_text (Pol made.steps)) old
  is_new = made.takes.takes.is ∙ ap (λ (s : State). record old { state = s; pending = old.pending ++ line_text (Pol made.steps) }) made.state

  pub made_ready : IsReady old → IsReady new
  made_ready ready = subst IsReady (sym is_new) (ready_row row (line_text (Pol made.steps)) old ready)

  made_order : AreNumbersInOrder old.state → AreNumbersInOrder new.state
  made_order order = subst AreNumbersInOrder (sym made.state) (numbered-push 1 old.state.next old.state.live row order)

  pub made_live : AreNumbersInOrder old.state → row_of id.0 new.state.live ≡ Some row
  made_live order = ap (λ (n : ℕ). row_of n new.state.live) made.number ∙ (ap (row_of old.state.next) live_is ∙ row_last old.state.next row old.state.live order)

  pub made_set : (e : EngineState) (marks : List Mark) → IsSet e marks old → IsSet e marks new
  made_set e marks set = record {
    order = set.order;
    table = set.table;
    size = set.size;
    few = set.few;
    agree = derivations_followed e old new set.agree (steps_leave old new made.steps made.takes.takes);
    ready = made_ready set.ready;
    numbered = made_order set.numbered;
  }

-- ---- several

adds_one : (pieces : List Piece) (piece : Piece) (old mid new : Derived) → Adds pieces old mid → TakesPiece piece mid new → Adds (pieces ++ piece ∷ []) old new
adds_one [] piece old mid new adds takes = (new, subst (λ (d : Derived). TakesPiece piece d new) adds takes, refl)
adds_one (p ∷ pieces) piece old mid new adds takes = (adds.0, adds.1, adds_one pieces piece adds.0 mid new adds.2 takes)

pub lays_none : (d : Derived) → IsReady d → Lays d d
lays_none d ready = record {
  pieces = [];
  adds = refl;
  cuts = All-nil (IsCutPiece d.held d.state.next);
  valid = λ text h. h;
  ready = ready;
  live = λ n l. refl;
  held = refl;
  lists = refl;
  least = refl;
  later = omega arith;
}

pub lays_more : (old mid new : Derived) (id : RowNo) (row : PlainRow) → Lays old mid → MakesRow old.state.next mid new id row → Lays old new
lays_more old mid new id row lays made = record {
  pieces = lays.pieces ++ ALine (Pol made.steps) ∷ [];
  adds = adds_one lays.pieces (ALine (Pol made.steps)) old mid new lays.adds made.takes;
  cuts = All-push (IsCutPiece old.held old.state.next) lays.pieces (ALine (Pol made.steps)) lays.cuts (subst (λ (h : HeldNumbers). All (IsKnownStep h old.state.next) made.steps) lays.held made.known);
  valid = λ text h. made.valid text (lays.valid text h);
  ready = made_ready old.state.next mid new id row made lays.ready;
  live = λ n l. rows_before old.state.next mid new id row made n (omega (arith, l, lays.later)) ∙ lays.live n l;
  held = held_are old.state.next mid new id row made ∙ lays.held;
  lists = lists_are old.state.next mid new id row made ∙ lays.lists;
  least = ap (λ (s : State). s.least) made.state ∙ lays.least;
  later = omega (arith, lays.later, next_is old.state.next mid new id row made);
}

pub newest_made : (old mid new : Derived) (id : RowNo) (row : PlainRow) → AreNumbersInOrder mid.state → Lays old mid → ((n : ℕ) → old.state.next ≤ n → n < mid.state.next → is_numbered n mid.state.live ≡ true) → MakesRow old.state.next mid new id row → IsNewest old new id row
newest_made old mid new id row order lays all made = record {
  own = omega (arith, made.number, lays.later);
  number = omega (arith, made.number, next_is old.state.next mid new id row made);
  live = made_live old.state.next mid new id row made order;
  made = λ n l h. elim (cases_lt n mid.state.next) [
    | inl before ↦ ap (is_numbered n) (live_is old.state.next mid new id row made) ∙ numbered-front n mid.state.live (record { number = mid.state.next; row = row } ∷ []) (all n l before)
    | inr last ↦
        let same : n ≡ id.0 = omega (arith, last, h, next_is old.state.next mid new id row made, made.number) in
        subst (λ (m : ℕ). is_numbered m new.state.live ≡ true) (sym same) (row_numbered id.0 row new.state.live (made_live old.state.next mid new id row made order))
  ];
}
