-- Lines that leave what is held, and notes that hold more.
use Rattle.std.proofs.Common.{◌≡◌, ℕ, ◌+◌, ◌<◌, ◌==◌, true, ◌||◌, List, [], ◌∷◌, ◌++◌, get_or, refl, sym, ap, ◌∙◌, subst, inl, inr, arith}
use Rattle.std.specs.Prelude.{Result, Ok, Err}
use Rattle.std.specs.List.{All}
use Rattle.std.proofs.lemmas.Bool.{eqb-true, false_from_ne_true, or_cases, true≢false}
use Rattle.std.proofs.lemmas.List.{append_assoc}
use Rattle.std.proofs.lemmas.List.Elements.{All-head, All-tail}
use Rattle.pb_rows.specs.Terms.{PlainRow}
use Rattle.pb_rows.specs.Formula.{row_of}
use Rattle.rank_tables.specs.Instance.{pair_count}
use Rattle.rank_tables.specs.Numbers.{is_in}
use Rattle.proof_lines.specs.declared.line.Line.TheVariants.{Header, Count, Pol, Rup, Soli, Del, Output, Conclusion, End, Comment, Blank}
use Rattle.proof_lines.specs.declared.note.Note.TheVariants.{Unit as UnitRow, Bound as BoundRow, Load, Learn, Drop}
use Rattle.proof_rules.specs.Refusals.{Refusal, and_then}
use Rattle.proof_rules.specs.Pol.{pol_row}
use Rattle.proof_rules.specs.States.{State, deleted, with_row}
use Rattle.proof_rules.specs.Held.{Held, is_held, row_numbers}
use Rattle.proof_rules.proofs.Held.{is_held-keeping, is_in-append}
use Rattle.proof_rules.proofs.Numbers.{live_within}
use Rattle.derivation.specs.Derived.{Derived}
use Rattle.derivation.specs.Pieces.{ALine, ANote, Adds, IsCutPiece, Piece, TakesPiece}
use Rattle.derivation.proofs.Forgotten.{del_leads, row-deleted}
use Rattle.derivation.proofs.Readiness.{row_front}
use Rattle.row_arena.specs.Held.{Held as HeldRow}
use Rattle.agreement.specs.Agreement.{IsHeldIn, tags}
use Rattle.agreement.specs.Kept.{CutsLeaveHeld, DeletionsLeaveHeld, LeavesHeld, NotesHoldMore, SendsLeaveHeld, StepsLeaveHeld}

-- ---- one line

pol_leads : (r : Result PlainRow Refusal) (s t : State) → and_then r (λ row. Ok (with_row s row)) ≡ Ok t → (row : PlainRow) × (t ≡ with_row s row)
pol_leads (Ok row) s t e = (row, cc)
pol_leads (Err why) s t e = absurd (cc)

pub steps_leave : StepsLeaveHeld
steps_leave old new steps takes =
    let made = pol_leads (pol_row (pair_count old.lists) old.state.live steps) old.state new.state takes.step.leads in
    let live_is : new.state.live ≡ old.state.live ++ record { number = old.state.next; row = made.0 } ∷ [] = ap (λ (s : State). s.live) made.1 in
    record {
      lists = ap (λ (d : Derived). d.lists) takes.is;
      held = ap (λ (d : Derived). d.held) takes.is;
      rows = λ n row h at. ap (row_of n) live_is ∙ row_front n row old.state.live (record { number = old.state.next; row = made.0 } ∷ []) at;
    }

pub deletions_leave : DeletionsLeaveHeld
deletions_leave old new ids free takes =
    let gone = del_leads (deleted ids old.state.live) old.state new.state takes.step.leads in
    let live_is : new.state.live ≡ gone.0 = ap (λ (s : State). s.live) gone.2 in
    record {
      lists = ap (λ (d : Derived). d.lists) takes.is;
      held = ap (λ (d : Derived). d.held) takes.is;
      rows = λ n row h at. ap (row_of n) live_is ∙ row-deleted n ids old.state.live gone.0 (λ i d l is. true≢false (sym h ∙ ap (is_held old.held) (sym is) ∙ free i d l)) gone.1 ∙ at;
    }

pub sends_leave : SendsLeaveHeld
sends_leave d = record { lists = refl; held = refl; rows = λ n row h at. at }

-- ---- several

left_left : (a b c : Derived) → LeavesHeld a b → LeavesHeld b c → LeavesHeld a c
left_left a b c one more = record {
  lists = more.lists ∙ one.lists;
  held = more.held ∙ one.held;
  rows = λ n row h at. more.rows n row (ap (λ (x : Held). is_held x n) one.held ∙ h) (one.rows n row h at);
}

module _ (first : ℕ) (held : Held) (low : (n : ℕ) → is_held held n ≡ true → n < first) where
  piece_leaves : (piece : Piece) (old new : Derived) → old.held ≡ held → IsCutPiece held first piece → TakesPiece piece old new → LeavesHeld old new
  piece_leaves (ALine (Pol steps)) old new same cut takes = steps_leave old new steps takes.takes
  piece_leaves (ALine (Del ids)) old new same cut takes =
      deletions_leave old new ids (λ i d l. false_from_ne_true (is_held old.held (get_or ids i d).0) (λ h. let below = low (get_or ids i d).0 (sym (ap (λ (x : Held). is_held x (get_or ids i d).0) same) ∙ h) in let at = cut i d l in omega (arith, below, at))) takes.takes
  piece_leaves (ALine Header) old new same cut takes = absurd cut
  piece_leaves (ALine (Count n)) old new same cut takes = absurd cut
  piece_leaves (ALine (Rup w)) old new same cut takes = absurd cut
  piece_leaves (ALine (Soli ls)) old new same cut takes = absurd cut
  piece_leaves (ALine Output) old new same cut takes = absurd cut
  piece_leaves (ALine (Conclusion c)) old new same cut takes = absurd cut
  piece_leaves (ALine End) old new same cut takes = absurd cut
  piece_leaves (ALine Comment) old new same cut takes = absurd cut
  piece_leaves (ALine Blank) old new same cut takes = absurd cut
  piece_leaves (ANote note) old new same cut takes = absurd cut

  pieces_leave : (pieces : List Piece) (old new : Derived) → old.held ≡ held → All (IsCutPiece held first) pieces → Adds pieces old new → LeavesHeld old new
  pieces_leave [] old new same cuts adds = subst (LeavesHeld old) (sym adds) (record { lists = refl; held = refl; rows = λ n row h at. at })
  pieces_leave (piece ∷ pieces) old new same cuts adds =
      let one = piece_leaves piece old adds.0 same (All-head (IsCutPiece held first) piece pieces cuts) adds.1 in
      left_left old adds.0 new one (pieces_leave pieces adds.0 new (one.held ∙ same) (All-tail (IsCutPiece held first) piece pieces cuts) adds.2)

pub cuts_leave : CutsLeaveHeld
cuts_leave e old new agree order cuts =
    pieces_leave old.state.next old.held (λ n h. below n e.held (agree.all n h) agree.rows) cuts.pieces old new refl cuts.cuts cuts.adds
  where
    below : (n : ℕ) (held : List HeldRow) → is_in n (tags held) ≡ true → All (IsHeldIn old) held → n < old.state.next
    below n [] i all = absurd (cc)
    below n (h ∷ held) i all = elim (or_cases (h.tag == n) (is_in n (tags held)) i) [
      | inl s ↦
          let one : IsHeldIn old h = All-head (IsHeldIn old) h held all in
          let within = live_within h.tag old.state.next h.row old.state.live order one.row.live in
          let is : h.tag ≡ n = eqb-true h.tag n s in
          omega (arith, within, is)
      | inr s ↦ below n held s (All-tail (IsHeldIn old) h held all)
    ]

-- ---- notes

learned_besides : (held : Held) (k n : ℕ) → is_held (record held { learned = held.learned ++ k ∷ []; learn_notes = held.learn_notes + 1 }) n ≡ (is_held held n || is_in n (k ∷ []))
learned_besides held k n = ap (is_in n) (sym (append_assoc held.kept held.learned (k ∷ []))) ∙ is_in-append n (held.kept ++ held.learned) (k ∷ [])

pub notes_hold : NotesHoldMore
notes_hold d (UnitRow id) holds = record { lists = refl; held = is_held-keeping d.held (id.0 ∷ []); rows = λ n row h at. at }
notes_hold d (BoundRow id) holds = record { lists = refl; held = is_held-keeping d.held (id.0 ∷ []); rows = λ n row h at. at }
notes_hold d (Load trues ids) holds = record { lists = refl; held = is_held-keeping d.held (row_numbers ids); rows = λ n row h at. at }
notes_hold d (Learn id decisions l) holds = record { lists = refl; held = learned_besides d.held id.0; rows = λ n row h at. at }
notes_hold d (Drop id) holds = absurd holds
