-- Lines that are added one after another, and the law that they keep.
use Rattle.std.proofs.Common.{◌≡◌, ◌<◌, ◌≤◌, ℕ, List, [], ◌∷◌, ◌++◌, append-nil, append_assoc, length, refl, sym, ap, ◌∙◌}
use Rattle.std.specs.Prelude.{Some, is_some}
use Rattle.hrt_base.specs.declared.literal.Lit.{Lit}
use Rattle.hrt_base.specs.declared.numbered.RowNo.{RowNo}
use Rattle.stability_model.specs.Model.{rows}
use Rattle.proof_lines.specs.declared.note.Note.{Note}
use Rattle.proof_lines.specs.declared.note.Note.TheVariants.{Learn}
use Rattle.proof_lines.specs.Texts.{note_text}
use Rattle.proof_rules.specs.Held.{NoneIsDeleted}
use Rattle.proof_rules.specs.States.{IsInOrder as AreNumbersInOrder}
use Rattle.derivation.specs.Derived.{Derived, StaysValid}
use Rattle.derivation.specs.Pieces.{ANote, CutsStayTraced, TakesNote, traced}
use Rattle.derivation.specs.Ready.{IsReady}
use Rattle.derivation.specs.Traces.{since_note}
use Rattle.derivation.proofs.Traced.{pieces_traced}
use Rattle.conflict_cuts.specs.Learned.{Analyzes}
use Rattle.search_measure.specs.Recorded.{GoesOn}
use Rattle.search_measure.proofs.Recorded.{pieces_go_on}
use Rattle.pb_search.specs.Tried.{StaysLawful, StaysMarked}

-- ---- lines

pub goes_none : (d : Derived) → GoesOn d d
goes_none d = record { lists = refl; more = []; pending = sym (append-nil d.pending); valid = λ text s. s }

pub goes_then : (a b c : Derived) → GoesOn a b → GoesOn b c → GoesOn a c
goes_then a b c h k = record {
  lists = k.lists ∙ h.lists;
  more = h.more ++ k.more;
  pending = k.pending ∙ ap (λ (p : List ℕ). p ++ k.more) h.pending ∙ append_assoc a.pending h.more k.more;
  valid = λ text s. k.valid text (h.valid text s);
}

pub goes_note : (note : Note) (old new : Derived) → TakesNote note old new → StaysValid old new → GoesOn old new
goes_note note old new t valid = record { lists = ap (λ (d : Derived). d.lists) t.is; more = note_text note; pending = ap (λ (d : Derived). d.pending) t.is; valid = valid }

pub goes_cuts : (old new : Derived) → Analyzes old new → GoesOn old new
goes_cuts old new a = pieces_go_on a.lines.pieces old new a.lines.adds a.valid

-- ---- the law

pub marked_none : (d : Derived) → StaysMarked d d
marked_none d text t s since = (t, s, since, refl)

pub marked_then : (a b c : Derived) → StaysMarked a b → StaysMarked b c → StaysMarked a c
marked_then a b c h k text t s since =
    let one = h text t s since in
    let two = k text one.0 one.1 one.2 in
    (two.0, two.1, two.2, two.3 ∙ one.3)

pub lawful_then : (a b c : Derived) → StaysMarked a b → StaysLawful b c → StaysLawful a c
lawful_then a b c h k text t s since =
    let one = h text t s since in
    let two = k text one.0 one.1 one.2 in
    (two.0, two.1, two.2, two.3 ∙ one.3)

pub marked_lawful : (a b : Derived) → StaysMarked a b → StaysLawful a b
marked_lawful a b h text t s since = let one = h text t s since in (one.0, one.1, ap is_some one.2, one.3)

none_deleted : (d : Derived) → IsReady d → NoneIsDeleted d.lists d.state.live d.held
none_deleted d ready = record { model_live = ready.model_live; held_live = ready.held_live }

pub cuts_lawful : CutsStayTraced → (old new : Derived) → IsReady old → AreNumbersInOrder old.state → Analyzes old new → StaysLawful old new
cuts_lawful law old new ready order a text t s since =
    let u = law text old new t s ready.unconcluded order (none_deleted old ready) since a.lines in
    (u.0, u.1, ap is_some (u.2.since ∙ since), u.2.units)

-- an analysis, and the note of a row that was made in it: no row was made since that note
pub learn_marked : CutsStayTraced → (old made noted : Derived) (id : RowNo) (decisions : List Lit) (l : Lit) → IsReady old → AreNumbersInOrder old.state → Analyzes old made → length (rows made.lists) < id.0 → old.state.next ≤ id.0 → id.0 < made.state.next →
    TakesNote (Learn id decisions l) made noted → StaysMarked old noted
learn_marked law old made noted id decisions l ready order a behind first last takes text t s since =
    let u = law text old made t s ready.unconcluded order (none_deleted old ready) since a.lines in
    let some : u.0.since ≡ Some old.state.next = u.2.since ∙ since in
    let note : Note = Learn id decisions l in
    let v = traced (ANote note) made noted u.0 in
    let stands = pieces_traced text (ANote note ∷ []) made noted u.0 v u.1 (noted, takes, (none_deleted made a.ready, (behind, ap is_some some, u.2.made_here id.0 first last)), (refl, refl)) in
    (v, stands, ap (since_note made.state.next note) some ∙ ap (λ (x : Derived). Some x.state.next) (sym takes.is), u.2.units)
