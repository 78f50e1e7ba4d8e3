-- A learned row is noted, given to the engine, and the engine goes back to its level.
use Rattle.std.proofs.Common.{◌≡◌, ◌<◌, ◌≤◌, ◌^◌, ℕ, false, [], ◌∷◌, ◌++◌, refl, sym, ap, ◌∙◌, subst}
use Rattle.std.specs.Prelude.{Some}
use Rattle.std.proofs.lemmas.List.Elements.{All-cons, All-nil}
use Rattle.hrt_base.specs.declared.literal.Lit.{Lit}
use Rattle.hrt_base.specs.declared.numbered.RowNo.{RowNo}
use Rattle.pb_rows.specs.Terms.{PlainRow}
use Rattle.pb_rows.specs.Rows.{IsWellFormedRow}
use Rattle.pb_rows.specs.Formula.{row_of}
use Rattle.rank_tables.specs.WellFormed.{most_pairs}
use Rattle.proof_lines.specs.declared.note.Note.TheVariants.{Learn}
use Rattle.proof_rules.specs.Held.{is_held}
use Rattle.proof_rules.specs.States.{IsInOrder as AreNumbersInOrder}
use Rattle.proof_rules.proofs.Numbers.{live_within}
use Rattle.derivation.specs.Derived.{Derived, StaysValid}
use Rattle.derivation.specs.Pieces.{TakesNote}
use Rattle.derivation.specs.Ready.{IsReady}
use Rattle.derivation.specs.Steps.{with_note}
use Rattle.row_arena.specs.Held.{Held}
use Rattle.pb_propagate.specs.Entries.{up_to}
use Rattle.pb_propagate.specs.Engines.{EngineState, decisions_at}
use Rattle.pb_propagate.specs.Moments.{IsInOrder}
use Rattle.agreement.specs.Agreement.{Agree, IsLiveIn}
use Rattle.agreement.specs.Kept.{HoldsBesides}
use Rattle.agreement.proofs.Growing.{grown}
use Rattle.agreement.proofs.Lines.{notes_hold}
use Rattle.conflict_cuts.specs.Learned.{Asserts}
use Rattle.search_measure.specs.Trails.{IsExactBelow}
use Rattle.search_measure.proofs.Agreeing.{note_true}
use Rattle.pb_search.specs.Moves.{LearnsRow}
use Rattle.pb_search.proofs.NoteText.{note_made, note_short}

module _ (e : EngineState) (d : Derived) (id : RowNo) (row : PlainRow) (level : ℕ) (l : Lit) (o : IsInOrder e) (numbers : AreNumbersInOrder d.state) (few : e.vars ≤ most_pairs) (ready : IsReady d) (agree : Agree e d) (exact : IsExactBelow e)
    (live : row_of id.0 d.state.live ≡ Some row) (asserts : Asserts e row level l) (small : id.0 < 10 ^ 18) where
  -- the note can be taken
  pub takes : (noted : Derived) → noted ≡ with_note (Learn id (decisions_at level e) l) d → TakesNote (Learn id (decisions_at level e) l) d noted
  takes noted is = record {
    made = note_made e o few id row level l (live_within id.0 d.state.next row d.state.live numbers live).0 small asserts;
    short = note_short e o few id row level l (live_within id.0 d.state.next row d.state.live numbers live).0 small asserts;
    unconcluded = ready.unconcluded;
    so = note_true e d id row level l o agree numbers exact asserts live;
    is = is;
  }

  -- and engine and derivation agree again
  pub learned_row : (new : EngineState) (noted : Derived) (place : ℕ) → noted ≡ with_note (Learn id (decisions_at level e) l) d → StaysValid d noted → IsReady noted → IsWellFormedRow row → is_held d.held id.0 ≡ false →
      new.vars ≡ e.vars → new.held ≡ e.held ++ record { place = place; row = row; tag = id.0 } ∷ [] → new.trail ≡ up_to level e.trail → LearnsRow id row level l e new d noted
  learned_row new noted place is valid ready_again formed free vars held trail = record {
    note = takes noted is;
    valid = valid;
    ready = ready_again;
    agree = grown e new d noted (h ∷ []) (id.0 ∷ []) agree (subst (HoldsBesides (id.0 ∷ []) d) (sym is) (notes_hold d (Learn id (decisions_at level e) l) tt)) (record {
      tags_are = refl;
      distinct = refl;
      not_held = All-cons (λ (n : ℕ). is_held d.held n ≡ false) id.0 [] free (All-nil (λ (n : ℕ). is_held d.held n ≡ false));
      live = All-cons (IsLiveIn noted) h [] (record { live = ap (λ (x : Derived). row_of id.0 x.state.live) is ∙ live; formed = formed }) (All-nil (IsLiveIn noted));
    }) (record { vars = vars; held = held });
    place = place;
    held = held;
    trail = trail;
  }
    where
      h : Held
      h = record { place = place; row = row; tag = id.0 }
