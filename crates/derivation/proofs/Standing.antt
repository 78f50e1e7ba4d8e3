-- One more line: for which texts a derivation stands.
use Rattle.std.proofs.Common.{◌≡◌, ℕ, ◌≤◌, List, [], ◌++◌, length, lit≤, refl, sym, ap, ap₂, ◌∙◌, subst}
use Rattle.std.specs.Prelude.{IsTrue, Option, Some, None}
use Rattle.std.specs.List.{All}
use Rattle.std.proofs.lemmas.List.{append-nil, append_assoc}
use Rattle.std.proofs.lemmas.List.Elements.{All-cons, All-nil}
use Rattle.rank_tables.specs.Instance.{Lists}
use Rattle.stability_model.specs.Model.{formula}
use Rattle.proof_lines.specs.declared.line.Line.{Line}
use Rattle.proof_lines.specs.declared.line.Line.TheVariants.{Header, Output, Conclusion, End, Comment}
use Rattle.proof_lines.specs.declared.line.Claim.{Claim}
use Rattle.proof_lines.specs.declared.note.Note.{Note}
use Rattle.proof_lines.specs.Spelling.{is_small_claim, most_bytes, read_line}
use Rattle.proof_lines.specs.Notes.{note_in}
use Rattle.proof_lines.specs.Texts.{is_spellable_note, line_text, note_spelling, note_text, spelling}
use Rattle.proof_rules.specs.States.{State, first_state}
use Rattle.proof_rules.specs.Claims.{Shows}
use Rattle.proof_rules.specs.Valid.{Place, Start, Headed, Proving, Closing, Claimed, Done, Moves}
use Rattle.proof_rules.specs.Held.{Held, after_any_note, after_line, after_note, first_held}
use Rattle.proof_rules.specs.Notes.{IsTrueNote}
use Rattle.proof_rules.specs.Told.{IsTrueAt, NoteAt, Tells, held_after, noted}
use Rattle.proof_rules.proofs.Told.{notes-line, tells-line, tells-start}
use Rattle.proof_rules.proofs.Verdicts.{step-moves}
use Rattle.derivation.specs.Derived.{Derived, IsProofUpTo, StandsFor, StaysSent, StaysValid, place_of}
use Rattle.derivation.specs.Steps.{IsWritable, Takes, concluded, emptied, end_lines, with_note}
use Rattle.derivation.proofs.Spelled.{line_is_one, line_reads, note_is_one, note_reads}
use Rattle.derivation.proofs.NotesOfLines.{no_note, note_comment}

-- ---- one line

module _ (lists : Lists) (bytes : List ℕ) (line : Line) (here there : Place) (held : Held) (leads : IsProofUpTo lists bytes here held) (writable : IsWritable line) (other : line ≡ Comment → ⊥) (moves : Moves (formula lists) here line there) where
  reads : read_line (spelling line) ≡ Some line
  reads = line_reads line writable

  silent : note_in (spelling line) ≡ None
  silent = no_note (spelling line) line reads other

  held_is : held_after here (spelling line) held ≡ after_line here (Some line) held
  held_is = ap₂ (λ (n : Option Note) (o : Option Line). after_any_note n (after_line here o held)) silent reads

  pub leads_line : IsProofUpTo lists (bytes ++ line_text line) there (after_line here (Some line) held)
  leads_line = record {
    tells = subst (λ (h : Held). Tells lists (bytes ++ line_text line) there h) held_is (tells-line lists bytes (spelling line) line here there held leads.tells (line_is_one line writable) reads moves);
    notes_true = notes-line lists bytes (spelling line) here held leads.tells (line_is_one line writable) leads.notes_true
        (subst (λ (n : Option Note). All (IsTrueAt lists) (noted (record { place = here; held = held }) n)) (sym silent) (All-nil (IsTrueAt lists)));
  }

-- ---- one note

module _ (lists : Lists) (bytes : List ℕ) (note : Note) (s : State) (held : Held) (leads : IsProofUpTo lists bytes (Proving s) held) (made : IsTrue (is_spellable_note note)) (short : length (note_text note) ≤ most_bytes) (so : IsTrueNote lists s.live held note) where
  says : note_in (note_spelling note) ≡ Some note
  says = note_reads note made short

  comment : read_line (note_spelling note) ≡ Some Comment
  comment = note_comment (note_spelling note) note says

  held_now : held_after (Proving s) (note_spelling note) held ≡ after_note note held
  held_now = ap₂ (λ (n : Option Note) (o : Option Line). after_any_note n (after_line (Proving s) o held)) says comment

  here_now : NoteAt
  here_now = record { place = Proving s; held = held; note = note }

  pub leads_note : IsProofUpTo lists (bytes ++ note_text note) (Proving s) (after_note note held)
  unfolding here_now
  leads_note = record {
    tells = subst (λ (h : Held). Tells lists (bytes ++ note_text note) (Proving s) h) held_now
        (tells-line lists bytes (note_spelling note) Comment (Proving s) (Proving s) held leads.tells (note_is_one note made) comment (record { leads = refl; owed = tt }));
    notes_true = notes-line lists bytes (note_spelling note) (Proving s) held leads.tells (note_is_one note made) leads.notes_true
        (subst (λ (n : Option Note). All (IsTrueAt lists) (noted (record { place = Proving s; held = held }) n)) (sym says)
        (All-cons (IsTrueAt lists) here_now [] so (All-nil (IsTrueAt lists))));
  }

-- ---- the calls

-- a derivation that isn't concluded leads to its state
pub open_leads : (text : List ℕ) (d : Derived) → d.claim ≡ None → StandsFor text d → IsProofUpTo d.lists (text ++ d.pending) (Proving d.state) d.held
open_leads text d e stands = subst (λ (claim : Option Claim). IsProofUpTo d.lists (text ++ d.pending) (place_of claim d.state) d.held) e stands

pub stays-step : (line : Line) (old new : Derived) → IsWritable line → (line ≡ Comment → ⊥) → old.claim ≡ None → Takes line old new → StaysValid old new
stays-step line old new w other begun taken text stands =
    subst (StandsFor text) (sym taken.is)
    (subst (λ (claim : Option Claim). IsProofUpTo old.lists (text ++ (old.pending ++ line_text line)) (place_of claim new.state) (after_line (Proving old.state) (Some line) old.held)) (sym begun)
    (subst (λ (bytes : List ℕ). IsProofUpTo old.lists bytes (Proving new.state) (after_line (Proving old.state) (Some line) old.held)) (append_assoc text old.pending (line_text line))
    (leads_line old.lists (text ++ old.pending) line (Proving old.state) (Proving new.state) old.held (open_leads text old begun stands) w other (step-moves (formula old.lists) old.state line new.state taken.step))))

pub stays-note : (note : Note) (old new : Derived) → IsTrue (is_spellable_note note) → length (note_text note) ≤ most_bytes → IsTrueNote old.lists old.state.live old.held note → old.claim ≡ None → new ≡ with_note note old →
    StaysValid old new
stays-note note old new made short so begun is text stands =
    subst (StandsFor text) (sym is)
    (subst (λ (claim : Option Claim). IsProofUpTo old.lists (text ++ (old.pending ++ note_text note)) (place_of claim old.state) (after_note note old.held)) (sym begun)
    (subst (λ (bytes : List ℕ). IsProofUpTo old.lists bytes (Proving old.state) (after_note note old.held)) (append_assoc text old.pending (note_text note))
    (leads_note old.lists (text ++ old.pending) note old.state old.held (open_leads text old begun stands) made short so)))

-- ---- the end

module _ (claim : Claim) (small : IsTrue (is_small_claim claim)) where
  output_moves : (lists : Lists) (s : State) → Moves (formula lists) (Proving s) Output (Closing s)
  output_moves lists s = record { leads = refl; owed = tt }

  claim_moves : (lists : Lists) (s : State) → Shows (formula lists) s claim → Moves (formula lists) (Closing s) (Conclusion claim) (Claimed claim)
  claim_moves lists s shown = record { leads = rw small refl; owed = shown }

  end_moves : (lists : Lists) → Moves (formula lists) (Claimed claim) End (Done claim)
  end_moves lists = record { leads = refl; owed = tt }

pub output_writable : IsWritable Output
output_writable = record { made = refl; small = refl; short = lit≤ tt }

pub end_writable : IsWritable End
end_writable = record { made = refl; small = refl; short = lit≤ tt }

pub header_writable : IsWritable Header
header_writable = record { made = refl; small = refl; short = lit≤ tt }

module _ (lists : Lists) (bytes : List ℕ) (s : State) (held : Held) (claim : Claim) (leads : IsProofUpTo lists bytes (Proving s) held) (writable : IsWritable (Conclusion claim)) (shown : Shows (formula lists) s claim) where
  pub leads_output : IsProofUpTo lists (bytes ++ line_text Output) (Closing s) held
  leads_output = leads_line lists bytes Output (Proving s) (Closing s) held leads output_writable (λ e. absurd (cc)) (output_moves claim writable.small lists s)

  pub leads_claim : IsProofUpTo lists ((bytes ++ line_text Output) ++ line_text (Conclusion claim)) (Claimed claim) held
  leads_claim =
      leads_line lists (bytes ++ line_text Output) (Conclusion claim) (Closing s) (Claimed claim) held leads_output writable (λ e. absurd (cc)) (claim_moves claim writable.small lists s shown)

  pub leads_done : IsProofUpTo lists (((bytes ++ line_text Output) ++ line_text (Conclusion claim)) ++ line_text End) (Done claim) held
  leads_done =
      leads_line lists ((bytes ++ line_text Output) ++ line_text (Conclusion claim)) End (Claimed claim) (Done claim) held leads_claim end_writable (λ e. absurd (cc)) (end_moves claim writable.small lists)

  pub leads_end : IsProofUpTo lists (bytes ++ end_lines claim) (Done claim) held
  leads_end = subst (λ (all : List ℕ). IsProofUpTo lists all (Done claim) held)
      (append_assoc (bytes ++ line_text Output) (line_text (Conclusion claim)) (line_text End) ∙ append_assoc bytes (line_text Output) (line_text (Conclusion claim) ++ line_text End)) leads_done

pub concluded_leads : (claim : Claim) (old : Derived) (text : List ℕ) → IsWritable (Conclusion claim) → Shows (formula old.lists) old.state claim → old.claim ≡ None → StandsFor text old → StandsFor text (concluded claim old)
concluded_leads claim old text w shown begun stands =
    subst (λ (bytes : List ℕ). IsProofUpTo old.lists bytes (Done claim) old.held) (append_assoc text old.pending (end_lines claim))
    (leads_end old.lists (text ++ old.pending) old.state old.held claim (open_leads text old begun stands) w shown)

-- after the text of a claim, of a derivation that is seen
pub end_is : (claim : Claim) (seen old : Derived) (pending text : List ℕ) → seen ≡ old → pending ≡ seen.pending ++ text → text ≡ end_lines claim → record seen { claim = Some claim; pending = pending } ≡ concluded claim old
end_is claim seen old pending text same is written =
    ap (λ (bytes : List ℕ). record seen { claim = Some claim; pending = bytes }) (is ∙ ap (λ (t : List ℕ). seen.pending ++ t) written) ∙ ap (concluded claim) same

pub stays-end : (claim : Claim) (old new : Derived) → IsWritable (Conclusion claim) → Shows (formula old.lists) old.state claim → old.claim ≡ None → new ≡ concluded claim old → StaysValid old new
stays-end claim old new w shown begun is text stands = subst (StandsFor text) (sym is) (concluded_leads claim old text w shown begun stands)

-- ---- the start

pub stands-first : (lists : Lists) (count : Line) → IsWritable count → (count ≡ Comment → ⊥) → Moves (formula lists) Headed count (Proving (first_state (formula lists))) →
    IsProofUpTo lists (line_text Header ++ line_text count) (Proving (first_state (formula lists))) (first_held lists)
stands-first lists count w other moves =
    leads_line lists (line_text Header) count Headed (Proving (first_state (formula lists))) (first_held lists)
    (leads_line lists [] Header Start Headed (first_held lists) (record { tells = tells-start lists; notes_true = All-nil (IsTrueAt lists) }) header_writable (λ e. absurd (cc)) (record { leads = refl; owed = tt }))
    w other moves

-- ---- what was sent

pub stays-sent : (old new : Derived) → new ≡ emptied old → StaysSent old new
stays-sent old new is text stands =
    subst (StandsFor (text ++ old.pending)) (sym is)
    (subst (λ (bytes : List ℕ). IsProofUpTo old.lists bytes (place_of old.claim old.state) old.held) (sym (append-nil (text ++ old.pending))) stands)

pub sent_is : (seen old : Derived) (pending : List ℕ) → seen ≡ old → pending ≡ [] → record seen { pending = pending } ≡ emptied old
sent_is seen old pending same none = ap (λ (bytes : List ℕ). record seen { pending = bytes }) none ∙ ap emptied same
