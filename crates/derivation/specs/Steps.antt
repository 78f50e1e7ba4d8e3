-- What the calls of a derivation ask for, and what they do to it.
use Rattle.std.specs.Prelude.{◌≡◌, ℕ, ◌+◌, ◌<◌, ◌≤◌, ◌^◌, ◌==◌, not, filter, List, [], ◌∷◌, ◌++◌, length, map, IsTrue, ℤ, pos, Some, None, Result, Ok, Err}
use Rattle.hrt_base.specs.declared.literal.Lit.{Lit}
use Rattle.pb_rows.specs.Terms.{PlainRow, Written}
use Rattle.pb_rows.specs.Points.{Point}
use Rattle.rank_tables.specs.Instance.{Lists}
use Rattle.rank_tables.specs.Numbers.{numbers_to}
use Rattle.stability_model.specs.Model.{formula, rows}
use Rattle.proof_lines.specs.declared.line.Claim.{Claim}
use Rattle.proof_lines.specs.declared.line.Line.{Line}
use Rattle.proof_lines.specs.declared.line.Line.TheVariants.{Header, Count, Output, Conclusion, End}
use Rattle.proof_lines.specs.declared.note.Note.{Note}
use Rattle.proof_lines.specs.declared.note.Note.TheVariants.{Learn}
use Rattle.proof_lines.specs.Spelling.{is_small_line, most_bytes}
use Rattle.proof_lines.specs.Texts.{is_spellable, line_text, note_text}
use Rattle.proof_rules.specs.Refusals.{Refusal, TooBig}
use Rattle.proof_rules.specs.States.{Step, first_state, smaller, with_row}
use Rattle.proof_rules.specs.Valid.{Proving}
use Rattle.proof_rules.specs.Held.{Held, after_line, after_note, first_held, keeping}
use Rattle.derivation.specs.declared.refusal.PolRefusal.{PolRefusal}
use Rattle.derivation.specs.declared.refusal.PolRefusal.TheVariants.{TooBig as TooBigRow, NoMemory}
use Rattle.derivation.specs.Derived.{Derived}

-- ---- what is asked for

-- the line has a spelling that isn't too long, and no number in it is too big
pub record IsWritable (line : Line) : Type 0 where
  pub made : IsTrue (is_spellable line)
  pub small : IsTrue (is_small_line line)
  pub short : length (line_text line) ≤ most_bytes

-- steps make a row, or are refused as too big
abbrev pub IsRowOrTooBig : Result PlainRow Refusal → Type 0
IsRowOrTooBig (Ok row) = Unit {0}
IsRowOrTooBig (Err TooBig) = Unit {0}
IsRowOrTooBig (Err why) = ⊥

-- the answer to steps that aren't written: a row is too big, or memory was wanting
abbrev pub IsTooBig : Result PlainRow Refusal → PolRefusal → Type 0
IsTooBig answer TooBigRow = answer ≡ Err TooBig
IsTooBig answer NoMemory = Unit {0}

-- before a row is learned, fewer than 10^18 were
abbrev pub CanLearn : Note → Held → Type 0
CanLearn (Learn id decisions l) held = held.learn_notes < 10 ^ 18
CanLearn note held = Unit {0}

-- ---- the lines

-- the row as it is written
abbrev pub written_of : PlainRow → Written
written_of row = record { terms = row.terms; at_least = pos row.degree }

-- the literal of a variable that is true at a point
abbrev pub literal_at : Point → ℕ → Lit
literal_at p v = record { var = v; neg = not (p v) }

-- the literals of the variables 1 to n that are true at a point, by rising variable
abbrev pub literals_at : ℕ → Point → List Lit
literals_at n p = map (literal_at p) (numbers_to n)

-- ---- what calls do

-- a new derivation: the header and the count are pending
abbrev pub first_derived : Lists → Derived
first_derived lists = record {
  lists = lists;
  state = first_state (formula lists);
  held = first_held lists;
  claim = None;
  pending = line_text Header ++ line_text (Count (length (rows lists)));
}

-- a row was made live, with some text
abbrev pub with_new_row : PlainRow → List ℕ → Derived → Derived
with_new_row row text d = record d { state = with_row d.state row; pending = d.pending ++ text }

-- a step was taken: its line is pending, and the state and the held rows are those to which it leads
pub record Takes (line : Line) (old new : Derived) : Type 0 where
  pub step : Step (formula old.lists) old.state line new.state
  pub is : new ≡ record old { state = new.state; held = after_line (Proving old.state) (Some line) old.held; pending = old.pending ++ line_text line }

-- a call took the step of a line or, where it failed, did nothing
abbrev pub Tries : {A E : Type 0} → Result A E → Line → Derived → Derived → Type 0
Tries (Ok x) line old new = Takes line old new
Tries (Err e) line old new = new ≡ old

-- a solution was logged, with some text
abbrev pub with_solution : ℤ → PlainRow → List ℕ → Derived → Derived
with_solution v row text d = record d {
  state = record (with_row d.state row) { least = Some (smaller d.state.least v) };
  held = keeping (d.state.next ∷ []) d.held;
  pending = d.pending ++ text;
}

-- a note was added
abbrev pub with_note : Note → Derived → Derived
with_note note d = record d { held = after_note note d.held; pending = d.pending ++ note_text note }

-- what a note holds is held, with some text
abbrev pub with_noted : Note → List ℕ → Derived → Derived
with_noted note text d = record d { held = after_note note d.held; pending = d.pending ++ text }

-- rows stay held from here on, with some text
abbrev pub with_all_kept : List ℕ → List ℕ → Derived → Derived
with_all_kept numbers text d = record d { held = keeping numbers d.held; pending = d.pending ++ text }

-- a row stays held from here on, with some text
abbrev pub with_kept : ℕ → List ℕ → Derived → Derived
with_kept n text d = with_all_kept (n ∷ []) text d

-- a learned row is held from here on, with some text
abbrev pub with_learned : ℕ → List ℕ → Derived → Derived
with_learned n text d = record d { held = record d.held { learned = d.held.learned ++ n ∷ []; learn_notes = d.held.learn_notes + 1 }; pending = d.pending ++ text }

-- a learned row is held no more, with some text
abbrev pub without_learned : ℕ → List ℕ → Derived → Derived
without_learned n text d = record d { held = record d.held { learned = filter (λ k. not (k == n)) d.held.learned }; pending = d.pending ++ text }

-- a call added a note or, where it failed, did nothing
abbrev pub TriesNote : {A E : Type 0} → Result A E → Note → Derived → Derived → Type 0
TriesNote (Ok x) note old new = new ≡ with_note note old
TriesNote (Err e) note old new = new ≡ old

-- the last three lines
abbrev pub end_lines : Claim → List ℕ
end_lines claim = line_text Output ++ (line_text (Conclusion claim) ++ line_text End)

-- the claim was made: the output, conclusion and end lines are pending
abbrev pub concluded : Claim → Derived → Derived
concluded claim d = record d { claim = Some claim; pending = d.pending ++ end_lines claim }

-- a call made the claim or, where it failed, did nothing
abbrev pub TriesEnd : {A E : Type 0} → Result A E → Claim → Derived → Derived → Type 0
TriesEnd (Ok x) claim old new = new ≡ concluded claim old
TriesEnd (Err e) claim old new = new ≡ old

-- the pending bytes were sent
abbrev pub emptied : Derived → Derived
emptied d = record d { pending = [] }
