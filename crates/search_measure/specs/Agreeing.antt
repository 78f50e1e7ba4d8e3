-- An engine and a derivation that agree speak of the same closures and learned rows.
use Rattle.std.specs.Prelude.{ℕ, ◌<◌, ◌≡◌, List, [], Some}
use Rattle.hrt_base.specs.declared.literal.Lit.{Lit}
use Rattle.hrt_base.specs.declared.numbered.RowNo.{RowNo}
use Rattle.pb_rows.specs.Terms.{PlainRow}
use Rattle.pb_rows.specs.Closure.{IsClosure, Literals, Refuted, none}
use Rattle.pb_rows.specs.Formula.{row_of}
use Rattle.proof_lines.specs.declared.note.Note.TheVariants.{Learn}
use Rattle.proof_rules.specs.States.{IsInOrder as AreNumbersInOrder}
use Rattle.proof_rules.specs.Held.{held_rows}
use Rattle.proof_rules.specs.Notes.{Fresh, HaveSizes, IsTrueNote}
use Rattle.derivation.specs.Derived.{Derived}
use Rattle.pb_propagate.specs.Entries.{level_of}
use Rattle.pb_propagate.specs.Engines.{EngineState, decisions_at}
use Rattle.pb_propagate.specs.Moments.{IsInOrder}
use Rattle.pb_propagate.specs.Tables.{starts_from}
use Rattle.agreement.specs.Agreement.{Agree, AreSameRows}
use Rattle.conflict_cuts.specs.Learned.{Asserts}
use Rattle.search_measure.specs.Ahead.{sizes_at}
use Rattle.search_measure.specs.Trails.{IsExactBelow}

-- lists of the same rows have the same closures
abbrev pub SameRowsSameClosures : Type 0
SameRowsSameClosures = (rs qs : List PlainRow) (given set : Literals) → AreSameRows rs qs → IsClosure rs given set → IsClosure qs given set

-- the same fresh rows
abbrev pub SameRowsSameFresh : Type 0
SameRowsSameFresh = (vars : ℕ) (rs qs : List PlainRow) (row : PlainRow) (decisions : List Lit) (l : Lit) → AreSameRows rs qs → Fresh vars rs row decisions l → Fresh vars qs row decisions l

-- and the same sizes
abbrev pub SameRowsSameSizes : Type 0
SameRowsSameSizes = (vars : ℕ) (rs qs : List PlainRow) (decisions : List Lit) (l : Lit) (sizes : List ℕ) → AreSameRows rs qs → HaveSizes vars rs [] decisions l sizes → HaveSizes vars qs [] decisions l sizes

-- so the note of a row that is learned from an engine that agrees is true
abbrev pub LearnNoteIsTrue : Type 0
LearnNoteIsTrue = (e : EngineState) (d : Derived) (id : RowNo) (row : PlainRow) (level : ℕ) (l : Lit) → IsInOrder e → Agree e d → AreNumbersInOrder d.state → IsExactBelow e → Asserts e row level l →
    row_of id.0 d.state.live ≡ Some row → IsTrueNote d.lists d.state.live d.held (Learn id (decisions_at level e) l)

-- and its sizes are the trail's lengths
abbrev pub LearnNoteHasSizes : Type 0
LearnNoteHasSizes = (e : EngineState) (d : Derived) (row : PlainRow) (level : ℕ) (l : Lit) → IsInOrder e → Agree e d → AreNumbersInOrder d.state → IsExactBelow e → Asserts e row level l →
    HaveSizes e.vars (held_rows d.state.live d.held) [] (decisions_at level e) l (sizes_at (starts_from 0 e.trail) level)

-- above level 0 the rows that are held aren't refuted
abbrev pub HeldAboveGround : Type 0
HeldAboveGround = (e : EngineState) (d : Derived) → Agree e d → AreNumbersInOrder d.state → IsExactBelow e → 0 < level_of e.trail → Refuted (held_rows d.state.live d.held) none → ⊥
