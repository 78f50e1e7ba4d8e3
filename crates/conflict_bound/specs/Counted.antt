-- The learned rows of a text with true notes.
use Rattle.std.specs.Prelude.{◌≡◌, ℕ, ◌*◌, ◌-◌, ◌^◌, ◌≤◌, List, length, All}
use Rattle.rank_tables.specs.Instance.{Lists, pair_count}
use Rattle.proof_rules.specs.Told.{AreTrueNotes, held_by, learned_rows, notes_of}
use Rattle.conflict_bound.specs.Sizes.{IsLearned}
use Rattle.conflict_bound.specs.Conflicts.{ConflictsBounded}

-- they are fresh
abbrev pub TrueNotesLearnFresh : Type 0
TrueNotesLearnFresh = (lists : Lists) (bytes : List ℕ) → AreTrueNotes lists bytes → All (IsLearned (pair_count lists)) (learned_rows (notes_of lists bytes))

-- they are as many as learn notes are counted
abbrev pub LearnNotesAreCounted : Type 0
LearnNotesAreCounted = (lists : Lists) (bytes : List ℕ) → AreTrueNotes lists bytes → length (learned_rows (notes_of lists bytes)) ≡ (held_by lists bytes).learn_notes

-- where their stretches are as they should be, so many learn notes are counted at most
abbrev pub LearnNotesAreFew : Type 0
LearnNotesAreFew = (lists : Lists) (bytes : List ℕ) → AreTrueNotes lists bytes → ConflictsBounded (pair_count lists) (learned_rows (notes_of lists bytes)) →
    (held_by lists bytes).learn_notes ≤ 10001 * (2 ^ pair_count lists - 1)
