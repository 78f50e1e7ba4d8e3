-- Stretches of later rows are short.
use Rattle.std.proofs.Common.{◌≡◌, ℕ, ◌+◌, ◌-◌, ◌*◌, ◌^◌, ◌<◌, ◌≤◌, List, [], ◌∷◌, ◌++◌, length, ap₂, ap, ◌∙◌, subst, arith}
use Rattle.std.specs.List.{All}
use Rattle.std.proofs.lemmas.List.{append_assoc, length-append}
use Rattle.std.proofs.lemmas.List.Elements.{All-head, All-tail}
use Rattle.std.proofs.Math.Nat.{mul-le-mul_right}
use Rattle.proof_rules.specs.Notes.{Later, LearnedRow, is_greater}
use Rattle.proof_rules.proofs.Learned.{sizes-unique}
use Rattle.conflict_bound.specs.Sizes.{AreSizes, IsLearned, distance}
use Rattle.conflict_bound.specs.Conflicts.{AreLater, BoundedConflictsAreFew, EndsAreApart, IsEnded, StretchesAreShort, all_of}
use Rattle.conflict_bound.proofs.Distances.{distances_bounded, distances_fall}
use Rattle.conflict_bound.proofs.FreshSizes.{fresh_rise, fresh_sized}
use Rattle.conflict_bound.proofs.Parts.{all_behind, all_front}

-- a later row is nearer to the last one
later-falls : (vars : ℕ) (b a : LearnedRow) (xs ys : List ℕ) → IsLearned vars b → IsLearned vars a → AreSizes vars a xs → AreSizes vars b ys → Later vars b a → distance vars ys < distance vars xs
later-falls vars b a xs ys lb la hx hy l =
    let before = sizes-unique vars a.held [] a.decisions a.asserts xs l.sizes_before hx l.were in
    let after = sizes-unique vars b.held [] b.decisions b.asserts ys l.sizes hy l.are in
    distances_fall vars xs ys (fresh_rise vars a xs la hx) (fresh_rise vars b ys lb hy) (ap₂ is_greater after before ∙ l.greater)

-- a stretch has at most as many rows as its first one is from the last
stretch-short : (vars : ℕ) (a : LearnedRow) (rows : List LearnedRow) (xs : List ℕ) → All (IsLearned vars) (a ∷ rows) → AreLater vars (a ∷ rows) → AreSizes vars a xs → length (a ∷ rows) ≤ distance vars xs
stretch-short vars a [] xs ls later h = omega (arith, (distances_bounded vars xs (fresh_rise vars a xs (All-head (IsLearned vars) a [] ls) h)).0)
stretch-short vars a (b ∷ rows) xs ls later h =
    let rest = All-tail (IsLearned vars) a (b ∷ rows) ls in
    omega (arith, later-falls vars b a xs later.0.sizes (All-head (IsLearned vars) b rows rest) (All-head (IsLearned vars) a (b ∷ rows) ls) h later.0.are later.0, stretch-short vars b rows later.0.sizes rest later.1 later.0.are)

pub stretches_short : StretchesAreShort
stretches_short vars [] ls later = omega arith
stretches_short vars (a ∷ rows) ls later =
    let first = All-head (IsLearned vars) a rows ls in
    let sizes = fresh_sized vars a first in
    omega (arith, stretch-short vars a rows sizes.0 ls later sizes.1, (distances_bounded vars sizes.0 (fresh_rise vars a sizes.0 first sizes.1)).1)

-- ---- all stretches

stretches-within : (vars : ℕ) (ended : List (List LearnedRow)) (current : List LearnedRow) → All (IsLearned vars) (all_of ended ++ current) → All (IsEnded vars) ended → AreLater vars current →
    length (all_of ended ++ current) ≤ (length ended + 1) * (2 ^ vars - 1)
stretches-within vars [] current ls es later = omega (arith, stretches_short vars current ls later)
stretches-within vars (stretch ∷ ended) current ls es later =
    let grouped : (stretch ++ all_of ended) ++ current ≡ stretch ++ (all_of ended ++ current) = append_assoc stretch (all_of ended) current in
    let all : All (IsLearned vars) (stretch ++ (all_of ended ++ current)) = subst (All (IsLearned vars)) grouped ls in
    let here : IsEnded vars stretch = All-head (IsEnded vars) stretch ended es in
    omega (
      arith,
      ap length grouped,
      length-append stretch (all_of ended ++ current),
      stretches_short vars stretch (all_front (IsLearned vars) stretch (all_of ended ++ current) all) here.later,
      stretches-within vars ended current (all_behind (IsLearned vars) stretch (all_of ended ++ current) all) (All-tail (IsEnded vars) stretch ended es) later,
    )

pub conflicts_few : BoundedConflictsAreFew
conflicts_few vars rows ls b =
    let all : All (IsLearned vars) (all_of b.ended ++ b.current) = subst (All (IsLearned vars)) b.are ls in
    omega (arith, ap length b.are, stretches-within vars b.ended b.current all b.stretches b.later, mul-le-mul_right (2 ^ vars - 1) (few b.ended b.few))
  where
    few : (ended : List (List LearnedRow)) → length ended ≤ 10000 → length ended + 1 ≤ 10001
    few ended h = omega arith

all_of-long : (vars : ℕ) (ended : List (List LearnedRow)) → All (IsEnded vars) ended → 100 * length ended ≤ length (all_of ended)
all_of-long vars [] es = omega arith
all_of-long vars (stretch ∷ ended) es =
    let here : IsEnded vars stretch = All-head (IsEnded vars) stretch ended es in
    omega (arith, here.long, length-append stretch (all_of ended), all_of-long vars ended (All-tail (IsEnded vars) stretch ended es))

pub ends_apart : EndsAreApart
ends_apart vars rows b = omega (arith, ap length b.are, length-append (all_of b.ended) b.current, all_of-long vars b.ended b.stretches)
