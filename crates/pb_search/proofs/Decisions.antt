-- The first decisions of a trail, found in one pass over its literals.
use Rattle.std.proofs.Common.{◌≡◌, ◌+◌, ◌-◌, ◌<◌, ◌≤◌, ℕ, Bool, true, false, not, if◌then◌else◌, List, [], ◌∷◌, ◌++◌, length, take, append-nil, add-one, refl, sym, ap, ◌∙◌, inl, inr, arith}
use Rattle.std.specs.Prelude.{Option, Some, None, is_none, is_some, slice_index_or}
use Rattle.std.proofs.lemmas.Bool.{cases_Bool}
use Rattle.std.proofs.lemmas.List.{take_all}
use Rattle.hrt_base.specs.declared.literal.Lit.{Lit}
use Rattle.row_arena.specs.declared.arena.Place.{Place}
use Rattle.row_arena.specs.Held.{Held}
use Rattle.conflict_rows.specs.Trail.{Placed, top_level}
use Rattle.engine_trails.specs.History.{placed, placed_all}
use Rattle.pb_propagate.specs.Entries.{Entry, decisions_of, is_decision, level_of, lits_of, reason_in, up_to}
use Rattle.pb_propagate.specs.Engines.{EngineState}
use Rattle.pb_propagate.specs.Moments.{IsInOrder}
use Rattle.pb_propagate.specs.Tables.{number_of}
use Rattle.pb_propagate.proofs.Levels.{level-append, up_to-above, up_to-all}
use Rattle.engine_trails.specs.Places.{StandsAt}
use Rattle.engine_trails.proofs.Entries.{Splits, literals_stand, splits}
use Rattle.engine_trails.proofs.Passing.{level_is, next_top}

-- ---- lists of entries

decisions-append : (xs ys : List Entry) → decisions_of (xs ++ ys) ≡ decisions_of xs ++ decisions_of ys
decisions-append [] ys = refl
decisions-append (x ∷ xs) ys = elim (cases_Bool (is_decision x)) [
  | inl d ↦ rw d (ap (λ (ls : List Lit). x.lit ∷ ls) (decisions-append xs ys))
  | inr r ↦ rw r (decisions-append xs ys)
]

-- how far the decisions of a trail were put into a list, when its first k entries were looked at
pub record HasPassed (entries : List Entry) (level k left : ℕ) (decisions : List Lit) : Type 0 where
  pub left_is : left + level_of (take k entries) ≡ level
  pub are : decisions ≡ decisions_of (take k entries)

pub none_passed : (entries : List Entry) (level : ℕ) → HasPassed entries level 0 level []
none_passed entries level = record { left_is = omega arith; are = refl }

next : (entries : List Entry) (k : ℕ) (s : Splits entries k) → take (k + 1) entries ≡ take k entries ++ s.entry ∷ []
next entries k s = rw add-one s.more

module _ (entries : List Entry) (level k left : ℕ) (decisions : List Lit) (p : HasPassed entries level k left decisions) (s : Splits entries k) where
  pub passed_reasoned : is_decision s.entry ≡ false → HasPassed entries level (k + 1) left decisions
  passed_reasoned r =
      let one : level_of (s.entry ∷ []) ≡ 0 = rw r refl in
      let none : decisions_of (s.entry ∷ []) ≡ [] = rw r refl in
      record {
        left_is = omega (arith, p.left_is, ap level_of (next entries k s), level-append (take k entries) (s.entry ∷ []), one);
        are = p.are ∙ sym (ap decisions_of (next entries k s) ∙ decisions-append (take k entries) (s.entry ∷ []) ∙ ap (λ (ls : List Lit). decisions_of (take k entries) ++ ls) none ∙ append-nil (decisions_of (take k entries)));
      }

  pub passed_decision : (fewer : ℕ) → fewer + 1 ≡ left → is_decision s.entry ≡ true → HasPassed entries level (k + 1) fewer (decisions ++ s.entry.lit ∷ [])
  passed_decision fewer f d =
      let one : level_of (s.entry ∷ []) ≡ 1 = rw d refl in
      let lit : decisions_of (s.entry ∷ []) ≡ s.entry.lit ∷ [] = rw d refl in
      record {
        left_is = omega (arith, p.left_is, f, ap level_of (next entries k s), level-append (take k entries) (s.entry ∷ []), one);
        are = ap (λ (ls : List Lit). ls ++ s.entry.lit ∷ []) p.are ∙ sym (ap decisions_of (next entries k s) ∙ decisions-append (take k entries) (s.entry ∷ []) ∙ ap (λ (ls : List Lit). decisions_of (take k entries) ++ ls) lit);
      }

  pub ends_before : left ≡ 0 → is_decision s.entry ≡ true → decisions ≡ decisions_of (up_to level entries)
  ends_before z d =
      let none : level - level_of (take k entries) ≡ 0 = omega (arith, p.left_is, z) in
      let stops : up_to 0 (s.entry ∷ s.after) ≡ [] = rw d refl in
      p.are ∙ sym (ap decisions_of (
      ap (up_to level) (sym s.whole)
      ∙ up_to-above level (take k entries) (s.entry ∷ s.after) (omega (arith, p.left_is))
      ∙ ap (λ (j : ℕ). take k entries ++ up_to j (s.entry ∷ s.after)) none
      ∙ ap (λ (es : List Entry). take k entries ++ es) stops
      ∙ append-nil (take k entries)))

pub ends_behind : (entries : List Entry) (level k left : ℕ) (decisions : List Lit) → HasPassed entries level k left decisions → length entries ≤ k → decisions ≡ decisions_of (up_to level entries)
ends_behind entries level k left decisions p h =
    let all : take k entries ≡ entries = take_all k entries h in
    p.are ∙ ap decisions_of (all ∙ sym (up_to-all level entries (omega (arith, p.left_is, ap level_of all))))

-- ---- the engine's answer

placed_level : (held : List Held) (before : List Placed) (es : List Entry) → top_level (placed_all held before es) ≡ top_level before + level_of es
placed_level held before [] = omega arith
placed_level held before (x ∷ es) = omega (arith, placed_level held (placed held before x ∷ before) es)

abbrev one_if : Bool → ℕ
one_if b = if b then 1 else 0

level-one : (x : Entry) → level_of (x ∷ []) ≡ one_if (is_decision x)
level-one x = omega arith

same_test : (a b : Bool) → one_if a ≡ one_if b → a ≡ b
same_test true true h = refl
same_test true false h = absurd (omega (arith, h))
same_test false true h = absurd (omega (arith, h))
same_test false false h = refl

module _ (e : EngineState) (o : IsInOrder e) (k : ℕ) (within : k < length e.trail) where
  pub at : Splits e.trail k
  at = splits e.trail k within

  abbrev read : Lit
  read = slice_index_or (lits_of e.trail) k (record { var = 0; neg = false })

  here : StandsAt e k read
  here = literals_stand e k (record { var = 0; neg = false }) o within

  opens : one_if (is_decision at.entry) ≡ one_if (is_none (reason_in e.trail read.var))
  opens =
      omega (
        arith,
        level-one at.entry,
        level-append (take k e.trail) (at.entry ∷ []),
        ap level_of (next e.trail k at),
        placed_level e.held [] (take (k + 1) e.trail),
        placed_level e.held [] (take k e.trail),
        next_top e k read o here,
        level_is e k read o here,
      )

  decided : is_decision at.entry ≡ is_none (reason_in e.trail read.var)
  decided = same_test (is_decision at.entry) (is_none (reason_in e.trail read.var)) opens

-- whether the literal was decided, by the reason that the engine names
none_number : (r : Option Place) (b : Bool) → is_some r ≡ b → is_none (number_of r) ≡ not b
none_number None b e = ap not e
none_number (Some p) b e = ap not e

pub decides_there : (e : EngineState) (o : IsInOrder e) (k : ℕ) (within : k < length e.trail) (l : Lit) (r : Option Place) (b : Bool) → l ≡ (at e o k within).entry.lit → number_of r ≡ reason_in e.trail l.var → is_some r ≡ b → is_decision (at e o k within).entry ≡ not b
decides_there e o k within l r b is named some =
    decided e o k within
    ∙ ap is_none (ap (λ (a : Lit). reason_in e.trail a.var) ((at e o k within).lit (record { var = 0; neg = false }) ∙ sym is) ∙ sym named)
    ∙ none_number r b some
