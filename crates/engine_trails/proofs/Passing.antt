-- One entry of an engine's trail in the table of marks.
use Rattle.std.proofs.Common.{◌≡◌, ◌≤◌, ◌<◌, ◌+◌, ◌-◌, ℕ, Bool, true, false, List, [], ◌∷◌, ◌++◌, if◌then◌else◌, is_none, length, refl, sym, ◌∙◌, ap, subst, arith}
use Rattle.std.specs.Prelude.{Option, Some, None, slice_index_or}
use Rattle.std.proofs.Math.ListN.{set}
use Rattle.std.proofs.lemmas.List.{length-map, take_all}
use Rattle.hrt_base.specs.declared.literal.Lit.{Lit}
use Rattle.pb_rows.specs.Points.{IsCovered}
use Rattle.row_arena.specs.Held.{Held}
use Rattle.pb_propagate.specs.Entries.{Entry, lits_of, reason_in}
use Rattle.pb_propagate.specs.Engines.{EngineState}
use Rattle.pb_propagate.specs.Moments.{IsInOrder}
use Rattle.conflict_rows.specs.declared.marks.Mark.{Mark}
use Rattle.conflict_rows.specs.Trail.{IsGrounded, IsTrail, Placed, top_level}
use Rattle.conflict_rows.proofs.Trails.{trail_rest}
use Rattle.engine_trails.specs.History.{history, history_to, placed_all, reason_row}
use Rattle.engine_trails.specs.Places.{StandsAt}
use Rattle.engine_trails.proofs.Histories.{histories_are_trails}
use Rattle.engine_trails.proofs.Entries.{literals_stand}
use Rattle.engine_trails.proofs.Tables.{HasMarks, one_more}

-- a decision opens a level
level_of_reason : (before : List Placed) (l : Lit) (level : ℕ) (held : List Held) (r : Option ℕ) → IsGrounded before l level (reason_row held r) → level ≡ top_level before + (if is_none r then 1 else 0)
level_of_reason before l level held None g = g
level_of_reason before l level held (Some p) g = omega (arith, g.level_is)

module _ (e : EngineState) (k : ℕ) (l : Lit) (o : IsInOrder e) (s : StandsAt e k l) where
  pub stands : IsTrail (s.entry ∷ history_to k e)
  stands = subst IsTrail s.step (trail_rest s.newer (history_to (k + 1) e) (subst IsTrail (sym s.later) (histories_are_trails e o).trail))

  pub level_is : s.entry.level ≡ top_level (history_to k e) + (if is_none (reason_in e.trail l.var) then 1 else 0)
  level_is = level_of_reason (history_to k e) s.entry.lit s.entry.level e.held (reason_in e.trail l.var) (subst (λ (r : Option ℕ). IsGrounded (history_to k e) s.entry.lit s.entry.level (reason_row e.held r)) refl (subst (λ r. IsGrounded (history_to k e) s.entry.lit s.entry.level r) s.reason stands.0.grounded))

  pub next_top : top_level (history_to (k + 1) e) ≡ s.entry.level
  next_top = ap top_level s.step

  pub next_marks : (marks : List Mark) (level : ℕ) → 1 ≤ l.var → l.var ≤ length marks → level ≡ s.entry.level → HasMarks marks (history_to k e) → HasMarks (set marks (l.var - 1) (record { place = k + 1; neg = l.neg; level = level })) (history_to (k + 1) e)
  next_marks marks level some within is h =
      subst (λ (es : List Placed). HasMarks (set marks (l.var - 1) (record { place = k + 1; neg = l.neg; level = level })) es) (sym s.step)
      (subst (λ (n : ℕ). HasMarks (set marks (l.var - 1) (record { place = k + 1; neg = l.neg; level = n })) (s.entry ∷ history_to k e)) (sym is)
      (subst (λ (n : ℕ). HasMarks (set marks (l.var - 1) (record { place = n + 1; neg = l.neg; level = s.entry.level })) (s.entry ∷ history_to k e)) s.count
      (subst (λ (a : Lit). 1 ≤ a.var → a.var ≤ length marks → HasMarks (set marks (a.var - 1) (record { place = length (history_to k e) + 1; neg = a.neg; level = s.entry.level })) (s.entry ∷ history_to k e)) s.lit
      (λ a b. one_more marks s.entry (history_to k e) a b h) some within)))

-- the engine's literals as a list that is read by place
module _ (e : EngineState) (o : IsInOrder e) (ls : List Lit) (is : ls ≡ lits_of e.trail) (k : ℕ) (d : Lit) (within : k < length ls) where
  pub inside : k < length e.trail
  inside = omega (arith, within, ap length is, length-map e.trail (λ x. x.lit))

  pub stands_there : StandsAt e k (slice_index_or ls k d)
  stands_there = subst (λ (ms : List Lit). StandsAt e k (slice_index_or ms k d)) (sym is) (literals_stand e k d o inside)

  pub covered_there : IsCovered e.vars (slice_index_or ls k d).var
  covered_there = subst (λ (ms : List Lit). IsCovered e.vars (slice_index_or ms k d).var) (sym is) (o.covered k d (omega (arith, within, ap length is)))

pub one_at_most : (b : Bool) → (if b then 1 else 0) ≤ 1
one_at_most true = omega arith
one_at_most false = omega arith

-- at the end the whole trail is passed
pub all_passed : (e : EngineState) (k : ℕ) → length e.trail ≤ k → history_to k e ≡ history e
all_passed e k h = ap (λ (es : List Entry). placed_all e.held [] es) (take_all k e.trail h)
