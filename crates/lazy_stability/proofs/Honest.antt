-- A load of the rows of pairs that block the candidate of a full quiet engine is honest.
use Rattle.std.proofs.Common.{◌≡◌, ℕ, ◌<◌, ◌≤◌, true, false, not, List, [], ◌∷◌, length, refl, sym, ap, ◌∙◌, arith}
use Rattle.std.specs.Prelude.{IsTrue, Some}
use Rattle.std.specs.List.{All}
use Rattle.std.proofs.lemmas.Bool.{false_from_ne_true, true≢false}
use Rattle.std.proofs.lemmas.List.Elements.{All-cons, All-head, All-nil, All-tail}
use Rattle.hrt_base.specs.declared.numbered.PairNo.{PairNo}
use Rattle.pb_rows.specs.Terms.{PlainRow}
use Rattle.pb_rows.specs.Points.{Point}
use Rattle.pb_rows.specs.Rows.{holds, in_normal_form}
use Rattle.pb_rows.specs.Formula.{row_of}
use Rattle.rank_tables.specs.Instance.{Lists}
use Rattle.rank_tables.specs.Stability.{blocks, is_matching}
use Rattle.rank_tables.specs.Tables.{IsPairNo}
use Rattle.stability_model.specs.Model.{pair_row, pair_row_no, point_of_pairs}
use Rattle.stability_model.proofs.ModelExact.{tells_blocking}
use Rattle.proof_lines.specs.Spelling.{row_no}
use Rattle.proof_rules.specs.States.{IsInOrder as IsStateInOrder}
use Rattle.proof_rules.specs.Held.{held_rows, is_held}
use Rattle.proof_rules.specs.Notes.{HonestLoad, IsBroken}
use Rattle.derivation.specs.Derived.{Derived}
use Rattle.pb_propagate.specs.Engines.{EngineState, IsIdle}
use Rattle.pb_propagate.specs.Entries.{set_of}
use Rattle.pb_propagate.specs.Moments.{IsSound}
use Rattle.agreement.specs.Agreement.{Agree}
use Rattle.agreement.proofs.SameRows.{held_all, held_row}
use Rattle.lazy_stability.specs.Candidates.{AreBlocking, IsFull, candidate}
use Rattle.lazy_stability.specs.Loads.{row_numbers_of}
use Rattle.lazy_stability.proofs.Full.{candidate_point, idle_keeps, kept_holds}

-- ---- pairs that block

-- at a matching the row of a pair that blocks doesn't hold
pub pair_broken : (lists : Lists) (m : List ℕ) (p : ℕ) → is_matching lists m ≡ true → blocks lists m p ≡ true → holds (point_of_pairs m) (in_normal_form (pair_row lists p)) ≡ false
pair_broken lists m p matching b = tells_blocking lists p m matching ∙ ap not b

pub pairs_broken : (lists : Lists) (m : List ℕ) (pairs : List PairNo) → is_matching lists m ≡ true → All (λ (p : PairNo). IsPairNo lists p.0 × (blocks lists m p.0 ≡ true)) pairs → All (IsBroken lists (point_of_pairs m)) (row_numbers_of lists pairs)
pairs_broken lists m [] matching each = All-nil (IsBroken lists (point_of_pairs m))
pairs_broken lists m (p ∷ pairs) matching each =
    let P : PairNo → Type 0 = λ q. IsPairNo lists q.0 × (blocks lists m q.0 ≡ true) in
    let one = All-head P p pairs each in
    All-cons (IsBroken lists (point_of_pairs m)) (row_no (pair_row_no lists p.0)) (row_numbers_of lists pairs) (p.0, one.0, refl, pair_broken lists m p.0 matching one.1)
    (pairs_broken lists m pairs matching (All-tail P p pairs each))

-- ---- the load

module _ (e : EngineState) (d : Derived) (agree : Agree e d) (order : IsStateInOrder d.state) (full : IsFull e) (sound : IsSound e) (idle : IsIdle e) where
  -- what is held holds at a point that goes with the trail
  pub hold_at : (point : Point) → ((v : ℕ) → 1 ≤ v → v ≤ e.vars → point v ≡ set_of e.trail (record { var = v; neg = false })) → All (λ (r : PlainRow). IsTrue (holds point r)) (held_rows d.state.live d.held)
  hold_at point same =
      let keeps = idle_keeps e sound idle in
      held_all (λ (r : PlainRow). IsTrue (holds point r)) e d agree order (λ k h l. kept_holds e.vars (set_of e.trail) point full same _ (sound.held.kept k h l).over (keeps k h l))

  -- as the candidate's does
  held_hold : All (λ (r : PlainRow). IsTrue (holds (point_of_pairs (candidate d.lists e)) r)) (held_rows d.state.live d.held)
  held_hold = hold_at (point_of_pairs (candidate d.lists e)) (λ v first last. candidate_point d.lists e v first (omega (arith, last, agree.vars)))

  pub honest : (pairs : List PairNo) → is_matching d.lists (candidate d.lists e) ≡ true → 0 < length (row_numbers_of d.lists pairs) → AreBlocking d.lists (candidate d.lists e) pairs →
      HonestLoad d.lists (held_rows d.state.live d.held) (candidate d.lists e) (row_numbers_of d.lists pairs)
  honest pairs matching some block = record {
    some = some;
    held_hold = held_hold;
    broken = pairs_broken d.lists (candidate d.lists e) pairs matching block.each;
  }

  -- a row that doesn't hold isn't held
  pub broken_not_held : (n : ℕ) (row : PlainRow) → row_of n d.state.live ≡ Some row → holds (point_of_pairs (candidate d.lists e)) row ≡ false → is_held d.held n ≡ false
  broken_not_held n row live broken =
      false_from_ne_true (is_held d.held n) (λ h. true≢false (sym (held_row (λ (r : PlainRow). IsTrue (holds (point_of_pairs (candidate d.lists e)) r)) (is_held d.held) n row d.state.live h live held_hold) ∙ broken))
