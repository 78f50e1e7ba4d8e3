-- What is so of the candidate of a full engine in which nothing is due.
use Rattle.std.proofs.Common.{◌≡◌, ◌<◌, ◌≤◌, ℕ, true, nat_le, nat_lt, not, List, length, refl, sym, ap, ◌∙◌}
use Rattle.std.specs.Prelude.{IsTrue}
use Rattle.std.specs.List.{list_all}
use Rattle.std.proofs.lemmas.Bool.{and_from, leb-true, ltb-true}
use Rattle.std.proofs.lemmas.List.{length-map}
use Rattle.hrt_base.specs.declared.numbered.PairNo.{PairNo}
use Rattle.hrt_base.specs.declared.numbered.RowNo.{RowNo}
use Rattle.pb_rows.specs.Terms.{PlainRow}
use Rattle.pb_rows.specs.Rows.{holds}
use Rattle.rank_tables.specs.Instance.{pair_count}
use Rattle.rank_tables.specs.Numbers.{numbers_to}
use Rattle.rank_tables.specs.Stability.{blocks, is_matching, is_weakly_stable}
use Rattle.rank_tables.specs.Tables.{numbers_of}
use Rattle.proof_rules.specs.Held.{is_held}
use Rattle.proof_rules.specs.States.{IsInOrder as IsStateInOrder}
use Rattle.derivation.specs.Derived.{Derived}
use Rattle.pb_propagate.specs.Engines.{EngineState, IsIdle}
use Rattle.pb_propagate.specs.Moments.{IsInOrder}
use Rattle.agreement.proofs.SameRows.{held_row}
use Rattle.lazy_stability.specs.Candidates.{IsFull, candidate, point_of_trail}
use Rattle.lazy_stability.proofs.Filled.{filled}
use Rattle.lazy_stability.proofs.Honest.{hold_at}
use Rattle.lazy_stability.proofs.Matched.{matched}
use Rattle.pb_search.specs.Knowing.{HoldsRow, Knows}
use Rattle.pb_search.specs.Searching.{AreJoined}
use Rattle.pb_search.proofs.Counting.{ceiling_says, larger_says}

module _ (budget ceiling : ℕ) (bound : RowNo) (before : List PairNo) (e : EngineState) (d : Derived) (joined : AreJoined budget e d) (order : IsInOrder e) (numbers : IsStateInOrder d.state) (idle : IsIdle e) (count : length e.trail ≡ e.vars) (knows : Knows ceiling bound before d) where
  pub is_full : IsFull e
  is_full = filled e order count

  pub is_matched : is_matching d.lists (candidate d.lists e) ≡ true
  is_matched = matched e d joined.agree numbers joined.ready knows.first order is_full idle

  pub is_stable : list_all (λ p. not (blocks d.lists (candidate d.lists e) p)) (numbers_to (pair_count d.lists)) ≡ true → is_weakly_stable d.lists (candidate d.lists e) ≡ true
  is_stable none = and_from (is_matching d.lists (candidate d.lists e)) (list_all (λ p. not (blocks d.lists (candidate d.lists e) p)) (numbers_to (pair_count d.lists))) is_matched none

  -- a held row holds at the candidate's point
  holds_here : (id : RowNo) (row : PlainRow) → HoldsRow id row d → holds (point_of_trail e.trail) row ≡ true
  holds_here id row h =
      held_row (λ (r : PlainRow). IsTrue (holds (point_of_trail e.trail) r)) (is_held d.held) id.0 row d.state.live h.held h.live
      (hold_at e d joined.agree numbers is_full order.sound idle (point_of_trail e.trail) (λ v low high. refl))

  -- so the candidate is longer than the largest matching so far
  pub is_longer : (pairs : List PairNo) → numbers_of pairs ≡ candidate d.lists e → length before < length pairs
  is_longer pairs are =
      let n : length (candidate d.lists e) ≡ length pairs = ap length (sym are) ∙ length-map pairs (λ (p : PairNo). p.0) in
      ltb-true (length before) (length pairs) (ap (nat_lt (length before)) (sym n) ∙ sym (larger_says d.lists (point_of_trail e.trail) (length before)) ∙ holds_here knows.improve _ knows.larger)

  -- and no longer than the ceiling
  pub is_within : (pairs : List PairNo) → numbers_of pairs ≡ candidate d.lists e → length pairs ≤ ceiling
  is_within pairs are =
      let n : length (candidate d.lists e) ≡ length pairs = ap length (sym are) ∙ length-map pairs (λ (p : PairNo). p.0) in
      leb-true (length pairs) ceiling (ap (λ (k : ℕ). nat_le k ceiling) (sym n) ∙ sym (ceiling_says d.lists (point_of_trail e.trail) ceiling) ∙ holds_here bound _ knows.top)
