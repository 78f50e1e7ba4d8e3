-- One clause of the sequence after another, up to the last.
use Rattle.std.proofs.Common.{◌≡◌, ◌≤◌, ◌<◌, ◌+◌, ◌^◌, ℕ, Bool, true, false, nat_lt, ◌==◌, ◌&&◌, ◌||◌, if◌then◌else◌, List, [], ◌∷◌, ◌++◌, refl, sym, ◌∙◌, ap, subst, inl, inr, arith, append_assoc}
use Rattle.std.specs.Prelude.{Option, Some, None}
use Rattle.std.specs.List.{AllByRecursion}
use Rattle.std.proofs.lemmas.Bool.{and_parts, false_from_ne_true, or_parts, true≢false}
use Rattle.hrt_base.specs.declared.literal.Lit.{Lit}
use Rattle.hrt_base.specs.declared.literal.Term.{Term}
use Rattle.pb_rows.specs.Terms.{IsRisingFrom, PlainRow, opposite_lit}
use Rattle.pb_rows.specs.Rows.{IsWellFormedRow, add, saturate}
use Rattle.pb_rows.specs.Points.{IsCovered}
use Rattle.pb_rows.specs.Closure.{Falsified, Literals}
use Rattle.propagation.specs.Following.{IsOver}
use Rattle.std.proofs.lemmas.List.Elements.{recursion_from_All}
use Rattle.conflict_rows.specs.Trail.{IsGrounded, IsReason, IsTrail, Placed, has, is_open, on, propagates_some, top_level, up_to}
use Rattle.conflict_rows.specs.Ends.{ClauseEnd, IsAsserting, IsFinishedOrEmpty, IsReasonOver}
use Rattle.conflict_rows.specs.CutRows.{least_below, newest_level}
use Rattle.conflict_rows.specs.ClauseRows.{conflict_clause, has_none, has_one_at, is_last, last_clause, reason_clause, resolve_along, resolve_at, resolved_by}
use Rattle.conflict_rows.specs.Standing.{HasCome, IsClauseRow}
use Rattle.conflict_rows.proofs.Literals.{each}
use Rattle.conflict_rows.proofs.Trails.{trail_rest}
use Rattle.conflict_rows.proofs.CutEnds.{step_of}
use Rattle.conflict_rows.proofs.Literals.{has_true}
use Rattle.conflict_rows.proofs.FinishedAt.{least_from, newest_is, propagates_some-from}
use Rattle.conflict_rows.proofs.ClauseStep.{next_clause_row}
use Rattle.conflict_rows.proofs.ClauseEnds.{conflict_row, decided_last, passed_over}

-- ---- one literal of the trail

pub last_stays : (whole rest : List Placed) (row : PlainRow) → is_last whole row ≡ true → resolve_along whole rest row ≡ row
last_stays whole [] row h = refl
last_stays whole (e ∷ es) row h = rw h (last_stays whole es row h)

either : (b : Bool) (row : PlainRow) → (if b then row else row) ≡ row
either true row = refl
either false row = refl

passes_over : (whole es : List Placed) (e : Placed) (row : PlainRow) → has (opposite_lit e.lit) row.terms ≡ false → resolve_at whole es e row ≡ row
passes_over whole es e row h = rw h (either (is_last whole row) row)

resolves : (whole es : List Placed) (e : Placed) (row r : PlainRow) → has (opposite_lit e.lit) row.terms ≡ true → is_last whole row ≡ false → e.reason ≡ Some r → resolve_at whole es e row ≡ saturate (add row (reason_clause es e.lit r))
resolves whole es e row r h l is = rw (l, h) (ap (λ (o : Option PlainRow). resolved_by es e.lit o row) is)

some_term : (l : Lit) (ts : List Term) → has l ts ≡ true → has_none ts ≡ false
some_term l [] h = absurd (true≢false (sym h))
some_term l (t ∷ ts) h = refl

-- the level of the newest literal that the clause has is that of the entry at which it is met
met_level : (n : ℕ) (newer : List Placed) (e : Placed) (es : List Placed) (row : PlainRow) → IsTrail (newer ++ e ∷ es) → IsClauseRow n (on (newer ++ e ∷ es)) (on (e ∷ es)) row → has (opposite_lit e.lit) row.terms ≡ true →
    newest_level (newer ++ e ∷ es) row ≡ e.level
met_level n newer e es row trail s h = newest_is (on (newer ++ e ∷ es)) row newer e es trail (λ l m. m)
    (each (λ u. on (e ∷ es) (opposite_lit u.lit) ≡ true) (λ u. on (newer ++ e ∷ es) (opposite_lit u.lit) ≡ true → on (e ∷ es) (opposite_lit u.lit) ≡ true) (λ u a k. a) row.terms s.older) h

last_here : (n : ℕ) (newer : List Placed) (e : Placed) (es : List Placed) (row : PlainRow) → IsTrail (newer ++ e ∷ es) → IsClauseRow n (on (newer ++ e ∷ es)) (on (e ∷ es)) row → has (opposite_lit e.lit) row.terms ≡ true →
    is_last (newer ++ e ∷ es) row ≡ has_one_at (newer ++ e ∷ es) e.level row
last_here n newer e es row trail s h =
    ap (λ (b : Bool). b || has_one_at (newer ++ e ∷ es) (newest_level (newer ++ e ∷ es) row) row) (some_term (opposite_lit e.lit) row.terms h)
    ∙ ap (λ (k : ℕ). has_one_at (newer ++ e ∷ es) k row) (met_level n newer e es row trail s h)

-- ---- how far the sequence has come

pub begins : (n : ℕ) (whole : List Placed) (c : PlainRow) → IsWellFormedRow c → IsOver n c → Falsified (on whole) c → HasCome n whole whole c (conflict_clause whole c)
begins n whole c w o f = record { newer = []; is = refl; stands = conflict_row n whole c w (recursion_from_All (λ (u : Term). IsCovered n u.lit.var) c.terms o) f; same = refl }

-- the state after a literal, of a trail in two parts
module _ (n : ℕ) (whole : List Placed) (e : Placed) (es : List Placed) (c row : PlainRow) (trail : IsTrail whole) (come : HasCome n whole (e ∷ es) c row) where
  split_trail : IsTrail (come.newer ++ e ∷ es)
  split_trail = subst IsTrail (sym come.is) trail

  split_stands : IsClauseRow n (on (come.newer ++ e ∷ es)) (on (e ∷ es)) row
  split_stands = subst (λ (w : List Placed). IsClauseRow n (on w) (on (e ∷ es)) row) (sym come.is) come.stands

  later : (come.newer ++ e ∷ []) ++ es ≡ whole
  later = append_assoc come.newer (e ∷ []) es ∙ come.is

  pub passes : has (opposite_lit e.lit) row.terms ≡ false → HasCome n whole es c row
  passes h = record {
    newer = come.newer ++ e ∷ [];
    is = later;
    stands = passed_over n (on whole) e es row come.stands h;
    same = ap (resolve_along whole es) (sym (passes_over whole es e row h)) ∙ come.same;
  }

  one_is : has (opposite_lit e.lit) row.terms ≡ true → is_last whole row ≡ has_one_at whole e.level row
  one_is h = subst (λ (w : List Placed). is_last w row ≡ has_one_at w e.level row) come.is (last_here n come.newer e es row split_trail split_stands h)

  pub is_the_last : has (opposite_lit e.lit) row.terms ≡ true → has_one_at whole e.level row ≡ true → row ≡ last_clause whole c
  is_the_last h one = sym (last_stays whole (e ∷ es) row (one_is h ∙ one)) ∙ come.same

  pub has_reason : has (opposite_lit e.lit) row.terms ≡ true → has_one_at whole e.level row ≡ false → e.level ≡ top_level es + 1 → ⊥
  has_reason h one opens =
      let last : is_last (come.newer ++ e ∷ es) row ≡ true = decided_last n come.newer e es row split_trail split_stands h opens in
      true≢false (sym (subst (λ (w : List Placed). is_last w row ≡ true) come.is last) ∙ (one_is h ∙ one))

  grounded_as : (reason : Option PlainRow) → e.reason ≡ reason → IsGrounded es e.lit e.level reason
  grounded_as reason is = subst (λ (o : Option PlainRow). IsGrounded es e.lit e.level o) is (trail_rest come.newer (e ∷ es) split_trail).0.grounded

  pub was_propagated : has (opposite_lit e.lit) row.terms ≡ true → has_one_at whole e.level row ≡ false → e.reason ≡ None → ⊥
  was_propagated h one is = has_reason h one (grounded_as None is)

  -- what the reason of the literal gives
  pub reason_stands : (r : PlainRow) → e.reason ≡ Some r → IsReason es e.lit e.level r
  reason_stands r is = grounded_as (Some r) is

  pub steps : n < 2 ^ 32 → (r : PlainRow) → e.reason ≡ Some r → IsOver n r → has (opposite_lit e.lit) row.terms ≡ true → has_one_at whole e.level row ≡ false → HasCome n whole es c (saturate (add row (reason_clause es e.lit r)))
  steps small r is over h one = record {
    newer = come.newer ++ e ∷ [];
    is = later;
    stands = subst (λ (w : List Placed). IsClauseRow n (on w) (on es) (saturate (add row (reason_clause es e.lit r)))) come.is
        (next_clause_row n small (on (come.newer ++ e ∷ es)) (on es) e.lit r row (step_of come.newer e es split_trail r (reason_stands r is))
        (recursion_from_All (λ (u : Term). IsCovered n u.lit.var) r.terms over) split_stands (has_true (opposite_lit e.lit) row.terms h));
    same = ap (resolve_along whole es) (sym (resolves whole es e row r h (one_is h ∙ one) is)) ∙ come.same;
  }

-- at the end of the trail the clause is the last
pub ends : (n : ℕ) (whole : List Placed) (c row : PlainRow) → HasCome n whole [] c row → row ≡ last_clause whole c
ends n whole c row come = come.same

-- ---- the level of the last clause

pub asserting_least : (whole : List Placed) (c : PlainRow) (level : ℕ) → IsRisingFrom 0 c.terms → IsAsserting whole c level → least_below (λ k. propagates_some (on (up_to k whole)) c) (top_level whole) ≡ Some level
asserting_least whole c level r a = least_from (λ k. propagates_some (on (up_to k whole)) c) (top_level whole) level (record {
  below = a.below;
  passes = propagates_some-from (on (up_to level whole)) c a.propagates.lit r a.propagates.propagates;
  first = λ j l. (or_parts _ _ (a.lowest j l)).1;
})
