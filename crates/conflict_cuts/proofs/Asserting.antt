-- The last clause at the lowest level at which it is open.
use Rattle.std.proofs.Common.{◌≡◌, ◌<◌, ◌≤◌, ◌==◌, ℕ, Bool, true, false, List, [], ◌∷◌, length, refl, sym, ap, ◌∙◌, subst, inl, inr, arith}
use Rattle.std.specs.Prelude.{Option, Some, None}
use Rattle.std.specs.List.{AllByRecursion, Contains, list_any}
use Rattle.std.proofs.lemmas.Bool.{and_from, and_parts, cases_lt, eq-eqb, lt-ltb, ltb-true, not-true, or_left, or_right, true≢false}
use Rattle.std.proofs.lemmas.List.Folds.{Any-from_list_any, list_any_at}
use Rattle.hrt_base.specs.declared.literal.Lit.{Lit}
use Rattle.hrt_base.specs.declared.literal.Term.{Term}
use Rattle.pb_rows.specs.Terms.{PlainRow, coef_sum, positive_part}
use Rattle.pb_rows.specs.Closure.{IsSettled, Keeps, Literals}
use Rattle.propagation.specs.Following.{IsOver}
use Rattle.rank_tables.specs.WellFormed.{most_pairs}
use Rattle.pb_propagate.specs.Engines.{EngineState, set_at}
use Rattle.pb_propagate.specs.Moments.{IsInOrder}
use Rattle.pb_propagate.specs.Open.{PropagatesLit}
use Rattle.conflict_rows.specs.declared.marks.Mark.{Mark}
use Rattle.conflict_rows.specs.Trail.{is_open, on, propagates_some, propagates_term, up_to}
use Rattle.conflict_rows.specs.CutRows.{finished_level}
use Rattle.conflict_rows.specs.Ends.{ClauseEnd, IsAsserting, IsFinishedOrEmpty}
use Rattle.conflict_rows.specs.Marks.{set_up_to}
use Rattle.conflict_rows.specs.Standing.{IsAsserted}
use Rattle.conflict_rows.specs.Tables.{AreMarks}
use Rattle.conflict_rows.proofs.FinishedAt.{propagates_some-from}
use Rattle.level_sweep.specs.Rows.{IsLowestUnder, PropagatesTerm}
use Rattle.engine_trails.specs.History.{history}
use Rattle.engine_trails.specs.Histories.{IsHistory}
use Rattle.engine_trails.proofs.Histories.{histories_are_trails}
use Rattle.conflict_cuts.specs.Learned.{Asserts}

-- ---- open rows

contained_any : (p : Term → Bool) (ts : List Term) (t : Term) → Contains ts t → p t ≡ true → list_any p ts ≡ true
contained_any p ts t c h = list_any_at p ts c.0 t c.1 (ap p c.2 ∙ h)

-- a row that propagates the literal of a term propagates some
some_by : (set : Literals) (r : PlainRow) → PropagatesTerm set r → propagates_some set r ≡ true
some_by set r p = contained_any (propagates_term set r) r.terms p.term p.has (and_from _ _ p.propagates.free (lt-ltb _ _ p.propagates.exceeds))

-- a row that a set keeps propagates none under it
keeps_none : (set : Literals) (r : PlainRow) → Keeps set r → propagates_some set r ≡ true → ⊥
keeps_none set r keeps h =
    let any = Any-from_list_any (propagates_term set r) r.terms h in
    let t : Term = any.1 in
    let settled : IsSettled set r t = subst (IsSettled set r) any.3 (keeps.settled any.0 t any.2) in
    let parts = and_parts _ _ any.4 in
    let free = and_parts _ _ parts.0 in
    true≢false (sym (settled (not-true _ free.1) (ltb-true _ _ parts.1)) ∙ not-true _ free.0)

-- ---- the last clause

pub not_none : (ts us : List Term) (b : Bool) → us ≡ ts → b ≡ (length us == 0) → b ≡ false → length ts ≡ 0 → ⊥
not_none ts us b e told f z = true≢false (sym (eq-eqb (length us) 0 (ap length e ∙ z)) ∙ (sym told ∙ f))

module _ (e : EngineState) (marks : List Mark) (row : PlainRow) (order : IsInOrder e) (table : AreMarks marks (history e)) (size : length marks ≡ e.vars) (few : e.vars ≤ most_pairs) (end : ClauseEnd e.vars (history e) row) where
  hist : IsHistory e
  hist = histories_are_trails e order

  at_is : (k : ℕ) → ◌≡◌ {A = Literals} (set_up_to marks k) (set_at k e)
  at_is k = λ i l. (table.levels k l ∙ hist.levels k l) i

  on_is : (k : ℕ) → ◌≡◌ {A = Literals} (on (up_to k (history e))) (set_up_to marks k)
  on_is k = λ i l. sym (table.levels k l) i

  pub row_covered : IsOver (length marks) row
  row_covered = subst (λ (n : ℕ). IsOver n row) (sym size) end.clause.over

  some_coef : (ts : List Term) → AllByRecursion (λ (t : Term). positive_part t.coef ≡ 1) ts → (length ts ≡ 0 → ⊥) → 1 ≤ coef_sum ts
  some_coef [] a h = absurd (h refl)
  some_coef (t ∷ ts) a h = omega (arith, a.0)

  -- a row without terms holds nowhere
  pub none_contradicts : length row.terms ≡ 0 → coef_sum row.terms < row.degree
  none_contradicts z = by row.terms z
    where
      by : (ts : List Term) → length ts ≡ 0 → coef_sum ts < row.degree
      by [] h = omega (arith, end.clause.degree)
      by (t ∷ ts) h = absurd (omega (arith, h))

  ends_at : (o : Option ℕ) → IsFinishedOrEmpty (history e) row o → (length row.terms ≡ 0 → ⊥) → (level : ℕ) × IsAsserting (history e) row level
  ends_at None h some = absurd (omega (arith, h, some_coef row.terms end.clause.ones some, end.clause.degree))
  ends_at (Some level) h some = (level, h)

  module _ (some : length row.terms ≡ 0 → ⊥) where
    asserting : (level : ℕ) × IsAsserting (history e) row level
    asserting = ends_at (finished_level (history e) row) end.ends some

    propagates_there : propagates_some (set_up_to marks asserting.0) row ≡ true
    propagates_there =
        subst (λ (s : Literals). propagates_some s row ≡ true) (on_is asserting.0)
        (propagates_some-from (on (up_to asserting.0 (history e))) row asserting.1.propagates.lit end.clause.normal.rising asserting.1.propagates.propagates)

    -- it is open at some level
    pub is_open_somewhere : (o : Option ℕ) → IsLowestUnder (set_up_to marks) row o → o ≡ None → ⊥
    is_open_somewhere None low e' = keeps_none (set_up_to marks asserting.0) row (low asserting.0) propagates_there
    is_open_somewhere (Some level) low e' = absurd (cc)

    closed_below : (j : ℕ) → j < asserting.0 → is_open (set_up_to marks j) row ≡ false
    closed_below j l = subst (λ (s : Literals). is_open s row ≡ false) (on_is j) (asserting.1.lowest j l)

    open_there : (level : ℕ) → IsLowestUnder (set_up_to marks) row (Some level) → is_open (set_up_to marks level) row ≡ true
    open_there level low = elim low.0 [
      | inl f ↦ or_left _ _ (lt-ltb _ _ f)
      | inr p ↦ or_right _ _ (some_by (set_up_to marks level) row p)
    ]

    -- the lowest level at which it is open is that at which it propagates a literal
    level_is : (level : ℕ) → IsLowestUnder (set_up_to marks) row (Some level) → level ≡ asserting.0
    level_is level low = elim (cases_lt level asserting.0) [
      | inl l ↦ absurd (true≢false (sym (open_there level low) ∙ closed_below level l))
      | inr g ↦ elim (cases_lt asserting.0 level) [
        | inl l ↦ absurd (keeps_none (set_up_to marks asserting.0) row (low.1 asserting.0 l) propagates_there)
        | inr h ↦ omega (arith, g, h)
      ]
    ]

    -- and so it propagates one there
    pub propagates_some_there : (level : ℕ) → IsLowestUnder (set_up_to marks) row (Some level) → propagates_some (set_up_to marks level) row ≡ false → ⊥
    propagates_some_there level low h =
        true≢false (sym propagates_there ∙ subst (λ (k : ℕ). propagates_some (set_up_to marks k) row ≡ false) (level_is level low) h)

    pub asserts_there : (level : ℕ) (l : Lit) → IsLowestUnder (set_up_to marks) row (Some level) → IsAsserted (set_up_to marks level) row l → Asserts e row level l
    asserts_there level l low p = record {
      below = omega (arith, level_is level low, asserting.1.below, hist.level);
      propagates = subst (λ (s : Literals). PropagatesLit s row l) (at_is level) (record { term = p.term; has = p.has; lit = p.lit; propagates = p.propagates });
      lowest = λ j k. subst (λ (s : Literals). Keeps s row) (at_is j) (low.1 j k);
      over = end.clause.over;
      short = record { sum = omega (arith, end.clause.sum, few); degree = omega (arith, end.clause.degree) };
    }
