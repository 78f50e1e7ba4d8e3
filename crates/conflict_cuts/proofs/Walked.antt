-- The step of a literal of an engine's trail.
use Rattle.std.proofs.Common.{◌≡◌, ◌<◌, ◌+◌, ◌^◌, ◌==◌, ◌&&◌, ℕ, Bool, true, false, nat_lt, if◌then◌else◌, List, [], ◌∷◌, ◌++◌, count_by, length, refl, sym, ap, ◌∙◌, subst, inl, inr, append_assoc, arith}
use Rattle.std.specs.Prelude.{Option, Some, None}
use Rattle.std.proofs.lemmas.Bool.{and_parts, cases_Bool, eq-eqb, eqb-true, le-ltb, lt-ltb, or_left, or_right}
use Rattle.std.proofs.lemmas.List.Elements.{All-from_recursion}
use Rattle.std.proofs.lemmas.List.{length-map}
use Rattle.hrt_base.specs.declared.literal.Lit.{Lit}
use Rattle.hrt_base.specs.declared.literal.Term.{Term}
use Rattle.pb_rows.specs.Terms.{PlainRow, opposite_lit}
use Rattle.pb_rows.specs.Rows.{add, saturate}
use Rattle.pb_rows.specs.Points.{IsCovered}
use Rattle.pb_rows.specs.Closure.{Literals}
use Rattle.propagation.proofs.Sets.{lit_itself}
use Rattle.row_arena.specs.Held.{Held, is_held, row_at}
use Rattle.pb_propagate.specs.Entries.{Entry, lits_of, reason_in}
use Rattle.pb_propagate.specs.Engines.{EngineState}
use Rattle.pb_propagate.specs.Moments.{IsInOrder}
use Rattle.pb_propagate.specs.Open.{AreJustified, IsJustified}
use Rattle.conflict_rows.specs.declared.marks.Mark.{Mark}
use Rattle.conflict_rows.specs.Trail.{IsTrail, Placed, PropagatesLiteral, at_level, has, on, weight_of}
use Rattle.conflict_rows.specs.Ends.{IsReasonOver}
use Rattle.conflict_rows.specs.ClauseRows.{has_one_at, last_clause, reason_clause}
use Rattle.conflict_rows.specs.Marks.{is_one_at, mark_of, marks_true, set_of_level}
use Rattle.conflict_rows.specs.Standing.{HasCome}
use Rattle.conflict_rows.specs.Tables.{AreMarks}
use Rattle.conflict_rows.proofs.LastClauses.{is_the_last, passes, reason_stands, steps, was_propagated}
use Rattle.engine_trails.specs.History.{history, history_to, reason_row}
use Rattle.engine_trails.specs.Places.{StandsAt}
use Rattle.engine_trails.proofs.Histories.{histories_are_trails}
use Rattle.conflict_cuts.specs.Walks.{IsReasonAt, StandsBefore}

-- ---- reasons

reason_step : (held : List Held) (before : List Lit) (x : Entry) (rest : Option ℕ) (b : Bool) (p : ℕ) → (x.reason ≡ Some p → is_held p held ≡ true) → (rest ≡ Some p → is_held p held ≡ true) → (if b then x.reason else rest) ≡ Some p → is_held p held ≡ true
reason_step held before x rest true p here there e = here e
reason_step held before x rest false p here there e = there e

reason_here : (held : List Held) (before : List Lit) (l : Lit) (reason : Option ℕ) (p : ℕ) → IsJustified held before l reason → reason ≡ Some p → is_held p held ≡ true
reason_here held before l None p j e = absurd (cc)
reason_here held before l (Some q) p j e = (let same : q ≡ p = cc in subst (λ (n : ℕ). is_held n held ≡ true) same j.stands)

reason_held : (held : List Held) (before : List Lit) (es : List Entry) (v p : ℕ) → AreJustified held before es → reason_in es v ≡ Some p → is_held p held ≡ true
reason_held held before [] v p j e = absurd (cc)
reason_held held before (x ∷ es) v p j e = reason_step held before x (reason_in es v) (v == x.lit.var) p (reason_here held before x.lit x.reason p j.0) (reason_held held (before ++ x.lit ∷ []) es v p j.1) e

-- ---- places

pub inside : (e : EngineState) (k : ℕ) (ls : List Lit) → ls ≡ lits_of e.trail → k < length e.trail → k < length ls
inside e k ls is within = omega (arith, within, ap length is, length-map e.trail (λ x. x.lit))

-- ---- levels

at_own : (newer : List Placed) (e : Placed) (es : List Placed) → on (at_level e.level (newer ++ e ∷ es)) e.lit ≡ true
at_own [] e es = let here : (e.level == e.level) ≡ true = eq-eqb e.level e.level refl in rw here (or_left _ _ (lit_itself e.lit))
at_own (f ∷ fs) e es = elim (cases_Bool (f.level == e.level)) [
  | inl y ↦ rw y (or_right _ _ (at_own fs e es))
  | inr y ↦ rw y (at_own fs e es)
]

-- ---- one literal

module _ (e : EngineState) (marks : List Mark) (o : IsInOrder e) (table : AreMarks marks (history e)) (k : ℕ) (l : Lit) (s : StandsAt e k l) (row : PlainRow) where
  trail : IsTrail (history e)
  trail = (histories_are_trails e o).trail

  coming : (c : PlainRow) → StandsBefore e c (k + 1) row → HasCome e.vars (history e) (s.entry ∷ history_to k e) c row
  coming c come = subst (λ (t : List Placed). HasCome e.vars (history e) t c row) s.step come

  whole_is : s.newer ++ s.entry ∷ history_to k e ≡ history e
  whole_is = ap (λ (t : List Placed). s.newer ++ t) (sym s.step) ∙ s.later

  has_not : weight_of (opposite_lit l) row.terms ≡ 0 → has (opposite_lit s.entry.lit) row.terms ≡ false
  has_not z = ap (λ (a : Lit). has (opposite_lit a) row.terms) s.lit ∙ le-ltb 0 (weight_of (opposite_lit l) row.terms) (omega (arith, z))

  has_it : (weight_of (opposite_lit l) row.terms ≡ 0 → ⊥) → has (opposite_lit s.entry.lit) row.terms ≡ true
  has_it some = ap (λ (a : Lit). has (opposite_lit a) row.terms) s.lit ∙ lt-ltb 0 (weight_of (opposite_lit l) row.terms) (above (weight_of (opposite_lit l) row.terms) some)
    where
      above : (n : ℕ) → (n ≡ 0 → ⊥) → 0 < n
      above n h = omega arith

  mark_level : (mark_of marks l.var).level ≡ s.entry.level
  mark_level =
      let there : on (at_level s.entry.level (history e)) l ≡ true =
      subst (λ (a : Lit). on (at_level s.entry.level (history e)) a ≡ true) s.lit (subst (λ (t : List Placed). on (at_level s.entry.level t) s.entry.lit ≡ true) whole_is (at_own s.newer s.entry (history_to k e))) in
      let marked : set_of_level marks s.entry.level l ≡ true = table.of_level s.entry.level l ∙ there in
      eqb-true (mark_of marks l.var).level s.entry.level (and_parts (marks_true (mark_of marks l.var) l.neg) ((mark_of marks l.var).level == s.entry.level) marked).1

  one_is : (level : ℕ) → level ≡ (mark_of marks l.var).level → is_one_at marks level row ≡ has_one_at (history e) s.entry.level row
  one_is level is =
      let same : ◌≡◌ {A = Literals} (set_of_level marks level) (on (at_level level (history e))) = λ i m. table.of_level level m i in
      ap (λ (set : Literals). nat_lt 0 level && (count_by (λ (u : Term). set (opposite_lit u.lit)) row.terms == 1)) same ∙ ap (λ (n : ℕ). has_one_at (history e) n row) (is ∙ mark_level)

  -- where the clause hasn't its opposite, it is passed over
  pub passed_there : (c : PlainRow) → weight_of (opposite_lit l) row.terms ≡ 0 → StandsBefore e c (k + 1) row → StandsBefore e c k row
  passed_there c z come = passes e.vars (history e) s.entry (history_to k e) c row trail (coming c come) (has_not z)

  -- the last clause
  pub last_there : (c : PlainRow) (level : ℕ) → (weight_of (opposite_lit l) row.terms ≡ 0 → ⊥) → level ≡ (mark_of marks l.var).level → is_one_at marks level row ≡ true → StandsBefore e c (k + 1) row → row ≡ last_clause (history e) c
  last_there c level some is one come = is_the_last e.vars (history e) s.entry (history_to k e) c row trail (coming c come) (has_it some) (sym (one_is level is) ∙ one)

  module _ (c : PlainRow) (come : StandsBefore e c (k + 1) row) (some : weight_of (opposite_lit l) row.terms ≡ 0 → ⊥) (level : ℕ) (is : level ≡ (mark_of marks l.var).level) (more : is_one_at marks level row ≡ false) where
    not_one : has_one_at (history e) s.entry.level row ≡ false
    not_one = sym (one_is level is) ∙ more

    -- the literal wasn't decided
    pub not_decided : reason_in e.trail l.var ≡ None → ⊥
    not_decided none = was_propagated e.vars (history e) s.entry (history_to k e) c row trail (coming c come) (has_it some) not_one (s.reason ∙ ap (reason_row e.held) none)

    module _ (place : ℕ) (because : reason_in e.trail l.var ≡ Some place) where
      reason_there : s.entry.reason ≡ Some (row_at place e.held)
      reason_there = s.reason ∙ ap (reason_row e.held) because

      -- what the next clause is made of
      pub reason_at : IsReasonAt e k l place row
      reason_at = record {
        held = reason_held e.held [] e.trail l.var place o.sound.justified because;
        propagates = subst (λ (a : Lit). PropagatesLiteral (on (history_to k e)) (row_at place e.held) a) s.lit (reason_stands e.vars (history e) s.entry (history_to k e) c row trail (coming c come) (row_at place e.held) reason_there).propagates;
        count = s.count;
        newer = s.newer ++ s.entry ∷ [];
        is = append_assoc s.newer (s.entry ∷ []) (history_to k e) ∙ whole_is;
        clause = come.stands.clause;
        over = All-from_recursion (λ (t : Term). IsCovered e.vars t.lit.var) row.terms come.stands.over;
      }

      pub next_there : (small : e.vars < 2 ^ 32) (next : PlainRow) → next ≡ saturate (add row (reason_clause (history_to k e) l (row_at place e.held))) → StandsBefore e c k next
      next_there small next e' =
          subst (λ (r : PlainRow). StandsBefore e c k r) (sym (e' ∙ ap (λ (a : Lit). saturate (add row (reason_clause (history_to k e) a (row_at place e.held)))) (sym s.lit)))
          (steps e.vars (history e) s.entry (history_to k e) c row trail (coming c come) small (row_at place e.held) reason_there (subst (IsReasonOver e.vars) reason_there s.over) (has_it some) not_one)
