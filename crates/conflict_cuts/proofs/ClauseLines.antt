-- The lines of clauses: they can be written, name rows that are known, and make the clauses.
use Rattle.std.proofs.Common.{◌≡◌, ◌<◌, ◌≤◌, ◌+◌, ◌*◌, ◌^◌, ℕ, Bool, true, List, [], ◌∷◌, ◌++◌, length, pos, sym, ap, ◌∙◌, subst, arith}
use Rattle.std.specs.Prelude.{Ok, Some}
use Rattle.std.specs.List.{All, AllByRecursion}
use Rattle.std.proofs.lemmas.Bool.{le-leb, or_left, or_right}
use Rattle.std.proofs.lemmas.List.Elements.{All-cons, All-nil, recursion_from_All}
use Rattle.hrt_base.specs.declared.literal.Lit.{Lit}
use Rattle.hrt_base.specs.declared.literal.Term.{Term}
use Rattle.hrt_base.specs.declared.numbered.RowNo.{RowNo}
use Rattle.pb_rows.specs.Terms.{PlainRow}
use Rattle.pb_rows.specs.Points.{IsCovered}
use Rattle.pb_rows.specs.Rows.{Fits, IsShort, IsWellFormedRow, add, divide, saturate, weaken_all}
use Rattle.pb_rows.specs.Closure.{Falsified, Literals}
use Rattle.pb_rows.specs.Formula.{row_of}
use Rattle.propagation.specs.Following.{IsOver}
use Rattle.rank_tables.specs.Instance.{pair_count}
use Rattle.proof_lines.specs.declared.line.PolStep.{PolStep}
use Rattle.proof_lines.specs.declared.line.PolStep.TheVariants.{Id, Add, Divide, Saturate, Weaken}
use Rattle.proof_lines.specs.declared.line.Line.TheVariants.{Pol}
use Rattle.proof_rules.specs.Held.{Held as HeldNumbers, is_held as is_held_number}
use Rattle.proof_rules.specs.Pol.{pol_row}
use Rattle.derivation.specs.Derived.{Derived}
use Rattle.derivation.specs.Steps.{IsWritable}
use Rattle.derivation.specs.Traces.{IsKnownStep}
use Rattle.derivation.proofs.Writable.{AreGood, add_good, divide_good, good_append, good_writable, live_good, none_good, saturate_good, weaken_good}
use Rattle.row_arena.specs.Held.{IsKept, is_held, row_at, tag_at}
use Rattle.row_arena.proofs.Places.{kept-at}
use Rattle.pb_propagate.specs.Entries.{set_of}
use Rattle.pb_propagate.specs.Engines.{EngineState}
use Rattle.conflict_rows.specs.declared.marks.Mark.{Mark}
use Rattle.conflict_rows.specs.Trail.{PropagatesLiteral, on}
use Rattle.conflict_rows.specs.Weakening.{weakened}
use Rattle.conflict_rows.specs.ClauseRows.{as_clause, conflict_clause, is_nonfalse, is_other, reason_clause}
use Rattle.conflict_rows.specs.Marks.{set_before, set_now}
use Rattle.conflict_rows.specs.Steps.{IsClauseOf}
use Rattle.conflict_rows.proofs.Nets.{Lits}
use Rattle.conflict_rows.proofs.ClauseStep.{clause_normal, conflict_left, reason_left}
use Rattle.conflict_rows.proofs.ShortClauses.{clause_short, degree_left, reason_normal, reason_short, short_sum_fits, vars_covered, vars_few}
use Rattle.engine_trails.specs.History.{history, history_to}
use Rattle.engine_trails.proofs.Histories.{histories_are_trails}
use Rattle.conflict_cuts.specs.Laid.{IsSet}
use Rattle.conflict_cuts.specs.Lines.{IsFactor, conflict_steps, resolve_steps, weakenings}
use Rattle.conflict_cuts.specs.Walks.{IsReasonAt}
use Rattle.conflict_cuts.proofs.Agreeing.{agreed, tag_live}
use Rattle.conflict_cuts.proofs.PolRows.{conflict_ties, resolve_ties}

-- ---- steps

weakenings_good : (n : ℕ) (names : List ℕ) → n ≤ 100000 → AllByRecursion (IsCovered n) names → AreGood (weakenings names) (10 * length names)
weakenings_good n [] few h = none_good (10 * length {A = ℕ} [])
weakenings_good n (v ∷ names) few h =
    let first : v ≤ 100000 = omega (arith, h.0.last, few) in
    let split : 10 + 10 * length names ≡ 10 * length (v ∷ names) = omega arith in
    subst (λ (k : ℕ). AreGood (weakenings (v ∷ names)) k) split (good_append (Weaken v ∷ []) (weakenings names) 10 (10 * length names) (weaken_good v h.0.first first) (weakenings_good n names few h.1))

known_rest : (held : HeldNumbers) (first : ℕ) (names : List ℕ) (rest : List PolStep) → All (IsKnownStep held first) rest → All (IsKnownStep held first) (weakenings names ++ rest)
known_rest held first [] rest h = h
known_rest held first (v ∷ names) rest h = All-cons (IsKnownStep held first) (Weaken v) (weakenings names ++ rest) tt (known_rest held first names rest h)

within : (n m : ℕ) (names : List ℕ) → n ≡ m → AllByRecursion (IsCovered n) names → AllByRecursion (λ v. v ≤ m) names
within n m [] e h = tt
within n m (v ∷ names) e h = (omega (arith, h.0.last, e), within n m names e h.1)

-- ---- what is known of a row of the engine

module _ (e : EngineState) (marks : List Mark) (d : Derived) (set : IsSet e marks d) (next : d.state.next < 10 ^ 18) (place : ℕ) (held : is_held place e.held ≡ true) where
  kept : IsKept e.vars (row_at place e.held)
  kept = kept-at e.vars e.held set.order.sound.held place held

  pub row_covered : IsOver (length marks) (row_at place e.held)
  row_covered = subst (λ (n : ℕ). IsOver n (row_at place e.held)) (sym set.size) kept.over

  over_lits : Lits (λ l. IsCovered e.vars l.var) (row_at place e.held).terms
  over_lits = recursion_from_All (λ (t : Term). IsCovered e.vars t.lit.var) (row_at place e.held).terms kept.over

  small_vars : e.vars < 2 ^ 32
  small_vars = omega (arith, set.few)

  known_tag : (tag : RowNo) → tag.0 ≡ tag_at place e.held → (first : ℕ) → IsKnownStep d.held first (Id tag)
  known_tag tag is first = or_left _ _ (ap (is_held_number d.held) is ∙ (agreed e d place set.agree held).number)

  module _ (goes : Term → Bool) (row : PlainRow) (names : List ℕ) (divisor : ℕ) (is : IsClauseOf goes (row_at place e.held) row names divisor) where
    pub divisor_small : divisor ≤ 2 ^ 120
    divisor_small = omega (arith, is.divisor_is, degree_left goes (row_at place e.held) kept.normal.rising, kept.normal.fits.degree)

    pub clause_by : divide divisor (saturate (weaken_all names (row_at place e.held))) ≡ row
    clause_by =
        ap (λ (ns : List ℕ). divide divisor (saturate (weaken_all ns (row_at place e.held)))) is.vars
        ∙ ap (λ (k : ℕ). divide k (saturate (weakened goes (row_at place e.held)))) is.divisor_is ∙ sym is.row

    names_covered : AllByRecursion (IsCovered e.vars) names
    names_covered = subst (AllByRecursion (IsCovered e.vars)) (sym is.vars) (vars_covered e.vars goes (row_at place e.held).terms over_lits)

    names_few : length names ≤ e.vars
    names_few = subst (λ (ns : List ℕ). length ns ≤ e.vars) (sym is.vars) (vars_few e.vars goes (row_at place e.held).terms kept.normal.rising over_lits)

    names_known : AllByRecursion (λ v. v ≤ pair_count d.lists) names
    names_known = within e.vars (pair_count d.lists) names set.agree.vars names_covered

    factor : 0 < (weakened goes (row_at place e.held)).degree → IsFactor divisor
    factor some = record { some = omega (arith, is.divisor_is, some); small = divisor_small }

    weakened_good : AreGood (weakenings names) (10 * length names)
    weakened_good = weakenings_good e.vars names set.few names_covered

    tag_good : (tag : RowNo) → tag.0 ≡ tag_at place e.held → AreGood (Id tag ∷ []) 19
    tag_good tag t = live_good d.state.live d.state.next set.numbered (omega (arith, next)) tag (row_at place e.held) (tag_live e d place tag.0 set.agree held t)

-- ---- the falsified row

module _ (e : EngineState) (marks : List Mark) (d : Derived) (set : IsSet e marks d) (next : d.state.next < 10 ^ 18) (place : ℕ) (held : is_held place e.held ≡ true) (falsified : Falsified (set_of e.trail) (row_at place e.held)) where
  now_is : ◌≡◌ {A = Literals} (set_now marks) (on (history e))
  now_is = λ i l. set.table.now l i

  now_on : ◌≡◌ {A = Literals} (set_of e.trail) (on (history e))
  now_on = λ i l. sym ((histories_are_trails e set.order).same l) i

  pub falsified_now : Falsified (set_now marks) (row_at place e.held)
  falsified_now = subst (λ (s : Literals). Falsified s (row_at place e.held)) (now_on ∙ sym now_is) falsified

  module _ (row : PlainRow) (names : List ℕ) (divisor : ℕ) (is : IsClauseOf (is_nonfalse (set_now marks)) (row_at place e.held) row names divisor) (tag : RowNo) (tag_is : tag.0 ≡ tag_at place e.held) where
    rest_good : 1 ≤ divisor → AreGood (weakenings names ++ Saturate ∷ Divide (pos divisor) ∷ []) (10 * length names + (2 + 40))
    rest_good some = good_append (weakenings names) (Saturate ∷ Divide (pos divisor) ∷ []) (10 * length names) (2 + 40) (weakened_good e marks d set next place held (is_nonfalse (set_now marks)) row names divisor is)
        (good_append (Saturate ∷ []) (Divide (pos divisor) ∷ []) 2 40 saturate_good (divide_good divisor some (divisor_small e marks d set next place held (is_nonfalse (set_now marks)) row names divisor is)))

    factor_here : IsFactor divisor
    factor_here = factor e marks d set next place held (is_nonfalse (set_now marks)) row names divisor is (conflict_left (set_now marks) (row_at place e.held) (kept e marks d set next place held).normal.rising falsified_now)

    pub conflict_writable : (steps : List PolStep) → steps ≡ conflict_steps tag names divisor → IsWritable (Pol steps)
    conflict_writable steps are = subst (λ (s : List PolStep). IsWritable (Pol s)) (sym are)
        (good_writable (Id tag) (weakenings names ++ Saturate ∷ Divide (pos divisor) ∷ []) (19 + (10 * length names + (2 + 40)))
        (good_append (Id tag ∷ []) (weakenings names ++ Saturate ∷ Divide (pos divisor) ∷ []) 19 (10 * length names + (2 + 40)) (tag_good e marks d set next place held (is_nonfalse (set_now marks)) row names divisor is tag tag_is) (rest_good factor_here.some))
        (omega (arith, names_few e marks d set next place held (is_nonfalse (set_now marks)) row names divisor is, set.few)))

    pub conflict_made : (steps : List PolStep) → steps ≡ conflict_steps tag names divisor → pol_row (pair_count d.lists) d.state.live steps ≡ Ok row
    conflict_made steps are = subst (λ (s : List PolStep). pol_row (pair_count d.lists) d.state.live s ≡ Ok row) (sym are)
        (conflict_ties (pair_count d.lists) d.state.live tag (row_at place e.held) names divisor (tag_live e d place tag.0 set.agree held tag_is) (kept e marks d set next place held).normal.fits
        (names_known e marks d set next place held (is_nonfalse (set_now marks)) row names divisor is) factor_here
        ∙ ap (λ (r : PlainRow). Ok r) (clause_by e marks d set next place held (is_nonfalse (set_now marks)) row names divisor is))

    pub conflict_known : (first : ℕ) (steps : List PolStep) → steps ≡ conflict_steps tag names divisor → All (IsKnownStep d.held first) steps
    conflict_known first steps are = subst (All (IsKnownStep d.held first)) (sym are)
        (All-cons (IsKnownStep d.held first) (Id tag) (weakenings names ++ Saturate ∷ Divide (pos divisor) ∷ []) (known_tag e marks d set next place held tag tag_is first)
        (known_rest d.held first names (Saturate ∷ Divide (pos divisor) ∷ [])
        (All-cons (IsKnownStep d.held first) Saturate (Divide (pos divisor) ∷ []) tt (All-cons (IsKnownStep d.held first) (Divide (pos divisor)) [] tt (All-nil (IsKnownStep d.held first))))))

    pub conflict_is_row : row ≡ conflict_clause (history e) (row_at place e.held)
    conflict_is_row = is.row ∙ ap (λ (s : Literals). as_clause (weakened (is_nonfalse s) (row_at place e.held))) now_is

-- ---- a reason

module _ (e : EngineState) (marks : List Mark) (d : Derived) (set : IsSet e marks d) (next : d.state.next < 10 ^ 18) (k : ℕ) (l : Lit) (place : ℕ) (c : PlainRow) (at : IsReasonAt e k l place c) where
  before_is : ◌≡◌ {A = Literals} (set_before marks k) (on (history_to k e))
  before_is = λ i m. (subst (λ (n : ℕ). set_before marks n m ≡ on (history_to k e) m) at.count (set.table.before at.newer (history_to k e) at.is m)) i

  pub propagates_before : PropagatesLiteral (set_before marks k) (row_at place e.held) l
  propagates_before = subst (λ (s : Literals). PropagatesLiteral s (row_at place e.held) l) (sym before_is) at.propagates

  clause_lits : Lits (λ m. IsCovered e.vars m.var) c.terms
  clause_lits = recursion_from_All (λ (t : Term). IsCovered e.vars t.lit.var) c.terms at.over

  pub clause_is_short : IsShort c
  clause_is_short = clause_short e.vars c (small_vars e marks d set next place at.held) at.clause clause_lits

  clause_is_normal : IsWellFormedRow c
  clause_is_normal = clause_normal e.vars c at.clause clause_lits (small_vars e marks d set next place at.held)

  module _ (row : PlainRow) (names : List ℕ) (divisor : ℕ) (is : IsClauseOf (is_other (set_before marks k) l) (row_at place e.held) row names divisor) where
    normal_reason : IsWellFormedRow (row_at place e.held)
    normal_reason = (kept e marks d set next place at.held).normal

    pub reason_is_short : IsShort row
    reason_is_short = subst IsShort (sym is.row) (reason_short e.vars (small_vars e marks d set next place at.held) (set_before marks k) l (row_at place e.held) normal_reason (over_lits e marks d set next place at.held) propagates_before)

    reason_is_normal : IsWellFormedRow row
    reason_is_normal = subst IsWellFormedRow (sym is.row) (reason_normal e.vars (small_vars e marks d set next place at.held) (set_before marks k) l (row_at place e.held) normal_reason (over_lits e marks d set next place at.held) propagates_before)

    factor_there : IsFactor divisor
    factor_there = factor e marks d set next place at.held (is_other (set_before marks k) l) row names divisor is (reason_left (set_before marks k) l (row_at place e.held) normal_reason.rising propagates_before)

    made_by : divide divisor (saturate (weaken_all names (row_at place e.held))) ≡ row
    made_by = clause_by e marks d set next place at.held (is_other (set_before marks k) l) row names divisor is

    sum_fits : Fits (add c (divide divisor (saturate (weaken_all names (row_at place e.held)))))
    sum_fits = subst (λ (r : PlainRow). Fits (add c r)) (sym made_by) (short_sum_fits c row clause_is_normal reason_is_normal clause_is_short reason_is_short)

    module _ (id tag : RowNo) (live : row_of id.0 d.state.live ≡ Some c) (tag_is : tag.0 ≡ tag_at place e.held) (steps : List PolStep) (are : steps ≡ resolve_steps id tag names divisor) where
      last_good : AreGood (Saturate ∷ Divide (pos divisor) ∷ Add ∷ Saturate ∷ []) (2 + (40 + (2 + 2)))
      last_good = good_append (Saturate ∷ []) (Divide (pos divisor) ∷ Add ∷ Saturate ∷ []) 2 (40 + (2 + 2)) saturate_good
          (good_append (Divide (pos divisor) ∷ []) (Add ∷ Saturate ∷ []) 40 (2 + 2) (divide_good divisor factor_there.some factor_there.small) (good_append (Add ∷ []) (Saturate ∷ []) 2 2 add_good saturate_good))

      pub resolve_writable : IsWritable (Pol steps)
      resolve_writable = subst (λ (s : List PolStep). IsWritable (Pol s)) (sym are)
          (good_writable (Id id) (Id tag ∷ (weakenings names ++ Saturate ∷ Divide (pos divisor) ∷ Add ∷ Saturate ∷ [])) (19 + (19 + (10 * length names + (2 + (40 + (2 + 2))))))
          (good_append (Id id ∷ []) (Id tag ∷ (weakenings names ++ Saturate ∷ Divide (pos divisor) ∷ Add ∷ Saturate ∷ [])) 19 (19 + (10 * length names + (2 + (40 + (2 + 2)))))
          (live_good d.state.live d.state.next set.numbered (omega (arith, next)) id c live)
          (good_append (Id tag ∷ []) (weakenings names ++ Saturate ∷ Divide (pos divisor) ∷ Add ∷ Saturate ∷ []) 19 (10 * length names + (2 + (40 + (2 + 2))))
          (tag_good e marks d set next place at.held (is_other (set_before marks k) l) row names divisor is tag tag_is)
          (good_append (weakenings names) (Saturate ∷ Divide (pos divisor) ∷ Add ∷ Saturate ∷ []) (10 * length names) (2 + (40 + (2 + 2))) (weakened_good e marks d set next place at.held (is_other (set_before marks k) l) row names divisor is) last_good)))
          (omega (arith, names_few e marks d set next place at.held (is_other (set_before marks k) l) row names divisor is, set.few)))

      pub resolve_made : (after : PlainRow) → after ≡ saturate (add c row) → pol_row (pair_count d.lists) d.state.live steps ≡ Ok after
      resolve_made after e' = subst (λ (s : List PolStep). pol_row (pair_count d.lists) d.state.live s ≡ Ok after) (sym are)
          (resolve_ties (pair_count d.lists) d.state.live id tag c (row_at place e.held) names divisor live (tag_live e d place tag.0 set.agree at.held tag_is) normal_reason.fits
          (names_known e marks d set next place at.held (is_other (set_before marks k) l) row names divisor is) factor_there sum_fits
          ∙ ap (λ (r : PlainRow). Ok (saturate (add c r))) made_by ∙ ap (λ (r : PlainRow). Ok r) (sym e'))

      pub resolve_known : (first : ℕ) → first ≤ id.0 → All (IsKnownStep d.held first) steps
      resolve_known first low = subst (All (IsKnownStep d.held first)) (sym are)
          (All-cons (IsKnownStep d.held first) (Id id) (Id tag ∷ (weakenings names ++ Saturate ∷ Divide (pos divisor) ∷ Add ∷ Saturate ∷ [])) (or_right _ _ (le-leb first id.0 low))
          (All-cons (IsKnownStep d.held first) (Id tag) (weakenings names ++ Saturate ∷ Divide (pos divisor) ∷ Add ∷ Saturate ∷ []) (known_tag e marks d set next place at.held tag tag_is first)
          (known_rest d.held first names (Saturate ∷ Divide (pos divisor) ∷ Add ∷ Saturate ∷ [])
          (All-cons (IsKnownStep d.held first) Saturate (Divide (pos divisor) ∷ Add ∷ Saturate ∷ []) tt
          (All-cons (IsKnownStep d.held first) (Divide (pos divisor)) (Add ∷ Saturate ∷ []) tt
          (All-cons (IsKnownStep d.held first) Add (Saturate ∷ []) tt (All-cons (IsKnownStep d.held first) Saturate [] tt (All-nil (IsKnownStep d.held first)))))))))

    pub resolve_is_row : (after : PlainRow) → after ≡ saturate (add c row) → after ≡ saturate (add c (reason_clause (history_to k e) l (row_at place e.held)))
    resolve_is_row after e' = e' ∙ ap (λ (r : PlainRow). saturate (add c r)) (is.row ∙ ap (λ (s : Literals). as_clause (weakened (is_other s l) (row_at place e.held))) before_is)
