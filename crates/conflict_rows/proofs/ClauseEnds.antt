-- How the clauses end: in the empty clause, or in one with just one literal of its newest level, which is above 0.
use Rattle.std.proofs.Common.{◌≡◌, ◌⊎◌, ◌≤◌, ◌<◌, ◌+◌, ◌^◌, ℕ, Bool, true, false, nat_lt, ◌==◌, ◌&&◌, ◌||◌, if◌then◌else◌, List, [], ◌∷◌, ◌++◌, filter, count_by, refl, sym, ◌∙◌, ap, subst, inl, inr, arith, append_assoc}
use Rattle.std.specs.Prelude.{Option, Some, None}
use Rattle.std.specs.List.{AllByRecursion}
use Rattle.std.proofs.lemmas.Bool.{and_from, cases_Bool, eq-eqb, ne_eqb, false_from_ne_true, lt-ltb, ltb-false, or_cases, or_left}
use Rattle.std.proofs.lemmas.List.Elements.{recursion_from_All}
use Rattle.std.proofs.lemmas.List.Sums.{sum_by-cons}
use Rattle.hrt_base.specs.declared.literal.Lit.{Lit}
use Rattle.hrt_base.specs.declared.literal.Term.{Term}
use Rattle.pb_rows.specs.Terms.{PlainRow, opposite_lit, positive_part}
use Rattle.pb_rows.specs.Rows.{IsWellFormedRow}
use Rattle.pb_rows.specs.Points.{IsCovered}
use Rattle.propagation.specs.Following.{IsOver}
use Rattle.pb_rows.specs.Closure.{Literals, is_same_lit, nonfalse_sum}
use Rattle.propagation.proofs.Sets.{lit_cases, lit_is, lit_itself}
use Rattle.conflict_rows.specs.Trail.{IsGrounded, IsTrail, Placed, at_level, has, on, top_level, weight_of}
use Rattle.conflict_rows.specs.Ends.{AreReasonsOver, IsReasonOver}
use Rattle.conflict_rows.specs.CutRows.{newest_level}
use Rattle.conflict_rows.specs.ClauseRows.{conflict_clause, count_at, has_none, is_last, is_nonfalse, last_clause, resolve_along, resolve_at, resolved_by}
use Rattle.conflict_rows.proofs.Literals.{Each, each, each₂, has_true, opposite-opposite, rising_weights}
use Rattle.conflict_rows.proofs.Nets.{Lits}
use Rattle.conflict_rows.proofs.Trails.{levels_below, on-tail, on-within, trail_rest}
use Rattle.conflict_rows.proofs.Weakened.{others, others_rising}
use Rattle.conflict_rows.proofs.CutEnds.{lacks, step_of}
use Rattle.conflict_rows.proofs.FinishedAt.{newest_is}
use Rattle.conflict_rows.specs.Standing.{IsClauseRow}
use Rattle.conflict_rows.proofs.ClauseStep.{clause_of_ones, conflict_false, conflict_is, next_clause_row, ones_lits, others_lits, weight_one}

-- ---- how many literals became false at a level

abbrev pub false_at : List Placed → ℕ → Literals
false_at whole k = on (at_level k whole)

at_level-sub : (whole : List Placed) (k : ℕ) (l : Lit) → false_at whole k l ≡ true → on whole l ≡ true
at_level-sub [] k l h = h
at_level-sub (e ∷ es) k l h = elim (cases_Bool (e.level == k)) [
  | inl y ↦ elim (or_cases (is_same_lit l e.lit) (false_at es k l) (rw y at h)) [ inl a ↦ or_left _ _ a | inr a ↦ on-tail e es l (at_level-sub es k l a) ]
  | inr y ↦ on-tail e es l (at_level-sub es k l (rw y at h))
]

sub_of : (whole : List Placed) (k : ℕ) (l : Lit) → on whole l ≡ false → false_at whole k l ≡ false
sub_of whole k l h = false_from_ne_true _ (λ a. let yes = at_level-sub whole k l a in cc)

none_at : (es : List Placed) (k : ℕ) (l : Lit) → AllByRecursion (λ f. f.level < k) es → false_at es k l ≡ false
none_at [] k l h = refl
none_at (f ∷ fs) k l h = let other : (f.level == k) ≡ false = ne_eqb f.level k (λ e. omega (arith, h.0, e)) in rw other (none_at fs k l h.1)

lower : (es : List Placed) (top k : ℕ) → top < k → AllByRecursion (λ f. f.level ≤ top) es → AllByRecursion (λ f. f.level < k) es
lower [] top k l h = tt
lower (f ∷ fs) top k l h = (omega (arith, h.0), lower fs top k l h.1)

-- of what was there when a literal was decided, that literal alone stands at its level
decided_level : (newer : List Placed) (e : Placed) (es : List Placed) (l : Lit) → IsTrail (newer ++ e ∷ es) → e.level ≡ top_level es + 1 → on (e ∷ es) l ≡ true → false_at (newer ++ e ∷ es) e.level l ≡ is_same_lit l e.lit
decided_level [] e es l t o h =
    let here : (e.level == e.level) ≡ true = eq-eqb e.level e.level refl in
    rw here (or_false (is_same_lit l e.lit) (none_at es e.level l (lower es (top_level es) e.level (omega arith) (levels_below es t.1))))
  where
    or_false : (b : Bool) {c : Bool} → c ≡ false → (b || c) ≡ b
    or_false true z = refl
    or_false false z = z
decided_level (f ∷ fs) e es l t o h = elim (cases_Bool (f.level == e.level)) [
  | inl y ↦ rw y (pass (apart (lit_cases l f.lit)) (decided_level fs e es l t.1 o h))
  | inr y ↦ rw y (decided_level fs e es l t.1 o h)
]
  where
    pass : {a b c : Bool} → a ≡ false → b ≡ c → (a || b) ≡ c
    pass z w = rw z w

    apart : (l ≡ f.lit) ⊎ (is_same_lit l f.lit ≡ false) → is_same_lit l f.lit ≡ false
    apart (inl e1) = (let there : on (fs ++ e ∷ es) f.lit ≡ true = on-within fs (e ∷ es) f.lit (subst (λ (k : Lit). on (e ∷ es) k ≡ true) e1 h) in let fresh = t.0.untrue in absurd (cc))
    apart (inr e1) = e1

flip : (a t : Lit) → is_same_lit (opposite_lit a) t ≡ is_same_lit (opposite_lit t) a
flip a t = elim (cases_Bool (is_same_lit (opposite_lit a) t)) [
  | inl y ↦
      let same : a ≡ opposite_lit t = sym (opposite-opposite a) ∙ ap opposite_lit (lit_is (opposite_lit a) t y) in
      y ∙ sym (subst (λ (k : Lit). is_same_lit (opposite_lit t) k ≡ true) (sym same) (lit_itself (opposite_lit t)))
  | inr y ↦ y ∙ sym (false_from_ne_true _ (λ z.
      let same : opposite_lit a ≡ t = ap opposite_lit (sym (lit_is (opposite_lit t) a z)) ∙ opposite-opposite t in
      let yes : is_same_lit (opposite_lit a) t ≡ true = subst (λ (k : Lit). is_same_lit (opposite_lit a) k ≡ true) same (lit_itself (opposite_lit a)) in
      cc))
]

count_step : (a b : Bool) (w m n : ℕ) → a ≡ b → w ≡ 1 → m ≡ n → (if a then 1 else 0) + m ≡ (if b then w else 0) + n
count_step true true w m n e f g = omega arith
count_step false false w m n e f g = omega arith
count_step true false w m n e f g = absurd (cc)
count_step false true w m n e f g = absurd (cc)

count_weight : (test : Term → Bool) (l : Lit) (ts : List Term) → Each (λ u. positive_part u.coef ≡ 1) ts → Each (λ u. test u ≡ is_same_lit l u.lit) ts → count_by test ts ≡ weight_of l ts
count_weight test l [] o h = refl
count_weight test l (t ∷ ts) o h = sum_by-cons (λ u. if test u then 1 else 0) t ts ∙ count_step (test t) (is_same_lit l t.lit) (positive_part t.coef) (count_by test ts) (weight_of l ts) h.0 o.0 (count_weight test l ts o.1 h.1)

-- ---- a decided literal is met in the last clause alone

module _ (n : ℕ) (newer : List Placed) (e : Placed) (es : List Placed) (c : PlainRow) (trail : IsTrail (newer ++ e ∷ es))
    (row : IsClauseRow n (on (newer ++ e ∷ es)) (on (e ∷ es)) c) (here : has (opposite_lit e.lit) c.terms ≡ true) (opens : e.level ≡ top_level es + 1) where
  newest_here : newest_level (newer ++ e ∷ es) c ≡ e.level
  newest_here = newest_is (on (newer ++ e ∷ es)) c newer e es trail (λ l m. m)
      (each (λ u. on (e ∷ es) (opposite_lit u.lit) ≡ true) (λ u. on (newer ++ e ∷ es) (opposite_lit u.lit) ≡ true → on (e ∷ es) (opposite_lit u.lit) ≡ true) (λ u h k. h) c.terms row.older) here

  one_there : count_at (newer ++ e ∷ es) e.level c ≡ 1
  one_there =
      count_weight (λ u. false_at (newer ++ e ∷ es) e.level (opposite_lit u.lit)) (opposite_lit e.lit) c.terms row.clause.ones
      (each (λ u. on (e ∷ es) (opposite_lit u.lit) ≡ true) (λ u. false_at (newer ++ e ∷ es) e.level (opposite_lit u.lit) ≡ is_same_lit (opposite_lit e.lit) u.lit)
      (λ u h. decided_level newer e es (opposite_lit u.lit) trail opens h ∙ flip u.lit e.lit) c.terms row.older)
      ∙ weight_one (opposite_lit e.lit) 0 c.terms row.clause.rising row.clause.ones (has_true (opposite_lit e.lit) c.terms here)

  pub decided_last : is_last (newer ++ e ∷ es) c ≡ true
  decided_last = last_by (has_none c.terms) _ _ (subst (λ (k : ℕ). nat_lt 0 k ≡ true) (sym newest_here) (lt-ltb 0 e.level (omega arith)))
      (subst (λ (k : ℕ). (count_at (newer ++ e ∷ es) k c == 1) ≡ true) (sym newest_here) (eq-eqb (count_at (newer ++ e ∷ es) e.level c) 1 one_there))
    where
      last_by : (a b d : Bool) → b ≡ true → d ≡ true → (a || (b && d)) ≡ true
      last_by true b d f g = refl
      last_by false b d f g = and_from b d f g

-- ---- the sequence

-- a last clause, or one whose literals were all false when a rest of the trail was there
pub data ClauseState (n : ℕ) (whole rest : List Placed) (c : PlainRow) : Type 0 where
  Last : (row : IsClauseRow n (on whole) (on whole) c) → is_last whole c ≡ true → ClauseState n whole rest c
  More : (row : IsClauseRow n (on whole) (on rest) c) → ClauseState n whole rest c

-- its literals are false now
at_now : (n : ℕ) (now before : Literals) (c : PlainRow) → IsClauseRow n now before c → IsClauseRow n now now c
at_now n now before c r = record { clause = r.clause; false_now = r.false_now; older = r.false_now; over = r.over }

pub passed_over : (n : ℕ) (now : Literals) (e : Placed) (es : List Placed) (c : PlainRow) → IsClauseRow n now (on (e ∷ es)) c → has (opposite_lit e.lit) c.terms ≡ false → IsClauseRow n now (on es) c
passed_over n now e es c r h =
    let none : weight_of (opposite_lit e.lit) c.terms ≡ 0 = omega (arith, ltb-false 0 (weight_of (opposite_lit e.lit) c.terms) h) in
    record {
      clause = r.clause;
      false_now = r.false_now;
      older = each₂ (λ u. on (e ∷ es) (opposite_lit u.lit) ≡ true) (λ u. opposite_lit e.lit ≡ u.lit → ⊥) (λ u. on es (opposite_lit u.lit) ≡ true)
          (λ u a b. elim (or_cases (is_same_lit (opposite_lit u.lit) e.lit) (on es (opposite_lit u.lit)) a) [
            | inl s ↦ absurd (b (ap opposite_lit (sym (lit_is (opposite_lit u.lit) e.lit s)) ∙ opposite-opposite u.lit))
            | inr s ↦ s
          ]) c.terms r.older (lacks (opposite_lit e.lit) c.terms (rising_weights 0 c.terms r.clause.rising) none);
      over = r.over;
    }

module _ (n : ℕ) (small : n < 2 ^ 32) (newer : List Placed) (e : Placed) (es : List Placed) (trail : IsTrail (newer ++ e ∷ es)) (over : IsReasonOver n e.reason) (c : PlainRow)
    (row : IsClauseRow n (on (newer ++ e ∷ es)) (on (e ∷ es)) c) where
  resolved : (reason : Option PlainRow) → IsGrounded es e.lit e.level reason → IsReasonOver n reason → has (opposite_lit e.lit) c.terms ≡ true → is_last (newer ++ e ∷ es) c ≡ false →
      ClauseState n (newer ++ e ∷ es) es (resolved_by es e.lit reason c)
  resolved None h o here not_last = (let last = decided_last n newer e es c trail row here h in absurd (cc))
  resolved (Some r) h o here not_last =
      More (next_clause_row n small (on (newer ++ e ∷ es)) (on es) e.lit r c (step_of newer e es trail r h) (recursion_from_All (λ (u : Term). IsCovered n u.lit.var) r.terms o) row (has_true (opposite_lit e.lit) c.terms here))

  pub step_state : ClauseState n (newer ++ e ∷ es) es (resolve_at (newer ++ e ∷ es) es e c)
  step_state = elim (cases_Bool (is_last (newer ++ e ∷ es) c)) [
    | inl last ↦ rw last (Last (at_now n (on (newer ++ e ∷ es)) (on (e ∷ es)) c row) last)
    | inr more ↦ rw more (elim (cases_Bool (has (opposite_lit e.lit) c.terms)) [
      | inl h ↦ rw h (resolved e.reason (trail_rest newer (e ∷ es) trail).0.grounded over h more)
      | inr h ↦ rw h (More (passed_over n (on (newer ++ e ∷ es)) e es c row h))
    ])
  ]

step_any : (n : ℕ) → n < 2 ^ 32 → (newer : List Placed) (e : Placed) (es : List Placed) → IsReasonOver n e.reason → IsTrail (newer ++ e ∷ es) → (c : PlainRow) →
    ClauseState n (newer ++ e ∷ es) (e ∷ es) c → ClauseState n (newer ++ e ∷ es) es (resolve_at (newer ++ e ∷ es) es e c)
step_any n small newer e es over trail c (More row) = step_state n small newer e es trail over c row
step_any n small newer e es over trail c (Last row last) = rw last (Last row last)

along_state : (n : ℕ) → n < 2 ^ 32 → (whole newer rest : List Placed) → IsTrail whole → newer ++ rest ≡ whole → AreReasonsOver n rest → (c : PlainRow) → ClauseState n whole rest c → ClauseState n whole [] (resolve_along whole rest c)
along_state n small whole newer [] trail is over c s = s
along_state n small whole newer (e ∷ es) trail is over c s =
    along_state n small whole (newer ++ e ∷ []) es trail (append_assoc newer (e ∷ []) es ∙ is) over.1 (resolve_at whole es e c)
    (subst (λ (w : List Placed). IsTrail w → (c : PlainRow) → ClauseState n w (e ∷ es) c → ClauseState n w es (resolve_at w es e c)) is (step_any n small newer e es over.0) trail c s)

-- ---- the end

-- a clause whose literals are all false, and the last
pub record IsLastClause (n : ℕ) (whole : List Placed) (c : PlainRow) : Type 0 where
  pub row : IsClauseRow n (on whole) (on whole) c
  pub last : is_last whole c ≡ true

no_terms : (ts : List Term) → Lits (λ l. on [] (opposite_lit l) ≡ true) ts → has_none ts ≡ true
no_terms [] h = refl
no_terms (t ∷ ts) h = absurd (cc)

at_end : (n : ℕ) (whole : List Placed) (c : PlainRow) → ClauseState n whole [] c → IsLastClause n whole c
at_end n whole c (Last row last) = record { row = row; last = last }
at_end n whole c (More row) =
    let none : has_none c.terms ≡ true = no_terms c.terms row.older in
    record { row = at_now n (on whole) (on []) c row; last = rw none refl }

pub conflict_row : (n : ℕ) (whole : List Placed) (c : PlainRow) → IsWellFormedRow c → Lits (λ l. IsCovered n l.var) c.terms → nonfalse_sum (on whole) c.terms < c.degree → IsClauseRow n (on whole) (on whole) (conflict_clause whole c)
conflict_row n whole c m o f =
    let now : Literals = on whole in
    subst (IsClauseRow n now now) (sym (conflict_is now c m f)) (record {
      clause = clause_of_ones (others (is_nonfalse now) c.terms) (others_rising (is_nonfalse now) 0 c.terms m.rising);
      false_now = conflict_false now c.terms;
      older = conflict_false now c.terms;
      over = ones_lits (λ l. IsCovered n l.var) (others (is_nonfalse now) c.terms) (others_lits (λ l. IsCovered n l.var) (is_nonfalse now) c.terms o);
    })

-- The clauses of a falsified row end.
pub clauses_end : (n : ℕ) → n < 2 ^ 32 → (whole : List Placed) (c : PlainRow) → IsTrail whole → AreReasonsOver n whole → IsWellFormedRow c → IsOver n c → nonfalse_sum (on whole) c.terms < c.degree →
    IsLastClause n whole (last_clause whole c)
clauses_end n small whole c trail over m o f = at_end n whole (last_clause whole c) (along_state n small whole [] whole trail refl over (conflict_clause whole c) (More (conflict_row n whole c m (recursion_from_All (λ (u : Term). IsCovered n u.lit.var) c.terms o) f)))
