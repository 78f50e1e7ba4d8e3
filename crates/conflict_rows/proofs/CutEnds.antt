-- How the cut rows end: in a row that is finished, in a contradiction, or where a number passes the most.
use Rattle.std.proofs.Common.{◌≡◌, ◌<◌, ℕ, Bool, true, false, nat_lt, ◌||◌, if◌then◌else◌, List, [], ◌∷◌, ◌++◌, refl, sym, ◌∙◌, ap, subst, inl, inr, arith, append_assoc}
use Rattle.std.specs.Prelude.{Option, Some, None}
use Rattle.std.specs.List.{find}
use Rattle.std.proofs.lemmas.Bool.{cases_Bool, false_from_ne_true, ltb-true, ltb-false, or_cases}
use Rattle.hrt_base.specs.declared.literal.Lit.{Lit}
use Rattle.hrt_base.specs.declared.literal.Term.{Term}
use Rattle.pb_rows.specs.Terms.{PlainRow, coef_sum, opposite_lit, positive_part}
use Rattle.pb_rows.specs.Rows.{Fits, IsShort, IsWellFormedRow, add}
use Rattle.pb_rows.specs.Closure.{Literals, is_same_lit, nonfalse_sum}
use Rattle.propagation.proofs.Sets.{lit_cases, lit_is}
use Rattle.conflict_rows.specs.Trail.{IsGrounded, IsReason, IsTrail, Placed, has, on, weight_of}
use Rattle.conflict_rows.specs.CutRows.{Contradiction, Cutting, Finished, Going, Passed, cut_along, cut_at, cut_by, cut_end, finished, finished_level, judged, most, passed_by, product, unless_passed}
use Rattle.conflict_rows.proofs.Literals.{Each, each, each₂, has_true, opposite-opposite, rising_weights, weight_here, weight_there}
use Rattle.conflict_rows.proofs.OpenSums.{open-all}
use Rattle.conflict_rows.proofs.Nets.{Lits}
use Rattle.conflict_rows.proofs.Trails.{on-consistent, on-head, on-tail, on-within, trail_rest}
use Rattle.conflict_rows.proofs.CutStep.{IsCutRow, IsStep, multiple, next_row}
use Rattle.conflict_rows.proofs.FinishedAt.{decided_finished}

-- ---- what each state of the sequence keeps

pub record IsGoing (whole rest : List Placed) (c : PlainRow) : Type 0 where
  pub row : IsCutRow (on whole) (on rest) c
  pub within : IsShort c
  pub going : judged whole c ≡ Going c

pub record IsFinished (whole : List Placed) (c : PlainRow) (level : ℕ) : Type 0 where
  pub normal : IsWellFormedRow c
  pub falsified : nonfalse_sum (on whole) c.terms < c.degree
  pub within : IsShort c
  pub finished : finished_level whole c ≡ Some level

abbrev pub Stands : List Placed → List Placed → Cutting → Type 0
Stands whole rest (Going c) = IsGoing whole rest c
Stands whole rest (Finished c level) = IsFinished whole c level
Stands whole rest (Contradiction c) = coef_sum c.terms < c.degree
Stands whole rest (Passed number) = most < number

-- ---- judging a row

finished_stands : (whole rest : List Placed) (c : PlainRow) (o : Option ℕ) → IsCutRow (on whole) (on rest) c → IsShort c → nat_lt (coef_sum c.terms) c.degree ≡ false → finished_level whole c ≡ o → Stands whole rest (finished c o)
finished_stands whole rest c None r w e f = record { row = r; within = w; going = rw (e, f) refl }
finished_stands whole rest c (Some level) r w e f = record { normal = r.normal; falsified = r.falsified; within = w; finished = f }

pub judged_stands : (whole rest : List Placed) (c : PlainRow) → IsCutRow (on whole) (on rest) c → IsShort c → Stands whole rest (judged whole c)
judged_stands whole rest c r w = elim (cases_Bool (nat_lt (coef_sum c.terms) c.degree)) [
  | inl e ↦ rw e (ltb-true (coef_sum c.terms) c.degree e)
  | inr e ↦ rw e (finished_stands whole rest c (finished_level whole c) r w e refl)
]

going_by : (c : PlainRow) (b : Bool) (o : Option ℕ) → (if b then Contradiction c else finished c o) ≡ Going c → (b ≡ false) × (o ≡ None)
going_by c true o e = absurd (cc)
going_by c false None e = (refl, refl)
going_by c false (Some k) e = absurd (cc)

going_means : (whole : List Placed) (c : PlainRow) → judged whole c ≡ Going c → (nat_lt (coef_sum c.terms) c.degree ≡ false) × (finished_level whole c ≡ None)
going_means whole c e = going_by c (nat_lt (coef_sum c.terms) c.degree) (finished_level whole c) e

-- ---- numbers that pass

pub find_none : (test : ℕ → Bool) (n : ℕ) (ns : List ℕ) → find test (n ∷ ns) ≡ None → (test n ≡ false) × (find test ns ≡ None)
find_none test n ns e = by (test n) e
  where
    by : (b : Bool) → (if b then Some n else find test ns) ≡ None → (b ≡ false) × (find test ns ≡ None)
    by true e = absurd (cc)
    by false e = (refl, e)

find_some : (test : ℕ → Bool) (ns : List ℕ) (k : ℕ) → find test ns ≡ Some k → test k ≡ true
find_some test [] k e = absurd (cc)
find_some test (n ∷ ns) k e = by (test n) refl e (find_some test ns k)
  where
    by : (b : Bool) → test n ≡ b → (if b then Some n else find test ns) ≡ Some k → (find test ns ≡ Some k → test k ≡ true) → test k ≡ true
    by true t e again = let same : n ≡ k = cc in subst (λ (j : ℕ). test j ≡ true) same t
    by false t e again = again e

-- what none of them passing means
pub record AreWithin (multiple next : PlainRow) : Type 0 where
  pub multiple_within : IsShort multiple
  pub next_within : IsShort next

pub passed_none : (multiple next : PlainRow) → passed_by multiple next ≡ None → AreWithin multiple next
passed_none multiple next e =
    let a = find_none (nat_lt most) (coef_sum multiple.terms) (multiple.degree ∷ coef_sum next.terms ∷ next.degree ∷ []) e in
    let b = find_none (nat_lt most) multiple.degree (coef_sum next.terms ∷ next.degree ∷ []) a.1 in
    let c = find_none (nat_lt most) (coef_sum next.terms) (next.degree ∷ []) b.1 in
    let d = find_none (nat_lt most) next.degree [] c.1 in
    record {
      multiple_within = record { sum = ltb-false most (coef_sum multiple.terms) a.0; degree = ltb-false most multiple.degree b.0 };
      next_within = record { sum = ltb-false most (coef_sum next.terms) c.0; degree = ltb-false most next.degree d.0 };
    }

pub passed_some : (multiple next : PlainRow) (n : ℕ) → passed_by multiple next ≡ Some n → most < n
passed_some multiple next n e = ltb-true most n (find_some (nat_lt most) (coef_sum multiple.terms ∷ multiple.degree ∷ coef_sum next.terms ∷ next.degree ∷ []) n e)

fits_within : (c : PlainRow) → IsShort c → Fits c
fits_within c w = record { sum = omega (arith, w.sum); degree = omega (arith, w.degree) }

-- ---- a literal of the trail

pub lacks : (l : Lit) (ts : List Term) → Each (λ t. 0 < positive_part t.coef) ts → weight_of l ts ≡ 0 → Each (λ u. l ≡ u.lit → ⊥) ts
lacks l [] p h = tt
lacks l (t ∷ ts) p h = elim (lit_cases l t.lit) [
  | inl e ↦ absurd (omega (arith, weight_here l t ts e, p.0))
  | inr e ↦ (λ s. omega (arith, weight_here l t ts s, p.0), lacks l ts p.1 (sym (weight_there l t ts e) ∙ h))
]

without_term : (now before : Literals) (t : Lit) (u : Term) → (now (opposite_lit u.lit) ≡ true → (is_same_lit (opposite_lit u.lit) t || before (opposite_lit u.lit)) ≡ true) → (opposite_lit t ≡ u.lit → ⊥) →
    now (opposite_lit u.lit) ≡ true → before (opposite_lit u.lit) ≡ true
without_term now before t u h k n = elim (or_cases (is_same_lit (opposite_lit u.lit) t) (before (opposite_lit u.lit)) (h n)) [
  | inl e ↦ absurd (k (ap opposite_lit (sym (lit_is (opposite_lit u.lit) t e)) ∙ opposite-opposite u.lit))
  | inr e ↦ e
]

-- the step of a literal of the trail with its reason
pub step_of : (newer : List Placed) (e : Placed) (es : List Placed) → IsTrail (newer ++ e ∷ es) → (r : PlainRow) → IsReason es e.lit e.level r → IsStep (on (newer ++ e ∷ es)) (on es) e.lit r
step_of newer e es trail r h = record {
  consistent = on-consistent (newer ++ e ∷ es) trail;
  within = λ l m. on-within newer (e ∷ es) l (on-tail e es l m);
  true_now = on-within newer (e ∷ es) e.lit (on-head e es);
  normal = h.normal;
  propagates = h.propagates;
}

module _ (newer : List Placed) (e : Placed) (es : List Placed) (trail : IsTrail (newer ++ e ∷ es)) (c : PlainRow) (g : IsGoing (newer ++ e ∷ es) (e ∷ es) c) where
  -- a literal whose opposite doesn't stand in the row is passed over
  passed_over : has (opposite_lit e.lit) c.terms ≡ false → IsGoing (newer ++ e ∷ es) es c
  passed_over h =
      let now : Literals = on (newer ++ e ∷ es) in
      let none : weight_of (opposite_lit e.lit) c.terms ≡ 0 = omega (arith, ltb-false 0 (weight_of (opposite_lit e.lit) c.terms) h) in
      record {
        row = record {
          normal = g.row.normal;
          falsified = g.row.falsified;
          older = each₂ (λ u. now (opposite_lit u.lit) ≡ true → on (e ∷ es) (opposite_lit u.lit) ≡ true) (λ u. opposite_lit e.lit ≡ u.lit → ⊥) (λ u. now (opposite_lit u.lit) ≡ true → on es (opposite_lit u.lit) ≡ true)
              (λ u a b. without_term now (on es) e.lit u a b) c.terms g.row.older
              (lacks (opposite_lit e.lit) c.terms (rising_weights 0 c.terms g.row.normal.rising) none);
        };
        within = g.within;
        going = g.going;
      }

  unless_stands : (r : PlainRow) (h : IsReason es e.lit e.level r) (here : has (opposite_lit e.lit) c.terms ≡ true) (o : Option ℕ) →
      passed_by (product (newer ++ e ∷ es) es e.lit r c) (add c (product (newer ++ e ∷ es) es e.lit r c)) ≡ o →
      Stands (newer ++ e ∷ es) es (unless_passed o (judged (newer ++ e ∷ es) (add c (product (newer ++ e ∷ es) es e.lit r c))))
  unless_stands r h here (Some n) f = passed_some (product (newer ++ e ∷ es) es e.lit r c) (add c (product (newer ++ e ∷ es) es e.lit r c)) n f
  unless_stands r h here None f =
      let p : PlainRow = product (newer ++ e ∷ es) es e.lit r c in
      let w = passed_none p (add c p) f in
      judged_stands (newer ++ e ∷ es) es (add c p)
      (next_row (on (newer ++ e ∷ es)) (on es) e.lit r c (step_of newer e es trail r h) g.row (has_true (opposite_lit e.lit) c.terms here) (fits_within p w.multiple_within) (fits_within (add c p) w.next_within))
      w.next_within

  cut_stands : (reason : Option PlainRow) → IsGrounded es e.lit e.level reason → has (opposite_lit e.lit) c.terms ≡ true → Stands (newer ++ e ∷ es) es (cut_by (newer ++ e ∷ es) es e.lit reason c)
  cut_stands None h here = absurd (decided_finished newer e es c trail g.row.normal.rising g.row.falsified g.row.older here h (going_means (newer ++ e ∷ es) c g.going).1)
  cut_stands (Some r) h here = unless_stands r h here (passed_by (product (newer ++ e ∷ es) es e.lit r c) (add c (product (newer ++ e ∷ es) es e.lit r c))) refl

  pub step_stands : Stands (newer ++ e ∷ es) es (cut_at (newer ++ e ∷ es) es e (Going c))
  step_stands = elim (cases_Bool (has (opposite_lit e.lit) c.terms)) [
    | inl h ↦ rw h (cut_stands e.reason (trail_rest newer (e ∷ es) trail).0.grounded h)
    | inr h ↦ rw h (passed_over h)
  ]

step_any : (newer : List Placed) (e : Placed) (es : List Placed) → IsTrail (newer ++ e ∷ es) → (s : Cutting) → Stands (newer ++ e ∷ es) (e ∷ es) s → Stands (newer ++ e ∷ es) es (cut_at (newer ++ e ∷ es) es e s)
step_any newer e es trail (Going c) g = step_stands newer e es trail c g
step_any newer e es trail (Finished c level) g = g
step_any newer e es trail (Contradiction c) g = g
step_any newer e es trail (Passed n) g = g

along_stands : (whole newer rest : List Placed) → IsTrail whole → newer ++ rest ≡ whole → (s : Cutting) → Stands whole rest s → Stands whole [] (cut_along whole rest s)
along_stands whole newer [] trail is s g = g
along_stands whole newer (e ∷ es) trail is s g =
    along_stands whole (newer ++ e ∷ []) es trail (append_assoc newer (e ∷ []) es ∙ is) (cut_at whole es e s)
    (subst (λ (w : List Placed). IsTrail w → (s : Cutting) → Stands w (e ∷ es) s → Stands w es (cut_at w es e s)) is (step_any newer e es) trail s g)

-- ---- the end

-- the sequence has come to its end
abbrev pub Ends : List Placed → Cutting → Type 0
Ends whole (Going c) = ⊥
Ends whole (Finished c level) = IsFinished whole c level
Ends whole (Contradiction c) = coef_sum c.terms < c.degree
Ends whole (Passed number) = most < number

no_more : (whole : List Placed) (c : PlainRow) → IsGoing whole [] c → ⊥
no_more whole c g =
    let all : nonfalse_sum (on whole) c.terms ≡ coef_sum c.terms =
    open-all (on whole) c.terms (each (λ u. on whole (opposite_lit u.lit) ≡ true → on [] (opposite_lit u.lit) ≡ true) (λ u. on whole (opposite_lit u.lit) ≡ false)
    (λ u h. false_from_ne_true _ (λ n. let bad = h n in absurd (cc))) c.terms g.row.older) in
    omega (arith, all, ltb-false (coef_sum c.terms) c.degree (going_means whole c g.going).0, g.row.falsified)

at_end : (whole : List Placed) (s : Cutting) → Stands whole [] s → Ends whole s
at_end whole (Going c) g = no_more whole c g
at_end whole (Finished c level) g = g
at_end whole (Contradiction c) g = g
at_end whole (Passed n) g = g

-- The sequence of a falsified row ends.
pub cut_ends : (whole : List Placed) (c : PlainRow) → IsTrail whole → IsWellFormedRow c → IsShort c → nonfalse_sum (on whole) c.terms < c.degree → Ends whole (cut_end whole c)
cut_ends whole c trail n w f =
    at_end whole (cut_end whole c) (along_stands whole [] whole trail refl (judged whole c)
    (judged_stands whole whole c (record { normal = n; falsified = f; older = each_true c.terms }) w))
  where
    each_true : (ts : List Term) → Lits (λ l. on whole (opposite_lit l) ≡ true → on whole (opposite_lit l) ≡ true) ts
    each_true [] = tt
    each_true (t ∷ ts) = (λ h. h, each_true ts)
