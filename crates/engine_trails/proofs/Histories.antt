-- The history of an engine is a trail.
use Rattle.std.proofs.Common.{◌≡◌, ◌≤◌, ◌<◌, ◌+◌, ◌-◌, ◌==◌, ℕ, zero, suc, Bool, true, false, nat_le, ◌||◌, if◌then◌else◌, List, [], ◌∷◌, ◌++◌, refl, sym, ◌∙◌, ap, subst, inl, inr, arith}
use Rattle.std.specs.Prelude.{Option, Some, None, is_none}
use Rattle.std.specs.List.{AllByRecursion, IsDistinct}
use Rattle.std.proofs.lemmas.Bool.{and_parts, cases_Bool, false_from_ne_true, le-leb, lt-leb, ne_eqb, not-true, or_from, or_left, or_parts, or_right}
use Rattle.std.proofs.lemmas.List.Elements.{All-contains, All-from_recursion, All-nil, recursion_from_All}
use Rattle.std.proofs.lemmas.List.Folds.{list_any-append}
use Rattle.hrt_base.specs.declared.literal.Lit.{Lit}
use Rattle.hrt_base.specs.declared.literal.Term.{Term}
use Rattle.pb_rows.specs.Terms.{IsRisingFrom, PlainRow, opposite_lit, positive_part}
use Rattle.pb_rows.specs.Rows.{IsWellFormedRow}
use Rattle.pb_rows.specs.Points.{IsCovered}
use Rattle.pb_rows.specs.Closure.{Literals, among, is_same_lit}
use Rattle.propagation.specs.Tables.{AreConsistent}
use Rattle.propagation.specs.Following.{IsOver}
use Rattle.propagation.proofs.Sets.{lit_apart, lit_is, lit_itself}
use Rattle.row_arena.specs.Held.{Held, IsKept, is_held, no_row, row_at}
use Rattle.pb_propagate.specs.Entries.{Entry, is_decision, level_of, lits_of, set_of}
use Rattle.pb_propagate.specs.Entries as entries
use Rattle.pb_propagate.specs.Open.{AreJustified, IsJustified, PropagatesLit}
use Rattle.conflict_rows.specs.Trail.{IsGrounded, IsTrail, PropagatesLiteral, Placed, on, top_level, up_to, weight_of}
use Rattle.conflict_rows.specs.Ends.{AreReasonsOver, IsReasonOver}
use Rattle.conflict_rows.proofs.Literals.{rising_weights}
use Rattle.conflict_rows.proofs.FinishedRows.{own_weight}
use Rattle.engine_trails.specs.History.{placed, placed_all, reason_row}
use Rattle.engine_trails.specs.Histories.{HistoriesAreTrails}

-- ---- rows

row_here : (x : Held) (held : List Held) (p : ℕ) → (p == x.place) ≡ true → row_at p (x ∷ held) ≡ x.row
row_here x held p e = rw e refl

row_there : (x : Held) (held : List Held) (p : ℕ) → (p == x.place) ≡ false → row_at p (x ∷ held) ≡ row_at p held
row_there x held p e = rw e refl

-- a kept row at a held place
held_kept : (n : ℕ) (held : List Held) (p : ℕ) → AllByRecursion (λ (h : Held). IsKept n h.row) held → is_held p held ≡ true → IsKept n (row_at p held)
held_kept n [] p a h = absurd (cc)
held_kept n (x ∷ held) p a h = elim (cases_Bool (p == x.place)) [
  | inl e ↦ subst (IsKept n) (sym (row_here x held p e)) a.0
  | inr e ↦ subst (IsKept n) (sym (row_there x held p e)) (held_kept n held p a.1 (rw e at h))
]

-- the row at any place is over the variables
over_at : (n : ℕ) (held : List Held) (p : ℕ) → AllByRecursion (λ (h : Held). IsKept n h.row) held → IsOver n (row_at p held)
over_at n [] p a = All-nil (λ (t : Term). IsCovered n t.lit.var)
over_at n (x ∷ held) p a = elim (cases_Bool (p == x.place)) [
  | inl e ↦ subst (IsOver n) (sym (row_here x held p e)) a.0.over
  | inr e ↦ subst (IsOver n) (sym (row_there x held p e)) (over_at n held p a.1)
]

pub reason_over : (n : ℕ) (held : List Held) (reason : Option ℕ) → AllByRecursion (λ (h : Held). IsKept n h.row) held → IsReasonOver n (reason_row held reason)
reason_over n held None a = tt
reason_over n held (Some p) a = over_at n held p a

reasons_over : (n : ℕ) (held : List Held) (before : List Placed) (es : List Entry) → AllByRecursion (λ (h : Held). IsKept n h.row) held → AreReasonsOver n before → AreReasonsOver n (placed_all held before es)
reasons_over n held before [] a b = b
reasons_over n held before (e ∷ es) a b = reasons_over n held (placed held before e ∷ before) es a (reason_over n held e.reason a, b)

-- what a row propagates, by its coefficient
propagates_from : (set : Literals) (r : PlainRow) (l : Lit) → IsWellFormedRow r → PropagatesLit set r l → PropagatesLiteral set r l
propagates_from set r l n p =
    let w : weight_of p.term.lit r.terms ≡ positive_part p.term.coef = All-contains (λ t. weight_of t.lit r.terms ≡ positive_part t.coef) r.terms p.term (All-from_recursion (λ t. weight_of t.lit r.terms ≡ positive_part t.coef) r.terms (own_weight 0 r.terms n.rising)) p.has in
    let g : 0 < positive_part p.term.coef = All-contains (λ t. 0 < positive_part t.coef) r.terms p.term (All-from_recursion (λ t. 0 < positive_part t.coef) r.terms (rising_weights 0 r.terms n.rising)) p.has in
    let free = and_parts _ _ p.propagates.free in
    let h = p.propagates.exceeds in
    subst (λ (k : Lit). PropagatesLiteral set r k) p.lit (record { untrue = not-true _ free.0; unfalse = not-true _ free.1; stands = omega (arith, w, g); exceeds = omega (arith, w, h) })

-- ---- the trail, entry by entry

-- both hold the same literals
abbrev Same : List Placed → List Lit → Type 0
Same before lits = (l : Lit) → on before l ≡ among lits l

same_set : (before : List Placed) (lits : List Lit) → Same before lits → ◌≡◌ {A = Literals} (on before) (among lits)
same_set before lits h = λ i l. h l i

more_same : (held : List Held) (before : List Placed) (lits : List Lit) (e : Entry) → Same before lits → Same (placed held before e ∷ before) (lits ++ e.lit ∷ [])
more_same held before lits e h l = ap (λ b. is_same_lit l e.lit || b) (h l) ∙ turn (is_same_lit l e.lit) (among lits l) ∙ sym (list_any-append (is_same_lit l) lits (e.lit ∷ []))
  where
    turn : (a b : Bool) → (a || b) ≡ (b || (a || false))
    turn true true = refl
    turn true false = refl
    turn false true = refl
    turn false false = refl

-- the literals that are still to come are free, and differ
abbrev Comes : List Lit → List Entry → Type 0
Comes lits [] = Unit {0}
Comes lits (e ∷ entries) = (among lits e.lit ≡ false) × (among lits (opposite_lit e.lit) ≡ false) × Comes (lits ++ e.lit ∷ []) entries

grounded : (n : ℕ) (held : List Held) (before : List Placed) (lits : List Lit) (l : Lit) (reason : Option ℕ) → AllByRecursion (λ (h : Held). IsKept n h.row) held → Same before lits → IsJustified held lits l reason →
    IsGrounded before l (top_level before + (if is_none reason then 1 else 0)) (reason_row held reason)
grounded n held before lits l None k s j = refl
grounded n held before lits l (Some p) k s j =
    let kept = (held_kept n held p k j.stands).normal in
    record { level_is = omega arith; normal = kept; propagates = subst (λ (set : Literals). PropagatesLiteral set (row_at p held) l) (sym (same_set before lits s)) (propagates_from (among lits) (row_at p held) l kept j.propagates) }

placed_trail : (n : ℕ) (held : List Held) (before : List Placed) (lits : List Lit) (es : List Entry) → AllByRecursion (λ (h : Held). IsKept n h.row) held → IsTrail before → Same before lits → AreJustified held lits es → Comes lits es →
    IsTrail (placed_all held before es)
placed_trail n held before lits [] k t s j c = t
placed_trail n held before lits (e ∷ es) k t s j c =
    placed_trail n held (placed held before e ∷ before) (lits ++ e.lit ∷ []) es k
    (record { untrue = s e.lit ∙ c.0; unfalse = s (opposite_lit e.lit) ∙ c.1; grounded = grounded n held before lits e.lit e.reason k s j.0 }, t)
    (more_same held before lits e s) j.1 c.2

-- ---- sets and levels

regroup : (xs : List Lit) (y : Lit) (zs : List Lit) → (xs ++ y ∷ []) ++ zs ≡ xs ++ y ∷ zs
regroup [] y zs = refl
regroup (x ∷ xs) y zs = ap (λ ys. x ∷ ys) (regroup xs y zs)

pub placed_same : (held : List Held) (before : List Placed) (lits : List Lit) (es : List Entry) → Same before lits → Same (placed_all held before es) (lits ++ lits_of es)
placed_same held before lits [] s l = s l ∙ ap (λ ls. among ls l) (sym (append_none lits))
  where
    append_none : (ls : List Lit) → ls ++ [] ≡ ls
    append_none [] = refl
    append_none (x ∷ xs) = ap (λ ys. x ∷ ys) (append_none xs)
placed_same held before lits (e ∷ es) s l = placed_same held (placed held before e ∷ before) (lits ++ e.lit ∷ []) es (more_same held before lits e s) l ∙ ap (λ ls. among ls l) (regroup lits e.lit (lits_of es))

placed_level : (held : List Held) (before : List Placed) (es : List Entry) → top_level (placed_all held before es) ≡ top_level before + level_of es
placed_level held before [] = omega arith
placed_level held before (e ∷ es) = placed_level held (placed held before e ∷ before) es ∙ omega arith

-- what comes later has a level of at least that
later : (held : List Held) (before : List Placed) (es : List Entry) (k : ℕ) → k < top_level before → up_to k (placed_all held before es) ≡ up_to k before
later held before [] k h = refl
later held before (e ∷ es) k h =
    let above : nat_le (top_level before + (if is_decision e then 1 else 0)) k ≡ false = lt-leb (top_level before + (if is_decision e then 1 else 0)) k (omega arith) in
    later held (placed held before e ∷ before) es k (omega arith) ∙ rw above refl

module _ (held : List Held) (before : List Placed) (lits : List Lit) (x : Entry) (es : List Entry) (k : ℕ) (u : up_to k before ≡ before) (s : Same before lits) (l : Lit)
    (again : (i : ℕ) → top_level before + (if is_decision x then 1 else 0) + i ≡ k → up_to k (placed held before x ∷ before) ≡ placed held before x ∷ before →
    on (up_to k (placed_all held (placed held before x ∷ before) es)) l ≡ among ((lits ++ x.lit ∷ []) ++ lits_of (entries.up_to i es)) l) where
  next_up : top_level before + (if is_decision x then 1 else 0) ≤ k → up_to k (placed held before x ∷ before) ≡ placed held before x ∷ before
  next_up h = let y : nat_le (top_level before + (if is_decision x then 1 else 0)) k ≡ true = le-leb (top_level before + (if is_decision x then 1 else 0)) k h in rw y (ap (λ (b : List Placed). placed held before x ∷ b) u)

  go : (i : ℕ) → top_level before + (if is_decision x then 1 else 0) + i ≡ k → on (up_to k (placed_all held (placed held before x ∷ before) es)) l ≡ among (lits ++ x.lit ∷ lits_of (entries.up_to i es)) l
  go i f = again i f (next_up (omega arith)) ∙ ap (λ (ls : List Lit). among ls l) (regroup lits x.lit (lits_of (entries.up_to i es)))

  past : (b : Bool) → is_decision x ≡ b → b ≡ true → top_level before + 0 ≡ k → up_to k (placed held before x ∷ before) ≡ before
  past b d t f =
      let one : ◌≡◌ {A = ℕ} (if is_decision x then 1 else 0) 1 = rw (d, t) refl in
      let y : nat_le (top_level before + (if is_decision x then 1 else 0)) k ≡ false = lt-leb (top_level before + (if is_decision x then 1 else 0)) k (omega arith) in
      rw y u

  at_decision : (j : ℕ) → top_level before + j ≡ k → is_decision x ≡ true → on (up_to k (placed_all held before (x ∷ es))) l ≡ among (lits ++ lits_of (entries.up_to j (x ∷ es))) l
  at_decision zero f d =
      let one : ◌≡◌ {A = ℕ} (if is_decision x then 1 else 0) 1 = rw d refl in
      let lower : k < top_level (placed held before x ∷ before) = omega arith in
      ap (λ (b : List Placed). on b l) (later held (placed held before x ∷ before) es k lower ∙ past true d refl f)
      ∙ placed_same held before lits [] s l ∙ ap (λ (es : List Entry). among (lits ++ lits_of es) l) (sym (none d))
    where
      none : is_decision x ≡ true → entries.up_to 0 (x ∷ es) ≡ []
      none d = rw d refl
  at_decision (suc i) f d =
      let one : ◌≡◌ {A = ℕ} (if is_decision x then 1 else 0) 1 = rw d refl in
      go i (omega arith) ∙ ap (λ (es : List Entry). among (lits ++ lits_of es) l) (sym (some d))
    where
      some : is_decision x ≡ true → entries.up_to (suc i) (x ∷ es) ≡ x ∷ entries.up_to i es
      some d = let nz : (suc i == 0) ≡ false = ne_eqb (suc i) 0 (λ e. omega arith) in let less : suc i - 1 ≡ i = omega arith in rw (d, nz, less) refl

  at_reason : (j : ℕ) → top_level before + j ≡ k → is_decision x ≡ false → on (up_to k (placed_all held before (x ∷ es))) l ≡ among (lits ++ lits_of (entries.up_to j (x ∷ es))) l
  at_reason j f d =
      let none : ◌≡◌ {A = ℕ} (if is_decision x then 1 else 0) 0 = rw d refl in
      go j (omega arith) ∙ ap (λ (es : List Entry). among (lits ++ lits_of es) l) (sym (some d))
    where
      some : is_decision x ≡ false → entries.up_to j (x ∷ es) ≡ x ∷ entries.up_to j es
      some d = rw d refl

up_to_step : (held : List Held) (before : List Placed) (lits : List Lit) (es : List Entry) (k j : ℕ) → top_level before + j ≡ k → up_to k before ≡ before → Same before lits →
    Same (up_to k (placed_all held before es)) (lits ++ lits_of (entries.up_to j es))
up_to_step held before lits [] k j e u s l = ap (λ (b : List Placed). on b l) u ∙ placed_same held before lits [] s l
up_to_step held before lits (x ∷ es) k j e u s l =
    let again : (i : ℕ) → top_level before + (if is_decision x then 1 else 0) + i ≡ k → up_to k (placed held before x ∷ before) ≡ placed held before x ∷ before →
    on (up_to k (placed_all held (placed held before x ∷ before) es)) l ≡ among ((lits ++ x.lit ∷ []) ++ lits_of (entries.up_to i es)) l =
    λ i f w. up_to_step held (placed held before x ∷ before) (lits ++ x.lit ∷ []) es k i f w (more_same held before lits x s) l in
    elim (cases_Bool (is_decision x)) [
      | inl d ↦ at_decision held before lits x es k u s l again j e d
      | inr d ↦ at_reason held before lits x es k u s l again j e d
    ]

-- ---- the engine's

each_at : (P : Lit → Type 0) (xs : List Lit) (y : Lit) (zs : List Lit) → AllByRecursion P (xs ++ y ∷ zs) → P y
each_at P [] y zs a = a.0
each_at P (x ∷ xs) y zs a = each_at P xs y zs a.1

flips : (a b : Lit) → is_same_lit a b ≡ false → is_same_lit b a ≡ false
flips a b h = false_from_ne_true _ (λ t. let same : b ≡ a = lit_is b a t in let yes : is_same_lit a b ≡ true = rw same (lit_itself a) in cc)

apart : (xs : List Lit) (y : Lit) (zs : List Lit) → IsDistinct is_same_lit (xs ++ y ∷ zs) → among xs y ≡ false
unfolding IsDistinct
apart [] y zs d = refl
apart (x ∷ xs) y zs d = or_from (is_same_lit y x) (among xs y) (flips x y (each_at (λ l. is_same_lit x l ≡ false) xs y zs d.0)) (apart xs y zs d.1)

among_here : (xs : List Lit) (y : Lit) (zs : List Lit) → among (xs ++ y ∷ zs) y ≡ true
among_here xs y zs = list_any-append (is_same_lit y) xs (y ∷ zs) ∙ or_right (among xs y) (is_same_lit y y || among zs y) (or_left _ _ (lit_itself y))

-- what consistent and distinct literals come as
comes : (lits : List Lit) (es : List Entry) → AreConsistent (lits ++ lits_of es) → Comes lits es
comes lits [] c = tt
comes lits (e ∷ es) c =
    let none : among (lits ++ e.lit ∷ lits_of es) (opposite_lit e.lit) ≡ false = c.consistent e.lit (among_here lits e.lit (lits_of es)) in
    let parts : (among lits (opposite_lit e.lit) || among (e.lit ∷ lits_of es) (opposite_lit e.lit)) ≡ false = sym (list_any-append (is_same_lit (opposite_lit e.lit)) lits (e.lit ∷ lits_of es)) ∙ none in (
      apart lits e.lit (lits_of es) c.distinct,
      (or_parts (among lits (opposite_lit e.lit)) (among (e.lit ∷ lits_of es) (opposite_lit e.lit)) parts).0,
      comes (lits ++ e.lit ∷ []) es (subst AreConsistent (sym (regroup lits e.lit (lits_of es))) c),
    )

pub histories_are_trails : HistoriesAreTrails
histories_are_trails e o =
    let kept : AllByRecursion (λ (h : Held). IsKept e.vars h.row) e.held = recursion_from_All (λ (h : Held). IsKept e.vars h.row) e.held o.sound.held.kept in
    record {
      trail = placed_trail e.vars e.held [] [] e.trail kept tt (λ l. refl) o.sound.justified (comes [] e.trail o.consistent);
      same = λ l. placed_same e.held [] [] e.trail (λ l. refl) l;
      level = placed_level e.held [] e.trail ∙ omega arith;
      levels = λ k l. up_to_step e.held [] [] e.trail k k (omega arith) refl (λ l. refl) l;
      over = reasons_over e.vars e.held [] e.trail kept tt;
    }
