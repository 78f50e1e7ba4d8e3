-- Tables of a trail as they are read, and as it goes back.
use Rattle.std.proofs.Common.{◌≡◌, ◌||◌, ◌&&◌, ◌<◌, ◌≤◌, ◌+◌, ◌-◌, ℕ, Bool, true, false, not, if◌then◌else◌, List, [], ◌∷◌, ◌++◌, length, length-append, take, get_or, refl, sym, ◌∙◌, ap, subst, arith, inl, inr, append_assoc, Some, None}
use Rattle.std.specs.Prelude.{vec_capacity, nat_le}
use Rattle.std.specs.declared.vec.Vec.{Vec}
use Rattle.std.specs.List.{All}
use Rattle.std.proofs.lemmas.Bool.{cases_Bool, cases_lt}
use Rattle.std.proofs.lemmas.List.{take_at}
use Rattle.std.proofs.lemmas.List.Elements.{All-filter, All-nil}
use Rattle.hrt_base.specs.declared.literal.Lit.{Lit}
use Rattle.hrt_base.specs.declared.literal.Value.{Value}
use Rattle.hrt_base.specs.declared.literal.Value.TheVariants.{False, Free, True}
use Rattle.pb_rows.specs.Points.{IsCovered}
use Rattle.pb_rows.specs.Closure.{among, is_same_lit}
use Rattle.propagation.specs.Tables.{IsTable}
use Rattle.propagation.proofs.Sets.{lit_is}
use Rattle.pb_propagate.specs.declared.trail.Mark.{Mark}
use Rattle.pb_propagate.specs.Entries.{Entry, IsNewlyFalse, is_decision, level_in, level_of, reason_in, set_of, up_to, value_in}
use Rattle.pb_propagate.specs.Engines.{without_lit}
use Rattle.pb_propagate.specs.Tables.{AreLevels, entries_of, mark_of, no_mark, number_of, starts_from}
use Rattle.pb_propagate.specs.Rooms.{AreTables}
use Rattle.pb_propagate.specs.Serving.{IsTrueFrom}
use Rattle.pb_propagate.proofs.Starts.{starts-at, starts-up_to, up_to-take}
use Rattle.pb_propagate.proofs.News.{false-front}
use Rattle.pb_propagate.proofs.Marks.{entries-take, levels-front, lits-entries}
use Rattle.pb_propagate.proofs.Looks.{has_var, level-found, reason-found, true-up_to, uncovered, value-read, var-true}
use Rattle.pb_propagate.proofs.Levels.{up_to-front}
use Rattle.pb_propagate.proofs.Tabled.{entries-length}

abbrev lit_as : ℕ → Bool → Lit
lit_as v n = record { var = v; neg = n }

by-bits : (a b : Bool) → Value
by-bits a b = if a then True else (if b then False else Free)

free-bits : (a b h : Bool) → h ≡ (a || b) → (if a then True else (if b then False else Free)) ≡ Free → h ≡ false
free-bits true b h e f = absurd (cc)
free-bits false true h e f = absurd (cc)
free-bits false false h e f = e

taken-bits : (a b h : Bool) → h ≡ (a || b) → ((if a then True else (if b then False else Free)) ≡ Free → ⊥) → h ≡ true
taken-bits true b h e f = e
taken-bits false true h e f = e
taken-bits false false h e f = absurd (f refl)

levels-most : (marks : List Mark) (below : ℕ) (es : List Entry) → AreLevels marks below es → (l : Lit) → set_of es l ≡ true → (mark_of marks l).level ≤ level_of es + below
levels-most marks below [] a l h = absurd (cc)
levels-most marks below (e ∷ es) a l h = elim (cases_Bool (is_same_lit l e.lit)) [
  | inl same ↦ let s = ap (λ (x : Lit). (mark_of marks x).level) (lit_is l e.lit same) in omega (arith, s, a.0)
  | inr ne ↦ let g = (rw ne at h) in omega (arith, levels-most marks ((if is_decision e then 1 else 0) + below) es a.1 l g)
]

module _ {A : Type 0} (values : List Value) (marks : List Mark) (literals : Vec Lit A) (starts : Vec ℕ A) (due : Vec Lit A) (t : AreTables values marks literals starts due) where
  abbrev es : List Entry
  es = entries_of marks literals.items

  truth : (l : Lit) → set_of es l ≡ among literals.items l
  truth l = ap (λ (ls : List Lit). among ls l) (lits-entries marks literals.items)

  pub value-at : (v : ℕ) → 0 < v → get_or values (v - 1) Free ≡ value_in es v
  value-at v h = rw (truth (lit_as v false), truth (lit_as v true)) (value-read values literals.items t.table v h)

  pub value-past : (v : ℕ) → (IsCovered (length values) v → ⊥) → Free ≡ value_in es v
  value-past v out =
      let f = truth (lit_as v false) ∙ uncovered (length values) literals.items t.table.covered (lit_as v false) out in
      let g = truth (lit_as v true) ∙ uncovered (length values) literals.items t.table.covered (lit_as v true) out in
      rw (f, g) refl

  pub taken-covered : (v : ℕ) → (value_in es v ≡ Free → ⊥) → IsCovered (length values) v
  taken-covered v taken = elim (cases_lt 0 v) [
    | inl pos ↦ elim (cases_lt (length values) v) [
      | inl past ↦ absurd (taken (sym (value-past v (λ c. absurd (omega (arith, past, c.last))))))
      | inr inside ↦ record { first = pos; last = inside }
    ]
    | inr z ↦ absurd (taken (sym (value-past v (λ c. absurd (omega (arith, z, c.first))))))
  ]

  pub level-free : (v : ℕ) → value_in es v ≡ Free → None ≡ level_in es v
  level-free v free =
      let none = free-bits (set_of es (lit_as v false)) (set_of es (lit_as v true)) (has_var v es) (var-true es v) free in
      sym (level-found marks 0 es t.levels v ∙ ap (λ b. if b then Some (get_or marks (v - 1) no_mark).level else None) none)

  pub level-taken : (v : ℕ) → (value_in es v ≡ Free → ⊥) → Some (get_or marks (v - 1) no_mark).level ≡ level_in es v
  level-taken v taken =
      let some = taken-bits (set_of es (lit_as v false)) (set_of es (lit_as v true)) (has_var v es) (var-true es v) taken in
      sym (level-found marks 0 es t.levels v ∙ ap (λ b. if b then Some (get_or marks (v - 1) no_mark).level else None) some)

  pub reason-free : (v : ℕ) → value_in es v ≡ Free → None ≡ reason_in es v
  reason-free v free =
      let none = free-bits (set_of es (lit_as v false)) (set_of es (lit_as v true)) (has_var v es) (var-true es v) free in
      sym (reason-found marks literals.items v ∙ ap (λ b. if b then number_of (get_or marks (v - 1) no_mark).reason else None) none)

  pub reason-taken : (v : ℕ) → (value_in es v ≡ Free → ⊥) → number_of (get_or marks (v - 1) no_mark).reason ≡ reason_in es v
  reason-taken v taken =
      let some = taken-bits (set_of es (lit_as v false)) (set_of es (lit_as v true)) (has_var v es) (var-true es v) taken in
      sym (reason-found marks literals.items v ∙ ap (λ b. if b then number_of (get_or marks (v - 1) no_mark).reason else None) some)

  pub true-from : (l : Lit) → set_of es l ≡ true → IsTrueFrom es l (Some (mark_of marks l).level)
  true-from l h =
      let most = levels-most marks 0 es t.levels l h in (
        omega (arith, most),
        λ k.
            let level = (mark_of marks l).level in
            let number : 0 + k ≡ k = omega arith in
            true-up_to marks 0 k es t.levels l ∙ ap (λ b. b && nat_le level (0 + k)) h ∙ ap (nat_le level) number,
      )

  pub true-never : (l : Lit) → set_of es l ≡ false → IsTrueFrom es l None
  true-never l h k = false-front k es l h

  pub tables-settled : (due' : Vec Lit A) (l : Lit) → due'.items ≡ without_lit l due.items → length due'.items ≤ length due.items → vec_capacity due ≤ vec_capacity due' → AreTables values marks literals starts due'
  tables-settled due' l is less cap = record {
    table = t.table;
    marked = t.marked;
    levels = t.levels;
    begun = t.begun;
    new = subst (λ (ds : List Lit). All (IsNewlyFalse es) ds) (sym is) (All-filter (λ (a : Lit). not (is_same_lit l a)) (IsNewlyFalse es) due.items t.new);
    few = omega (arith, t.few, less);
    few_vars = t.few_vars;
    room = t.room;
    room_for_starts = t.room_for_starts;
    room_for_due = omega (arith, t.room_for_due, cap);
  }

  -- ---- going back

  pub start-is : (level : ℕ) → level < level_of es → get_or starts.items level 0 ≡ length (up_to level es)
  start-is level low =
      let at = starts-at level es 0 low in
      ap (λ (ns : List ℕ). get_or ns level 0) t.begun ∙ at ∙ omega arith

  pub front-few : (level : ℕ) → length (up_to level es) ≤ length literals.items
  front-few level =
      let f = up_to-front level es in
      omega (arith, ap length f.1, length-append (up_to level es) f.0, entries-length marks literals.items)

  pub entries-back : (level : ℕ) → level < level_of es → entries_of marks (take (get_or starts.items level 0) literals.items) ≡ up_to level es
  entries-back level low =
      entries-take marks (get_or starts.items level 0) literals.items ∙ ap (λ (n : ℕ). take n es) (start-is level low) ∙ up_to-take level es

  pub tables-back : (level : ℕ) → level < level_of es → (values' : List Value) (literals' : Vec Lit A) (starts' : Vec ℕ A) (due' : Vec Lit A) → IsTable values' literals'.items → length values' ≡ length values
      → literals'.items ≡ take (get_or starts.items level 0) literals.items → starts'.items ≡ take level starts.items → due'.items ≡ []
      → vec_capacity literals ≤ vec_capacity literals' → vec_capacity starts ≤ vec_capacity starts' → vec_capacity due ≤ vec_capacity due' → AreTables values' marks literals' starts' due'
  tables-back level low values' literals' starts' due' table same li si di cl cs cd =
      let back : entries_of marks literals'.items ≡ up_to level es = ap (entries_of marks) li ∙ entries-back level low in
      let f = up_to-front level es in
      record {
        table = table;
        marked = omega (arith, t.marked, same);
        levels = subst (AreLevels marks 0) (sym back) (levels-front marks 0 (up_to level es) f.0 (subst (AreLevels marks 0) f.1 t.levels));
        begun = si ∙ ap (take level) t.begun ∙ sym (starts-up_to level es 0) ∙ sym (ap (starts_from 0) back);
        new = subst (λ (ds : List Lit). All (IsNewlyFalse (entries_of marks literals'.items)) ds) (sym di) (All-nil (IsNewlyFalse (entries_of marks literals'.items)));
        few = omega (arith, ap length di);
        few_vars = omega (arith, same, t.few_vars);
        room = omega (arith, same, t.room, cl);
        room_for_starts = omega (arith, same, t.room_for_starts, cs);
        room_for_due = omega (arith, same, t.room_for_due, cd);
      }

-- ---- a front of a list

pub record IsFront (whole front : List Lit) : Type 0 where
  pub rest : List Lit
  pub is : whole ≡ front ++ rest

pub front-less : (whole front less : List Lit) (l : Lit) → IsFront whole front → front ≡ less ++ l ∷ [] → IsFront whole less
front-less whole front less l f e = record { rest = l ∷ f.rest; is = f.is ∙ ap (λ (t : List Lit). t ++ f.rest) e ∙ append_assoc less (l ∷ []) f.rest }

pub front-take : (whole front : List Lit) (n : ℕ) → IsFront whole front → length front ≡ n → front ≡ take n whole
front-take whole front n f h = sym (ap (take n) f.is ∙ take_at front f.rest n h)
