-- What the tables of a trail keep.
use Rattle.std.proofs.Common.{◌≡◌, ◌<◌, ◌≤◌, ◌+◌, ◌-◌, ◌^◌, ℕ, Bool, true, false, if◌then◌else◌, List, [], ◌∷◌, ◌++◌, length, length-set, length-append, replicate, refl, sym, ◌∙◌, ap, ap₂, subst, arith, inl, inr, append-nil, Option, Some, None, is_none}
use Rattle.std.specs.Prelude.{vec_capacity}
use Rattle.std.specs.declared.vec.Vec.{Vec}
use Rattle.std.specs.List.{All}
use Rattle.std.proofs.Math.ListN.{set}
use Rattle.std.proofs.lemmas.Bool.{cases_Bool}
use Rattle.std.proofs.lemmas.List.{length-map, length-replicate, map-append}
use Rattle.std.proofs.lemmas.List.Elements.{All-nil, All-push, All-weaker}
use Rattle.hrt_base.specs.declared.literal.Lit.{Lit}
use Rattle.hrt_base.specs.declared.literal.Value.{Value}
use Rattle.hrt_base.specs.declared.literal.Value.TheVariants.{Free}
use Rattle.pb_rows.specs.Terms.{opposite_lit}
use Rattle.pb_rows.specs.Points.{IsCovered}
use Rattle.pb_rows.specs.Closure.{among}
use Rattle.propagation.specs.Tables.{AreConsistent, IsTable, value_for}
use Rattle.propagation.proofs.Tables.{consistent, no_table, table-push}
use Rattle.row_arena.specs.declared.arena.Place.{Place}
use Rattle.pb_propagate.specs.declared.trail.Mark.{Mark}
use Rattle.pb_propagate.specs.Entries.{Entry, IsNewlyFalse, is_decision, level_of, set_of}
use Rattle.pb_propagate.specs.Tables.{AreLevels, IsTrail, TrailState, entries_of, mark_of, number_of, starts_from}
use Rattle.pb_propagate.specs.Rooms.{AreTables}
use Rattle.pb_propagate.proofs.Levels.{AreReasoned}
use Rattle.pb_propagate.proofs.Starts.{starts-append, starts-length}
use Rattle.pb_propagate.proofs.News.{new-kept, new-pushed}
use Rattle.pb_propagate.proofs.Marks.{AgreeOn, agree-set, entries-agree, levels-append, levels-kept, lits-entries, mark-new}

abbrev pub trail_of : ℕ → List Entry → List Lit → TrailState
trail_of vars entries due = record { vars = vars; entries = entries; due = due }

pub entries-length : (marks : List Mark) (ls : List Lit) → length (entries_of marks ls) ≡ length ls
entries-length marks ls = length-map ls _

pub level-few : (es : List Entry) → level_of es ≤ length es
level-few [] = omega arith
level-few (e ∷ es) = elim (cases_Bool (is_decision e)) [
  | inl d ↦ rw d (omega (arith, level-few es))
  | inr r ↦ rw r (omega (arith, level-few es))
]

module _ {A : Type 0} (values : List Value) (marks : List Mark) (literals : Vec Lit A) (starts : Vec ℕ A) (due : Vec Lit A) (t : AreTables values marks literals starts due) where
  abbrev entries : List Entry
  entries = entries_of marks literals.items

  pub literals-few : length literals.items ≤ length values
  literals-few = omega (arith, t.table.count)

  pub starts-are : length starts.items ≡ level_of entries
  starts-are = ap length t.begun ∙ starts-length 0 entries

  pub starts-few : length starts.items ≤ length literals.items
  starts-few = omega (arith, starts-are, level-few entries, entries-length marks literals.items)

  pub trail-facts : IsTrail (record { vars = length values; entries = entries_of marks literals.items; due = due.items })
  trail-facts = record {
    few = omega (arith, entries-length marks literals.items, literals-few);
    covered = subst (λ (ls : List Lit). All (λ (l : Lit). IsCovered (length values) l.var) ls) (sym (lits-entries marks literals.items)) t.table.covered;
    consistent = subst AreConsistent (sym (lits-entries marks literals.items)) (consistent values literals.items t.table);
    due_new = t.new;
  }

-- ---- none

pub tables-none : {A : Type 0} (n : ℕ) (values : List Value) (marks : List Mark) (literals : Vec Lit A) (starts : Vec ℕ A) (due : Vec Lit A) → values ≡ replicate n Free → length marks ≡ n
    → literals.items ≡ [] → starts.items ≡ [] → due.items ≡ [] → n < 2 ^ 32 → n ≤ vec_capacity literals → n ≤ vec_capacity starts → n ≤ vec_capacity due → AreTables values marks literals starts due
tables-none n values marks literals starts due v m l s d few roomy roomy_s roomy_d =
    let count : length values ≡ n = ap length v ∙ length-replicate n Free in
    record {
      table = subst (λ (vs : List Value). IsTable vs literals.items) (sym v) (subst (λ (ls : List Lit). IsTable (replicate n Free) ls) (sym l) (no_table n));
      marked = m ∙ sym count;
      levels = subst (λ (ls : List Lit). AreLevels marks 0 (entries_of marks ls)) (sym l) tt;
      begun = s ∙ sym (ap (λ (ls : List Lit). starts_from 0 (entries_of marks ls)) l);
      new = subst (λ (ds : List Lit). All (IsNewlyFalse (entries_of marks literals.items)) ds) (sym d) (All-nil (IsNewlyFalse (entries_of marks literals.items)));
      few = omega (arith, ap length d);
      few_vars = omega (arith, count, few);
      room = omega (arith, count, roomy);
      room_for_starts = omega (arith, count, roomy_s);
      room_for_due = omega (arith, count, roomy_d);
    }

-- ---- one more literal

module _ {A : Type 0} (values : List Value) (marks : List Mark) (literals : Vec Lit A) (starts : Vec ℕ A) (due : Vec Lit A) (t : AreTables values marks literals starts due)
    (l : Lit) (m : Mark) (c : IsCovered (length values) l.var) (untrue : among literals.items l ≡ false) (unfalse : among literals.items (opposite_lit l) ≡ false) where
  abbrev es : List Entry
  es = entries_of marks literals.items

  abbrev marks' : List Mark
  marks' = set marks (l.var - 1) m

  abbrev e : Entry
  e = record { lit = l; reason = number_of m.reason }

  agree : AgreeOn marks marks' literals.items
  agree = agree-set (length values) marks l m c.first literals.items t.table.covered untrue unfalse

  new-mark : mark_of marks' l ≡ m
  new-mark = mark-new marks l m (omega (arith, c.first, c.last, t.marked))

  pub entries-pushed : entries_of marks' (literals.items ++ l ∷ []) ≡ es ++ e ∷ []
  entries-pushed =
      let made : Mark → List Entry = λ k. record { lit = l; reason = number_of k.reason } ∷ [] in
      map-append _ literals.items (l ∷ []) ∙ ap₂ (λ (x y : List Entry). x ++ y) (entries-agree marks marks' literals.items agree) (ap made new-mark)

  levels-pushed : m.level ≡ (if is_decision e then 1 else 0) + level_of es → AreLevels marks' 0 (entries_of marks' (literals.items ++ l ∷ []))
  levels-pushed h =
      let old : AreLevels marks' 0 (entries_of marks' literals.items) = levels-kept marks marks' literals.items agree t.levels in
      let same = entries-agree marks marks' literals.items agree in
      let number : m.level ≡ (if is_decision e then 1 else 0) + (level_of es + 0) = omega (arith, h) in
      subst (AreLevels marks' 0) (sym entries-pushed)
      (levels-append marks' 0 es (e ∷ []) (subst (AreLevels marks' 0) same old) (ap (λ (k : Mark). k.level) new-mark ∙ number, tt))

  begun-pushed : starts_from 0 (entries_of marks' (literals.items ++ l ∷ [])) ≡ starts_from 0 es ++ (if is_decision e then length literals.items ∷ [] else [])
  begun-pushed =
      let place : 0 + length es ≡ length literals.items = omega (arith, entries-length marks literals.items) in
      ap (starts_from 0) entries-pushed ∙ starts-append 0 es (e ∷ []) ∙ ap (λ (n : ℕ). starts_from 0 es ++ (if is_decision e then n ∷ [] else [])) place

  reasoned-e : (r : Option Place) → m.reason ≡ r → (number_of m.reason ≡ None → due.items ≡ []) → All (IsNewlyFalse (es ++ e ∷ [])) due.items
  reasoned-e None is idle = subst (λ (ds : List Lit). All (IsNewlyFalse (es ++ e ∷ [])) ds) (sym (idle (ap number_of is))) (All-nil (IsNewlyFalse (es ++ e ∷ [])))
  reasoned-e (Some p) is idle =
      let one : AreReasoned (e ∷ []) = All-push (λ (x : Entry). is_decision x ≡ false) [] e (All-nil (λ (x : Entry). is_decision x ≡ false)) (ap (λ (r : Option Place). is_none (number_of r)) is) in
      All-weaker (IsNewlyFalse es) (IsNewlyFalse (es ++ e ∷ [])) (λ a n. new-kept es (e ∷ []) one a n) due.items t.new

  new-pushed' : (number_of m.reason ≡ None → due.items ≡ []) → All (IsNewlyFalse (entries_of marks' (literals.items ++ l ∷ []))) (due.items ++ opposite_lit l ∷ [])
  new-pushed' idle =
      let out : set_of es l ≡ false = ap (λ (ls : List Lit). among ls l) (lits-entries marks literals.items) ∙ untrue in
      subst (λ (xs : List Entry). All (IsNewlyFalse xs) (due.items ++ opposite_lit l ∷ [])) (sym entries-pushed)
      (All-push (IsNewlyFalse (es ++ e ∷ [])) due.items (opposite_lit l) (reasoned-e m.reason refl idle) (new-pushed es e out))

  pub tables-push : (literals' : Vec Lit A) (starts' : Vec ℕ A) (due' : Vec Lit A) → literals'.items ≡ literals.items ++ l ∷ [] → due'.items ≡ due.items ++ opposite_lit l ∷ []
      → starts'.items ≡ starts.items ++ (if is_decision e then length literals.items ∷ [] else []) → m.level ≡ (if is_decision e then 1 else 0) + level_of es → (number_of m.reason ≡ None → due.items ≡ [])
      → vec_capacity literals ≤ vec_capacity literals' → vec_capacity starts ≤ vec_capacity starts' → vec_capacity due ≤ vec_capacity due'
      → AreTables (set values (l.var - 1) (value_for l.neg)) marks' literals' starts' due'
  tables-push literals' starts' due' li di si level idle cl cs cd =
      let n : length (set values (l.var - 1) (value_for l.neg)) ≡ length values = length-set values (l.var - 1) (value_for l.neg) in
      let k : length marks' ≡ length marks = length-set marks (l.var - 1) m in
      record {
        table = subst (λ (ls : List Lit). IsTable (set values (l.var - 1) (value_for l.neg)) ls) (sym li) (table-push values literals.items t.table l c untrue unfalse);
        marked = omega (arith, n, k, t.marked);
        levels = subst (λ (ls : List Lit). AreLevels marks' 0 (entries_of marks' ls)) (sym li) (levels-pushed level);
        begun = si ∙ ap (λ (ns : List ℕ). ns ++ (if is_decision e then length literals.items ∷ [] else [])) t.begun ∙ sym begun-pushed ∙ sym (ap (λ (ls : List Lit). starts_from 0 (entries_of marks' ls)) li);
        new = subst (λ (ls : List Lit). All (IsNewlyFalse (entries_of marks' ls)) due'.items) (sym li) (subst (λ (ds : List Lit). All (IsNewlyFalse (entries_of marks' (literals.items ++ l ∷ []))) ds) (sym di) (new-pushed' idle));
        few = omega (arith, ap length li, ap length di, length-append literals.items (l ∷ []), length-append due.items (opposite_lit l ∷ []), t.few);
        few_vars = omega (arith, n, t.few_vars);
        room = omega (arith, n, t.room, cl);
        room_for_starts = omega (arith, n, t.room_for_starts, cs);
        room_for_due = omega (arith, n, t.room_for_due, cd);
      }

  -- what is shown then
  pub view-pushed : (view : TrailState) → trail_of (length values) es due.items ≡ view → (ls ds : List Lit) → ls ≡ literals.items ++ l ∷ [] → ds ≡ due.items ++ opposite_lit l ∷ []
      → trail_of (length (set values (l.var - 1) (value_for l.neg))) (entries_of marks' ls) ds ≡ trail_of view.vars (view.entries ++ e ∷ []) (view.due ++ opposite_lit l ∷ [])
  view-pushed view v ls ds li di =
      let made : ℕ → List Entry → List Lit → TrailState = λ n xs ys. record { vars = n; entries = xs; due = ys } in
      let whole : made (length values) (es ++ e ∷ []) (due.items ++ opposite_lit l ∷ []) ≡ made view.vars (view.entries ++ e ∷ []) (view.due ++ opposite_lit l ∷ []) =
      ap (λ (t : TrailState). made t.vars (t.entries ++ e ∷ []) (t.due ++ opposite_lit l ∷ [])) v in
      ap (λ (n : ℕ). made n (entries_of marks' ls) ds) (length-set values (l.var - 1) (value_for l.neg))
      ∙ ap (λ (xs : List Entry). made (length values) xs ds) (ap (entries_of marks') li ∙ entries-pushed)
      ∙ ap (λ (ys : List Lit). made (length values) (es ++ e ∷ []) ys) di
      ∙ whole

  -- there is room for it
  pub room-left : length literals.items < length values
  room-left =
      let more = table-push values literals.items t.table l c untrue unfalse in
      omega (arith, more.count, length-append literals.items (l ∷ []), length-set values (l.var - 1) (value_for l.neg))

pub one-more : (b : Bool) (xs : List ℕ) (n : ℕ) → length (xs ++ (if b then n ∷ [] else [])) ≡ (if b then 1 else 0) + length xs
one-more true xs n = omega (arith, length-append xs (n ∷ []))
one-more false xs n = omega (arith, ap length (append-nil xs))

pub among-shown : (marks : List Mark) (ls : List Lit) (vars : ℕ) (ds : List Lit) (view : TrailState) → trail_of vars (entries_of marks ls) ds ≡ view → (l : Lit) → set_of view.entries l ≡ false → among ls l ≡ false
among-shown marks ls vars ds view v l h =
    sym (ap (λ (xs : List Lit). among xs l) (lits-entries marks ls)) ∙ ap (λ (t : TrailState). set_of t.entries l) v ∙ h

pub at-most-one : (b : Bool) → (if b then 1 else 0) ≤ 1
at-most-one true = omega arith
at-most-one false = omega arith
