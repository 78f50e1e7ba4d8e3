-- What each call of an engine keeps of the facts of every moment.
use Rattle.std.proofs.Common.{◌≡◌, ◌==◌, ◌&&◌, ◌||◌, ◌<◌, ℕ, true, false, not, List, [], ◌∷◌, ◌++◌, length, get_or, refl, sym, ◌∙◌, ap, subst, arith, inl, inr, append-nil, Some, None, zero, suc, is_none, ◌-◌}
use Rattle.std.specs.List.{All, list_any}
use Rattle.std.proofs.lemmas.Bool.{cases_Bool, cases_eq, cases_lt, eq-eqb, false_from_ne_true, ne_eqb, or_cases, or_left, or_parts, or_right}
use Rattle.std.proofs.lemmas.List.Folds.{list_any-append, list_any_at}
use Rattle.std.proofs.lemmas.List.Elements.{All-append, All-filter, All-map, All-nil, All-push, All-weaker}
use Rattle.hrt_base.specs.declared.literal.Lit.{Lit}
use Rattle.hrt_base.specs.declared.literal.Term.{Term}
use Rattle.pb_rows.specs.Terms.{PlainRow, opposite_lit}
use Rattle.pb_rows.specs.Closure.{Keeps, among, is_same_lit}
use Rattle.propagation.proofs.Sets.{flips, lit_cases, lit_is, lit_itself}
use Rattle.row_arena.specs.Held.{AreHeld, Held, is_held, row_at}
use Rattle.row_arena.proofs.Places.{held-grown, row_at-each, row_at-grown}
use Rattle.pb_propagate.specs.Entries.{Entry, level_of, lits_of, opposites, set_of, up_to}
use Rattle.pb_propagate.specs.Open.{AreJustified}
use Rattle.pb_propagate.specs.Engines.{AreKept, AreKeptBelow, EngineState, IsIdle, IsKeptBelow, has_literal, is_due_literal, is_due_row, watches, without_lit, without_place}
use Rattle.pb_propagate.specs.Moments.{IsSound, IsKeptOnceVisited, IsKeptUnlessWaiting}
use Rattle.pb_propagate.proofs.Levels.{AreReasoned, level-append, level-more, level-most, level-up_to, set-append, set-within, up_to-above, up_to-all, up_to-below, up_to-front, up_to-up_to}
use Rattle.pb_propagate.proofs.Justified.{justified-append, justified-front, justified-grown}
use Rattle.pb_propagate.proofs.Kept.{AreUntouched, keeps-grown}
use Rattle.pb_propagate.proofs.News.{twice}

-- ---- what became false

-- a literal is the opposite of an added one where it is among the opposites
pub opposite-among : (added : List Entry) (l : Lit) → set_of added (opposite_lit l) ≡ true → among (opposites added) l ≡ true
opposite-among [] l h = absurd (cc)
opposite-among (e ∷ added) l h = elim (or_cases (is_same_lit (opposite_lit l) e.lit) (set_of added (opposite_lit l)) h) [
  | inl here ↦
      let same : opposite_lit e.lit ≡ l = ap opposite_lit (sym (lit_is (opposite_lit l) e.lit here)) ∙ twice l in
      or_left _ _ (ap (is_same_lit l) same ∙ lit_itself l)
  | inr there ↦ or_right _ _ (opposite-among added l there)
]

-- a row of which no literal is the opposite of an added one is untouched
pub untouched-row : (es added : List Entry) (r : PlainRow) → ((l : Lit) → has_literal l r ≡ true → among (opposites added) l ≡ true → ⊥) → AreUntouched (set_of es) (set_of (es ++ added)) r.terms
untouched-row es added r none k d h unfalse =
    let x : Term = get_or r.terms k d in
    let has : has_literal x.lit r ≡ true = list_any_at (λ (t : Term). is_same_lit x.lit t.lit) r.terms k d h (lit_itself x.lit) in
    set-append es added (opposite_lit x.lit)
    ∙ ap (λ b. b || set_of added (opposite_lit x.lit)) unfalse
    ∙ false_from_ne_true (set_of added (opposite_lit x.lit)) (λ e. none x.lit has (opposite-among added x.lit e))

pub keeps-row : (es added : List Entry) (r : PlainRow) → ((l : Lit) → has_literal l r ≡ true → among (opposites added) l ≡ true → ⊥) → Keeps (set_of es) r → Keeps (set_of (es ++ added)) r
keeps-row es added r none k = keeps-grown (set_of es) (set_of (es ++ added)) r (set-within es added) (untouched-row es added r none) k

-- each held row stands at its place
pub held-itself : (held : List Held) (k : ℕ) (d : Held) → k < length held → is_held (get_or held k d).place held ≡ true
held-itself held k d h = list_any_at (λ (x : Held). (get_or held k d).place == x.place) held k d h (eq-eqb _ _ refl)

-- ---- levels below

-- where propagated entries come behind, nothing changes at lower levels
pub kept_below-more : (old new : EngineState) (added : List Entry) (r : PlainRow) → new.trail ≡ old.trail ++ added → AreReasoned added → IsKeptBelow old r → IsKeptBelow new r
kept_below-more old new added r is reasoned kept k h =
    let low : k < level_of old.trail = omega (arith, h, ap level_of is, level-more old.trail added reasoned) in
    subst (λ (t : List Entry). Keeps (set_of (up_to k t)) r) (sym is)
    (subst (λ (t : List Entry). Keeps (set_of t) r) (sym (up_to-below k old.trail added low)) (kept k low))

-- ---- rows that wait for nothing

watches-is : (e : EngineState) (l : Lit) (h : Held) → is_held h.place e.held ≡ true → row_at h.place e.held ≡ h.row → is_due_row h.place e ≡ false → watches e l h.place ≡ has_literal l h.row
watches-is e l h held row due =
    ap (λ b. b && (not (is_due_row h.place e) && has_literal l (row_at h.place e.held))) held
    ∙ ap (λ b. not b && has_literal l (row_at h.place e.held)) due
    ∙ ap (has_literal l) row

-- the row isn't open unless it has a due literal
abbrev pub IsKeptUnless : EngineState → PlainRow → Type 0
IsKeptUnless e r = ((l : Lit) → is_due_literal l e ≡ true → has_literal l r ≡ true → ⊥) → Keeps (set_of e.trail) r

pub kept-from : (e : EngineState) → IsSound e → (k : ℕ) (d : Held) → k < length e.held → is_due_row (get_or e.held k d).place e ≡ false → IsKeptUnless e (get_or e.held k d).row
kept-from e o k d h due none =
    let x : Held = get_or e.held k d in
    o.kept k d h due (λ l dl. watches-is e l x (held-itself e.held k d h) (row_at-each e.vars e.held o.held k d h) due ∙ false_from_ne_true _ (none l dl))

pub kept-to : (e : EngineState) → AreHeld e.vars e.held → ((k : ℕ) (d : Held) → k < length e.held → is_due_row (get_or e.held k d).place e ≡ false → IsKeptUnless e (get_or e.held k d).row) → All (IsKeptUnlessWaiting e) e.held
kept-to e a f k d h due none =
    let x : Held = get_or e.held k d in
    f k d h due (λ l dl has.
    let w : watches e l x.place ≡ false = none l dl in
    let v = watches-is e l x (held-itself e.held k d h) (row_at-each e.vars e.held a k d h) due in
    absurd (let bad : false ≡ true = sym w ∙ v ∙ has in cc))

-- ---- states

abbrev pub state : ℕ → List Held → List Entry → List ℕ → List Lit → EngineState
state vars held trail due_rows due_literals = record { vars = vars; held = held; trail = trail; due_rows = due_rows; due_literals = due_literals }

-- entries are propagated and are not decisions
pub reasoned-justified : (held : List Held) (before : List Lit) (es : List Entry) → All (λ (e : Entry). (p : ℕ) × (e.reason ≡ Some p)) es → AreReasoned es
reasoned-justified held before es a k d h = let r = a k d h in ap is_none r.1

pub due-weaker : (due : List Lit) (more : List Lit) (l : Lit) → among due l ≡ true → among (due ++ more) l ≡ true
due-weaker due more l h = list_any-append (is_same_lit l) due more ∙ or_left _ _ h

pub due-added : (due : List Lit) (more : List Lit) (l : Lit) → among more l ≡ true → among (due ++ more) l ≡ true
due-added due more l h = list_any-append (is_same_lit l) due more ∙ or_right _ _ h

-- the opposites of added literals are false
opposites-false : (es added : List Entry) → All (λ (l : Lit). set_of (es ++ added) (opposite_lit l) ≡ true) (opposites added)
opposites-false es added = All-map (λ (l : Lit). set_of (es ++ added) (opposite_lit l) ≡ true) (λ (e : Entry). opposite_lit e.lit) added
    (λ k d h. let x : Entry = get_or added k d in ap (set_of (es ++ added)) (twice x.lit) ∙ set-append es added x.lit ∙ or_right _ _ (entry-true added k d h))
  where
    entry-true : (added : List Entry) (k : ℕ) (d : Entry) → k < length added → set_of added (get_or added k d).lit ≡ true
    entry-true [] k d h = absurd (omega (arith, h))
    entry-true (e ∷ added) zero d h = or_left _ _ (lit_itself e.lit)
    entry-true (e ∷ added) (suc k) d h = or_right _ _ (entry-true added k d (omega (arith, h)))

-- propagated entries come behind, and their opposites are due
pub sound-more : (vars : ℕ) (held : List Held) (trail added : List Entry) (rows : List ℕ) (lits : List Lit) → IsSound (state vars held trail rows lits) → AreReasoned added → AreJustified held (lits_of trail) added
    → IsSound (state vars held (trail ++ added) rows (lits ++ opposites added))
sound-more vars held trail added rows lits o reasoned justified =
    let old = state vars held trail rows lits in
    let new = state vars held (trail ++ added) rows (lits ++ opposites added) in
    record {
      held = o.held;
      justified = justified-append held [] trail added o.justified justified;
      due_held = o.due_held;
      due_false = All-append (λ (l : Lit). set_of (trail ++ added) (opposite_lit l) ≡ true) lits (opposites added)
          (All-weaker (λ (l : Lit). set_of trail (opposite_lit l) ≡ true) (λ (l : Lit). set_of (trail ++ added) (opposite_lit l) ≡ true) (λ l h. set-within trail added (opposite_lit l) h) lits o.due_false)
          (opposites-false trail added);
      kept_below = λ k d h due. kept_below-more old new added (get_or held k d).row refl reasoned (o.kept_below k d h due);
      kept = kept-to new o.held (λ k d h due none. keeps-row trail added (get_or held k d).row
          (λ l has is. none l (due-added lits (opposites added) l is) has)
          (kept-from old o k d h due (λ l dl has. none l (due-weaker lits (opposites added) l dl) has)));
    }

-- ---- a row is visited

other-place : (p q : ℕ) (rows : List ℕ) → (q == p) ≡ false → list_any (λ (x : ℕ). q == x) (without_place p rows) ≡ list_any (λ (x : ℕ). q == x) rows
other-place p q [] ne = refl
other-place p q (x ∷ rows) ne = elim (cases_eq p x) [
  | inl e ↦
      let here : (q == x) ≡ false = ap (λ (n : ℕ). q == n) (sym e) ∙ ne in
      rw (eq-eqb p x e, here) (other-place p q rows ne)
  | inr away ↦ rw (ne_eqb p x away) (ap (λ b. (q == x) || b) (other-place p q rows ne))
]

-- the visited row is due no more
pub sound-visited : (vars : ℕ) (held : List Held) (trail : List Entry) (rows : List ℕ) (lits : List Lit) (p : ℕ) → IsSound (state vars held trail rows lits)
    → Keeps (set_of trail) (row_at p held) → IsKeptBelow (state vars held trail rows lits) (row_at p held) → IsSound (state vars held trail (without_place p rows) lits)
sound-visited vars held trail rows lits p o kept below =
    let old = state vars held trail rows lits in
    let new = state vars held trail (without_place p rows) lits in
    record {
      held = o.held;
      justified = o.justified;
      due_held = All-filter (λ (x : ℕ). not (p == x)) (λ (x : ℕ). is_held x held ≡ true) rows o.due_held;
      due_false = o.due_false;
      kept_below = λ k d h due. elim (cases_eq (get_or held k d).place p) [
        | inl e ↦ subst (IsKeptBelow new) (ap (λ (n : ℕ). row_at n held) (sym e) ∙ row_at-each vars held o.held k d h) below
        | inr ne ↦ o.kept_below k d h (sym (other-place p (get_or held k d).place rows (ne_eqb _ _ ne)) ∙ due)
      ];
      kept = kept-to new o.held (λ k d h due none. elim (cases_eq (get_or held k d).place p) [
        | inl e ↦ subst (Keeps (set_of trail)) (ap (λ (n : ℕ). row_at n held) (sym e) ∙ row_at-each vars held o.held k d h) kept
        | inr ne ↦ kept-from old o k d h (sym (other-place p (get_or held k d).place rows (ne_eqb _ _ ne)) ∙ due) none
      ]);
    }

-- ---- a literal is visited

pub other-lit : (l a : Lit) (lits : List Lit) → is_same_lit l a ≡ false → among (without_lit l lits) a ≡ among lits a
other-lit l a [] ne = refl
other-lit l a (x ∷ lits) ne = elim (lit_cases l x) [
  | inl e ↦
      let here : is_same_lit a x ≡ false = ap (is_same_lit a) (sym e) ∙ flips a l ∙ ne in
      let gone : is_same_lit l x ≡ true = ap (is_same_lit l) (sym e) ∙ lit_itself l in
      rw (gone, here) (other-lit l a lits ne)
  | inr away ↦ rw away (ap (λ b. is_same_lit a x || b) (other-lit l a lits ne))
]

-- a literal is due no more once each row that has it waits for other due literals alone
pub sound-settled : (vars : ℕ) (held : List Held) (trail : List Entry) (rows : List ℕ) (lits : List Lit) (l : Lit) → IsSound (state vars held trail rows lits)
    → ((k : ℕ) (d : Held) → k < length held → watches (state vars held trail rows lits) l (get_or held k d).place ≡ true → IsKeptUnless (state vars held trail rows (without_lit l lits)) (get_or held k d).row)
    → IsSound (state vars held trail rows (without_lit l lits))
sound-settled vars held trail rows lits l o served =
    let old = state vars held trail rows lits in
    let new = state vars held trail rows (without_lit l lits) in
    record {
      held = o.held;
      justified = o.justified;
      due_held = o.due_held;
      due_false = All-filter (λ (a : Lit). not (is_same_lit l a)) (λ (a : Lit). set_of trail (opposite_lit a) ≡ true) lits o.due_false;
      kept_below = λ k d h due. o.kept_below k d h due;
      kept = kept-to new o.held (λ k d h due none.
          let x : Held = get_or held k d in
          elim (cases_Bool (has_literal l x.row)) [
            | inl has ↦ served k d h (watches-is old l x (held-itself held k d h) (row_at-each vars held o.held k d h) due ∙ has) none
            | inr hasnt ↦ kept-from old o k d h due (λ a da has. elim (lit_cases l a) [
              | inl e ↦ absurd (let bad : false ≡ true = sym hasnt ∙ ap (λ (y : Lit). has_literal y x.row) e ∙ has in cc)
              | inr ne ↦ none a (other-lit l a lits ne ∙ da) has
            ])
          ]);
    }

-- ---- decisions and going back

pub sound-decided : (vars : ℕ) (held : List Held) (trail : List Entry) (l : Lit) → IsSound (state vars held trail [] []) → IsSound (state vars held (trail ++ record { lit = l; reason = None } ∷ []) [] (opposite_lit l ∷ []))
sound-decided vars held trail l o =
    let e : Entry = record { lit = l; reason = None } in
    let new = state vars held (trail ++ e ∷ []) [] (opposite_lit l ∷ []) in
    record {
      held = o.held;
      justified = justified-append held [] trail (e ∷ []) o.justified (tt, tt);
      due_held = All-nil (λ (p : ℕ). is_held p held ≡ true);
      due_false = opposites-false trail (e ∷ []);
      kept_below = λ k d h due j low. elim (cases_lt j (level_of trail)) [
        | inl below ↦ subst (λ (t : List Entry). Keeps (set_of t) (get_or held k d).row) (sym (up_to-below j trail (e ∷ []) below)) (o.kept_below k d h refl j below)
        | inr here ↦
            let same : j ≡ level_of trail = omega (arith, here, low, level-append trail (e ∷ [])) in
            let zero_left : j - level_of trail ≡ 0 = omega (arith, same) in
            let up : up_to j (trail ++ e ∷ []) ≡ trail = up_to-above j trail (e ∷ []) here ∙ ap (λ (n : ℕ). trail ++ up_to n (e ∷ [])) zero_left ∙ append-nil trail in
            subst (λ (t : List Entry). Keeps (set_of t) (get_or held k d).row) (sym up) (kept-from (state vars held trail [] []) o k d h refl (λ a da has. absurd (cc)))
      ];
      kept = kept-to new o.held (λ k d h due none. keeps-row trail (e ∷ []) (get_or held k d).row
          (λ a has is. none a is has)
          (kept-from (state vars held trail [] []) o k d h refl (λ a da has. absurd (cc))));
    }

pub sound-back : (vars : ℕ) (held : List Held) (trail : List Entry) (rows : List ℕ) (lits : List Lit) (level : ℕ) → level < level_of trail → IsSound (state vars held trail rows lits) → IsSound (state vars held (up_to level trail) rows [])
sound-back vars held trail rows lits level low o =
    let new = state vars held (up_to level trail) rows [] in
    let front = up_to-front level trail in
    record {
      held = o.held;
      justified = justified-front held [] (up_to level trail) front.0 (subst (AreJustified held []) front.1 o.justified);
      due_held = o.due_held;
      due_false = All-nil (λ (l : Lit). set_of (up_to level trail) (opposite_lit l) ≡ true);
      kept_below = λ k d h due j below.
          let under : j < level = omega (arith, below, level-up_to level trail (omega (arith, low))) in
          subst (λ (t : List Entry). Keeps (set_of t) (get_or held k d).row) (sym (up_to-up_to j level trail (omega (arith, under)))) (o.kept_below k d h due j (omega (arith, under, low)));
      kept = kept-to new o.held (λ k d h due none. o.kept_below k d h due level low);
    }

-- ---- a row is added

due-front : (rows : List ℕ) (p q : ℕ) → list_any (λ (x : ℕ). q == x) (rows ++ p ∷ []) ≡ false → (list_any (λ (x : ℕ). q == x) rows ≡ false) × ((q == p) ≡ false)
due-front rows p q h =
    let parts = or_parts _ _ (sym (list_any-append (λ (x : ℕ). q == x) rows (p ∷ [])) ∙ h) in
    (parts.0, (or_parts (q == p) false parts.1).0)

pub sound-added : (vars : ℕ) (held : List Held) (trail : List Entry) (rows : List ℕ) (lits : List Lit) (h : Held) → is_held h.place held ≡ false → AreHeld vars (held ++ h ∷ [])
    → IsSound (state vars held trail rows lits) → IsSound (state vars (held ++ h ∷ []) trail (rows ++ h.place ∷ []) lits)
sound-added vars held trail rows lits h out all o =
    let old = state vars held trail rows lits in
    let new = state vars (held ++ h ∷ []) trail (rows ++ h.place ∷ []) lits in
    record {
      held = all;
      justified = justified-grown held (h ∷ []) [] trail o.justified;
      due_held = All-push (λ (p : ℕ). is_held p (held ++ h ∷ []) ≡ true) rows h.place
          (All-weaker (λ (p : ℕ). is_held p held ≡ true) (λ (p : ℕ). is_held p (held ++ h ∷ []) ≡ true) (λ p i. held-grown held (h ∷ []) p i) rows o.due_held)
          (list_any-append (λ (x : Held). h.place == x.place) held (h ∷ []) ∙ or_right _ _ (or_left _ _ (eq-eqb h.place h.place refl)));
      due_false = o.due_false;
      kept_below = All-push (IsKeptOnceVisited new) held h (λ k d i due. o.kept_below k d i (due-front rows h.place (get_or held k d).place due).0) (λ due. absurd (not-self due));
      kept = All-push (IsKeptUnlessWaiting new) held h
          (λ k d i due none. kept-from old o k d i (due-front rows h.place (get_or held k d).place due).0
          (λ l dl has. let x : Held = get_or held k d in
          let in_new = held-grown held (h ∷ []) x.place (held-itself held k d i) in
          let row = row_at-grown held (h ∷ []) x.place (held-itself held k d i) ∙ row_at-each vars held o.held k d i in
          absurd (let bad : false ≡ true = sym (none l dl) ∙ watches-is new l x in_new row due ∙ has in cc)))
          (λ due none. absurd (not-self due));
    }
  where
    not-self : list_any (λ (x : ℕ). h.place == x) (rows ++ h.place ∷ []) ≡ false → ⊥
    not-self due = let f = (due-front rows h.place h.place due).1 in let t = eq-eqb h.place h.place refl in cc

pub sound-none : (vars : ℕ) → AreHeld vars [] → IsSound (state vars [] [] [] [])
sound-none vars a = record {
  held = a;
  justified = tt;
  due_held = All-nil (λ (p : ℕ). is_held p [] ≡ true);
  due_false = All-nil (λ (l : Lit). set_of [] (opposite_lit l) ≡ true);
  kept_below = All-nil (IsKeptOnceVisited (state vars [] [] [] []));
  kept = All-nil (IsKeptUnlessWaiting (state vars [] [] [] []));
}

-- ---- nothing is due

pub idle-kept : (e : EngineState) → IsSound e → IsIdle e → AreKept e
idle-kept e o idle k j d h =
    let x : Held = get_or e.held j d in
    let due : is_due_row x.place e ≡ false = ap (λ (ps : List ℕ). list_any (λ (p : ℕ). x.place == p) ps) idle.rows in
    elim (cases_lt k (level_of e.trail)) [
      | inl below ↦ o.kept_below j d h due k below
      | inr all ↦ subst (λ (t : List Entry). Keeps (set_of t) x.row) (sym (up_to-all k e.trail all))
          (kept-from e o j d h due (λ l dl has. absurd (let bad : false ≡ true = sym (ap (λ (ls : List Lit). among ls l) idle.literals) ∙ dl in cc)))
    ]

-- after going back to a level below which no row was open, none is open below
pub kept_below-back : (old new : EngineState) (level : ℕ) → new.held ≡ old.held → new.trail ≡ up_to level old.trail
    → All (λ (h : Held). (k : ℕ) → k < level → Keeps (set_of (up_to k old.trail)) h.row) old.held → AreKeptBelow new
kept_below-back old new level held trail kept =
    subst (λ (hs : List Held). All (λ (h : Held). IsKeptBelow new h.row) hs) (sym held) (λ i d h k low.
    let under : k < level = omega (arith, low, ap level_of trail, level-most level old.trail) in
    let same : up_to k new.trail ≡ up_to k old.trail = ap (up_to k) trail ∙ up_to-up_to k level old.trail (omega (arith, under)) in
    subst (λ (t : List Entry). Keeps (set_of t) (get_or old.held i d).row) (sym same) (kept i d h k under))
