-- Looks at the rows that watch a literal.
use Rattle.std.proofs.Common.{◌≡◌, ◌<◌, ◌≤◌, ◌+◌, ℕ, Bool, true, false, List, [], ◌∷◌, ◌++◌, map, length, get_or, refl, sym, ◌∙◌, ap, subst, arith, inl, inr, append_assoc, append-nil, Option, Some, None, is_none}
use Rattle.std.specs.List.{All}
use Rattle.std.proofs.lemmas.Bool.{cases_Bool, cases_lt, false_from_ne_true, or_cases, or_parts}
use Rattle.std.proofs.lemmas.List.{get_or-map, get_or_default as any-default, length-map, map-append}
use Rattle.std.proofs.lemmas.List.Elements.{All-append, All-contains, All-head, All-nil, All-tail, All-weaker}
use Rattle.hrt_base.specs.declared.literal.Lit.{Lit}
use Rattle.pb_rows.specs.Terms.{PlainRow, opposite_lit}
use Rattle.pb_rows.specs.Closure.{Falsified, Keeps, among, is_same_lit}
use Rattle.propagation.proofs.Following.{Within}
use Rattle.propagation.proofs.Sets.{contained, lit_is}
use Rattle.row_arena.specs.declared.arena.Place.{Place}
use Rattle.row_arena.specs.Held.{AreHeld, Held, is_held, row_at}
use Rattle.row_arena.proofs.Places.{row_at-each}
use Rattle.pb_propagate.specs.Entries.{Entry, lits_of, opposites, set_of}
use Rattle.pb_propagate.specs.Open.{AreJustified, IsServed}
use Rattle.pb_propagate.specs.Engines.{EngineState, is_due_literal, watches, without_lit}
use Rattle.pb_propagate.specs.Moments.{IsSound}
use Rattle.pb_propagate.specs.Tables.{TrailState}
use Rattle.pb_propagate.specs.Visits.{FailsAtLiteral, IsByWatcher, IsDueTo, ServesLiteral}
use Rattle.pb_propagate.specs.Serving.{Looks, ServesAt}
use Rattle.pb_propagate.specs.Scans.{IsScanned, StopsAt, WaitsForOthers}
use Rattle.pb_propagate.proofs.Levels.{AreReasoned, lits-append, set-within}
use Rattle.pb_propagate.proofs.Justified.{justified-append}
use Rattle.pb_propagate.proofs.Kept.{served-by, served-more}
use Rattle.pb_propagate.proofs.Engines.{held-itself, due-added, due-weaker, keeps-row, other-lit, sound-more, sound-settled, state}
use Rattle.pb_propagate.proofs.News.{twice}

-- the opposite of what came newly onto the trail wasn't false before
opposites-fresh : (es added : List Entry) → All (λ (e : Entry). set_of es e.lit ≡ false) added → (a : Lit) → among (opposites added) a ≡ true → set_of es (opposite_lit a) ≡ false
opposites-fresh es [] f a h = absurd (cc)
opposites-fresh es (e ∷ added) f a h =
    let P = λ (x : Entry). set_of es x.lit ≡ false in
    elim (or_cases (is_same_lit a (opposite_lit e.lit)) (among (opposites added) a) h) [
      | inl here ↦ ap (λ (x : Lit). set_of es (opposite_lit x)) (lit_is a (opposite_lit e.lit) here) ∙ ap (set_of es) (twice e.lit) ∙ All-head P e added f
      | inr there ↦ opposites-fresh es added (All-tail P e added f) a there
    ]

pub scanned-none : (old : EngineState) (l : Lit) (t : TrailState) → t.vars ≡ old.vars → t.entries ≡ old.trail → t.due ≡ old.due_literals → IsScanned old l 0 t
scanned-none old l t vars entries due = record {
  added = [];
  vars = vars;
  entries = entries ∙ sym (append-nil old.trail);
  due = due ∙ sym (append-nil old.due_literals);
  reasons = All-nil (λ (e : Entry). IsByWatcher old l e.reason);
  fresh = All-nil (λ (e : Entry). set_of old.trail e.lit ≡ false);
  justified = tt;
  served = λ j d h w. absurd (omega (arith, h));
  settled = λ j d h w. absurd (omega (arith, h));
}

pub scanned-less : (old : EngineState) (l : Lit) (k : ℕ) (t : TrailState) → IsScanned old l k t → IsScanned old l 0 t
scanned-less old l k t a = record {
  added = a.added;
  vars = a.vars;
  entries = a.entries;
  due = a.due;
  reasons = a.reasons;
  fresh = a.fresh;
  justified = a.justified;
  served = λ j d h w. absurd (omega (arith, h));
  settled = λ j d h w. absurd (omega (arith, h));
}

-- a row that doesn't watch the literal is passed over
pub scanned-skip : (old : EngineState) (l : Lit) (k : ℕ) (x : Held) (t : TrailState) → watches old l (get_or old.held k x).place ≡ false → IsScanned old l k t → IsScanned old l (k + 1) t
scanned-skip old l k x t not_watched a = record {
  added = a.added;
  vars = a.vars;
  entries = a.entries;
  due = a.due;
  reasons = a.reasons;
  fresh = a.fresh;
  justified = a.justified;
  served = λ j d h i w. elim (cases_lt j k) [ inl low ↦ a.served j d low i w | inr high ↦ absurd (never j d high h i w) ];
  settled = λ j d h i w. elim (cases_lt j k) [ inl low ↦ a.settled j d low i w | inr high ↦ absurd (never j d high h i w) ];
}
  where
    never : (j : ℕ) (d : Held) → k ≤ j → j < k + 1 → j < length old.held → watches old l (get_or old.held j d).place ≡ true → ⊥
    never j d high h i w =
        let same : j ≡ k = omega (arith, high, h) in
        let at : get_or old.held j d ≡ get_or old.held k x = ap (λ (n : ℕ). get_or old.held n d) same ∙ any-default old.held k d x (omega (arith, same, i)) in
        let bad : true ≡ false = sym w ∙ ap (λ (y : Held). watches old l y.place) at ∙ not_watched in
        cc

module _ (old : EngineState) (l : Lit) (k : ℕ) (x : Held) (mid new : TrailState) (all : AreHeld old.vars old.held) (false_now : set_of old.trail (opposite_lit l) ≡ true)
    (inside : k < length old.held) (watched : watches old l (get_or old.held k x).place ≡ true) (a : IsScanned old l k mid) (s : ServesAt old.held (get_or old.held k x).place mid new) where
  old-mid : Within (set_of old.trail) (set_of mid.entries)
  old-mid m h = ap (λ (t : List Entry). set_of t m) a.entries ∙ set-within old.trail a.added m h

  mid-new : Within (set_of mid.entries) (set_of new.entries)
  mid-new m h = ap (λ (t : List Entry). set_of t m) s.entries ∙ set-within mid.entries s.added m h

  lits : lits_of mid.entries ≡ lits_of old.trail ++ lits_of a.added
  lits = ap lits_of a.entries ∙ lits-append old.trail a.added

  row-here : row_at (get_or old.held k x).place old.held ≡ (get_or old.held k x).row
  row-here = row_at-each old.vars old.held all k x inside

  kept-here : Keeps (set_of new.entries) (get_or old.held k x).row
  kept-here = subst (Keeps (set_of new.entries)) row-here s.kept

  here-is : (j : ℕ) (d : Held) → k ≤ j → j < k + 1 → get_or old.held k x ≡ get_or old.held j d
  here-is j d high h =
      let same : k ≡ j = omega (arith, high, h) in
      any-default old.held k x d inside ∙ ap (λ (n : ℕ). get_or old.held n d) same

  not-again : (m : Lit) → among (opposites s.added) m ≡ true → is_same_lit l m ≡ true → ⊥
  not-again m is same =
      let e : l ≡ m = lit_is l m same in
      let gone = opposites-fresh mid.entries s.added s.fresh m is in
      let there = old-mid (opposite_lit l) false_now in
      let bad : true ≡ false = sym there ∙ ap (λ (y : Lit). set_of mid.entries (opposite_lit y)) e ∙ gone in
      cc

  still-waits : (r : PlainRow) → WaitsForOthers l mid r → WaitsForOthers l new r
  still-waits r w none =
      let was = w (λ m ne due has. none m ne (ap (λ (ds : List Lit). among ds m) s.due ∙ due-weaker mid.due (opposites s.added) m due) has) in
      subst (λ (t : List Entry). Keeps (set_of t) r) (sym s.entries)
      (keeps-row mid.entries s.added r (λ m has is. elim (cases_Bool (is_same_lit l m)) [
        | inl same ↦ not-again m is same
        | inr ne ↦ none m ne (ap (λ (ds : List Lit). among ds m) s.due ∙ due-added mid.due (opposites s.added) m is) has
      ]) was)

  pub scanned-serve : IsScanned old l (k + 1) new
  scanned-serve = record {
    added = a.added ++ s.added;
    vars = s.vars ∙ a.vars;
    entries = s.entries ∙ ap (λ (t : List Entry). t ++ s.added) a.entries ∙ append_assoc old.trail a.added s.added;
    due = s.due ∙ ap (λ (t : List Lit). t ++ opposites s.added) a.due ∙ append_assoc old.due_literals (opposites a.added) (opposites s.added)
        ∙ ap (λ (t : List Lit). old.due_literals ++ t) (sym (map-append (λ (e : Entry). opposite_lit e.lit) a.added s.added));
    reasons = All-append (λ (e : Entry). IsByWatcher old l e.reason) a.added s.added a.reasons
        (All-weaker (IsDueTo (get_or old.held k x).place) (λ (e : Entry). IsByWatcher old l e.reason) (λ e r. subst (IsByWatcher old l) (sym r) watched) s.added s.reasons);
    fresh = All-append (λ (e : Entry). set_of old.trail e.lit ≡ false) a.added s.added a.fresh
        (All-weaker (λ (e : Entry). set_of mid.entries e.lit ≡ false) (λ (e : Entry). set_of old.trail e.lit ≡ false) (λ e f. false_from_ne_true _ (λ t. let u = old-mid e.lit t in cc)) s.added s.fresh);
    justified = justified-append old.held (lits_of old.trail) a.added s.added a.justified (subst (λ (ls : List Lit). AreJustified old.held ls s.added) lits s.justified);
    served = λ j d h i w. elim (cases_lt j k) [
      | inl low ↦ served-more (set_of old.trail) (set_of mid.entries) (set_of new.entries) (get_or old.held j d).row mid-new (a.served j d low i w)
      | inr high ↦ subst (λ (y : Held). IsServed (set_of old.trail) (set_of new.entries) y.row) (here-is j d high h)
          (served-by (set_of old.trail) (set_of new.entries) (set_of new.entries) (get_or old.held k x).row (λ m t. mid-new m (old-mid m t)) (λ m t. t) kept-here)
    ];
    settled = λ j d h i w. elim (cases_lt j k) [
      | inl low ↦ still-waits (get_or old.held j d).row (a.settled j d low i w)
      | inr high ↦ λ none. subst (λ (y : Held). Keeps (set_of new.entries) y.row) (here-is j d high h) kept-here
    ];
  }

-- ---- what the visit comes to

pub reasoned-by : (old : EngineState) (l : Lit) (added : List Entry) → All (λ (e : Entry). IsByWatcher old l e.reason) added → AreReasoned added
reasoned-by old l added a k d h = some (get_or added k d).reason (a k d h)
  where
    some : (r : Option ℕ) → IsByWatcher old l r → is_none r ≡ false
    some None b = absurd b
    some (Some p) b = refl

without-none : (l : Lit) (ls : List Lit) → among ls l ≡ false → without_lit l ls ≡ ls
without-none l [] h = refl
without-none l (a ∷ ls) h =
    let p = or_parts (is_same_lit l a) (among ls l) h in
    rw p.0 (ap (λ (t : List Lit). a ∷ t) (without-none l ls p.1))

without-append : (l : Lit) (xs ys : List Lit) → among ys l ≡ false → without_lit l (xs ++ ys) ≡ without_lit l xs ++ ys
without-append l [] ys h = without-none l ys h
without-append l (a ∷ xs) ys h = elim (cases_Bool (is_same_lit l a)) [
  | inl same ↦ rw same (without-append l xs ys h)
  | inr ne ↦ rw ne (ap (λ (t : List Lit). a ∷ t) (without-append l xs ys h))
]

module _ (vars : ℕ) (held : List Held) (trail : List Entry) (rows : List ℕ) (lits : List Lit) (l : Lit) (o : IsSound (state vars held trail rows lits)) (false_now : set_of trail (opposite_lit l) ≡ true) where
  abbrev before : EngineState
  before = state vars held trail rows lits

  -- the trail after looks, with the literal still due
  pub scanned-sound : (t : TrailState) → IsScanned before l 0 t → IsSound (state t.vars held t.entries rows t.due)
  scanned-sound t a =
      let s = sound-more vars held trail a.added rows lits o (reasoned-by before l a.added a.reasons) a.justified in
      subst (λ (v : ℕ). IsSound (state v held t.entries rows t.due)) (sym a.vars)
      (subst (λ (es : List Entry). IsSound (state vars held es rows t.due)) (sym a.entries)
      (subst (λ (ds : List Lit). IsSound (state vars held (trail ++ a.added) rows ds)) (sym a.due) s))

  pub scanned-settled : (t : TrailState) → IsScanned before l (length held) t → IsSound (state t.vars held t.entries rows (without_lit l t.due))
  scanned-settled t a =
      let s = scanned-sound t (scanned-less before l (length held) t a) in
      sound-settled t.vars held t.entries rows t.due l s (λ k d h w none.
      a.settled k d h h w (λ m ne due has. none m (other-lit l m t.due ne ∙ due) has))

  pub scanned-done : (t : TrailState) → length t.entries ≤ t.vars → IsScanned before l (length held) t → ServesLiteral before (state t.vars held t.entries rows (without_lit l t.due)) l
  scanned-done t few a =
      let out : among (opposites a.added) l ≡ false = false_from_ne_true _ (λ e. let f = opposites-fresh trail a.added a.fresh l e in cc) in
      record {
        added = a.added;
        adds = record {
          vars = a.vars;
          held = refl;
          trail = a.entries;
          due_rows = refl;
          due_literals = ap (without_lit l) a.due ∙ without-append l lits (opposites a.added) out;
        };
        few = few;
        reasons = a.reasons;
        served = λ k d h w. a.served k d h h w;
      }

  pub scanned-failed : (t : TrailState) (p : ℕ) → StopsAt before l t p → FailsAtLiteral before (state t.vars held t.entries rows t.due) l p
  scanned-failed t p a = record {
    added = a.scanned.added;
    adds = record { vars = a.scanned.vars; held = refl; trail = a.scanned.entries; due_rows = refl; due_literals = a.scanned.due };
    reasons = a.scanned.reasons;
    held = a.held;
    watched = a.watched;
    falsified = a.falsified;
  }

-- ---- one row after another

due-false : (trail : List Entry) (ds : List Lit) (l : Lit) → All (λ (a : Lit). set_of trail (opposite_lit a) ≡ true) ds → among ds l ≡ true → set_of trail (opposite_lit l) ≡ true
due-false trail ds l a h = All-contains (λ (x : Lit). set_of trail (opposite_lit x) ≡ true) ds l a (contained ds l h)

-- a due literal of a sound engine is false
pub false-of-due : (e : EngineState) (l : Lit) → IsSound e → is_due_literal l e ≡ true → set_of e.trail (opposite_lit l) ≡ true
false-of-due e l o h = due-false e.trail e.due_literals l o.due_false h

module _ (old : EngineState) (l : Lit) (o : IsSound old) (due : is_due_literal l old ≡ true) (k : ℕ) (x : Held) (p : ℕ) (mid new : TrailState) (inside : k < length old.held) (here : p ≡ (get_or old.held k x).place) (a : IsScanned old l k mid) where
  step-by : (b : Bool) → watches old l p ≡ b → Looks old.held p b mid new false → IsScanned old l (k + 1) new
  step-by true w s =
      scanned-serve old l k x mid new o.held (false-of-due old l o due) inside (ap (watches old l) (sym here) ∙ w) a (subst (λ (n : ℕ). ServesAt old.held n mid new) here s)
  step-by false w s = subst (λ (t : TrailState). IsScanned old l (k + 1) t) (sym s.1) (scanned-skip old l k x mid (ap (watches old l) (sym here) ∙ w) a)

  pub scanned-step : Looks old.held p (watches old l p) mid new false → IsScanned old l (k + 1) new
  scanned-step s = step-by (watches old l p) refl s

  stop-by : (b : Bool) → watches old l p ≡ b → Looks old.held p b mid new true → StopsAt old l new p
  stop-by true w s = record {
    scanned = subst (λ (t : TrailState). IsScanned old l 0 t) (sym s.same) (scanned-less old l k mid a);
    held = ap (λ (n : ℕ). is_held n old.held) here ∙ held-itself old.held k x inside;
    watched = w;
    falsified = subst (λ (t : TrailState). Falsified (set_of t.entries) (row_at p old.held)) (sym s.same) s.falsified;
  }
  stop-by false w s = absurd (let bad : true ≡ false = s.0 in cc)

  pub scanned-stop : Looks old.held p (watches old l p) mid new true → StopsAt old l new p
  scanned-stop s = stop-by (watches old l p) refl s

-- the places that are kept are those of the held rows
pub place-is : (places : List Place) (held : List Held) → map (λ (p : Place). p.0) places ≡ map (λ (h : Held). h.place) held → (k : ℕ) (d : Place) (x : Held) → k < length places → (get_or places k d).0 ≡ (get_or held k x).place
place-is places held e k d x h =
    let count : length places ≡ length held = sym (length-map places (λ (p : Place). p.0)) ∙ ap length e ∙ length-map held (λ (y : Held). y.place) in
    sym (get_or-map (λ (p : Place). p.0) places k d 0 h) ∙ ap (λ (ns : List ℕ). get_or ns k 0) e ∙ get_or-map (λ (y : Held). y.place) held k x 0 (omega (arith, h, count))

pub places-count : (places : List Place) (held : List Held) → map (λ (p : Place). p.0) places ≡ map (λ (h : Held). h.place) held → length places ≡ length held
places-count places held e = sym (length-map places (λ (p : Place). p.0)) ∙ ap length e ∙ length-map held (λ (y : Held). y.place)

pub place-held : (places : List Place) (held : List Held) → map (λ (p : Place). p.0) places ≡ map (λ (h : Held). h.place) held → (k : ℕ) (d : Place) → k < length places → is_held (get_or places k d).0 held ≡ true
place-held places held e k d h =
    let x : Held = record { place = 0; row = record { terms = []; degree = 0 }; tag = 0 } in
    ap (λ (n : ℕ). is_held n held) (place-is places held e k d x h) ∙ held-itself held k x (omega (arith, h, places-count places held e))

pub some_held : Held
some_held = record { place = 0; row = record { terms = []; degree = 0 }; tag = 0 }
