-- No held row is open below the level: what each call of an engine keeps of it.
use Rattle.std.proofs.Common.{◌≡◌, ◌==◌, ◌<◌, ◌≤◌, ◌-◌, ℕ, false, List, [], ◌∷◌, ◌++◌, get_or, refl, sym, ◌∙◌, ap, subst, arith, inl, inr, append-nil, Some, None, is_none}
use Rattle.std.specs.List.{All}
use Rattle.std.proofs.lemmas.Bool.{cases_Bool, cases_lt, eq-eqb, or_parts}
use Rattle.std.proofs.lemmas.List.{get_or-map, length-map}
use Rattle.std.proofs.lemmas.List.Elements.{All-head, All-nil, All-push, All-tail, All-weaker}
use Rattle.hrt_base.specs.declared.literal.Lit.{Lit}
use Rattle.pb_rows.specs.Terms.{PlainRow}
use Rattle.pb_rows.specs.Closure.{IsSettled, Keeps, Literals}
use Rattle.row_arena.specs.Held.{Held, is_held, no_row, row_at}
use Rattle.pb_propagate.specs.Entries.{Entry, is_decision, level_of, set_of, up_to}
use Rattle.pb_propagate.specs.Engines.{AreKept, AreKeptBelow, EngineState, IsKeptBelow, IsLowestOpen, set_at, without_lit, without_place}
use Rattle.pb_propagate.specs.Visits.{Adds, IsDueTo, VisitsLiteral, VisitsRow}
use Rattle.pb_propagate.specs.declared.visit.Visit.{Visit}
use Rattle.pb_propagate.specs.declared.visit.Visit.TheVariants.{Done, Falsified}
use Rattle.pb_propagate.proofs.Levels.{AreReasoned, level-append, level-up_to, up_to-above, up_to-all, up_to-below, up_to-up_to}
use Rattle.pb_propagate.proofs.Engines.{kept_below-more}
use Rattle.pb_propagate.proofs.Looking.{reasoned-by}
use Rattle.conflict_cuts.specs.declared.visiting.Outcome.{Outcome}
use Rattle.conflict_cuts.specs.declared.visiting.Outcome.TheVariants.{Conflict, Quiet}
use Rattle.conflict_cuts.specs.Exact.{ComesTo, IsExactAt}

-- ---- propagation

below-exact : (e : EngineState) → ((k : ℕ) → k < level_of e.trail → IsExactAt k e) → AreKeptBelow e
below-exact e exact i d h k low =
    subst (Keeps (set_at k e)) (get_or-map (λ (x : Held). x.row) e.held i d d.row h)
    ((exact k low).quiet.kept i d.row (omega (arith, h, length-map e.held (λ (x : Held). x.row))))

pub below-comes : (old new : EngineState) (outcome : Outcome) → ComesTo old new outcome → AreKeptBelow new
below-comes old new Quiet c = below-exact new (λ k low. c.exact k)
below-comes old new (Conflict place) c = below-exact new c.exact

-- ---- going back

fewer-levels : (k : ℕ) (es : List Entry) → (level_of (up_to k es) ≤ k) × (level_of (up_to k es) ≤ level_of es)
fewer-levels k es = elim (cases_lt (level_of es) k) [
  | inl above ↦ let same = ap level_of (up_to-all k es (omega (arith, above))) in (omega (arith, same, above), omega (arith, same))
  | inr within ↦ let is = level-up_to k es within in (omega (arith, is), omega (arith, is, within))
]

-- what isn't open below a level isn't open below it after going back
row-back : (es : List Entry) (level : ℕ) (r : PlainRow) → ((k : ℕ) → k < level_of es → k < level → Keeps (set_of (up_to k es)) r)
    → (k : ℕ) → k < level_of (up_to level es) → Keeps (set_of (up_to k (up_to level es))) r
row-back es level r kept k low =
    let few = fewer-levels level es in
    let below : k < level = omega (arith, low, few.0) in
    subst (λ (t : List Entry). Keeps (set_of t) r) (sym (up_to-up_to k level es (omega (arith, below)))) (kept k (omega (arith, low, few.1)) below)

row-went : (old new : EngineState) (level : ℕ) (r : PlainRow) → new.trail ≡ up_to level old.trail → ((k : ℕ) → k < level_of old.trail → k < level → Keeps (set_at k old) r) → IsKeptBelow new r
row-went old new level r trail kept = subst (λ (t : List Entry). (k : ℕ) → k < level_of t → Keeps (set_of (up_to k t)) r) (sym trail) (row-back old.trail level r kept)

pub below-back : (old new : EngineState) (level : ℕ) → new.held ≡ old.held → new.trail ≡ up_to level old.trail → AreKeptBelow old → AreKeptBelow new
below-back old new level held trail below =
    subst (λ (hs : List Held). All (λ (h : Held). IsKeptBelow new h.row) hs) (sym held) (λ i d h. row-went old new level (get_or old.held i d).row trail (λ k low under. below i d h k low))

-- ---- a row that is added

row-pushed : (held : List Held) (h : Held) → is_held h.place held ≡ false → row_at h.place (held ++ h ∷ []) ≡ h.row
row-pushed [] h out = rw (eq-eqb h.place h.place refl) refl
row-pushed (x ∷ held) h out =
    let parts = or_parts (h.place == x.place) (is_held h.place held) out in
    rw parts.0 (row-pushed held h parts.1)

abbrev grown : EngineState → Held → EngineState
grown e h = record e { held = e.held ++ h ∷ []; due_rows = e.due_rows ++ h.place ∷ [] }

pub below-added : (old : EngineState) (h : Held) → is_held h.place old.held ≡ false → AreKeptBelow old → IsLowestOpen (grown old h) (row_at h.place (grown old h).held) None → AreKeptBelow (grown old h)
below-added old h out below low =
    let row : IsLowestOpen (grown old h) h.row None = subst (λ (r : PlainRow). IsLowestOpen (grown old h) r None) (row-pushed old.held h out) low in
    All-push (λ (x : Held). IsKeptBelow (grown old h) x.row) old.held h below (λ k under. row k (omega (arith, under)))

pub below-added-back : (old new : EngineState) (h : Held) (level : ℕ) → is_held h.place old.held ≡ false → AreKeptBelow old
    → IsLowestOpen (grown old h) (row_at h.place (grown old h).held) (Some level) → new.held ≡ old.held ++ h ∷ [] → new.trail ≡ up_to level old.trail → AreKeptBelow new
below-added-back old new h level out below low held trail =
    let row : IsLowestOpen (grown old h) h.row (Some level) = subst (λ (r : PlainRow). IsLowestOpen (grown old h) r (Some level)) (row-pushed old.held h out) low in
    subst (λ (hs : List Held). All (λ (x : Held). IsKeptBelow new x.row) hs) (sym held)
    (All-push (λ (x : Held). IsKeptBelow new x.row) old.held h
    (λ i d h'. row-went old new level (get_or old.held i d).row trail (λ k few under. below i d h' k few))
    (row-went old new level h.row trail (λ k few under. row.2 k under)))

-- ---- decisions

at-start : (k : ℕ) (es : List Entry) (l : Lit) → k ≡ level_of es → up_to k (es ++ record { lit = l; reason = None } ∷ []) ≡ es
at-start k es l is =
    up_to-above k es (record { lit = l; reason = None } ∷ []) (omega (arith, is))
    ∙ ap (λ (n : ℕ). es ++ up_to n (record { lit = l; reason = None } ∷ [])) (let z : k - level_of es ≡ 0 = omega (arith, is) in z)
    ∙ append-nil es

row-decided : (es : List Entry) (l : Lit) (r : PlainRow) → ((k : ℕ) → Keeps (set_of (up_to k es)) r) → (k : ℕ) → k < level_of (es ++ record { lit = l; reason = None } ∷ []) → Keeps (set_of (up_to k (es ++ record { lit = l; reason = None } ∷ []))) r
row-decided es l r kept k low =
    elim (cases_lt k (level_of es)) [
      | inl under ↦ subst (λ (t : List Entry). Keeps (set_of t) r) (sym (up_to-below k es (record { lit = l; reason = None } ∷ []) under)) (kept k)
      | inr high ↦
          let is : k ≡ level_of es = omega (arith, low, high, level-append es (record { lit = l; reason = None } ∷ [])) in
          subst (λ (t : List Entry). Keeps (set_of t) r) (up_to-all k es high ∙ sym (at-start k es l is)) (kept k)
    ]

pub below-decided : (old new : EngineState) (l : Lit) → new.held ≡ old.held → new.trail ≡ old.trail ++ record { lit = l; reason = None } ∷ [] → AreKept old → AreKeptBelow new
below-decided old new l held trail kept =
    subst (λ (hs : List Held). All (λ (h : Held). IsKeptBelow new h.row) hs) (sym held)
    (λ i d h. subst (λ (t : List Entry). (k : ℕ) → k < level_of t → Keeps (set_of (up_to k t)) (get_or old.held i d).row) (sym trail) (row-decided old.trail l (get_or old.held i d).row (λ k. kept k i d h)))

-- ---- visits

kept-none : (set : Literals) → Keeps set no_row
kept-none set = record { unfalsified = omega arith; settled = All-nil (IsSettled set no_row) }

at-place : (P : PlainRow → Type 0) → P no_row → (held : List Held) → All (λ (h : Held). P h.row) held → (p : ℕ) → P (row_at p held)
at-place P none [] a p = none
at-place P none (h ∷ held) a p = elim (cases_Bool (p == h.place)) [
  | inl here ↦ rw here (All-head (λ (x : Held). P x.row) h held a)
  | inr there ↦ rw there (at-place P none held (All-tail (λ (x : Held). P x.row) h held a) p)
]

-- the row at a place isn't open below the level
pub place-below : (e : EngineState) → AreKeptBelow e → (p : ℕ) → IsKeptBelow e (row_at p e.held)
place-below e below p = at-place (IsKeptBelow e) (λ k low. kept-none (set_at k e)) e.held below p

below-more : (b c : EngineState) (rows : List ℕ) (lits : List Lit) (added : List Entry) → Adds b c rows lits added → AreReasoned added → AreKeptBelow b → AreKeptBelow c
below-more b c rows lits added s r k =
    subst (λ (hs : List Held). All (λ (h : Held). IsKeptBelow c h.row) hs) (sym s.held) (λ i d h. kept_below-more b c added (get_or b.held i d).row s.trail r (k i d h))

pub below-row : (b c : EngineState) (p : ℕ) (v : Visit) → AreKeptBelow b → VisitsRow b c p v → AreKeptBelow c
below-row b c p Done below s =
    below-more b c (without_place p b.due_rows) b.due_literals s.added s.adds (All-weaker (IsDueTo p) (λ (x : Entry). is_decision x ≡ false) (λ x r. ap is_none r) s.added s.reasons) below
below-row b c p (Falsified q) below s = subst AreKeptBelow (sym s.same) below

pub below-literal : (b c : EngineState) (l : Lit) (v : Visit) → AreKeptBelow b → VisitsLiteral b c l v → AreKeptBelow c
below-literal b c l Done below s = below-more b c b.due_rows (without_lit l b.due_literals) s.added s.adds (reasoned-by b l s.added s.reasons) below
below-literal b c l (Falsified q) below s = below-more b c b.due_rows b.due_literals s.added s.adds (reasoned-by b l s.added s.reasons) below
