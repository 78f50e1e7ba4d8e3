-- The moves of a search keep its trail ahead of the last learned row.
use Rattle.std.proofs.Common.{◌≡◌, ℕ, ◌+◌, ◌<◌, not, List, [], ◌∷◌, ◌++◌, length, take, get_or, append-nil, length-append, inl, inr, refl, sym, ap, ◌∙◌, subst, arith}
use Rattle.std.specs.Prelude.{IsFalse, None}
use Rattle.std.specs.List.{All, Contains}
use Rattle.std.proofs.lemmas.Bool.{and_parts, cases_lt, not-true, true≢false}
use Rattle.std.proofs.lemmas.List.Elements.{All-cons, All-contains, All-head, All-nil, All-tail}
use Rattle.pb_rows.specs.Terms.{PlainRow, opposite_lit}
use Rattle.pb_rows.specs.Closure.{IsSettled, Keeps, Literals}
use Rattle.row_arena.specs.Held.{Held, held_rows}
use Rattle.pb_propagate.specs.Entries.{Entry, is_decision, level_of, set_of, up_to}
use Rattle.pb_propagate.specs.Engines.{EngineState, set_at}
use Rattle.pb_propagate.specs.Open.{IsOpen}
use Rattle.pb_propagate.specs.Tables.{starts_from}
use Rattle.pb_propagate.proofs.Levels.{AreReasoned, up_to-all}
use Rattle.pb_propagate.proofs.Starts.{starts-at, starts-length, starts-up_to}
use Rattle.pb_propagate.proofs.Engines.{idle-kept}
use Rattle.conflict_cuts.specs.Exact.{IsExactAt, IsPropagated}
use Rattle.conflict_cuts.proofs.Closures.{exact-at}
use Rattle.search_measure.specs.Ahead.{IsAhead, IsLaterBelow, IsLevel}
use Rattle.search_measure.specs.Trails.{SomeOpen, TrailIsAhead}
use Rattle.search_measure.specs.Moves.{AddedIsAhead, ConflictKeepsLater, DecisionIsAhead, IdleIsExact, LearnedIsAhead, QuietIsLevel, RestartsLevel, StartsAhead}
use Rattle.search_measure.proofs.Ahead.{ahead-learned, ahead-quiet, ahead-start, greater-nothing, level-added, level-decided, level-stayed}
use Rattle.search_measure.proofs.Shapes.{starts-decided, starts-reasoned}

-- ---- open rows

-- a row that is kept isn't open
open-kept : (set : Literals) (r : PlainRow) → IsOpen set r → Keeps set r → ⊥
open-kept set r (inl f) k = absurd (omega (arith, f, k.unfalsified))
open-kept set r (inr p) k =
    let free = and_parts (not (set p.1.term.lit)) (not (set (opposite_lit p.1.term.lit))) p.1.propagates.free in
    true≢false
    (sym (All-contains (IsSettled set r) r.terms p.1.term k.settled p.1.has (not-true (set (opposite_lit p.1.term.lit)) free.1) p.1.propagates.exceeds) ∙ not-true (set p.1.term.lit) free.0)

pub rows-held : (P : PlainRow → Type 0) (held : List Held) → All P (held_rows held) → All (λ (h : Held). P h.row) held
rows-held P [] all = All-nil (λ (h : Held). P h.row)
rows-held P (h ∷ held) all = All-cons (λ (x : Held). P x.row) h held (All-head P h.row (held_rows held) all) (rows-held P held (All-tail P h.row (held_rows held) all))

-- where the whole trail is exact, no row is open
exact-closed : (e : EngineState) → IsExactAt (level_of e.trail) e → SomeOpen e → ⊥
exact-closed e x o =
    let all : up_to (level_of e.trail) e.trail ≡ e.trail = up_to-all (level_of e.trail) e.trail (omega arith) in
    open-kept (set_of e.trail) o.which.row o.is
    (subst (λ (t : List Entry). Keeps (set_of t) o.which.row) all (All-contains (λ (h : Held). Keeps (set_at (level_of e.trail) e) h.row) e.held o.which (rows-held (Keeps (set_at (level_of e.trail) e)) e.held x.quiet.kept) o.held))

-- ---- start and restart

pub starts_ahead : StartsAhead
starts_ahead e = ahead-start (starts_from 0 e.trail) (length e.trail) (SomeOpen e)

pub restarts_level : RestartsLevel
restarts_level e = record {
  later_below = λ level h. greater-nothing (take level (starts_from 0 e.trail)) (get_or (starts_from 0 e.trail) level 0 + 1) [];
  reached = inr (greater-nothing (starts_from 0 e.trail) (length e.trail) []);
}

-- ---- propagation

reasoned : (entries : List Entry) → All (λ (e : Entry). IsFalse (is_decision e)) entries → AreReasoned entries
reasoned entries h = h

starts-propagated : (e new : EngineState) → IsPropagated e new → starts_from 0 new.trail ≡ starts_from 0 e.trail
starts-propagated e new p = ap (starts_from 0) p.trail ∙ starts-reasoned 0 e.trail p.added (reasoned p.added p.reasons)

length-propagated : (e new : EngineState) → (p : IsPropagated e new) → length new.trail ≡ length e.trail + length p.added
length-propagated e new p = ap length p.trail ∙ length-append e.trail p.added

pub conflict_later : ConflictKeepsLater
conflict_later e new place last a r = subst (λ (below : List ℕ). IsLaterBelow below last) (sym (starts-propagated e new r.propagated)) a.later_below

none-left : (xs : List Entry) → length xs ≡ 0 → xs ≡ []
none-left [] h = refl
none-left (x ∷ xs) h = absurd (omega arith)

-- where nothing came onto the trail, what was open is open
open-still : (e new : EngineState) → IsPropagated e new → length e.trail ≡ length new.trail → SomeOpen e → SomeOpen new
open-still e new p same o =
    let none : p.added ≡ [] = none-left p.added (omega (arith, length-propagated e new p, same)) in
    let trail : e.trail ≡ new.trail = sym (p.trail ∙ ap (λ (l : List Entry). e.trail ++ l) none ∙ append-nil e.trail) in
    record {
      which = o.which;
      held = subst (λ (held : List Held). Contains held o.which) (sym p.held) o.held;
      is = subst (λ (t : List Entry). IsOpen (set_of t) o.which.row) trail o.is;
    }

pub quiet_level : QuietIsLevel
quiet_level e new last a r =
    subst (λ (below : List ℕ). IsLevel below (length new.trail) last) (sym (starts-propagated e new r.propagated))
    (ahead-quiet (starts_from 0 e.trail) (length e.trail) (length new.trail) (SomeOpen e) last (omega (arith, length-propagated e new r.propagated))
    (λ same o. exact-closed new (r.exact (level_of new.trail)) (open-still e new r.propagated same o)) a)

-- ---- decisions

pub decision_ahead : DecisionIsAhead
decision_ahead e new l last a trail =
    subst (λ (t : List Entry). IsAhead (starts_from 0 t) (length t) (SomeOpen new) last) (sym trail)
    (subst (λ (n : ℕ). IsAhead (starts_from 0 (e.trail ++ d ∷ [])) n (SomeOpen new) last) (sym (length-append e.trail (d ∷ [])))
    (subst (λ (below : List ℕ). IsAhead below (length e.trail + 1) (SomeOpen new) last) (sym (starts-decided 0 e.trail d refl))
    (subst (λ (n : ℕ). IsAhead (starts_from 0 e.trail ++ n ∷ []) (length e.trail + 1) (SomeOpen new) last) ends
    (level-decided (starts_from 0 e.trail) (length e.trail) (SomeOpen new) last a))))
  where
    d : Entry
    d = record { lit = l; reason = None }

    ends : length e.trail ≡ 0 + length e.trail
    ends = omega arith

-- ---- going back

-- what stands of a trail that goes back to a level below the engine's
back-ahead : (e new : EngineState) (level : ℕ) (last : List ℕ) → level < level_of e.trail → new.trail ≡ up_to level e.trail →
    IsAhead (take level (starts_from 0 e.trail)) (get_or (starts_from 0 e.trail) level 0) (SomeOpen new) last → TrailIsAhead new last
back-ahead e new level last below trail a =
    subst (λ (t : List Entry). IsAhead (starts_from 0 t) (length t) (SomeOpen new) last) (sym trail)
    (subst (λ (n : ℕ). IsAhead (starts_from 0 (up_to level e.trail)) n (SomeOpen new) last) ends
    (subst (λ (starts : List ℕ). IsAhead starts (get_or (starts_from 0 e.trail) level 0) (SomeOpen new) last) (sym (starts-up_to level e.trail 0)) a))
  where
    ends : get_or (starts_from 0 e.trail) level 0 ≡ length (up_to level e.trail)
    ends = omega (arith, starts-at level e.trail 0 below)

within : (e : EngineState) (level : ℕ) → level < level_of e.trail → level < length (starts_from 0 e.trail)
within e level below = omega (arith, below, starts-length 0 e.trail)

pub learned_ahead : LearnedIsAhead
learned_ahead e new level below trail some =
    back-ahead e new level _ below trail (ahead-learned (starts_from 0 e.trail) level (SomeOpen new) [] (within e level below) some)

pub added_ahead : AddedIsAhead
added_ahead e new level last a trail some = elim (cases_lt level (level_of e.trail)) [
  | inl below ↦ back-ahead e new level last below trail (level-added (starts_from 0 e.trail) (length e.trail) level (SomeOpen new) last (within e level below) a some)
  | inr stays ↦
      subst (λ (t : List Entry). IsAhead (starts_from 0 t) (length t) (SomeOpen new) last) (sym (trail ∙ up_to-all level e.trail stays))
      (level-stayed (starts_from 0 e.trail) (length e.trail) (SomeOpen new) last a)
]

-- ---- nothing is due

pub idle_exact : IdleIsExact
idle_exact e o idle k = exact-at e o k (idle-kept e o.sound idle k)
