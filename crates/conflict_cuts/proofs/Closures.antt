-- The trail of an engine as a closure.
use Rattle.std.proofs.Common.{◌≡◌, ℕ, true, false, List, [], sym, ◌∙◌, subst, arith}
use Rattle.std.specs.List.{All}
use Rattle.std.proofs.lemmas.Bool.{false_from_ne_true}
use Rattle.std.proofs.lemmas.List.Elements.{All-map}
use Rattle.hrt_base.specs.declared.literal.Lit.{Lit}
use Rattle.pb_rows.specs.Terms.{PlainRow, opposite_lit}
use Rattle.pb_rows.specs.Closure.{Falsified, IsQuiet, Keeps, Literals, among, nonfalse_sum}
use Rattle.propagation.specs.Following.{Follows}
use Rattle.propagation.proofs.Following.{follows-falsified}
use Rattle.row_arena.specs.Held.{Held, held_rows, is_held, row_at}
use Rattle.row_arena.proofs.Places.{row_at-contained}
use Rattle.pb_propagate.specs.Entries.{Entry, decisions_of, level_of, set_of, up_to}
use Rattle.pb_propagate.specs.Open.{AreJustified}
use Rattle.pb_propagate.specs.Engines.{EngineState, decisions_at, set_at}
use Rattle.pb_propagate.specs.Moments.{IsInOrder, IsSound}
use Rattle.pb_propagate.proofs.Levels.{decisions-within, up_to-all, up_to-front, up_to-within}
use Rattle.pb_propagate.proofs.Justified.{follows-trail, justified-front}
use Rattle.conflict_cuts.specs.Exact.{IsExactAt, IsRefuted}

-- nothing follows from less than nothing
follows-none : (rows : List PlainRow) (given : Literals) → Follows rows given (among [])
follows-none rows given = record { holds = λ other q l h. absurd (let bad : false ≡ true = h in cc) }

-- what stands up to a level is in each quiet set that holds the decisions up to it
pub trail-follows : (e : EngineState) → IsSound e → (k : ℕ) → Follows (held_rows e.held) (among (decisions_at k e)) (set_at k e)
trail-follows e o k =
    let front = up_to-front k e.trail in
    let justified = justified-front e.held [] (up_to k e.trail) front.0 (subst (AreJustified e.held []) front.1 o.justified) in
    follows-trail e.held (among (decisions_at k e)) [] (up_to k e.trail) (follows-none (held_rows e.held) (among (decisions_at k e))) justified (λ l h. h)

consistent-at : (e : EngineState) → IsInOrder e → (k : ℕ) → (l : Lit) → set_at k e l ≡ true → set_at k e (opposite_lit l) ≡ false
consistent-at e o k l h =
    let whole : set_of e.trail (opposite_lit l) ≡ false = o.consistent.consistent l (up_to-within k e.trail l h) in
    false_from_ne_true _ (λ t. let u = up_to-within k e.trail (opposite_lit l) t in let bad : false ≡ true = sym whole ∙ u in cc)

-- where no row is open at a level, the trail up to it is the closure
pub exact-at : (e : EngineState) → IsInOrder e → (k : ℕ) → All (λ (h : Held). Keeps (set_at k e) h.row) e.held → IsExactAt k e
exact-at e o k kept = record {
  quiet = record {
    has_given = λ l h. decisions-within (up_to k e.trail) l h;
    consistent = consistent-at e o k;
    kept = All-map (Keeps (set_at k e)) (λ (h : Held). h.row) e.held kept;
  };
  least = (trail-follows e o.sound k).holds;
}

-- a falsified row refutes the rows and the decisions
pub falsified-refutes : (e : EngineState) → IsSound e → (p : ℕ) → is_held p e.held ≡ true → Falsified (set_of e.trail) (row_at p e.held) → IsRefuted e
falsified-refutes e o p held f =
    let level = level_of e.trail in
    let all : up_to level e.trail ≡ e.trail = up_to-all level e.trail (omega arith) in
    let follows = subst (λ (t : List Entry). Follows (held_rows e.held) (among (decisions_of t)) (set_of t)) all (trail-follows e o level) in
    follows-falsified (held_rows e.held) (among (decisions_of e.trail)) (set_of e.trail) (row_at p e.held) (nonfalse_sum (set_of e.trail) (row_at p e.held).terms)
    (row_at-contained e.held p held) (omega arith) f follows

-- a closure isn't refuted
pub exact-not_refuted : (e : EngineState) → IsExactAt (level_of e.trail) e → IsRefuted e → ⊥
exact-not_refuted e x r =
    let all : up_to (level_of e.trail) e.trail ≡ e.trail = up_to-all (level_of e.trail) e.trail (omega arith) in
    let quiet = subst (λ (t : List Entry). IsQuiet (held_rows e.held) (among (decisions_of t)) (set_of t)) all x.quiet in
    r (set_of e.trail) quiet
