-- A row that is learned from an engine that is exact below its level is fresh, and its sizes are the trail's lengths.
use Rattle.std.proofs.Common.{◌≡◌, ℕ, ◌+◌, ◌<◌, ◌≤◌, ◌==◌, Bool, true, false, not, ◌&&◌, if◌then◌else◌, List, [], ◌∷◌, ◌++◌, length, take, get_or, refl, sym, ap, ap₂, ◌∙◌, subst, arith}
use Rattle.std.specs.List.{AllByRecursion, IsDistinct}
use Rattle.std.proofs.lemmas.Bool.{and_from, and_parts, eq-eqb, eqb-true, not-true, not_from_false, or_from, or_left, or_parts, or_right}
use Rattle.std.proofs.lemmas.List.{length-map, length-take, take-map}
use Rattle.std.proofs.lemmas.List.Elements.{All-contains, recursion_from_All}
use Rattle.hrt_base.specs.declared.literal.Lit.{Lit}
use Rattle.hrt_base.specs.declared.literal.Term.{Term}
use Rattle.pb_rows.specs.Terms.{PlainRow, opposite_lit}
use Rattle.pb_rows.specs.Closure.{Literals, among, is_same_lit}
use Rattle.rank_tables.specs.Numbers.{is_distinct, is_in}
use Rattle.proof_rules.specs.Notes.{Asserts, HaveSizes, IsOpen}
use Rattle.row_arena.specs.Held.{held_rows}
use Rattle.pb_propagate.specs.Entries.{Entry, decisions_of, is_decision, level_of, lits_of, up_to}
use Rattle.pb_propagate.specs.Engines.{EngineState, decisions_at, set_at}
use Rattle.pb_propagate.specs.Moments.{IsInOrder}
use Rattle.pb_propagate.specs.Open.{PropagatesLit}
use Rattle.pb_propagate.specs.Tables.{starts_from}
use Rattle.pb_propagate.proofs.Starts.{starts-at, starts-up_to, up_to-take}
use Rattle.search_measure.specs.Trails.{IsExactBelow}
use Rattle.conflict_cuts.specs.Learned.{Asserts as AssertsAt}
use Rattle.search_measure.specs.Learning.{LearnedHasSizes, LearnedIsFresh}
use Rattle.search_measure.proofs.TrailSizes.{variables}
use Rattle.search_measure.proofs.Levels.{AreLevels, IsAssigned, IsKnown, front-assigned, levels-fresh, levels-sizes}
use Rattle.search_measure.proofs.Exact.{levels-exact}

-- ---- the trail of an engine

its_sign : (n : Bool) → (if n then n else not n) ≡ true
its_sign true = refl
its_sign false = refl

signs : (m n : Bool) → (if m then n else not n) ≡ false → (if not m then n else not n) ≡ true
signs true true h = absurd (cc)
signs true false h = refl
signs false true h = refl
signs false false h = absurd (cc)

second : (b c : Bool) → b ≡ true → (b && c) ≡ false → c ≡ false
second true c h k = k
second false c h k = absurd (cc)

-- two literals of one variable are the same or opposite
other_lit : (x y : Lit) → (y.var == x.var) ≡ true → is_same_lit x y ≡ false → is_same_lit (opposite_lit x) y ≡ true
other_lit x y v s =
    let same : (x.var == y.var) ≡ true = eq-eqb x.var y.var (sym (eqb-true y.var x.var v)) in
    and_from (x.var == y.var) (if not x.neg then y.neg else not y.neg) same (signs x.neg y.neg (second (x.var == y.var) (if x.neg then y.neg else not y.neg) same s))

-- no literal there has the variable
var-absent : (x : Lit) (ls : List Lit) → AllByRecursion (λ y. is_same_lit x y ≡ false) ls → among ls (opposite_lit x) ≡ false → is_in x.var (variables ls) ≡ false
var-absent x [] h k = refl
var-absent x (y ∷ ls) h k =
    let parts = or_parts (is_same_lit (opposite_lit x) y) (among ls (opposite_lit x)) k in
    or_from (y.var == x.var) (is_in x.var (variables ls)) (differs (y.var == x.var) refl parts.0) (var-absent x ls h.1 parts.1)
  where
    differs : (b : Bool) → (y.var == x.var) ≡ b → is_same_lit (opposite_lit x) y ≡ false → (y.var == x.var) ≡ false
    differs false e s = e
    differs true e s = absurd (cc (other_lit x y e h.0))

variables-distinct : (ls : List Lit) → IsDistinct is_same_lit ls → ((l : Lit) → among ls l ≡ true → among ls (opposite_lit l) ≡ false) → is_distinct (variables ls) ≡ true
unfolding IsDistinct
variables-distinct [] d c = refl
variables-distinct (x ∷ ls) d c =
    and_from (not (is_in x.var (variables ls))) (is_distinct (variables ls)) (not_from_false (is_in x.var (variables ls)) (var-absent x ls d.0 here.1)) (variables-distinct ls d.1 rest)
  where
    here : (is_same_lit (opposite_lit x) x ≡ false) × (among ls (opposite_lit x) ≡ false)
    here = or_parts (is_same_lit (opposite_lit x) x) (among ls (opposite_lit x)) (c x (or_left (is_same_lit x x) (among ls x) (and_from (x.var == x.var) (if x.neg then x.neg else not x.neg) (eq-eqb x.var x.var refl) (its_sign x.neg))))

    rest : (l : Lit) → among ls l ≡ true → among ls (opposite_lit l) ≡ false
    rest l h = (or_parts (is_same_lit (opposite_lit l) x) (among ls (opposite_lit l)) (c l (or_right (is_same_lit l x) (among ls l) h))).1

pub engine-assigned : (e : EngineState) → IsInOrder e → IsAssigned e.vars (lits_of e.trail)
engine-assigned e o = record {
  known = recursion_from_All (IsKnown e.vars) (lits_of e.trail) o.covered;
  distinct = variables-distinct (lits_of e.trail) o.consistent.distinct o.consistent.consistent;
}

-- ---- up to a level

take-up_to : (k : ℕ) (t : List Entry) → take (length (up_to k t)) (lits_of t) ≡ lits_of (up_to k t)
take-up_to k t = take-map (λ (e : Entry). e.lit) (length (up_to k t)) t ∙ ap lits_of (up_to-take k t)

length-up_to : (k : ℕ) (t : List Entry) → length (up_to k t) ≤ length (lits_of t)
length-up_to k t = omega (arith, ap length (take-up_to k t), length-map (up_to k t) (λ (e : Entry). e.lit), length-take (length (up_to k t)) (lits_of t))

decisions-all : (P : Lit → Type 0) (t : List Entry) → AllByRecursion P (lits_of t) → AllByRecursion P (decisions_of t)
decisions-all P [] h = tt
decisions-all P (e ∷ t) h = by (is_decision e) (decisions-all P t h.1)
  where
    by : (b : Bool) → AllByRecursion P (decisions_of t) → AllByRecursion P (if b then e.lit ∷ decisions_of t else decisions_of t)
    by true rest = (h.0, rest)
    by false rest = rest

decisions-known : (e : EngineState) (level : ℕ) → IsInOrder e → AllByRecursion (IsKnown e.vars) (decisions_at level e)
decisions-known e level o =
    decisions-all (IsKnown e.vars) (up_to level e.trail)
    (subst (AllByRecursion (IsKnown e.vars)) (take-up_to level e.trail) (front-assigned e.vars (length (up_to level e.trail)) (lits_of e.trail) (engine-assigned e o)).known)

-- ---- the learned row

propagated-open : (set : Literals) (row : PlainRow) (l : Lit) → PropagatesLit set row l → IsOpen set l
propagated-open set row l p =
    let parts = and_parts (not (set p.term.lit)) (not (set (opposite_lit p.term.lit))) p.propagates.free in
    subst (IsOpen set) p.lit (record { not_true = not-true (set p.term.lit) parts.0; not_false = not-true (set (opposite_lit p.term.lit)) parts.1 })

literal-known : (e : EngineState) (row : PlainRow) (level : ℕ) (l : Lit) → AssertsAt e row level l → IsKnown e.vars l
literal-known e row level l p =
    subst (IsKnown e.vars) p.propagates.lit (All-contains (λ (t : Term). IsKnown e.vars t.lit) row.terms p.propagates.term p.over p.propagates.has)

-- what the trail's first literals are: those up to the level
at-front : (P : Literals → Type 0) (e : EngineState) (level : ℕ) → P (set_at level e) → P (among (take (length (up_to level e.trail)) (lits_of e.trail)))
at-front P e level h = subst (λ (ls : List Lit). P (among ls)) (sym (take-up_to level e.trail)) h

levels-learned : (e : EngineState) (level : ℕ) → level < level_of e.trail → IsExactBelow e →
    AreLevels (held_rows e.held) (lits_of e.trail) [] (decisions_at level e) (starts_from 0 (up_to level e.trail)) (length (up_to level e.trail))
levels-learned e level below exact = levels-exact (held_rows e.held) e.trail level below (λ j h. exact j (omega (arith, below)))

pub learned_fresh : LearnedIsFresh
learned_fresh e row level l o exact p =
    levels-fresh e.vars (held_rows e.held) (lits_of e.trail) (decisions_at level e) (starts_from 0 (up_to level e.trail)) (length (up_to level e.trail)) row l (engine-assigned e o) (decisions-known e level o) (literal-known e row level l p)
    (levels-learned e level p.below exact)
    (at-front (λ set. IsOpen set l) e level (propagated-open (set_at level e) row l p.propagates))
    (at-front (λ set. Asserts set row l) e level (p.propagates.term, p.propagates.has, p.propagates.lit, p.propagates.propagates))

pub learned_sized : LearnedHasSizes
learned_sized e row level l o exact p =
    subst (HaveSizes e.vars (held_rows e.held) [] (decisions_at level e) l)
    (ap₂ (λ (front : List ℕ) (n : ℕ). front ++ (n + 1) ∷ []) (starts-up_to level e.trail 0) ends)
    (levels-sizes e.vars (held_rows e.held) (lits_of e.trail) [] (decisions_at level e) (starts_from 0 (up_to level e.trail)) (length (up_to level e.trail)) l (engine-assigned e o) (length-up_to level e.trail) (literal-known e row level l p)
    (at-front (λ set. IsOpen set l) e level (propagated-open (set_at level e) row l p.propagates))
    (levels-learned e level p.below exact))
  where
    ends : length (up_to level e.trail) ≡ get_or (starts_from 0 e.trail) level 0
    ends = omega (arith, starts-at level e.trail 0 p.below)
