-- What the tables of a trail say of a variable.
use Rattle.std.proofs.Common.{◌≡◌, ◌==◌, ◌||◌, ◌&&◌, ◌<◌, ◌≤◌, ◌+◌, ◌-◌, ℕ, Bool, true, false, not, if◌then◌else◌, List, [], ◌∷◌, get_or, refl, sym, ◌∙◌, ap, arith, inl, inr, Option, Some, None}
use Rattle.std.specs.Prelude.{nat_le}
use Rattle.std.specs.List.{All, list_any}
use Rattle.std.proofs.lemmas.Bool.{cases_Bool, cases_eq, cases_lt, eq-eqb, false_from_ne_true, le-leb, lt-leb, ne_eqb, or_right}
use Rattle.std.proofs.lemmas.List.Elements.{All-contains}
use Rattle.hrt_base.specs.declared.literal.Lit.{Lit}
use Rattle.hrt_base.specs.declared.literal.Value.{Value}
use Rattle.hrt_base.specs.declared.literal.Value.TheVariants.{False, Free, True}
use Rattle.pb_rows.specs.Points.{IsCovered}
use Rattle.pb_rows.specs.Closure.{among, is_same_lit, makes_true}
use Rattle.propagation.specs.Tables.{IsTable}
use Rattle.propagation.proofs.Sets.{contained, lit_cases, lit_is}
use Rattle.propagation.proofs.Tables.{table_at}
use Rattle.pb_propagate.specs.declared.trail.Mark.{Mark}
use Rattle.pb_propagate.specs.Entries.{Entry, is_decision, level_from, reason_in, set_of, up_to}
use Rattle.pb_propagate.specs.Tables.{AreLevels, entries_of, mark_of, no_mark, number_of}

abbrev lit_as : ℕ → Bool → Lit
lit_as v n = record { var = v; neg = n }

-- ---- values

by-value : (x : Value) (a b : Bool) → makes_true x false ≡ a → makes_true x true ≡ b → x ≡ (if a then True else (if b then False else Free))
by-value Free a b p q = rw (sym p, sym q) refl
by-value True a b p q = rw (sym p) refl
by-value False a b p q = rw (sym p, sym q) refl

pub value-read : (values : List Value) (ls : List Lit) → IsTable values ls → (v : ℕ) → 0 < v
    → get_or values (v - 1) Free ≡ (if among ls (lit_as v false) then True else (if among ls (lit_as v true) then False else Free))
value-read values ls t v h =
    by-value (get_or values (v - 1) Free) (among ls (lit_as v false)) (among ls (lit_as v true)) (table_at values ls t (lit_as v false) h) (table_at values ls t (lit_as v true) h)

pub uncovered : (n : ℕ) (ls : List Lit) → All (λ (a : Lit). IsCovered n a.var) ls → (l : Lit) → (IsCovered n l.var → ⊥) → among ls l ≡ false
uncovered n ls c l never = false_from_ne_true _ (λ e. never (All-contains (λ (a : Lit). IsCovered n a.var) ls l c (contained ls l e)))

-- ---- levels and reasons

abbrev pub has_var : ℕ → List Entry → Bool
has_var v es = list_any (λ (e : Entry). v == e.lit.var) es

pub level-found : (marks : List Mark) (below : ℕ) (es : List Entry) → AreLevels marks below es → (v : ℕ)
    → level_from below es v ≡ (if has_var v es then Some (get_or marks (v - 1) no_mark).level else None)
level-found marks below [] a v = refl
level-found marks below (e ∷ es) a v = elim (cases_eq v e.lit.var) [
  | inl same ↦ rw (eq-eqb v e.lit.var same, same) (ap (λ (k : ℕ). let o : Option ℕ = Some k in o) (sym a.0))
  | inr ne ↦ rw (ne_eqb v e.lit.var ne) (level-found marks ((if is_decision e then 1 else 0) + below) es a.1 v)
]

pub reason-found : (marks : List Mark) (ls : List Lit) (v : ℕ)
    → reason_in (entries_of marks ls) v ≡ (if has_var v (entries_of marks ls) then number_of (get_or marks (v - 1) no_mark).reason else None)
reason-found marks [] v = refl
reason-found marks (l ∷ ls) v = elim (cases_eq v l.var) [
  | inl same ↦ rw (eq-eqb v l.var same, same) refl
  | inr ne ↦ rw (ne_eqb v l.var ne) (reason-found marks ls v)
]

either-sign : (x n h a b : Bool) → h ≡ (a || b) → (x || h) ≡ (((x && not n) || a) || ((x && n) || b))
either-sign true true h a b e = sym (or_right a true refl)
either-sign true false h a b e = refl
either-sign false n h a b e = e

-- a variable is on the trail where one of its literals is true
pub var-true : (es : List Entry) (v : ℕ) → has_var v es ≡ (set_of es (lit_as v false) || set_of es (lit_as v true))
var-true [] v = refl
var-true (e ∷ es) v = either-sign (v == e.lit.var) e.lit.neg (has_var v es) (set_of es (lit_as v false)) (set_of es (lit_as v true)) (var-true es v)

-- ---- up to a level

at_zero : (k : ℕ) → k ≤ 0 → (k == 0) ≡ true
at_zero k h = eq-eqb k 0 (omega (arith, h))

above_zero : (k : ℕ) → 0 < k → (k == 0) ≡ false
above_zero k h = ne_eqb k 0 (λ e. absurd (omega (arith, h, e)))

levels-least : (marks : List Mark) (below : ℕ) (es : List Entry) → AreLevels marks below es → (l : Lit) → set_of es l ≡ true → below ≤ (mark_of marks l).level
levels-least marks below [] a l h = absurd (cc)
levels-least marks below (e ∷ es) a l h = elim (lit_cases l e.lit) [
  | inl same ↦ rw same (omega (arith, a.0))
  | inr ne ↦ let g = (rw ne at h) in omega (arith, levels-least marks ((if is_decision e then 1 else 0) + below) es a.1 l g)
]

joined : (same front all le : Bool) → (same ≡ true → le ≡ true) → front ≡ (all && le) → (same || front) ≡ ((same || all) && le)
joined true front all le h e = sym (h refl)
joined false front all le h e = e

none-joined : (same all le : Bool) → (same ≡ true → le ≡ false) → (all ≡ true → le ≡ false) → false ≡ ((same || all) && le)
none-joined true all le h g = sym (h refl)
none-joined false true le h g = sym (g refl)
none-joined false false le h g = refl

-- a literal is true up to a level where it is true, and its variable has at most that level
pub true-up_to : (marks : List Mark) (below k : ℕ) (es : List Entry) → AreLevels marks below es → (l : Lit)
    → set_of (up_to k es) l ≡ (set_of es l && nat_le (mark_of marks l).level (below + k))
true-up_to marks below k [] a l = refl
true-up_to marks below k (e ∷ es) a l =
    let level = (mark_of marks l).level in
    let same = is_same_lit l e.lit in
    let rest = set_of es l in
    elim (cases_Bool (is_decision e)) [
      | inl d ↦
          let here : same ≡ true → level ≡ 1 + below = λ s. ap (λ (x : Lit). (mark_of marks x).level) (lit_is l e.lit s) ∙ a.0 ∙ ap (λ (b : Bool). (if b then 1 else 0) + below) d in
          elim (cases_lt 0 k) [
            | inl p ↦
                let number : ((if is_decision e then 1 else 0) + below) + (k - 1) ≡ below + k = ap (λ (b : Bool). ((if b then 1 else 0) + below) + (k - 1)) d ∙ omega (arith, p) in
                let ih = true-up_to marks ((if is_decision e then 1 else 0) + below) (k - 1) es a.1 l ∙ ap (λ (n : ℕ). rest && nat_le level n) number in
                rw (d, above_zero k p) (joined same (set_of (up_to (k - 1) es) l) rest (nat_le level (below + k)) (λ s. le-leb level (below + k) (omega (arith, here s, p))) ih)
            | inr z ↦
                let low : rest ≡ true → 1 + below ≤ level = λ r. let least = levels-least marks ((if is_decision e then 1 else 0) + below) es a.1 l r in let step = ap (λ (b : Bool). (if b then 1 else 0) + below) d in omega (arith, least, step) in
                rw (d, at_zero k z) (none-joined same rest (nat_le level (below + k)) (λ s. lt-leb level (below + k) (omega (arith, here s, z))) (λ r. lt-leb level (below + k) (omega (arith, low r, z))))
          ]
      | inr r ↦
          let here : same ≡ true → level ≡ 0 + below = λ s. ap (λ (x : Lit). (mark_of marks x).level) (lit_is l e.lit s) ∙ a.0 ∙ ap (λ (b : Bool). (if b then 1 else 0) + below) r in
          let number : ((if is_decision e then 1 else 0) + below) + k ≡ below + k = ap (λ (b : Bool). ((if b then 1 else 0) + below) + k) r ∙ omega arith in
          let ih = true-up_to marks ((if is_decision e then 1 else 0) + below) k es a.1 l ∙ ap (λ (n : ℕ). rest && nat_le level n) number in
          rw r (joined same (set_of (up_to k es) l) rest (nat_le level (below + k)) (λ s. le-leb level (below + k) (omega (arith, here s))) ih)
    ]
