-- Rows under the literals of one level and of another.
use Rattle.std.proofs.Common.{◌≡◌, ◌<◌, ◌≤◌, ◌+◌, ℕ, true, false, List, [], length, take, get_or, sym, ◌∙◌, ap, arith, inl, inr, Option, Some, None}
use Rattle.std.proofs.lemmas.Bool.{cases_lt, le-leb, lt-leb}
use Rattle.std.proofs.lemmas.List.Elements.{All-more}
use Rattle.hrt_base.specs.declared.literal.Lit.{Lit}
use Rattle.hrt_base.specs.declared.literal.Term.{Term}
use Rattle.pb_rows.specs.Terms.{PlainRow, opposite_lit}
use Rattle.pb_rows.specs.Closure.{Keeps}
use Rattle.propagation.proofs.Following.{Within}
use Rattle.pb_propagate.specs.Entries.{Entry, set_of, up_to}
use Rattle.pb_propagate.specs.Serving.{AreUntouchedBetween, IsLowestFrom, IsNearer, IsNextAmong, IsTrueFrom}
use Rattle.pb_propagate.proofs.Levels.{up_to-up_to, up_to-within}
use Rattle.pb_propagate.proofs.Kept.{keeps-grown}

-- what is true up to a level is true up to each higher one
pub levels-within : (j k : ℕ) (es : List Entry) → j ≤ k → Within (set_of (up_to j es)) (set_of (up_to k es))
levels-within j k es h l t = up_to-within j (up_to k es) l (ap (λ (x : List Entry). set_of x l) (up_to-up_to j k es h) ∙ t)

-- a row that is kept at a level is kept until a literal of it becomes false
pub kept-until : (es : List Entry) (r : PlainRow) (from k : ℕ) → from ≤ k → AreUntouchedBetween es r.terms from k → Keeps (set_of (up_to from es)) r → Keeps (set_of (up_to k es)) r
kept-until es r from k h u kept = keeps-grown (set_of (up_to from es)) (set_of (up_to k es)) r (levels-within from k es h) u kept

-- the search for the lowest open level: one level more
pub lowest-none : (es : List Entry) (r : PlainRow) (level : ℕ) → ((k : ℕ) → k < level → Keeps (set_of (up_to k es)) r) → Keeps (set_of (up_to level es)) r
    → IsNextAmong es r.terms level None → IsLowestFrom es r 0 None
lowest-none es r level below here next k z = elim (cases_lt k level) [
  | inl low ↦ below k low
  | inr high ↦ kept-until es r level k high (next k high) here
]

pub lowest-next : (es : List Entry) (r : PlainRow) (level next : ℕ) → ((k : ℕ) → k < level → Keeps (set_of (up_to k es)) r) → Keeps (set_of (up_to level es)) r
    → IsNextAmong es r.terms level (Some next) → (k : ℕ) → k < next → Keeps (set_of (up_to k es)) r
lowest-next es r level next below here n k h = elim (cases_lt k level) [
  | inl low ↦ below k low
  | inr high ↦ kept-until es r level k high (n.2 k high h) here
]

-- ---- the next level at which a literal becomes false

next-none : (es : List Entry) (from : ℕ) → IsNextAmong es [] from None
next-none es from k h i d j = absurd (omega (arith, j))

untouched-one : (es : List Entry) (ts : List Term) (i : ℕ) (d : Term) (from k : ℕ) → i < length ts → AreUntouchedBetween es (take i ts) from k
    → (set_of (up_to from es) (opposite_lit (get_or ts i d).lit) ≡ false → set_of (up_to k es) (opposite_lit (get_or ts i d).lit) ≡ false) → AreUntouchedBetween es (take (i + 1) ts) from k
untouched-one es ts i d from k h a one = All-more (λ (t : Term). set_of (up_to from es) (opposite_lit t.lit) ≡ false → set_of (up_to k es) (opposite_lit t.lit) ≡ false) ts i d h a one

module _ (es : List Entry) (ts : List Term) (i : ℕ) (d : Term) (level : ℕ) (h : i < length ts) where
  abbrev false_lit : Lit
  false_lit = opposite_lit (get_or ts i d).lit

  -- the literal is false from a level on that is no higher
  one-early : (n k : ℕ) → n ≤ level → IsTrueFrom es false_lit (Some n) → set_of (up_to level es) false_lit ≡ false → set_of (up_to k es) false_lit ≡ false
  one-early n k low t u = absurd (let bad : false ≡ true = sym u ∙ t.1 level ∙ le-leb n level low in cc)

  -- the literal becomes false later
  one-later : (n k : ℕ) → k < n → IsTrueFrom es false_lit (Some n) → set_of (up_to k es) false_lit ≡ false
  one-later n k late t = t.1 k ∙ lt-leb n k late

  pub next-step : (next from result : Option ℕ) → IsNextAmong es (take i ts) level next → IsTrueFrom es false_lit from → IsNearer level next from result → IsNextAmong es (take (i + 1) ts) level result
  next-step None None None a t e = λ k low. untouched-one es ts i d level k h (a k low) (λ u. t k)
  next-step None None (Some r) a t e = absurd (let bad : Some r ≡ None = e in cc)
  next-step (Some m) None None a t e = absurd (let bad : let o : Option ℕ = None in o ≡ Some m = e in cc)
  next-step (Some m) None (Some r) a t e =
      let same : r ≡ m = let f : Some r ≡ Some m = e in cc in
      (omega (arith, same, a.0), omega (arith, same, a.1), λ k low high. untouched-one es ts i d level k h (a.2 k low (omega (arith, high, same))) (λ u. t k))
  next-step None (Some n) None a t e = λ k low. untouched-one es ts i d level k h (a k low) (one-early n k e t)
  next-step (Some m) (Some n) None a t e = absurd e
  next-step None (Some n) (Some r) a t e =
      (omega (arith, e.0, e.1), omega (arith, e.1, t.0), λ k low high. untouched-one es ts i d level k h (a k low) (λ u. one-later n k (omega (arith, high, e.1)) t))
  next-step (Some m) (Some n) (Some r) a t e = elim e [
    | inl early ↦ (omega (arith, early.1, a.0), omega (arith, early.1, a.1), λ k low high. untouched-one es ts i d level k h (a.2 k low (omega (arith, high, early.1))) (one-early n k early.0 t))
    | inr late ↦ (
      elim late.3 [ inl s ↦ omega (arith, s, a.0) | inr s ↦ omega (arith, s, late.0) ],
      omega (arith, late.1, a.1),
      λ k low high. untouched-one es ts i d level k h (a.2 k low (omega (arith, high, late.1))) (λ u. one-later n k (omega (arith, high, late.2)) t),
    )
  ]

pub next-start : (es : List Entry) (ts : List Term) (level : ℕ) → IsNextAmong es (take 0 ts) level None
next-start es ts level k low i d j = absurd (omega (arith, j))
