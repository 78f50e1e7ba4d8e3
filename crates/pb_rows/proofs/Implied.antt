-- What propagation refutes holds at no point.
use Rattle.std.proofs.Common.{sym, Contains, ◌≡◌, ℕ, ◌+◌, Bool, true, false, not, List, [], ◌∷◌, if◌then◌else◌, refl, ◌∙◌, ap, arith}
use Rattle.std.proofs.lemmas.Bool.{leb-true}
use Rattle.std.proofs.lemmas.List.Elements.{All-cons, All-head, All-tail, All-weaker, All-contains, All-contains_itself}
use Rattle.hrt_base.specs.declared.literal.Lit.{Lit}
use Rattle.hrt_base.specs.declared.literal.Term.{Term}
use Rattle.pb_rows.specs.Terms.{PlainRow, opposite_lit, positive_part}
use Rattle.pb_rows.specs.Points.{Point, is_true_at, true_sum}
use Rattle.pb_rows.specs.Rows.{AllHold, holds, opposite_row}
use Rattle.pb_rows.specs.Closure.{Implies, IsClosure, IsQuiet, Keeps, Literals, Refuted, none, nonfalse_sum}
use Rattle.pb_rows.proofs.Changes.{opposite_holds}
use Rattle.pb_rows.proofs.Signs.{opposite_value}

-- the literals that are true at the point
abbrev pub true_set : Point → Literals
true_set p l = is_true_at p l

open_step : (a b : Bool) (c s r : ℕ) → a ≡ not b → s ≡ r → (if a then 0 else c) + s ≡ (if b then c else 0) + r
open_step true true c s r e h = absurd (cc)
open_step true false c s r e h = omega arith
open_step false true c s r e h = omega arith
open_step false false c s r e h = absurd (cc)

nonfalse_sum-true_set : (p : Point) (ts : List Term) → nonfalse_sum (true_set p) ts ≡ true_sum p ts
nonfalse_sum-true_set p [] = refl
nonfalse_sum-true_set p (t ∷ ts) = open_step (is_true_at p (opposite_lit t.lit)) (is_true_at p t.lit) (positive_part t.coef) _ _ (opposite_value p t.lit) (nonfalse_sum-true_set p ts)

settled_step : (a b : Bool) → a ≡ not b → a ≡ false → b ≡ true
settled_step a true e f = refl
settled_step a false e f = cc

keeps_true : (p : Point) (row : PlainRow) → holds p row ≡ true → Keeps (true_set p) row
keeps_true p row h = record {
  unfalsified = omega (arith, leb-true row.degree (true_sum p row.terms) h, nonfalse_sum-true_set p row.terms);
  settled = λ k d lt f below. settled_step _ _ (opposite_value p _) f;
}

consistent_step : (a b : Bool) → a ≡ not b → b ≡ true → a ≡ false
consistent_step a true e f = e
consistent_step a false e f = cc

pub quiet_at : (p : Point) (rows : List PlainRow) → AllHold p rows → IsQuiet rows none (true_set p)
quiet_at p rows h = record {
  has_given = λ l g. cc;
  consistent = λ l t. consistent_step _ _ (opposite_value p l) t;
  kept = All-weaker (λ row. holds p row ≡ true) (Keeps (true_set p)) (keeps_true p) rows h;
}

-- refuted rows hold together at no point
pub refuted-none : (p : Point) (rows : List PlainRow) → Refuted rows none → AllHold p rows → ⊥
refuted-none p rows r h = r (true_set p) (quiet_at p rows h)

-- a row that follows holds wherever the rows do
pub implied-holds : (p : Point) (rows : List PlainRow) (row : PlainRow) → Implies rows row → AllHold p rows → holds p row ≡ true
implied-holds p rows row i h = by (holds p row) refl
  where
    by : (b : Bool) → holds p row ≡ b → b ≡ true
    by true e = refl
    by false e = absurd (refuted-none p (opposite_row row ∷ rows) i (All-cons (λ row. holds p row ≡ true) (opposite_row row) rows ((opposite_holds p row ∙ ap not e)) h))

-- ---- more rows refute as much

pub quiet-fewer : (rows more : List PlainRow) (given set : Literals) → ((row : PlainRow) → Contains rows row → Contains more row) → IsQuiet more given set → IsQuiet rows given set
quiet-fewer rows more given set within q = record {
  has_given = q.has_given;
  consistent = q.consistent;
  kept = All-weaker (Contains rows) (Keeps set) (λ row c. All-contains (Keeps set) more row q.kept (within row c)) rows (All-contains_itself rows);
}

pub refuted-more : (rows more : List PlainRow) (given : Literals) → ((row : PlainRow) → Contains rows row → Contains more row) → Refuted rows given → Refuted more given
refuted-more rows more given within r set q = r set (quiet-fewer rows more given set within q)

-- a row that follows from some of the rows follows from all
pub implies-more : (rows more : List PlainRow) (row : PlainRow) → ((other : PlainRow) → Contains rows other → Contains more other) → Implies rows row → Implies more row
implies-more rows more row within i set q = i set (record {
  has_given = q.has_given;
  consistent = q.consistent;
  kept = All-cons (Keeps set) (opposite_row row) rows (All-head (Keeps set) (opposite_row row) more q.kept)
      (All-weaker (Contains rows) (Keeps set) (λ other c. All-contains (Keeps set) more other (All-tail (Keeps set) (opposite_row row) more q.kept) (within other c)) rows (All-contains_itself rows));
})

-- two closures of the same rows have the same literals
pub closure-unique : (rows : List PlainRow) (given a b : Literals) → IsClosure rows given a → IsClosure rows given b → (l : Lit) → a l ≡ b l
closure-unique rows given a b c d l = same (a l) (b l) (c.least b d.quiet l) (d.least a c.quiet l)
  where
    same : (x y : Bool) → (x ≡ true → y ≡ true) → (y ≡ true → x ≡ true) → x ≡ y
    same true y f g = sym (f refl)
    same false true f g = g refl
    same false false f g = refl
