-- A full quiet engine: at the point of its trail its rows hold, and what doesn't hold there is falsified.
use Rattle.std.proofs.Common.{◌≡◌, ℕ, ◌+◌, ◌<◌, ◌≤◌, ◌==◌, Bool, true, false, not, ◌&&◌, nat_le, if◌then◌else◌, List, [], ◌∷◌, get_or, refl, sym, ap, ap₂, ◌∙◌, subst}
use Rattle.std.specs.List.{All, list_any}
use Rattle.std.proofs.lemmas.Bool.{and_from, le-leb, leb-false}
use Rattle.std.proofs.lemmas.List.Elements.{All-head, All-tail}
use Rattle.hrt_base.specs.declared.literal.Lit.{Lit}
use Rattle.hrt_base.specs.declared.literal.Term.{Term}
use Rattle.pb_rows.specs.Terms.{PlainRow, opposite_lit, positive_part}
use Rattle.pb_rows.specs.Points.{IsCovered, Point, is_true_at, true_sum}
use Rattle.pb_rows.specs.Rows.{holds}
use Rattle.pb_rows.specs.Closure.{Falsified, Keeps, Literals, among, nonfalse_sum}
use Rattle.propagation.specs.Following.{IsOver}
use Rattle.rank_tables.specs.Numbers.{numbers_to}
use Rattle.rank_tables.specs.Instance.{Lists, pair_count}
use Rattle.rank_tables.proofs.Numbers.{is_in-filter, is_in-numbers_to}
use Rattle.stability_model.specs.Model.{point_of_pairs}
use Rattle.row_arena.specs.Held.{Held}
use Rattle.pb_propagate.specs.Engines.{EngineState, IsIdle, is_due_row}
use Rattle.pb_propagate.specs.Entries.{set_of}
use Rattle.pb_propagate.specs.Moments.{IsSound}
use Rattle.lazy_stability.specs.Candidates.{candidate, point_of_trail}

-- ---- where each variable has a value

module _ (vars : ℕ) (set : Literals) (p : Point) (full : (v : ℕ) → 1 ≤ v → v ≤ vars → set (record { var = v; neg = true }) ≡ not (set (record { var = v; neg = false })))
    (same : (v : ℕ) → 1 ≤ v → v ≤ vars → p v ≡ set (record { var = v; neg = false })) where
  -- a literal is true at the point where its opposite isn't in the set
  literal_as : (v : ℕ) (neg : Bool) → 1 ≤ v → v ≤ vars → is_true_at p (record { var = v; neg = neg }) ≡ not (set (opposite_lit (record { var = v; neg = neg })))
  literal_as v true first last = ap not (same v first last)
  literal_as v false first last = same v first last ∙ sym (ap not (full v first last) ∙ not_not (set (record { var = v; neg = false })))
    where
      not_not : (b : Bool) → not (not b) ≡ b
      not_not true = refl
      not_not false = refl

  share_as : (b c : Bool) (n : ℕ) → b ≡ not c → (if b then n else 0) ≡ (if c then 0 else n)
  share_as b true n e = rw e refl
  share_as b false n e = rw e refl

  sum_as : (ts : List Term) → All (λ (t : Term). IsCovered vars t.lit.var) ts → true_sum p ts ≡ nonfalse_sum set ts
  sum_as [] h = refl
  sum_as (t ∷ ts) h =
      let here : IsCovered vars t.lit.var = All-head (λ (u : Term). IsCovered vars u.lit.var) t ts h in
      ap₂ (λ (a b : ℕ). a + b) (share_as (is_true_at p t.lit) (set (opposite_lit t.lit)) (positive_part t.coef) (literal_as t.lit.var t.lit.neg here.first here.last))
      (sum_as ts (All-tail (λ (u : Term). IsCovered vars u.lit.var) t ts h))

  -- a row that the set keeps holds
  pub kept_holds : (r : PlainRow) → IsOver vars r → Keeps set r → holds p r ≡ true
  kept_holds r over keeps = le-leb r.degree (true_sum p r.terms) (subst (λ (n : ℕ). r.degree ≤ n) (sym (sum_as r.terms over)) keeps.unfalsified)

  -- a row that doesn't hold is falsified
  pub broken_falsified : (r : PlainRow) → IsOver vars r → holds p r ≡ false → Falsified set r
  broken_falsified r over broken = subst (λ (n : ℕ). n < r.degree) (sum_as r.terms over) (leb-false r.degree (true_sum p r.terms) broken)

-- ---- an engine

-- the candidate's point is the trail's
pub candidate_point : (lists : Lists) (e : EngineState) (v : ℕ) → 1 ≤ v → v ≤ pair_count lists → point_of_pairs (candidate lists e) v ≡ set_of e.trail (record { var = v; neg = false })
candidate_point lists e v first last =
    is_in-filter (point_of_trail e.trail) v (numbers_to (pair_count lists))
    ∙ ap (λ (b : Bool). b && point_of_trail e.trail v) (is_in-numbers_to (pair_count lists) v ∙ and_from (nat_le 1 v) (nat_le v (pair_count lists)) (le-leb 1 v first) (le-leb v (pair_count lists) last))

-- where nothing is due, each row is kept
pub idle_keeps : (e : EngineState) → IsSound e → IsIdle e → All (λ (h : Held). Keeps (set_of e.trail) h.row) e.held
idle_keeps e sound idle = λ k d l. sound.kept k d l (undue (get_or e.held k d).place) (λ lit due. absurd (none lit (sym (ap (λ (ls : List Lit). among ls lit) idle.literals) ∙ due)))
  where
    undue : (place : ℕ) → is_due_row place e ≡ false
    undue place = ap (λ (places : List ℕ). list_any (λ (p : ℕ). place == p) places) idle.rows

    none : (lit : Lit) → among [] lit ≡ true → ⊥
    none lit h = cc
