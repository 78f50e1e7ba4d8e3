-- The entries of a trail, one behind the other.
use Rattle.std.proofs.Common.{◌≡◌, ◌<◌, ◌+◌, ◌==◌, ◌||◌, ℕ, zero, suc, Bool, true, false, if◌then◌else◌, List, [], ◌∷◌, ◌++◌, length, take, refl, sym, ◌∙◌, ap, subst, inl, inr, arith}
use Rattle.std.specs.Prelude.{Option, Some, None, slice_index_or}
use Rattle.std.specs.List.{AllByRecursion}
use Rattle.std.proofs.lemmas.Bool.{eq-eqb, eqb-true, false_from_ne_true, or_parts, true≢false}
use Rattle.std.proofs.lemmas.List.Elements.{recursion_from_All}
use Rattle.hrt_base.specs.declared.literal.Lit.{Lit}
use Rattle.pb_rows.specs.Terms.{opposite_lit}
use Rattle.pb_rows.specs.Closure.{among, is_same_lit}
use Rattle.propagation.proofs.Sets.{lit_itself}
use Rattle.row_arena.specs.Held.{Held, IsKept}
use Rattle.pb_propagate.specs.Entries.{Entry, lits_of, reason_in}
use Rattle.pb_propagate.specs.Engines.{EngineState}
use Rattle.pb_propagate.specs.Moments.{IsInOrder}
use Rattle.conflict_rows.specs.Trail.{IsTrail, Placed, on}
use Rattle.conflict_rows.proofs.Literals.{opposite-opposite, var_cases}
use Rattle.engine_trails.specs.History.{history, history_to, placed, placed_all, reason_row}
use Rattle.engine_trails.specs.Places.{LiteralsStand, StandsAt}
use Rattle.engine_trails.proofs.Histories.{histories_are_trails, placed_same, reason_over}

-- ---- a list at a place

-- what is before a place, what stands there, and what is behind it
pub record Splits (es : List Entry) (k : ℕ) : Type 0 where
  pub entry : Entry
  pub after : List Entry
  pub whole : take k es ++ entry ∷ after ≡ es
  pub more : take (suc k) es ≡ take k es ++ entry ∷ []
  pub lit : (d : Lit) → slice_index_or (lits_of es) k d ≡ entry.lit

pub splits : (es : List Entry) (k : ℕ) → k < length es → Splits es k
splits [] k h = absurd (omega arith)
splits (x ∷ xs) zero h = record { entry = x; after = xs; whole = refl; more = refl; lit = λ d. refl }
splits (x ∷ xs) (suc k) h =
    let s = splits xs k (omega arith) in
    record { entry = s.entry; after = s.after; whole = ap (λ (ys : List Entry). x ∷ ys) s.whole; more = ap (λ (ys : List Entry). x ∷ ys) s.more; lit = s.lit }

-- ---- reasons

-- a literal that is neither true nor false is over another variable
other_var : (y : Entry) (l : Lit) → is_same_lit l y.lit ≡ false → is_same_lit (opposite_lit l) y.lit ≡ false → (l.var == y.lit.var) ≡ false
other_var y l a b = false_from_ne_true _ (λ e. elim (var_cases l y.lit (eqb-true l.var y.lit.var e)) [
  | inl s ↦ true≢false (sym (subst (λ (k : Lit). is_same_lit l k ≡ true) s (lit_itself l)) ∙ a)
  | inr s ↦ true≢false (sym (subst (λ (k : Lit). is_same_lit (opposite_lit l) k ≡ true) (ap opposite_lit s ∙ opposite-opposite y.lit) (lit_itself (opposite_lit l))) ∙ b)
])

reason_behind : (es : List Entry) (x : Entry) (after : List Entry) → among (lits_of es) x.lit ≡ false → among (lits_of es) (opposite_lit x.lit) ≡ false → reason_in (es ++ x ∷ after) x.lit.var ≡ x.reason
reason_behind [] x after a b = let same : (x.lit.var == x.lit.var) ≡ true = eq-eqb x.lit.var x.lit.var refl in rw same refl
reason_behind (y ∷ ys) x after a b =
    let p = or_parts (is_same_lit x.lit y.lit) (among (lits_of ys) x.lit) a in
    let q = or_parts (is_same_lit (opposite_lit x.lit) y.lit) (among (lits_of ys) (opposite_lit x.lit)) b in
    rw (other_var y x.lit p.0 q.0) (reason_behind ys x after p.1 q.1)

-- ---- histories

pub trail_before : (held : List Held) (before : List Placed) (es : List Entry) → IsTrail (placed_all held before es) → IsTrail before
trail_before held before [] t = t
trail_before held before (e ∷ es) t = (trail_before held (placed held before e ∷ before) es t).1

pub placed_append : (held : List Held) (before : List Placed) (xs ys : List Entry) → placed_all held before (xs ++ ys) ≡ placed_all held (placed_all held before xs) ys
placed_append held before [] ys = refl
placed_append held before (x ∷ xs) ys = placed_append held (placed held before x ∷ before) xs ys

pub record Behind (held : List Held) (before : List Placed) (es : List Entry) : Type 0 where
  pub newer : List Placed
  pub is : newer ++ before ≡ placed_all held before es

pub behind : (held : List Held) (before : List Placed) (es : List Entry) → Behind held before es
behind held before [] = record { newer = []; is = refl }
behind held before (e ∷ es) =
    let b = behind held (placed held before e ∷ before) es in
    record { newer = b.newer ++ placed held before e ∷ []; is = one_by_one b.newer (placed held before e) before ∙ b.is }
  where
    one_by_one : (xs : List Placed) (y : Placed) (zs : List Placed) → (xs ++ y ∷ []) ++ zs ≡ xs ++ y ∷ zs
    one_by_one [] y zs = refl
    one_by_one (x ∷ xs) y zs = ap (λ (ys : List Placed). x ∷ ys) (one_by_one xs y zs)

pub count_of : (held : List Held) (before : List Placed) (es : List Entry) → length (placed_all held before es) ≡ length before + length es
count_of held before [] = omega arith
count_of held before (e ∷ es) = omega (arith, count_of held (placed held before e ∷ before) es)

pub take_count : (es : List Entry) (k : ℕ) → k < length es → length (take k es) ≡ k
take_count [] k h = absurd (omega arith)
take_count (x ∷ xs) zero h = refl
take_count (x ∷ xs) (suc k) h = omega (arith, take_count xs k (omega arith))

module _ (e : EngineState) (k : ℕ) (o : IsInOrder e) (within : k < length e.trail) where
  pub part : Splits e.trail k
  part = splits e.trail k within

  pub entry_at : Entry
  entry_at = part.entry

  next_step : history_to (suc k) e ≡ placed e.held (history_to k e) part.entry ∷ history_to k e
  next_step = ap (λ (es : List Entry). placed_all e.held [] es) part.more ∙ placed_append e.held [] (take k e.trail) (part.entry ∷ [])

  whole_is : placed_all e.held (placed e.held (history_to k e) part.entry ∷ history_to k e) part.after ≡ history e
  whole_is = sym (placed_append e.held [] (take k e.trail) (part.entry ∷ part.after)) ∙ ap (λ (es : List Entry). placed_all e.held [] es) part.whole

  stands_here : IsTrail (placed e.held (history_to k e) part.entry ∷ history_to k e)
  stands_here = trail_before e.held (placed e.held (history_to k e) part.entry ∷ history_to k e) part.after (subst IsTrail (sym whole_is) (histories_are_trails e o).trail)

  reason_is : reason_in e.trail part.entry.lit.var ≡ part.entry.reason
  reason_is =
      ap (λ (es : List Entry). reason_in es part.entry.lit.var) (sym part.whole)
      ∙ reason_behind (take k e.trail) part.entry part.after
      (sym (placed_same e.held [] [] (take k e.trail) (λ l. refl) part.entry.lit) ∙ stands_here.0.untrue)
      (sym (placed_same e.held [] [] (take k e.trail) (λ l. refl) (opposite_lit part.entry.lit)) ∙ stands_here.0.unfalse)

  stands_at : (l : Lit) → part.entry.lit ≡ l → StandsAt e k l
  stands_at l is =
      let b = behind e.held (placed e.held (history_to k e) part.entry ∷ history_to k e) part.after in
      let one : suc k ≡ k + 1 = omega arith in
      record {
        entry = placed e.held (history_to k e) part.entry;
        step = subst (λ (n : ℕ). history_to n e ≡ placed e.held (history_to k e) part.entry ∷ history_to k e) one next_step;
        lit = is;
        reason = ap (reason_row e.held) (sym reason_is ∙ ap (λ (a : Lit). reason_in e.trail a.var) is);
        over = reason_over e.vars e.held part.entry.reason (recursion_from_All (λ (h : Held). IsKept e.vars h.row) e.held o.sound.held.kept);
        count = count_of e.held [] (take k e.trail) ∙ omega (arith, take_count e.trail k within);
        newer = b.newer;
        later = subst (λ (n : ℕ). b.newer ++ history_to n e ≡ history e) one (ap (λ (es : List Placed). b.newer ++ es) next_step ∙ (b.is ∙ whole_is));
      }

pub literals_stand : LiteralsStand
literals_stand e k d o within = stands_at e k o within (slice_index_or (lits_of e.trail) k d) (sym ((part e k o within).lit d))
