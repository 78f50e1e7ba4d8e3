-- What an analysis leaves.
use Rattle.std.proofs.Common.{◌≡◌, ◌<◌, ◌≤◌, ◌+◌, ◌==◌, ◌||◌, ℕ, Bool, true, false, if◌then◌else◌, List, [], ◌∷◌, ◌++◌, length, refl, sym, ap, ◌∙◌, subst, inl, inr, arith}
use Rattle.std.specs.Prelude.{Option, Some, None}
use Rattle.std.specs.List.{All}
use Rattle.std.proofs.lemmas.Bool.{cases_lt, false_from_ne_true, true≢false}
use Rattle.std.proofs.lemmas.List.Elements.{All-append}
use Rattle.hrt_base.specs.declared.numbered.RowNo.{RowNo}
use Rattle.pb_rows.specs.Terms.{PlainRow}
use Rattle.pb_rows.specs.Closure.{Falsified, Literals}
use Rattle.pb_rows.specs.Formula.{NumberedRow, is_numbered, row_of}
use Rattle.rank_tables.specs.Instance.{Lists, pair_count}
use Rattle.rank_tables.specs.WellFormed.{most_pairs}
use Rattle.stability_model.specs.Model.{rows}
use Rattle.proof_rules.specs.Held.{Held as HeldNumbers, is_held as is_held_number}
use Rattle.proof_rules.specs.States.{AreNumbered, IsInOrder as AreNumbersInOrder}
use Rattle.proof_rules.proofs.Numbers.{none-from}
use Rattle.derivation.specs.Derived.{Derived}
use Rattle.derivation.specs.Pieces.{Adds, IsCutPiece, Piece}
use Rattle.derivation.specs.Ready.{IsReady}
use Rattle.derivation.proofs.NoneDeleted.{model_below}
use Rattle.row_arena.specs.Held.{is_held, row_at}
use Rattle.row_arena.proofs.Places.{kept-at}
use Rattle.pb_propagate.specs.Entries.{set_of}
use Rattle.pb_propagate.specs.Engines.{EngineState}
use Rattle.pb_propagate.specs.Moments.{IsInOrder}
use Rattle.conflict_rows.specs.Trail.{on}
use Rattle.conflict_rows.specs.ClauseRows.{last_clause}
use Rattle.conflict_rows.specs.Ends.{ClauseEnd}
use Rattle.conflict_rows.proofs.Proved.{clauses_end_so}
use Rattle.engine_trails.specs.History.{history}
use Rattle.engine_trails.proofs.Histories.{histories_are_trails}
use Rattle.conflict_cuts.specs.declared.making.Made.{Made}
use Rattle.conflict_cuts.specs.declared.learning.Learned.{Learned}
use Rattle.conflict_cuts.specs.declared.learning.Learned.TheVariants.{Clause, Root}
use Rattle.conflict_cuts.specs.Ends.{EndsIn}
use Rattle.conflict_cuts.specs.Forgetting.{CanForgetBetween, ForgetsBetween}
use Rattle.conflict_cuts.specs.Laid.{IsNewest, Lays}
use Rattle.conflict_cuts.specs.Learned.{Analyzes, Asserts, IsLeft, Learns}
use Rattle.conflict_cuts.specs.Walks.{MakesLast}

-- ---- numbers of live rows

none_step : (b c : Bool) (entry : NumberedRow) (rest : Option PlainRow) → (rest ≡ None → c ≡ false) → (if b then Some entry.row else rest) ≡ None → (b || c) ≡ false
none_step true c entry rest h e = absurd (cc)
none_step false c entry rest h e = h e

none_numbered : (n : ℕ) (live : List NumberedRow) → row_of n live ≡ None → is_numbered n live ≡ false
none_numbered n [] e = refl
none_numbered n (entry ∷ live) e = none_step (entry.number == n) (is_numbered n live) entry (row_of n live) (none_numbered n live) e

pub below_next : (n next : ℕ) (live : List NumberedRow) → AreNumbered 1 next live → is_numbered n live ≡ true → n < next
below_next n next live order h = elim (cases_lt n next) [
  | inl l ↦ l
  | inr g ↦ absurd (true≢false (sym h ∙ none_numbered n live (none-from n 1 next live g order)))
]

-- ---- what may be forgotten

pub can_forget : (old mid : Derived) (first : ℕ) (id : RowNo) (row : PlainRow) → first ≡ old.state.next → IsReady old → AreNumbersInOrder old.state → Lays old mid → IsNewest old mid id row → CanForgetBetween first id.0 mid
can_forget old mid first id row is ready order lays newest = record {
  live = λ n l h. newest.made n (omega (arith, is, l)) (omega (arith, h, newest.number));
  not_held = λ n l. ap (λ (x : HeldNumbers). is_held_number x n) lays.held ∙ false_from_ne_true (is_held_number old.held n) (λ h.
      let within = below_next n old.state.next old.state.live order (ready.held_live n h) in
      omega (arith, within, is, l));
  behind_model =
      let same : length (rows mid.lists) ≡ length (rows old.lists) = ap (λ (x : Lists). length (rows x)) lays.lists in
      omega (arith, same, model_below old ready order, is);
}

-- ---- the last clause

pub clause_ends : (e : EngineState) (place : ℕ) (row : PlainRow) → IsInOrder e → e.vars ≤ most_pairs → is_held place e.held ≡ true → Falsified (set_of e.trail) (row_at place e.held) → row ≡ last_clause (history e) (row_at place e.held) → ClauseEnd e.vars (history e) row
clause_ends e place row order few held falsified is =
    let hist = histories_are_trails e order in
    let kept = kept-at e.vars e.held order.sound.held place held in
    let on_is : ◌≡◌ {A = Literals} (set_of e.trail) (on (history e)) = λ i l. sym (hist.same l) i in
    subst (ClauseEnd e.vars (history e)) (sym is)
    (clauses_end_so e.vars (history e) (row_at place e.held) (omega (arith, few)) hist.trail hist.over kept.normal kept.over (subst (λ (s : Literals). Falsified s (row_at place e.held)) on_is falsified))

-- ---- all lines

adds_all : (xs ys : List Piece) (a b c : Derived) → Adds xs a b → Adds ys b c → Adds (xs ++ ys) a c
adds_all [] ys a b c x y = subst (λ (d : Derived). Adds ys d c) x y
adds_all (p ∷ xs) ys a b c x y = (x.0, x.1, adds_all xs ys x.0 b c x.2 y)

pub analyzes : (e : EngineState) (old mid new : Derived) (first last : ℕ) → first ≡ old.state.next → e.vars ≡ pair_count old.lists → Lays old mid → mid.state.next ≤ old.state.next + (e.vars + 1) → ForgetsBetween first last mid new → Analyzes old new
analyzes e old mid new first last is vars lays few forgets =
    let cuts : All (IsCutPiece old.held old.state.next) forgets.pieces =
    subst (λ (n : ℕ). All (IsCutPiece old.held n) forgets.pieces) is (subst (λ (h : HeldNumbers). All (IsCutPiece h first) forgets.pieces) lays.held forgets.cuts) in
    record {
      lines = record {
        pieces = lays.pieces ++ forgets.pieces;
        adds = adds_all lays.pieces forgets.pieces old mid new lays.adds forgets.adds;
        cuts = All-append (IsCutPiece old.held old.state.next) lays.pieces forgets.pieces lays.cuts cuts;
        few = omega (arith, forgets.next, few, vars);
      };
      valid = λ text h. forgets.valid text (lays.valid text h);
      ready = forgets.ready;
      live = λ n l. forgets.below n (omega (arith, l, is)) ∙ lays.live n l;
      held = forgets.held ∙ lays.held;
      lists = forgets.lists ∙ lays.lists;
      least = forgets.least ∙ lays.least;
    }

pub is_left : (e : EngineState) (conflict : PlainRow) (old mid new : Derived) (first : ℕ) (last : Made) → first ≡ old.state.next → MakesLast e conflict old mid last → ForgetsBetween first last.id.0 mid new → IsLeft old new last.id last.row
is_left e conflict old mid new first last is makes forgets = record {
  later = makes.newest.own;
  live = forgets.above last.id.0 (omega arith) ∙ makes.newest.live;
  alone = λ n l h.
      let gone = forgets.gone n (omega (arith, is, l)) h in
      let below = below_next n mid.state.next mid.state.live makes.numbered gone.1 in
      omega (arith, gone.0, below, makes.newest.number);
}

pub learns_by : (e : EngineState) (conflict : PlainRow) (old new : Derived) (last : Made) (result : Learned) → EndsIn e last result → IsLeft old new last.id last.row → last.row ≡ last_clause (history e) conflict → Learns e conflict old new result
learns_by e conflict old new last (Clause id row level asserts) h left is = record {
  left = subst (λ (i : RowNo). IsLeft old new i row) (sym h.0) (subst (IsLeft old new last.id) (sym h.1) left);
  learned = subst (λ (r : PlainRow). Asserts e r level asserts) (sym h.1) h.2;
  last = h.1 ∙ is;
}
learns_by e conflict old new last (Root id) h left is = record {
  row = last.row;
  left = subst (λ (i : RowNo). IsLeft old new i last.row) (sym h.0) left;
  contradicts = h.1;
}

-- the variables are the pairs of the instance, which are few
pub few_vars : (vars pairs : ℕ) (inst model lists : Lists) → vars ≡ pair_count lists → model ≡ lists → inst ≡ model → pairs ≡ pair_count inst → pairs ≤ most_pairs → vars ≤ most_pairs
few_vars vars pairs inst model lists is same made count few = let all : pair_count inst ≡ pair_count lists = ap pair_count (made ∙ same) in omega (arith, is, all, count, few)
