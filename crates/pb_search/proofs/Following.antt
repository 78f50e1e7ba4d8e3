-- What follows a conflict, and how a search ends.
use Rattle.std.proofs.Common.{◌≡◌, ◌+◌, ◌<◌, ◌≤◌, ℕ, List, [], ◌∷◌, ◌++◌, length, refl, sym, ap, ◌∙◌, subst, arith, inl, inr}
use Rattle.std.specs.Prelude.{Some}
use Rattle.std.proofs.lemmas.Bool.{cases_lt}
use Rattle.hrt_base.specs.declared.literal.Lit.{Lit}
use Rattle.hrt_base.specs.declared.numbered.PairNo.{PairNo}
use Rattle.hrt_base.specs.declared.numbered.RowNo.{RowNo}
use Rattle.pb_rows.specs.Terms.{PlainRow}
use Rattle.pb_rows.specs.Formula.{row_of}
use Rattle.rank_tables.specs.Instance.{Lists, pair_count}
use Rattle.stability_model.specs.Model.{rows}
use Rattle.proof_rules.specs.Held.{Held}
use Rattle.proof_rules.specs.Notes.{LearnedRow}
use Rattle.proof_rules.specs.States.{IsInOrder as AreNumbersInOrder}
use Rattle.proof_rules.specs.Told.{learned_rows, notes_of}
use Rattle.proof_rules.proofs.Numbers.{live_within}
use Rattle.derivation.specs.Derived.{Derived}
use Rattle.derivation.specs.Pieces.{CutsStayTraced}
use Rattle.derivation.specs.Ready.{IsReady}
use Rattle.pb_propagate.specs.Entries.{level_of}
use Rattle.pb_propagate.specs.Engines.{EngineState, decisions_at}
use Rattle.pb_propagate.specs.Moments.{IsInOrder}
use Rattle.agreement.proofs.Growing.{derivations_followed}
use Rattle.agreement.proofs.Lines.{cuts_leave}
use Rattle.conflict_bound.specs.Conflicts.{AreLater, all_of}
use Rattle.conflict_cuts.specs.Learned.{Analyzes, LearnsClause, NamesContradiction}
use Rattle.search_measure.specs.Recorded.{GoesOn, HasLearned}
use Rattle.search_measure.proofs.Learned.{lines_keep}
use Rattle.search_measure.proofs.Recorded.{counted, learn_nothing}
use Rattle.matching_log.specs.Logged.{ceiling_row}
use Rattle.pb_search.specs.declared.limits.Limits.{Limits}
use Rattle.pb_search.specs.declared.moves.Move.TheVariants.{On, Best, Bounded}
use Rattle.pb_search.specs.Loop.{Follows, HasCome, IsAtConflict}
use Rattle.pb_search.specs.Moves.{Analyzed, LearnsRow}
use Rattle.pb_search.specs.Tried.{LearnsLater, Searches, StaysLawful}
use Rattle.pb_search.proofs.Known.{analyzed_knows, ceiling_live, found_kept, learned_knows}
use Rattle.pb_search.proofs.Lawful.{cuts_lawful, goes_cuts, goes_none, goes_note, goes_then, lawful_then, learn_marked, marked_lawful, marked_none, marked_then}
use Rattle.pb_search.proofs.Steps.{learns, spends}

-- ---- the end

no_stretch : (ended : List (List LearnedRow)) (current : List LearnedRow) → length ended ≡ 0 → all_of ended ++ current ≡ current
no_stretch [] current h = refl
no_stretch (s ∷ ended) current h = absurd (omega (arith, h))

no_rows : (rs : List LearnedRow) → length rs ≡ 0 → rs ≡ []
no_rows [] h = refl
no_rows (r ∷ rs) h = absurd (omega (arith, h))

-- without a restart each learned row is later than the one before it
later_all : (first now : Derived) (since : ℕ) (last : List ℕ) → HasLearned first now 0 since last → first.held.learn_notes ≡ 0 → LearnsLater first now
later_all first now since last h none text s =
    let before : learned_rows (notes_of first.lists (text ++ first.pending)) ≡ [] = no_rows (learned_rows (notes_of first.lists (text ++ first.pending))) (counted first text s ∙ none) in
    let are : learned_rows (notes_of first.lists (text ++ now.pending)) ≡ h.current =
    h.adds text s ∙ ap (λ (rs : List LearnedRow). rs ++ (all_of h.ended ++ h.current)) before ∙ no_stretch h.ended h.current h.restarts_are in
    subst (λ (ls : Lists). AreLater (pair_count ls) (learned_rows (notes_of ls (text ++ now.pending)))) (sym h.lists) (subst (AreLater (pair_count first.lists)) (sym are) h.later)

-- what a search did when lines that learn nothing end it
pub searched : (limits : Limits) (pairs : List PairNo) (first d made : Derived) (since : ℕ) (last : List ℕ) → HasCome limits pairs first d → HasLearned first d 0 since last → d.held.learn_notes ≤ limits.budget → GoesOn d made → StaysLawful d made →
    made.held.learn_notes ≡ d.held.learn_notes → IsReady made → row_of limits.bound_row.0 made.state.live ≡ Some (ceiling_row made.lists limits.ceiling) → Searches limits.budget limits.ceiling limits.bound_row first made
searched limits pairs first d made since last come h within on lawful same ready live = record {
  goes_on = goes_then first d made come.goes_on on;
  lawful = lawful_then first d made come.marked lawful;
  ready = ready;
  within = omega (arith, within, same);
  later = later_all first made since last (lines_keep first d made 0 since last h on (learn_nothing d made on same)) come.unlearned;
  bound_live = live;
}

-- ---- a conflict

-- the budget is spent
pub spent_follows : (limits : Limits) (e : EngineState) (d : Derived) → AreNumbersInOrder d.state → 0 < level_of e.trail → d.held.learn_notes ≡ limits.budget →
    (first : Derived) (pairs : List PairNo) → IsAtConflict limits pairs first e d → Follows limits pairs first d e d Bounded
spent_follows limits e d order above spent first pairs c = (
  searched limits pairs first d d c.since c.is.measured.last c.come c.is.measured.learned c.is.joined.within (goes_none d) (marked_lawful d d (marked_none d)) refl c.is.joined.ready c.come.knows.top.live,
  c.come.knows.found,
  c.come.knows.shorter,
  spends first limits.budget 0 c.since e d c.is order above spent,
)

-- a row holds nowhere
pub root_follows : CutsStayTraced → (limits : Limits) (e new : EngineState) (d made : Derived) (id : RowNo) → AreNumbersInOrder d.state → Analyzes d made → NamesContradiction d made id →
    (first : Derived) (pairs : List PairNo) → IsAtConflict limits pairs first e d → Follows limits pairs first d new made Best
root_follows law limits e new d made id order a root first pairs c = (
  searched limits pairs first d made c.since c.is.measured.last c.come c.is.measured.learned c.is.joined.within (goes_cuts d made a) (cuts_lawful law d made c.is.joined.ready order a) (ap (λ (h : Held). h.learn_notes) a.held) a.ready
      (ceiling_live limits.ceiling limits.bound_row pairs d made order a c.come.knows),
  found_kept pairs d made a.lists a.least c.come.knows.found,
  record { id = id; row = root.row; live = root.left.live; contradicts = root.contradicts },
)

-- a row is learned
module _ (law : CutsStayTraced) (limits : Limits) (conflict : PlainRow) (level : ℕ) (id : RowNo) (row : PlainRow) (l : Lit) (e new : EngineState) (d made noted : Derived) (o : IsInOrder e) (order : AreNumbersInOrder d.state) (numbers : AreNumbersInOrder made.state) (a : Analyzes d made)
    (learned : LearnsClause e conflict d made id row level l) (r : LearnsRow id row level l e new made noted) where
  last : id.0 < made.state.next
  last = (live_within id.0 made.state.next row made.state.live numbers learned.left.live).1

  noted_on : GoesOn d noted
  noted_on = goes_then d made noted (goes_cuts d made a) (goes_note _ made noted r.note r.valid)

  module _ (first : Derived) (pairs : List PairNo) (c : IsAtConflict limits pairs first e d) where
    analyzed : Analyzed e d made
    analyzed = record {
      goes_on = goes_cuts d made a;
      held = a.held;
      agree = derivations_followed e d made c.is.joined.agree (cuts_leave e d made c.is.joined.agree order a.lines);
      numbers = numbers;
    }

    behind : length (rows made.lists) < id.0
    behind = subst (λ (ls : Lists). length (rows ls) < id.0) (sym a.lists) (omega (arith, c.come.knows.behind_model, learned.left.later))

    come : HasCome limits pairs first noted
    come = record {
      unlearned = c.come.unlearned;
      goes_on = goes_then first d noted c.come.goes_on noted_on;
      marked = marked_then first d noted c.come.marked (learn_marked law d made noted id (decisions_at level e) l c.is.joined.ready order a behind learned.left.later last r.note);
      knows = learned_knows limits.ceiling limits.bound_row pairs made noted id (decisions_at level e) l r.note.is (analyzed_knows limits.ceiling limits.bound_row pairs d made order a (omega (arith, learned.left.later, last)) c.come.knows);
    }

  pub learn_follows : (0 < level_of e.trail → d.held.learn_notes ≡ limits.budget → ⊥) → (first : Derived) (pairs : List PairNo) → IsAtConflict limits pairs first e d → Follows limits pairs first d new noted On
  learn_follows unspent first pairs c = (
    record { since = c.since + 1; is = learns first limits.budget 0 c.since level id row l e new d made noted o c.is room (analyzed first pairs c) learned.learned r; come = come first pairs c },
    record { lists = noted_on.lists; learned = ap (λ (x : Derived). x.held.learn_notes) r.note.is ∙ ap (λ (h : Held). h.learn_notes + 1) a.held },
  )
    where
      room : d.held.learn_notes < limits.budget
      room = elim (cases_lt d.held.learn_notes limits.budget) [
        | inl lt ↦ lt
        | inr le ↦ absurd (unspent (omega (arith, learned.learned.below)) (omega (arith, le, c.is.joined.within)))
      ]
