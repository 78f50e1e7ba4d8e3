-- How far the walk down the trail has come.
use Rattle.std.proofs.Common.{◌≡◌, ◌<◌, ◌≤◌, ◌+◌, ◌-◌, ℕ, true, List, length, sym, subst, inl, inr, arith}
use Rattle.pb_rows.specs.Terms.{PlainRow}
use Rattle.pb_rows.specs.Closure.{Falsified, Literals}
use Rattle.row_arena.specs.Held.{is_held, row_at}
use Rattle.row_arena.proofs.Places.{kept-at}
use Rattle.pb_propagate.specs.Entries.{set_of}
use Rattle.pb_propagate.specs.Engines.{EngineState}
use Rattle.conflict_rows.specs.declared.marks.Mark.{Mark}
use Rattle.conflict_rows.specs.Trail.{Placed, on}
use Rattle.conflict_rows.specs.ClauseRows.{conflict_clause, last_clause}
use Rattle.conflict_rows.specs.Standing.{HasCome}
use Rattle.conflict_rows.proofs.LastClauses.{begins}
use Rattle.proof_rules.specs.States.{IsInOrder}
use Rattle.derivation.specs.Derived.{Derived}
use Rattle.engine_trails.specs.History.{history}
use Rattle.engine_trails.proofs.Histories.{histories_are_trails}
use Rattle.engine_trails.proofs.Passing.{all_passed}
use Rattle.conflict_cuts.specs.declared.making.Made.{Made}
use Rattle.conflict_cuts.specs.Laid.{IsNewest, IsSet, MakesRow}
use Rattle.conflict_cuts.specs.Walks.{GoesOn, HasWalked, MakesLast, StandsBefore}
use Rattle.conflict_cuts.proofs.Laid.{lays_more, lays_none, made_set, newest_made, next_is}

-- the walk, and what the next step asks for
pub record IsWalking (e : EngineState) (marks : List Mark) (conflict : PlainRow) (k : ℕ) (old new : Derived) (made : Made) : Type 0 where
  pub walked : HasWalked e conflict k old new made
  pub set : IsSet e marks new
  pub within : k ≤ length e.trail

-- it begins at the end of the trail with the clause of the falsified row
pub begins_walk : (e : EngineState) (marks : List Mark) (place k : ℕ) (old new : Derived) (made : Made) → IsSet e marks old → is_held place e.held ≡ true → Falsified (set_of e.trail) (row_at place e.held) →
    ((first : ℕ) → MakesRow first old new made.id made.row) → made.row ≡ conflict_clause (history e) (row_at place e.held) → k ≡ length e.trail → IsWalking e marks (row_at place e.held) k old new made
begins_walk e marks place k old new made set held falsified makes is end =
    let one = makes old.state.next in
    let kept = kept-at e.vars e.held set.order.sound.held place held in
    let on_is : ◌≡◌ {A = Literals} (set_of e.trail) (on (history e)) = λ i l. sym ((histories_are_trails e set.order).same l) i in
    let come : HasCome e.vars (history e) (history e) (row_at place e.held) made.row =
    subst (λ (r : PlainRow). HasCome e.vars (history e) (history e) (row_at place e.held) r) (sym is)
    (begins e.vars (history e) (row_at place e.held) kept.normal kept.over (subst (λ (s : Literals). Falsified s (row_at place e.held)) on_is falsified)) in
    record {
      walked = record {
        come = subst (λ (t : List Placed). HasCome e.vars (history e) t (row_at place e.held) made.row) (sym (all_passed e k (omega (arith, end)))) come;
        lays = lays_more old old new made.id made.row (lays_none old set.ready) one;
        newest = newest_made old old new made.id made.row set.numbered (lays_none old set.ready) (λ n l h. absurd (omega (arith, l, h))) one;
        few = omega (arith, next_is old.state.next old new made.id made.row one, end, set.order.few);
      };
      set = made_set old.state.next old new made.id made.row one e marks set;
      within = omega (arith, end);
    }

pub walks_on : (e : EngineState) (marks : List Mark) (conflict : PlainRow) (k : ℕ) (old mid new : Derived) (made next : Made) → IsWalking e marks conflict (k + 1) old mid made → GoesOn mid new made next → StandsBefore e conflict k next.row → IsWalking e marks conflict k old new next
walks_on e marks conflict k old mid new made next w (inl same) come =
    subst (λ (d : Derived). IsWalking e marks conflict k old d next) (sym same.0) (subst (λ (m : Made). StandsBefore e conflict k m.row → IsWalking e marks conflict k old mid m) (sym same.1)
    (λ (come' : StandsBefore e conflict k made.row). record {
      walked = record { come = come'; lays = w.walked.lays; newest = w.walked.newest; few = omega (arith, w.walked.few) };
      set = w.set;
      within = omega (arith, w.within);
    }) come)
walks_on e marks conflict k old mid new made next w (inr makes) come =
    let one = makes old.state.next w.walked.newest.own in
    record {
      walked = record {
        come = come;
        lays = lays_more old mid new next.id next.row w.walked.lays one;
        newest = newest_made old mid new next.id next.row w.set.numbered w.walked.lays w.walked.newest.made one;
        few = omega (arith, w.walked.few, next_is old.state.next mid new next.id next.row one);
      };
      set = made_set old.state.next mid new next.id next.row one e marks w.set;
      within = omega (arith, w.within);
    }

-- the last clause
pub walk_ends : (e : EngineState) (marks : List Mark) (conflict : PlainRow) (k : ℕ) (old mid new : Derived) (made last : Made) → IsWalking e marks conflict k old mid made → new ≡ mid → last ≡ made → last.row ≡ last_clause (history e) conflict → MakesLast e conflict old new last
walk_ends e marks conflict k old mid new made last w same is ends =
    record { last = ends; newest = subst (λ (d : Derived). IsNewest old d last.id last.row) (sym same) (subst (λ (m : Made). IsNewest old mid m.id m.row) (sym is) w.walked.newest); numbered = subst (λ (d : Derived). IsInOrder d.state) (sym same) w.set.numbered }

-- the whole trail was walked
pub walked_all : (e : EngineState) (marks : List Mark) (conflict : PlainRow) (k : ℕ) (old new : Derived) (made : Made) → k ≡ 0 → IsWalking e marks conflict k old new made → MakesLast e conflict old new made
walked_all e marks conflict k old new made z w = record { last = (subst (λ (n : ℕ). StandsBefore e conflict n made.row) z w.walked.come).same; newest = w.walked.newest; numbered = w.set.numbered }

-- the walk at the number before the next one
pub stands_now : (e : EngineState) (marks : List Mark) (conflict : PlainRow) (k : ℕ) (old new : Derived) (made : Made) → 0 < k → IsWalking e marks conflict k old new made → IsWalking e marks conflict (k - 1 + 1) old new made
stands_now e marks conflict k old new made some w = let same : k ≡ k - 1 + 1 = omega arith in subst (λ (n : ℕ). IsWalking e marks conflict n old new made) same w
