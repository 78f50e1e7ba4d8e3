-- What a solution line makes of a state.
use Rattle.std.proofs.Common.{◌≡◌, ℕ, Bool, false, List, if◌then◌else◌, ℤ, pos, ◌-ℤ◌, inl, refl, sym, ap, ap₂, ◌∙◌, subst, arith}
use Rattle.std.specs.Prelude.{Some, Result, Ok, Err}
use Rattle.hrt_base.specs.declared.literal.Lit.{Lit}
use Rattle.pb_rows.specs.Terms.{PlainRow}
use Rattle.pb_rows.specs.Points.{IsCovered, point_of, value_at}
use Rattle.pb_rows.specs.Formula.{Formula}
use Rattle.opb_text.specs.Limits.{IsWithinLimits}
use Rattle.proof_lines.specs.declared.line.Line.TheVariants.{Soli}
use Rattle.proof_rules.specs.Refusals.{Refusal, NotFull}
use Rattle.proof_rules.specs.States.{State, after, at_most_row, if_hold, is_full, logged, named_point, smaller, with_row}
use Rattle.proof_rules.specs.Valid.{Moves, Proving}
use Rattle.proof_rules.specs.Refused.{Refuses}
use Rattle.proof_checker.specs.declared.fault.Fault.{Fault}
use Rattle.proof_checker.specs.Faults.{Answers, Halts, IsNotFullWhere, reason_of}
use Rattle.proof_checker.specs.Kept.{Kept, Steps, with_solution}
use Rattle.proof_checker.specs.Tests.{IsNamedPoint, holding_rows, known_literals}
use Rattle.proof_checker.proofs.Agreeing.{same-if_hold, same-value}
use Rattle.proof_checker.proofs.Halting.{halts-as, if_reason, step-leads, step-stops}
use Rattle.proof_checker.proofs.Passing.{hold-passes, hold-stops, known-passes, known-stops}

module _ (f : Formula) (s : State) (ls : List Lit) where
  abbrev Soli-halts : Fault → Type 0
  Soli-halts fault = Halts f (Proving s) (Soli ls) fault

  abbrev Logged : Result State Refusal
  Logged = if_hold (named_point ls) 1 f.rows (Ok (logged f s (value_at (named_point ls) f.objective)))

  abbrev IfFull : Bool → Result State Refusal
  IfFull b = if b then Logged else Err NotFull

  soli-unknown : (e : Refusal) → known_literals f.vars ls ≡ Err e → after f s (Soli ls) ≡ Err e
  soli-unknown e h = known-stops f.vars ls (IfFull (is_full f.vars ls)) e h

  soli-not_full : known_literals f.vars ls ≡ Ok tt → is_full f.vars ls ≡ false → after f s (Soli ls) ≡ Err NotFull
  soli-not_full h k = known-passes f.vars ls (IfFull (is_full f.vars ls)) h ∙ ap IfFull k

  -- a literal of an unknown variable
  pub halts-unknown : (fault : Fault) → Answers (known_literals f.vars ls) fault → Soli-halts fault
  halts-unknown fault h = halts-as f (Proving s) (Soli ls) (known_literals f.vars ls) fault (λ e k. step-stops (after f s (Soli ls)) e (soli-unknown e k)) h

  -- not each variable once
  pub halts-not_full : (fault : Fault) → known_literals f.vars ls ≡ Ok tt → IsNotFullWhere (is_full f.vars ls ≡ false) fault → Soli-halts fault
  halts-not_full fault known h =
      if_reason (reason_of fault) (λ reason. (reason ≡ NotFull) × (is_full f.vars ls ≡ false)) (Refuses f (Proving s) (Soli ls))
      (λ e k. subst (Refuses f (Proving s) (Soli ls)) (sym k.0) (inl (step-stops (after f s (Soli ls)) NotFull (soli-not_full known k.1)))) h

  module _ (bits : List Bool) (limits : IsWithinLimits f) (known : known_literals f.vars ls ≡ Ok tt) (named : IsNamedPoint f.vars ls bits) where
    to_rows : after f s (Soli ls) ≡ Logged
    to_rows = known-passes f.vars ls (IfFull (is_full f.vars ls)) known ∙ ap IfFull named.full

    agree : (v : ℕ) → IsCovered f.vars v → named_point ls v ≡ point_of bits v
    agree v c = sym (named.same v c)

    rows_same : {A : Type 0} (r : Result A Refusal) → if_hold (named_point ls) 1 f.rows r ≡ if_hold (point_of bits) 1 f.rows r
    rows_same r = same-if_hold f.vars (named_point ls) (point_of bits) agree 1 f.rows r limits.rows

    soli-broken : (e : Refusal) → holding_rows (point_of bits) f.rows ≡ Err e → after f s (Soli ls) ≡ Err e
    soli-broken e h = to_rows ∙ hold-stops (named_point ls) 1 f.rows (Ok (logged f s (value_at (named_point ls) f.objective))) e (rows_same (Ok tt) ∙ h)

    soli-logged : (v : ℤ) (row : PlainRow) → holding_rows (point_of bits) f.rows ≡ Ok tt → v ≡ value_at (point_of bits) f.objective → row ≡ at_most_row f.objective (v -ℤ pos 1) →
        after f s (Soli ls) ≡ Ok (record (with_row s row) { least = Some (smaller s.least v) })
    soli-logged v row h value made =
        to_rows ∙ hold-passes (named_point ls) 1 f.rows (Ok (logged f s (value_at (named_point ls) f.objective))) (rows_same (Ok tt) ∙ h)
        ∙ ap Ok (ap (logged f s) (same-value f.vars (named_point ls) (point_of bits) agree f.objective limits.objective ∙ sym value)
        ∙ ap (λ (r : PlainRow). record (with_row s r) { least = Some (smaller s.least v) }) (sym made))

    -- a row that doesn't hold
    pub halts-broken : (fault : Fault) (seen : List Bool) (rows : List PlainRow) → seen ≡ bits → rows ≡ f.rows → Answers (holding_rows (point_of seen) rows) fault → Soli-halts fault
    halts-broken fault seen rows same is h =
        halts-as f (Proving s) (Soli ls) (holding_rows (point_of seen) rows) fault
        (λ e k. step-stops (after f s (Soli ls)) e (soli-broken e (sym (ap₂ (λ (bs : List Bool) (rs : List PlainRow). holding_rows (point_of bs) rs) same is) ∙ k))) h

    pub logs : (old new : Kept) (v : ℤ) (row : PlainRow) (seen : List Bool) (rows : List PlainRow) → s ≡ old.state → seen ≡ bits → rows ≡ f.rows → holding_rows (point_of seen) rows ≡ Ok tt → v ≡ value_at (point_of bits) f.objective →
        row ≡ at_most_row f.objective (v -ℤ pos 1) → new ≡ with_solution v row old → Steps f (Soli ls) old new
    logs old new v row seen rows state same is h value made next =
        subst (Steps f (Soli ls) old) (sym next) (record {
          moves = subst (λ (t : State). Moves f (Proving t) (Soli ls) (Proving (record (with_row t row) { least = Some (smaller t.least v) }))) state (record {
            leads = step-leads (after f s (Soli ls)) (record (with_row s row) { least = Some (smaller s.least v) })
                (soli-logged v row (sym (ap₂ (λ (bs : List Bool) (rs : List PlainRow). holding_rows (point_of bs) rs) same is) ∙ h) value made);
            owed = tt;
          });
          vars = refl;
          next = omega arith;
        })
