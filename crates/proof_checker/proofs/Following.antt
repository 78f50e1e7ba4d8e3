-- What a `rup` line makes of a state.
use Rattle.std.proofs.Common.{◌≡◌, ℕ, ◌≤◌, ◌<◌, ◌^◌, Bool, true, nat_le, if◌then◌else◌, inr, refl, sym, ap, ◌∙◌, subst, arith}
use Rattle.std.specs.Prelude.{Result, Ok, Err}
use Rattle.std.proofs.lemmas.Bool.{le-leb}
use Rattle.pb_rows.specs.Terms.{PlainRow, Written}
use Rattle.pb_rows.specs.Normal.{all_sizes}
use Rattle.pb_rows.specs.Rows.{in_normal_form}
use Rattle.pb_rows.specs.Closure.{Implies}
use Rattle.pb_rows.specs.Formula.{Formula}
use Rattle.row_text.specs.Rows.{is_small_row}
use Rattle.proof_lines.specs.declared.line.Line.TheVariants.{Rup}
use Rattle.proof_rules.specs.Refusals.{Refusal, NotImplied, TooBig}
use Rattle.proof_rules.specs.States.{after, if_known, literals_in, live_rows, rup_row, with_row}
use Rattle.proof_rules.specs.Valid.{Proving}
use Rattle.proof_rules.specs.Refused.{Refuses}
use Rattle.proof_checker.specs.Kept.{Kept, Steps, with_new_row}
use Rattle.proof_checker.specs.Tests.{known_terms}
use Rattle.proof_checker.proofs.Halting.{step-leads, then-leads}
use Rattle.proof_checker.proofs.Passing.{above, known-passes, known-stops}

module _ (f : Formula) (old : Kept) where
  -- ---- `rup`

  module _ (w : Written) (row : PlainRow) (vars : ℕ) (is : vars ≡ f.vars) (made : rup_row vars w ≡ Ok row) (normal : in_normal_form w ≡ row) where
    follows_leads : after f old.state (Rup w) ≡ Ok (with_row old.state row)
    follows_leads = then-leads (rup_row f.vars w) (λ r. Ok (with_row old.state r)) row (ap (λ (n : ℕ). rup_row n w) (sym is) ∙ made)

    pub halts-not_implied : (Implies (live_rows old.state) row → ⊥) → Refuses f (Proving old.state) (Rup w) NotImplied
    halts-not_implied fails = inr (record {
      there = Proving (with_row old.state row);
      leads = step-leads (after f old.state (Rup w)) (with_row old.state row) follows_leads;
      fails = λ owed. fails (subst (Implies (live_rows old.state)) normal owed);
      why_is = refl;
    })

    pub implies-steps : (new : Kept) → Implies (live_rows old.state) row → new ≡ with_new_row row old → Steps f (Rup w) old new
    implies-steps new implied next =
        subst (Steps f (Rup w) old) (sym next) (record {
          moves = record {
            leads = step-leads (after f old.state (Rup w)) (with_row old.state row) follows_leads;
            owed = subst (Implies (live_rows old.state)) (sym normal) implied;
          };
          vars = refl;
          next = omega arith;
        })

-- ---- `rup` rows

module _ (vars : ℕ) (w : Written) (small : is_small_row w ≡ true) where
  abbrev fitting : Bool → Result PlainRow Refusal
  fitting b = if b then Ok (in_normal_form w) else Err TooBig

  small_row : rup_row vars w ≡ if_known vars (literals_in w.terms) (fitting (nat_le (all_sizes w.terms w.at_least) (2 ^ 120)))
  small_row = rw small refl

  pub rup-unknown : (e : Refusal) → known_terms vars w.terms ≡ Err e → rup_row vars w ≡ Err e
  rup-unknown e h = small_row ∙ known-stops vars (literals_in w.terms) (fitting (nat_le (all_sizes w.terms w.at_least) (2 ^ 120))) e h

  to_sizes : known_terms vars w.terms ≡ Ok tt → rup_row vars w ≡ fitting (nat_le (all_sizes w.terms w.at_least) (2 ^ 120))
  to_sizes known = small_row ∙ known-passes vars (literals_in w.terms) (fitting (nat_le (all_sizes w.terms w.at_least) (2 ^ 120))) known

  pub rup-made : known_terms vars w.terms ≡ Ok tt → all_sizes w.terms w.at_least ≤ 2 ^ 120 → rup_row vars w ≡ Ok (in_normal_form w)
  rup-made known h = to_sizes known ∙ ap fitting (le-leb (all_sizes w.terms w.at_least) (2 ^ 120) h)

  pub rup-too_big : known_terms vars w.terms ≡ Ok tt → 2 ^ 120 < all_sizes w.terms w.at_least → rup_row vars w ≡ Err TooBig
  rup-too_big known h = to_sizes known ∙ ap fitting (above (all_sizes w.terms w.at_least) (2 ^ 120) h)
