-- The row of the ceiling and the row that asks for a larger matching add up to one that holds nowhere, and their line can be written.
use Rattle.std.proofs.Common.{◌≡◌, ℕ, zero, suc, ◌+◌, ◌-◌, ◌<◌, ◌≤◌, ◌≤ℤ◌, ◌^◌, ◌&&◌, true, nat_le, List, [], ◌∷◌, ◌++◌, length-append, pos, refl, sym, ap, ◌∙◌, arith}
use Rattle.std.specs.Prelude.{Some, None, Result, Ok, IsOk, is_ok, ◌-ℤ◌, ◌+ℤ◌, decimal, neg_ℤ}
use Rattle.std.specs.Int.RustNames.{unsigned_abs}
use Rattle.std.proofs.lemmas.Bool.{and_from, le-leb}
use Rattle.std.proofs.lemmas.Fmt.{length-decimal-le}
use Rattle.std.proofs.lemmas.Int.{ints}
use Rattle.hrt_base.specs.declared.numbered.RowNo.{RowNo}
use Rattle.pb_rows.specs.Terms.{PlainRow, coef_sum}
use Rattle.pb_rows.specs.Normal.{all_sizes, sizes}
use Rattle.pb_rows.specs.Rows.{IsWellFormedRow, add}
use Rattle.pb_rows.specs.Formula.{row_of}
use Rattle.pb_rows.proofs.Forms.{fits_sum}
use Rattle.rank_tables.specs.Numbers.{numbers_to}
use Rattle.rank_tables.specs.Instance.{Lists, pair_count}
use Rattle.rank_tables.proofs.Below.{length-numbers_to}
use Rattle.stability_model.specs.Model.{objective}
use Rattle.stability_model.proofs.ShortRows.{minus_sizes}
use Rattle.proof_lines.specs.declared.line.PolStep.{PolStep}
use Rattle.proof_lines.specs.declared.line.PolStep.TheVariants.{Id, Add}
use Rattle.proof_lines.specs.declared.line.Line.TheVariants.{Pol}
use Rattle.proof_lines.specs.Texts.{is_spellable_id, line_text}
use Rattle.proof_rules.specs.Refusals.{Refusal, and_then}
use Rattle.proof_rules.specs.Pol.{fits, pol_row}
use Rattle.proof_rules.specs.States.{IsInOrder, State, minus_terms, with_row}
use Rattle.proof_rules.proofs.Fits.{fits-normal_form, fits_true, normal_form-degree, normal_form-rises, normal_form-sum, sizes-minus}
use Rattle.proof_rules.proofs.Numbers.{live_within}
use Rattle.derivation.specs.Derived.{Derived}
use Rattle.derivation.specs.Steps.{IsWritable, Takes}
use Rattle.matching_log.specs.Logged.{Closes, ceiling_row, larger_row, value_of}
use Rattle.matching_log.proofs.LoggedMatching.{same_state}
use Rattle.matching_log.proofs.Opposed.{opposed_contradict}

abbrev pub closing : RowNo → RowNo → List PolStep
closing a b = Id a ∷ Id b ∷ Add ∷ []

-- ---- the rows

ceiling_size : (n : ℕ) → unsigned_abs (value_of n) ≤ n
ceiling_size zero = omega arith
ceiling_size (suc n) = omega arith

larger_size : (n : ℕ) → unsigned_abs (neg_ℤ (value_of n -ℤ pos 1)) ≤ n + 1
larger_size zero = omega arith
larger_size (suc n) = omega arith

one_above : (n : ℕ) → pos 1 ≤ℤ (value_of n +ℤ neg_ℤ (value_of n -ℤ pos 1))
one_above n = omega (arith, ints)

module _ (lists : Lists) (size : ℕ) (few : pair_count lists ≤ 100000) (small : size < 2 ^ 32) where
  objective_small : sizes (objective lists) ≤ 100000
  objective_small = omega (arith, few, minus_sizes (numbers_to (pair_count lists)), length-numbers_to (pair_count lists))

  ceiling_small : all_sizes (objective lists) (value_of size) ≤ 2 ^ 100
  ceiling_small = omega (arith, objective_small, ceiling_size size)

  larger_small : all_sizes (minus_terms (objective lists)) (neg_ℤ (value_of size -ℤ pos 1)) ≤ 2 ^ 100
  larger_small = omega (arith, objective_small, sizes-minus (objective lists), larger_size size)

  ceiling_formed : IsWellFormedRow (ceiling_row lists size)
  ceiling_formed = normal_form-rises (objective lists) (value_of size) (fits-normal_form (objective lists) (value_of size) (omega (arith, ceiling_small)))

  larger_formed : IsWellFormedRow (larger_row lists size)
  larger_formed =
      normal_form-rises (minus_terms (objective lists)) (neg_ℤ (value_of size -ℤ pos 1)) (fits-normal_form (minus_terms (objective lists)) (neg_ℤ (value_of size -ℤ pos 1)) (omega (arith, larger_small)))

  closing_fits : fits (add (ceiling_row lists size) (larger_row lists size)) ≡ true
  closing_fits = fits_true (add (ceiling_row lists size) (larger_row lists size)) (fits_sum (ceiling_row lists size) (larger_row lists size) ceiling_formed larger_formed (
    omega (arith, ceiling_small, larger_small, normal_form-sum (objective lists) (value_of size), normal_form-sum (minus_terms (objective lists)) (neg_ℤ (value_of size -ℤ pos 1))),
    omega (arith, ceiling_small, larger_small, normal_form-degree (objective lists) (value_of size), normal_form-degree (minus_terms (objective lists)) (neg_ℤ (value_of size -ℤ pos 1))),
  ))

  -- one less than the ceiling's value is asked for
  closing_contradicts : coef_sum (add (ceiling_row lists size) (larger_row lists size)).terms < (add (ceiling_row lists size) (larger_row lists size)).degree
  closing_contradicts = opposed_contradict (objective lists) (value_of size) (neg_ℤ (value_of size -ℤ pos 1)) (one_above size) ceiling_formed larger_formed

-- ---- the line

made_id : (id : RowNo) → 1 ≤ id.0 → id.0 < 10 ^ 18 → is_spellable_id id ≡ true
made_id id first last = and_from (nat_le 1 id.0) (nat_le id.0 (10 ^ 18 - 1)) (le-leb 1 id.0 first) (le-leb id.0 (10 ^ 18 - 1) (omega arith))

module _ (size : ℕ) (bound larger : RowNo) (old : Derived) (few : pair_count old.lists ≤ 100000) (small : size < 2 ^ 32) (top : row_of bound.0 old.state.live ≡ Some (ceiling_row old.lists size)) (asks : row_of larger.0 old.state.live ≡ Some (larger_row old.lists size)) where
  closing_made : pol_row (pair_count old.lists) old.state.live (closing bound larger) ≡ Ok (add (ceiling_row old.lists size) (larger_row old.lists size))
  closing_made = rw top (rw asks (rw (closing_fits old.lists size few small) refl))

  pub closing_makes : IsOk (pol_row (pair_count old.lists) old.state.live (closing bound larger))
  closing_makes = ap (λ (r : Result PlainRow Refusal). is_ok r) closing_made

  pub closing_writable : IsInOrder old.state → old.state.next ≤ 10 ^ 18 → IsWritable (Pol (closing bound larger))
  closing_writable order next =
      let a = live_within bound.0 old.state.next _ old.state.live order top in
      let b = live_within larger.0 old.state.next _ old.state.live order asks in
      record {
        made = and_from (is_spellable_id bound) (is_spellable_id larger && true) (made_id bound a.0 (omega (arith, a.1))) (and_from (is_spellable_id larger) true (made_id larger b.0 (omega (arith, b.1))) refl);
        small = refl;
        short =
            omega (
              arith,
              length-decimal-le 18 bound.0 (omega arith) (omega (arith, a.1)) (omega (arith, a.1)),
              length-decimal-le 18 larger.0 (omega arith) (omega (arith, b.1)) (omega (arith, b.1)),
              length-append (decimal bound.0 ++ 32 ∷ (decimal larger.0 ++ 32 ∷ 43 ∷ [])) (10 ∷ []),
              length-append (decimal bound.0) (32 ∷ (decimal larger.0 ++ 32 ∷ 43 ∷ [])),
              length-append (decimal larger.0) (32 ∷ 43 ∷ []),
            );
      }

  pub closes : (id : RowNo) (new : Derived) → id.0 ≡ old.state.next → IsInOrder old.state → old.state.next ≤ 10 ^ 18 → old.claim ≡ None → Takes (Pol (closing bound larger)) old new → Closes size bound larger id old new
  closes id new number order next unconcluded taken = record {
    number = number;
    text = line_text (Pol (closing bound larger));
    is = taken.is ∙ ap (λ (s : State). record old { state = s; pending = old.pending ++ line_text (Pol (closing bound larger)) }) state_is;
    adds = record { writable = closing_writable order next; unconcluded = unconcluded; takes = taken };
    contradicts = closing_contradicts old.lists size few small;
  }
    where
      state_is : new.state ≡ with_row old.state (add (ceiling_row old.lists size) (larger_row old.lists size))
      state_is = same_state new.state (with_row old.state (add (ceiling_row old.lists size) (larger_row old.lists size)))
          (sym taken.step.leads ∙ ap (λ (r : Result PlainRow Refusal). and_then r (λ row. Ok (with_row old.state row))) closing_made)
