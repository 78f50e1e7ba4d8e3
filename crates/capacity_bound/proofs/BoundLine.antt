-- The line of the bound row can be written, and makes that row.
use Rattle.std.proofs.Common.{◌≡◌, ℕ, ◌+◌, ◌-◌, ◌<◌, ◌≤◌, ◌^◌, Bool, true, false, List, [], ◌∷◌, ◌++◌, nat_le, if◌then◌else◌, length, count_by, refl, sym, ap, ◌∙◌, subst, arith}
use Rattle.std.specs.Prelude.{codes, flat_map, slice_get, Result, Ok, Err}
use Rattle.std.specs.List.{list_all}
use Rattle.std.proofs.lemmas.Bool.{leb-false, leb-true}
use Rattle.std.proofs.lemmas.List.{length-append}
use Rattle.pb_rows.specs.Terms.{PlainRow}
use Rattle.pb_rows.specs.Rows.{in_normal_form}
use Rattle.pb_rows.specs.Formula.{NumberedRow, row_of}
use Rattle.rank_tables.specs.Numbers.{below, numbers_to}
use Rattle.rank_tables.specs.Instance.{Lists, pair_count, pairs_of_resident}
use Rattle.rank_tables.specs.WellFormed.{IsWellFormed}
use Rattle.rank_tables.proofs.Below.{length-numbers_to}
use Rattle.stability_model.specs.Model.{at_most, rows}
use Rattle.stability_model.specs.Gone.{ceiling, posts_left, residents_left}
use Rattle.row_text.specs.Tokens.{spaced}
use Rattle.proof_lines.specs.declared.line.PolStep.{PolStep}
use Rattle.proof_lines.specs.declared.line.Line.TheVariants.{Pol}
use Rattle.proof_lines.specs.Spelling.{is_small_step}
use Rattle.proof_lines.specs.Texts.{step_words}
use Rattle.proof_rules.specs.Refusals.{Refusal, TooBig, and_then}
use Rattle.proof_rules.specs.Pol.{only_row, pol_row, run_steps}
use Rattle.proof_rules.specs.States.{AreNumbered}
use Rattle.derivation.specs.Deletions.{AreUnitRows, Deletions, is_deleted}
use Rattle.derivation.specs.Steps.{IsWritable}
use Rattle.capacity_bound.specs.Steps.{AddsRows, Sum, bound_operands, hospital_operands, operands_of, resident_operands, steps_of}
use Rattle.capacity_bound.proofs.Covers.{Covers, covers_at_most, covers_unique}
use Rattle.capacity_bound.proofs.Parts.{hospital_amounts, hospitals_count, hospitals_sum, resident_amounts, residents_count, residents_sum, whole_length}
use Rattle.capacity_bound.proofs.Running.{Amounts, all_steps, amounts_parts, each_made, each_small, makes_row, sum_made, sum_short}

-- the operands add up to the row that at most u of the n pairs are taken, whichever are added first
pub record AddsUp (n : ℕ) (live : List NumberedRow) (operands : List PolStep) (u : ℕ) : Type 0 where
  pub some : 0 < length operands
  pub writable : (steps : List PolStep) → AddsRows operands steps → IsWritable (Pol steps)
  pub row : (steps : List PolStep) → AddsRows operands steps → pol_row n live steps ≡ Ok (in_normal_form (at_most u (numbers_to n)))

module _ (n : ℕ) (live : List NumberedRow) (ps : List ℕ) (d u : ℕ) (whole : (t : ℕ → Bool) → count_by t ps ≡ count_by t (numbers_to n)) (total : d + u ≡ n) (most : n ≤ 100000) where
  all_pairs : length ps ≡ n
  all_pairs = whole_length n ps whole

  some_operands : (operands : List PolStep) → Amounts n live operands ps d → 0 < n → 0 < length operands
  some_operands [] a h = absurd (omega (arith, ap length a.0, all_pairs))
  some_operands (step ∷ steps) a h = omega arith

  module _ (sum : Sum) (a : Amounts n live (operands_of sum) ps d) where
    small : list_all is_small_step (steps_of sum) ≡ true
    small = all_steps is_small_step refl sum (each_small n live (operands_of sum) ps d a)

    sum_writable : IsWritable (Pol (steps_of sum))
    sum_writable = record {
      made = sum_made sum (each_made n live (operands_of sum) ps d a);
      small = small;
      short = omega (
        arith,
        sum_short n live sum ps d a,
        all_pairs,
        length-append (codes "pol") (spaced (flat_map step_words (steps_of sum))),
        length-append (codes "pol" ++ spaced (flat_map step_words (steps_of sum))) (10 ∷ []),
      );
    }

    sum_row : pol_row n live (steps_of sum) ≡ Ok (in_normal_form (at_most u (numbers_to n)))
    sum_row =
        let bound : PlainRow = in_normal_form (at_most u (numbers_to n)) in
        let made = makes_row n live sum ps d a (omega (arith, all_pairs)) in
        let covers : Covers bound (numbers_to n) d = subst (Covers bound (numbers_to n)) (omega (arith, length-numbers_to n)) (covers_at_most u (numbers_to n)) in
        let same : made.row ≡ bound = covers_unique made.row bound ps (numbers_to n) d made.covers covers whole in
        ap (λ (b : Bool). if b then and_then (run_steps n live (steps_of sum) []) only_row else Err TooBig) small
        ∙ ap (λ (r : Result (List PlainRow) Refusal). and_then r only_row) (made.runs []) ∙ ap (λ (row : PlainRow). Ok row) same

  adds_up : (operands : List PolStep) → Amounts n live operands ps d → 0 < n → AddsUp n live operands u
  adds_up operands a some = record {
    some = some_operands operands a some;
    writable = λ steps adds. subst (λ (s : List PolStep). IsWritable (Pol s)) (sym adds.steps_are) (sum_writable adds.sum (subst (λ (s : List PolStep). Amounts n live s ps d) adds.operands_are a));
    row = λ steps adds. ap (pol_row n live) adds.steps_are ∙ sum_row adds.sum (subst (λ (s : List PolStep). Amounts n live s ps d) adds.operands_are a);
  }

module _ (lists : Lists) (deletions : Deletions) (live : List NumberedRow) (next : ℕ) (order : AreNumbered 1 next live) (few : next ≤ 10 ^ 18) (units : AreUnitRows live deletions) (model : (k : ℕ) → 1 ≤ k → k ≤ length (rows lists) → row_of k live ≡ slice_get (rows lists) (k - 1)) (most : pair_count lists ≤ 100000) (formed : IsWellFormed lists) (some : 0 < pair_count lists) where
  by_residents : AddsUp (pair_count lists) live (flat_map (resident_operands lists deletions) (below (length lists.residents))) (residents_left lists (is_deleted deletions))
  by_residents =
      adds_up (pair_count lists) live _ _ (residents_left lists (is_deleted deletions)) (residents_count lists deletions live next order few units model most) (residents_sum lists deletions live next order few units model most) most _
      (amounts_parts (pair_count lists) live (resident_operands lists deletions) (pairs_of_resident lists) _ (resident_amounts lists deletions live next order few units model most) (below (length lists.residents))) some

  by_hospitals : AddsUp (pair_count lists) live (flat_map (hospital_operands lists deletions) (below (length lists.hospitals))) (posts_left lists (is_deleted deletions))
  by_hospitals =
      adds_up (pair_count lists) live _ _ (posts_left lists (is_deleted deletions)) (hospitals_count lists deletions live next order few units model most formed) (hospitals_sum lists deletions live next order few units model most formed) most _
      (amounts_parts (pair_count lists) live (hospital_operands lists deletions) _ _ (hospital_amounts lists deletions live next order few units model most formed) (below (length lists.hospitals))) some

  by_smaller : (b : Bool) → nat_le (residents_left lists (is_deleted deletions)) (posts_left lists (is_deleted deletions)) ≡ b →
      AddsUp (pair_count lists) live (if b then flat_map (resident_operands lists deletions) (below (length lists.residents)) else flat_map (hospital_operands lists deletions) (below (length lists.hospitals))) (ceiling lists (is_deleted deletions))
  by_smaller true e =
      let less : residents_left lists (is_deleted deletions) ≤ posts_left lists (is_deleted deletions) = leb-true (residents_left lists (is_deleted deletions)) (posts_left lists (is_deleted deletions)) e in
      subst (AddsUp (pair_count lists) live _) (omega arith) by_residents
  by_smaller false e =
      let more : posts_left lists (is_deleted deletions) < residents_left lists (is_deleted deletions) = leb-false (residents_left lists (is_deleted deletions)) (posts_left lists (is_deleted deletions)) e in
      subst (AddsUp (pair_count lists) live _) (omega arith) by_hospitals

  pub bound_adds_up : AddsUp (pair_count lists) live (bound_operands lists deletions) (ceiling lists (is_deleted deletions))
  bound_adds_up = by_smaller (nat_le (residents_left lists (is_deleted deletions)) (posts_left lists (is_deleted deletions))) refl
