-- The rows that a proof makes beside those of its model are short.
use Rattle.std.proofs.Common.{◌≡◌, ℕ, zero, suc, ◌+◌, ◌≤◌, true, [], length, ℤ, pos, neg_ℤ, ◌-ℤ◌, sym, subst, zero-le, arith}
use Rattle.std.specs.Int.RustNames.{unsigned_abs}
use Rattle.std.proofs.lemmas.List.Elements.{All-map, All-nil, All-push}
use Rattle.std.proofs.lemmas.List.Sums.{count_by-le-length, length-filter}
use Rattle.hrt_base.specs.declared.literal.Term.{Term}
use Rattle.pb_rows.specs.Terms.{weighing}
use Rattle.pb_rows.specs.Points.{IsCovered, Point, value_at}
use Rattle.pb_rows.specs.Rows.{IsWellFormedRow}
use Rattle.rank_tables.specs.Numbers.{numbers_to}
use Rattle.rank_tables.specs.Instance.{Lists, pair_count}
use Rattle.rank_tables.specs.Tables.{IsPairNo}
use Rattle.rank_tables.specs.WellFormed.{most_pairs}
use Rattle.rank_tables.proofs.Below.{length-numbers_to}
use Rattle.stability_model.specs.Model.{IsShortRow, formula, objective, pairs_of_point}
use Rattle.stability_model.proofs.ModelExact.{ObjectiveExact}
use Rattle.stability_model.proofs.ShortRows.{minus_sizes, objective_over, objective_short, short_form}
use Rattle.proof_rules.specs.Claims.{at_least_row}
use Rattle.proof_rules.specs.States.{at_most_row, minus_terms}
use Rattle.proof_rules.proofs.Fits.{sizes-minus}
use Rattle.derivation.specs.Deletions.{unit_row}
use Rattle.derivation.specs.Short.{MadeRowsAreShort}

-- ---- the row of a pair that is gone

pub unit_formed : (p : ℕ) → IsWellFormedRow (unit_row p)
unit_formed p = record { rising = (zero-le, omega arith, tt); fits = record { sum = omega arith; degree = omega arith } }

unit_short : (lists : Lists) (p : ℕ) → IsPairNo lists p → IsShortRow (pair_count lists) (unit_row p)
unit_short lists p is = record {
  over = All-push (λ (t : Term). IsCovered (pair_count lists) t.lit.var) [] (weighing 1 (record { var = p; neg = true })) (All-nil (λ (t : Term). IsCovered (pair_count lists) t.lit.var)) (record { first = is.0; last = is.1 });
  formed = unit_formed p;
  short = record { sum = omega arith; degree = omega arith };
}

-- ---- the row of the ceiling

minus_size : (n : ℕ) → unsigned_abs (neg_ℤ (pos n)) ≤ n
minus_size zero = omega arith
minus_size (suc n) = omega arith

bound_short : (lists : Lists) (most : ℕ) → pair_count lists ≤ most_pairs → most ≤ pair_count lists → IsShortRow (pair_count lists) (at_least_row (formula lists) (neg_ℤ (pos most)))
bound_short lists most few within = objective_short lists (neg_ℤ (pos most)) few (omega (arith, minus_size most, few, within))

-- ---- the row that asks for a larger matching

less_size : (v : ℤ) (n : ℕ) → v ≡ neg_ℤ (pos n) → unsigned_abs (neg_ℤ (v -ℤ pos 1)) ≤ n + 1
less_size v zero e = subst (λ (z : ℤ). unsigned_abs (neg_ℤ (z -ℤ pos 1)) ≤ 1) (sym e) (omega arith)
less_size v (suc n) e = subst (λ (z : ℤ). unsigned_abs (neg_ℤ (z -ℤ pos 1)) ≤ suc n + 1) (sym e) (omega arith)

pairs_few : (lists : Lists) (point : Point) → length (pairs_of_point lists point) ≤ pair_count lists
pairs_few lists point = omega (arith, length-filter point (numbers_to (pair_count lists)), count_by-le-length point (numbers_to (pair_count lists)), length-numbers_to (pair_count lists))

improvement_short : (lists : Lists) (point : Point) → pair_count lists ≤ most_pairs → IsShortRow (pair_count lists) (at_most_row (objective lists) (value_at point (objective lists) -ℤ pos 1))
improvement_short lists point few =
    short_form (pair_count lists) (minus_terms (objective lists)) (neg_ℤ (value_at point (objective lists) -ℤ pos 1))
    (All-map (λ (t : Term). IsCovered (pair_count lists) t.lit.var) (λ t. record { coef = neg_ℤ t.coef; lit = t.lit }) (objective lists) (objective_over lists))
    (omega (
      arith,
      few,
      pairs_few lists point,
      sizes-minus (objective lists),
      minus_sizes (numbers_to (pair_count lists)),
      length-numbers_to (pair_count lists),
      less_size (value_at point (objective lists)) (length (pairs_of_point lists point)) (ObjectiveExact lists point),
    ))

pub made_rows_short : MadeRowsAreShort
made_rows_short = record { unit = unit_short; bound = bound_short; improvement = improvement_short }
