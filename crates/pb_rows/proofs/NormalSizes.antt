-- The numbers of a normal form are at most the sizes of what was written.
use Rattle.std.proofs.Common.{◌≤◌, ◌^◌, ℤ, [], List, subst, arith}
use Rattle.hrt_base.specs.declared.literal.Term.{Term}
use Rattle.pb_rows.specs.Terms.{PlainRow, coef_sum}
use Rattle.pb_rows.specs.Normal.{all_sizes, normal_form, sizes, var_bound}
use Rattle.pb_rows.specs.Rows.{Fits, IsWellFormedRow}
use Rattle.pb_rows.specs.Joined.{joined_form, signless_all, turned_sum}
use Rattle.pb_rows.proofs.ByNets.{joined_form_is, joined_rising}
use Rattle.pb_rows.proofs.Order.{put_all_sum}
use Rattle.pb_rows.proofs.Signs.{positive_part_le, signless_from, signless_sum, turned_sum_le}

joined-sum : (ts : List Term) (at_least : ℤ) → coef_sum (joined_form ts at_least).terms ≤ sizes ts
joined-sum ts at_least = omega (arith, put_all_sum 0 [] (signless_all ts) (signless_from ts), signless_sum ts)

joined-degree : (ts : List Term) (at_least : ℤ) → (joined_form ts at_least).degree ≤ all_sizes ts at_least
joined-degree ts at_least = omega (arith, positive_part_le at_least (turned_sum ts), turned_sum_le ts)

pub normal_form-sum : (ts : List Term) (at_least : ℤ) → coef_sum (normal_form ts at_least).terms ≤ sizes ts
normal_form-sum ts at_least = subst (λ (row : PlainRow). coef_sum row.terms ≤ sizes ts) (joined_form_is ts at_least) (joined-sum ts at_least)

pub normal_form-degree : (ts : List Term) (at_least : ℤ) → (normal_form ts at_least).degree ≤ all_sizes ts at_least
normal_form-degree ts at_least = subst (λ (row : PlainRow). row.degree ≤ all_sizes ts at_least) (joined_form_is ts at_least) (joined-degree ts at_least)

-- a row whose written numbers have sizes that sum to at most 2^120
pub fits-normal_form : (ts : List Term) (at_least : ℤ) → all_sizes ts at_least ≤ 2 ^ 120 → Fits (normal_form ts at_least)
fits-normal_form ts at_least h = record { sum = omega (arith, h, normal_form-sum ts at_least); degree = omega (arith, h, normal_form-degree ts at_least) }

pub normal_form-rises : (ts : List Term) (at_least : ℤ) → Fits (normal_form ts at_least) → IsWellFormedRow (normal_form ts at_least)
normal_form-rises ts at_least h = record { rising = joined_rising (var_bound ts) ts; fits = h }
