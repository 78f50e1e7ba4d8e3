use mir.Syntax.{w128}
use Rattle.std.proofs.Common.{◌∙◌, ℕ, Bool, sym, subst, arith}
use Rattle.std.specs.List.Sorted.{IsNonDecreasing}
use Rattle.std.proofs.lemmas.Int.{to_z_pos}
use Rattle.hrt_base.specs.declared.literal.Term.{Term}
use Rattle.pb_rows.specs.Terms.{IsPositive}
use Rattle.pb_rows.proofs.Order.{rising_positive}
use Rattle.conflict_rows.specs.Weakening.{vars_where}
use Rattle.conflict_rows.specs.CutRows.{is_weakened}
use Rattle.conflict_rows.specs.Marks.{set_before, set_now}
use Rattle.conflict_rows.proofs.Numbers.{reduced_from, weight_passed}
use Rattle.conflict_rows.proofs.Weakened.{vars_where-rise}
use Rattle.conflict_rows.proofs.cutting.reduce.Goals as goal

pub weakened_vars-requires-clause-positive : goal.weakened_vars-requires-clause-positive
weakened_vars-requires-clause-positive c = rw c.terms.ensures.terms (rising_positive 0 c.args.reason.terms c.terms.ensures.normal.rising)

pub weaken_all-requires : goal.weaken_all-requires
weaken_all-requires c =
    let a : ℕ = c.weight_in-a.result in
    let goes : Term → Bool = is_weakened (set_now c.args.marks.now) (set_before c.args.marks.now c.args.k) c.args.t a in
    let rising : IsNonDecreasing (vars_where goes c.terms.result.now) = rw c.terms.ensures.terms (vars_where-rise goes c.args.reason.terms c.terms.ensures.normal.rising) in
    subst IsNonDecreasing (sym (c.deref.ensures.value ∙ c.in_ok-vars.ensures)) rising

pub divide-requires : goal.divide-requires
divide-requires c = subst IsPositive (sym (to_z_pos w128 c.weight_in-a.result (omega (arith, c.weight_in-a.ensures.bound)))) (omega (arith, c.weight_in-a.ensures.value, c.requires.stands))

pub returns : goal.returns
returns c =
    reduced_from (set_now c.args.marks.now) (set_before c.args.marks.now c.args.k) c.args.t c.args.reason c.weaken_all.new.self c.divide.new.self c.in_ok-vars.vars.items c.deref.result.now c.terms.result.now c.weight_in-a.result _
    c.weight_in-a.ensures.value (weight_passed c.weight_in-a.result (omega (arith, c.weight_in-a.ensures.bound))) c.terms.ensures.terms c.in_ok-vars.ensures c.deref.ensures.value c.in_ok-weaken_all.ensures.is c.divide.ensures.is
