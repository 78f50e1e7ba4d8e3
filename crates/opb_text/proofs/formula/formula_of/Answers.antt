use Rattle.std.proofs.Common.{◌≤◌, ◌∙◌, sym, subst, ap, arith}
use Rattle.rank_tables.specs.Instance.{pair_count}
use Rattle.rank_tables.specs.WellFormed.{most_pairs}
use Rattle.opb_text.specs.Limits.{IsWithinLimits}
use Rattle.opb_text.proofs.Within.{formula_within, is_formula}
use Rattle.opb_text.proofs.formula.formula_of.Goals as goal

pub returns-clause-within : goal.returns-clause-within
returns-clause-within c =
    let few : pair_count c.args.model.now ≤ most_pairs = omega (arith, c.pairs.ensures.few, c.pairs.ensures.count, ap pair_count c.instance.ensures) in
    let is = is_formula c.args.model.now c.pairs.result _ _ (c.pairs.ensures.count ∙ ap pair_count c.instance.ensures) c.in_ok-objective_terms.ensures.is c.in_ok-rows_of.ensures in
    subst IsWithinLimits (sym is) (formula_within c.args.model.now few)
