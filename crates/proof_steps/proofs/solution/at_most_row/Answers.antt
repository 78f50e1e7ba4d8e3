use mir.Val.{SFits, of_z, to_z}
use Rattle.std.proofs.Common.{◌≡◌, ◌-ℤ◌, ℤ, pos, neg_ℤ, ◌∙◌, ap₂, subst, sym}
use Rattle.std.specs.Int.{w128}
use Rattle.std.proofs.lemmas.Int.{to_z-of_z}
use Rattle.std.proofs.lemmas.Result.{IfOk-weaker}
use Rattle.pb_rows.specs.Terms.{PlainRow}
use Rattle.pb_rows.specs.Normal.{normal_form}
use Rattle.proof_rules.specs.States.{at_most_row}
use Rattle.proof_steps.proofs.Values.{minus_sizes, minus_value_fits, turned}
use Rattle.proof_steps.proofs.solution.at_most_row.Goals as goal

pub overflow_sub-value : goal.overflow_sub-value
overflow_sub-value c =
    subst (λ (z : ℤ). SFits w128 (pos 0 -ℤ z)) (sym (to_z-of_z w128 c.args.value c.ranges.value))
    (minus_value_fits c.requires.reached.0 c.args.objective.now c.args.value c.requires.reached.1 c.requires.small)

pub from_terms_that_fit-requires : goal.from_terms_that_fit-requires
from_terms_that_fit-requires c =
    minus_sizes c.requires.reached.0 c.args.objective.now c.deref.result.now c.args.value _ (c.deref.ensures.value ∙ c.in_ok-minus.ensures) c.requires.reached.1
    (turned c.args.value c.ranges.value (minus_value_fits c.requires.reached.0 c.args.objective.now c.args.value c.requires.reached.1 c.requires.small)) c.requires.small

pub returns : goal.returns
returns c =
    let z : ℤ = to_z w128 (of_z w128 (pos 0 -ℤ to_z w128 (of_z w128 c.args.value))) in
    let small : z ≡ neg_ℤ c.args.value = turned c.args.value c.ranges.value (minus_value_fits c.requires.reached.0 c.args.objective.now c.args.value c.requires.reached.1 c.requires.small) in
    IfOk-weaker c.from_terms_that_fit.result (λ (row : PlainRow). row ≡ normal_form c.deref.result.now z) (λ (row : PlainRow). row ≡ at_most_row c.args.objective.now c.args.value)
    (λ row e. e ∙ ap₂ normal_form (c.deref.ensures.value ∙ c.in_ok-minus.ensures) small) c.from_terms_that_fit.ensures
