use Rattle.std.proofs.Common.{◌≡◌, ◌∙◌, ap}
use Rattle.std.specs.Int.{w128}
use Rattle.std.proofs.lemmas.Int.{to_z-of_z}
use Rattle.proof_rules.specs.States.{at_most_row}
use Rattle.proof_steps.proofs.Values.{improved, improved_fits}
use Rattle.proof_steps.proofs.solution.improvement_row.Goals as goal

pub add_that_fits-requires : goal.add_that_fits-requires
add_that_fits-requires c =
    let is : c.in_ok-row.row ≡ at_most_row c.args.objective.now c.args.value = c.in_ok-row.ensures ∙ ap (at_most_row c.args.objective.now) (to_z-of_z w128 c.args.value c.ranges.value) in
    improved_fits c.requires.reached.0 c.args.objective.now c.args.value c.in_ok-row.row c.in_ok-one.one c.requires.reached.1 is c.in_ok-one.ensures c.requires.small

pub returns : goal.returns
returns c =
    let is : c.in_ok-row.row ≡ at_most_row c.args.objective.now c.args.value = c.in_ok-row.ensures ∙ ap (at_most_row c.args.objective.now) (to_z-of_z w128 c.args.value c.ranges.value) in
    c.in_ok-add_that_fits.ensures
    ∙ improved c.requires.reached.0 c.args.objective.now c.args.value c.in_ok-row.row c.in_ok-one.one c.requires.reached.1 is c.in_ok-one.ensures c.requires.small
