use mir.Val.{SFits}
use Rattle.std.proofs.Common.{◌+◌, take, arith, ◌∙◌}
use Rattle.std.specs.Int.{w128}
use Rattle.std.proofs.lemmas.Int.{to_z-of_z}
use Rattle.pb_rows.specs.Points.{point_of}
use Rattle.pb_rows.proofs.Signs.{sizes_take_le}
use Rattle.proof_steps.proofs.Values.{next_value, value_fits}
use Rattle.proof_steps.proofs.solution.objective_value.Goals as goal

pub overflow_add-value : goal.overflow_add-value
overflow_add-value c =
    let f : SFits w128 c.share-value.result = record { sfits = c.share-value.type_inv } in
    value_fits (point_of c.args.point.now) (take (c.loop-term.term-index + 1) c.args.objective.now) _
    (next_value (point_of c.args.point.now) c.args.objective.now c.loop-term.term-index _ _ _ c.loop-term-test.true
    c.loop-term.invariant (to_z-of_z w128 c.share-value.result f ∙ c.share-value.ensures))
    (omega (arith, sizes_take_le c.args.objective.now (c.loop-term.term-index + 1)))

pub loop-term-preserved : goal.loop-term-preserved
loop-term-preserved c =
    let f : SFits w128 c.share-value.result = record { sfits = c.share-value.type_inv } in
    to_z-of_z w128 _ (overflow_add-value c) ∙
    next_value (point_of c.args.point.now) c.args.objective.now c.loop-term.term-index _ _ _ c.loop-term-test.true
    c.loop-term.invariant (to_z-of_z w128 c.share-value.result f ∙ c.share-value.ensures)
