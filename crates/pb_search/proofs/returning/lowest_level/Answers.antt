use Rattle.std.proofs.Common.{ap, ◌∙◌}
use Rattle.std.specs.Prelude.{min}
use Rattle.pb_search.proofs.GoingBack.{lowest_step}
use Rattle.pb_search.proofs.returning.lowest_level.Goals as goal

pub loop-place-preserved : goal.loop-place-preserved
loop-place-preserved c = lowest_step c.args.places.now c.loop-place.place-index _ c.args.engine.now c.loop-place.lowest c.min-lowest.result c.lowest_open_level-level.result c.loop-place-test.true c.loop-place.invariant c.lowest_open_level-level.ensures (c.min-lowest.ensures ∙ ap (min c.loop-place.lowest) c.unwrap_or.ensures)
