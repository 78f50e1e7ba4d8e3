use Rattle.conflict_cuts.proofs.Agreeing.{row_given, tag_is, tag_numbered}
use Rattle.conflict_cuts.proofs.making.held_row.Goals as goal

pub row-requires-clause-live : goal.row-requires-clause-live
row-requires-clause-live c =
    tag_numbered c.args.engine.now c.args.deriv.now c.args.place.0 c.tag.result.0 c.requires.agree c.requires.held (tag_is c.args.engine.now c.arena.result.now c.args.place.0 c.tag.result.0 c.arena.ensures c.tag.ensures)

pub returns : goal.returns
returns c =
    row_given c.args.engine.now c.args.deriv.now c.args.place.0 c.tag.result.0 c.row.result c.requires.agree c.requires.held (tag_is c.args.engine.now c.arena.result.now c.args.place.0 c.tag.result.0 c.arena.ensures c.tag.ensures) c.row.ensures
