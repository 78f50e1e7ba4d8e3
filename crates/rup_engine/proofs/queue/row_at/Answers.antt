use Rattle.std.proofs.Common.{◌≡◌, ◌∙◌, Some, None, sym}
use Rattle.std.proofs.lemmas.List.{get_or_read}
use Rattle.rup_engine.specs.Queue.{place_at}
use Rattle.rup_engine.proofs.Queues.{row-of-place}
use Rattle.rup_engine.proofs.queue.row_at.Goals as goal

pub returns-in-Some : goal.returns-in-Some
returns-in-Some c =
    let at : place_at c.args.places.now c.args.place ≡ Some c.in-Some.entry =
    sym (get_or_read c.args.places.now c.args.place c.index-places-place.result c.requires.place c.index-places-place.is None) ∙ c.in-Some.is in
    sym (row-of-place c.args.places.now c.args.place c.args._id.0 c.in-Some.entry at c.requires.has c.requires.only)
