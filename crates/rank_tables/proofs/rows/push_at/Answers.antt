use Rattle.rank_tables.proofs.RowsGrow.{row_pushed}
use Rattle.rank_tables.proofs.rows.push_at.Goals as goal

pub returns-clause-pushed : goal.returns-clause-pushed
returns-clause-pushed g c =
    row_pushed c.args.rows.now.items c.args.place c.push.new.self c.index_mut.result.now c.args.item c.requires c.index_mut.ensures.value
    c.in_ok-push.ensures.items
