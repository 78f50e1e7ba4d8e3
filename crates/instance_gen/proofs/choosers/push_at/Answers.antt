use Rattle.instance_gen.proofs.RowsGrow.{row_pushed}
use Rattle.instance_gen.proofs.choosers.push_at.Goals as goal

pub returns-clause-pushed : goal.returns-clause-pushed
returns-clause-pushed c =
    row_pushed c.args.rows.now.items c.args.place c.push.new.self c.index_mut.result.now c.args.number c.requires c.index_mut.ensures.value
    c.in_ok-push.ensures.items
