use Rattle.stability_model.proofs.Pushes.{row_pushed}
use Rattle.stability_model.proofs.buckets.push_at.Goals as goal

pub returns-clause-pushed : goal.returns-clause-pushed
returns-clause-pushed c =
    row_pushed c.args.buckets.now.items c.args.place c.push.new.self c.index_mut.result.now c.args.pair c.requires c.index_mut.ensures.value
    c.in_ok-push.ensures.items
