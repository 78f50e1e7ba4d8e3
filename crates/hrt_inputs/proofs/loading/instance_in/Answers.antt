use Rattle.hrt_inputs.proofs.TakenInstances.{instance_taken, pairs_exceed, terms_exceed}
use Rattle.hrt_inputs.proofs.loading.instance_in.Goals as goal

pub returns-in-Ok-clause-lists : goal.returns-in-Ok-clause-lists
returns-in-Ok-clause-lists c =
    instance_taken c.args.bytes.now c.in-Ok.inst (record { short = c.requires; spelled = c.in-Ok.ensures.spells; few_pairs = c.in-Ok.ensures.few; few_terms = c.in-Ok.ensures.few_terms })

pub returns-in-Err-Limit-Pairs-clause-stopped : goal.returns-in-Err-Limit-Pairs-clause-stopped
returns-in-Err-Limit-Pairs-clause-stopped c =
    let told = rw (c.in-Err-Limit-Pairs.field-0-is, c.in-Err-Limit-Pairs.field-0-0-is) at c.in-Err-Limit-Pairs.ensures.refused in
    pairs_exceed c.args.bytes.now c.requires told.0 told.1

pub returns-in-Err-Limit-Terms-clause-stopped : goal.returns-in-Err-Limit-Terms-clause-stopped
returns-in-Err-Limit-Terms-clause-stopped c =
    let told = rw (c.in-Err-Limit-Terms.field-0-is, c.in-Err-Limit-Terms.field-0-0-is) at c.in-Err-Limit-Terms.ensures.refused in
    terms_exceed c.args.bytes.now c.requires told.0 told.1 told.2
