use Rattle.hrt_inputs.proofs.TakenInstances.{instance_taken, taken_instance}
use Rattle.hrt_inputs.proofs.law.taken_where_spelled.Goals as goal

pub returns-clause-spelled : goal.returns-clause-spelled
returns-clause-spelled c = taken_instance

pub returns-clause-taken : goal.returns-clause-taken
returns-clause-taken c = instance_taken
