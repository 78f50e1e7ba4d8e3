use Rattle.hrt_reader.proofs.Declared.{spells_from}
use Rattle.hrt_reader.proofs.Unrefused.{reads_as}
use Rattle.hrt_reader.proofs.law.accepted_where_unrefused.Goals as goal

pub returns-clause-unrefused : goal.returns-clause-unrefused
returns-clause-unrefused c = reads_as

pub returns-clause-accepted : goal.returns-clause-accepted
returns-clause-accepted c = spells_from
