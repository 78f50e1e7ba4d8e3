use Rattle.std.proofs.lemmas.Result.{on_ok_weaker, on_err_weaker}
use Rattle.hrt_reader.specs.Written.{names_of}
use Rattle.hrt_reader.proofs.Flat.{sent_as, failed_as}
use Rattle.hrt_reader.proofs.WrittenLines.{group_of_several}
use Rattle.hrt_reader.proofs.writing.write_group.Goals as goal

pub returns-in-len1-up-clause-sent : goal.returns-in-len1-up-clause-sent
returns-in-len1-up-clause-sent g c =
    on_ok_weaker _ (sent_as _ _ _ _ _ _ (group_of_several (names_of c.args.side c.args.instance.now) c.args.group.now c.in-len1-up.len_at_least)) c.write_tie.ensures.sent

pub returns-in-len1-up-clause-failed : goal.returns-in-len1-up-clause-failed
returns-in-len1-up-clause-failed g c =
    on_err_weaker _ (failed_as _ _ _ _ _ _ (group_of_several (names_of c.args.side c.args.instance.now) c.args.group.now c.in-len1-up.len_at_least)) c.write_tie.ensures.failed
