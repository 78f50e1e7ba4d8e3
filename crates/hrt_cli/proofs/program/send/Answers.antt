use Rattle.std.proofs.Common.{rules}
use Rattle.hrt_base.proofs.Pieces.{sent_failed}
use Rattle.hrt_cli.proofs.program.send.Goals as goal

pub returns-in_err-seal-clause-failed : goal.returns-in_err-seal-clause-failed
returns-in_err-seal-clause-failed g c = let part = sent_failed _ _ _ _ _ _ c.in_ok-write_all.ensures.sent c.in_err-seal.ensures.failed in search rules
