use Rattle.proof_checker.proofs.Judged.{stands-judged}
use Rattle.proof_checker.proofs.checker.Checker.finish.Goals as goal

pub returns-clause-verdict : goal.returns-clause-verdict
returns-clause-verdict c text s = stands-judged text c.args.self.now c.judge.result s (rw (← c.self.view_is, ← c.as_slice.ensures.value) c.judge.ensures.verdict)

pub returns-clause-sound : goal.returns-clause-sound
returns-clause-sound c = rw (← c.self.view_is) c.judge.ensures.sound
