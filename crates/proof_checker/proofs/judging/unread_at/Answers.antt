use Rattle.std.proofs.Common.{refl}
use Rattle.proof_checker.proofs.Cutting.{first-big, first-unread}
use Rattle.proof_checker.proofs.judging.unread_at.Goals as goal

pub returns-in-Syntax : goal.returns-in-Syntax
returns-in-Syntax c f s bytes h = let found = first-unread bytes (rw c.in-Syntax.is at h) in rw found.1.whole refl

pub returns-in-TooBig : goal.returns-in-TooBig
returns-in-TooBig c f s bytes h =
    let found = first-big bytes c.in-TooBig.kind (rw c.in-TooBig.is at h) in
    rw found.begins.whole (c.too_big_at.ensures f s found.line found.big found.kind_is)
