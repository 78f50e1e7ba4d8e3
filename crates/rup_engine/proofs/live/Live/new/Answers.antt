use Rattle.std.proofs.Common.{refl}
use Rattle.rup_engine.proofs.live.Live.new.Goals as goal

pub invariant_of-result : goal.invariant_of-result
invariant_of-result c = record { kept = c.new-2.ensures.queue c.in_ok-new.field-0.vars; apart = record { none = λ n h. rw c.new-2.ensures.empty refl } }
