use Rattle.hrt_base.specs.Calls.{Sent}
use Rattle.hrt_base.specs.declared.port.Port.TheVariants.{Model}
use Rattle.opb_text.specs.Sending.{pair_lines}
use Rattle.opb_text.proofs.writing.write_pair_rows.Given as goal

abbrev pub invariant-loop-k : goal.invariant-loop-k
invariant-loop-k g l = Sent g.H.Host.told Model (pair_lines l.model l.k) (g.H.Host.world l.initial.host) (g.H.Host.world l.host)
