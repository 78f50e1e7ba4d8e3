use Rattle.hrt_base.specs.Calls.{Sent}
use Rattle.hrt_base.specs.declared.port.Port.TheVariants.{Model}
use Rattle.opb_text.specs.Sending.{resident_lines}
use Rattle.opb_text.proofs.writing.write_resident_rows.Given as goal

abbrev pub invariant-loop-r : goal.invariant-loop-r
invariant-loop-r g l = Sent g.H.Host.told Model (resident_lines l.model l.r) (g.H.Host.world l.initial.host) (g.H.Host.world l.host)
