use Rattle.hrt_base.specs.Calls.{Sent}
use Rattle.hrt_base.specs.declared.port.Port.TheVariants.{Model}
use Rattle.opb_text.specs.Sending.{hospital_lines}
use Rattle.opb_text.proofs.writing.write_hospital_rows.Given as goal

abbrev pub invariant-loop-h : goal.invariant-loop-h
invariant-loop-h g l = Sent g.H.Host.told Model (hospital_lines l.model l.h) (g.H.Host.world l.initial.host) (g.H.Host.world l.host)
