use Rattle.std.proofs.Common.{Option, List, ℕ, Ok, Err, refl, subst}
use Rattle.hrt_base.specs.declared.port.Port.TheVariants.{Report}
use Rattle.hrt_base.specs.Calls.{SentPart}
use Rattle.hrt_cli.specs.declared.status.Status.TheVariants.{Misused}
use Rattle.hrt_cli.specs.declared.stop.Ended.TheVariants.{WriteFault}
use Rattle.hrt_cli.specs.Requests.{Request}
use Rattle.hrt_cli.specs.Ports.{KeepsOtherPorts}
use Rattle.hrt_solve.specs.Writing.{SentWhole}
use Rattle.hrt_cli.specs.Runs.{EndsAs}
use Rattle.hrt_cli.proofs.OtherPorts.{report_part_keeps, report_sent_keeps}
use Rattle.hrt_cli.proofs.Runs.{cut_short, misused_cut, misused_whole, whole_reported}
use Rattle.hrt_cli.proofs.program.carry_out.Goals as goal

pub returns-in-Ok-clause-ends : goal.returns-in-Ok-clause-ends
returns-in-Ok-clause-ends g c =
    subst (λ (r : Option Request). EndsAs g.H.Host.told r (Ok Misused) (g.H.Host.world c.args.host.now) (g.H.Host.world c.send.new.host)) c.in_default.ensures
    (misused_whole _ _ _ _ c.requires refl c.in-Ok.ensures.sent)

pub returns-in-Err-clause-ends : goal.returns-in-Err-clause-ends
returns-in-Err-clause-ends g c =
    subst (λ (r : Option Request). EndsAs g.H.Host.told r (Err WriteFault) (g.H.Host.world c.args.host.now) (g.H.Host.world c.send.new.host)) c.in_default.ensures
    (misused_cut _ _ _ _ c.requires refl c.in-Err.ensures.failed)

pub returns-in-Ok-send-clause-ends : goal.returns-in-Ok-send-clause-ends
returns-in-Ok-send-clause-ends g c =
    let whole = subst (λ (l : List ℕ). SentWhole g.H.Host.told Report l (g.H.Host.world c.answer_to.new.host) (g.H.Host.world c.send-in-Ok-answer_to.new.host)) c.as_bytes.ensures c.in-Ok-send.ensures.sent in
    subst (λ (r : Option Request). EndsAs g.H.Host.told r (Ok c.in-Ok-answer_to.answer.status) (g.H.Host.world c.args.host.now) (g.H.Host.world c.send-in-Ok-answer_to.new.host)) c.in-Some.ensures
    (whole_reported _ _ _ _ _ _ c.in-Ok-answer_to.ensures.worked whole (λ e. absurd (cc)))

pub returns-in-Ok-answer_to-clause-ends : goal.returns-in-Ok-answer_to-clause-ends
returns-in-Ok-answer_to-clause-ends g c =
    let part = subst (λ (l : List ℕ). SentPart g.H.Host.told Report l (g.H.Host.world c.answer_to.new.host) (g.H.Host.world c.send-in-Ok-answer_to.new.host)) c.as_bytes.ensures c.in-Err-send.ensures.failed in
    subst (λ (r : Option Request). EndsAs g.H.Host.told r (Err WriteFault) (g.H.Host.world c.args.host.now) (g.H.Host.world c.send-in-Ok-answer_to.new.host)) c.in-Some.ensures
    (cut_short _ _ _ _ _ _ c.in-Ok-answer_to.ensures.worked part)

pub returns-in-Ok-send-clause-others : goal.returns-in-Ok-send-clause-others
returns-in-Ok-send-clause-others g c =
    subst (λ (r : Option Request). KeepsOtherPorts g.H.Host.told r (g.H.Host.world c.args.host.now) (g.H.Host.world c.send-in-Ok-answer_to.new.host)) c.in-Some.ensures
    (report_sent_keeps _ _ _ _ _ _ c.answer_to.ensures.others c.in-Ok-send.ensures.sent)

pub returns-in-Ok-answer_to-clause-others : goal.returns-in-Ok-answer_to-clause-others
returns-in-Ok-answer_to-clause-others g c =
    subst (λ (r : Option Request). KeepsOtherPorts g.H.Host.told r (g.H.Host.world c.args.host.now) (g.H.Host.world c.send-in-Ok-answer_to.new.host)) c.in-Some.ensures
    (report_part_keeps _ _ _ _ _ _ c.answer_to.ensures.others c.in-Err-send.ensures.failed)
