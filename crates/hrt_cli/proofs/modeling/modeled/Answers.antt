use Rattle.std.proofs.Common.{[], ◌∷◌, subst}
use Rattle.hrt_base.specs.declared.port.Port.TheVariants.{Model}
use Rattle.rank_tables.specs.Instance.{Lists}
use Rattle.opb_text.specs.Spelling.{model_text}
use Rattle.hrt_cli.specs.Outputs.{output}
use Rattle.hrt_cli.specs.Writing.{FailsWriting, WritesAll, WritesInPart}
use Rattle.hrt_cli.proofs.modeling.modeled.Goals as goal

pub returns-in-Ok-clause-saved : goal.returns-in-Ok-clause-saved
returns-in-Ok-clause-saved g c =
    subst (λ (lists : Lists). WritesAll g.H.Host.told (output Model c.args.file.now (model_text lists) ∷ []) (g.H.Host.world c.args.host.now) (g.H.Host.world c.save_model.new.host)) c.in_ok-model.ensures.is c.in-Ok.ensures.saved

pub returns-in-Err-Failed-clause-ended : goal.returns-in-Err-Failed-clause-ended
returns-in-Err-Failed-clause-ended g c =
    subst (λ (lists : Lists). FailsWriting g.H.Host.told (output Model c.args.file.now (model_text lists) ∷ []) (g.H.Host.world c.args.host.now) (g.H.Host.world c.save_model.new.host)) c.in_ok-model.ensures.is
    (record { part = c.in-Err-Failed.ensures.part; rose = c.in-Err-Failed.ensures.failed (cc c.in-Err-Failed.field-0-is) })

pub returns-clause-ended : goal.returns-clause-ended
returns-clause-ended g c =
    subst (λ (lists : Lists). WritesInPart g.H.Host.told (output Model c.args.file.now (model_text lists) ∷ []) (g.H.Host.world c.args.host.now) (g.H.Host.world c.save_model.new.host)) c.in_ok-model.ensures.is c.in-Err-NoMemory.ensures.part
