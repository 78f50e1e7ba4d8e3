-- What a run that writes the model has written.
use Rattle.std.proofs.Common.{◌≡◌, ◌∙◌, ℕ, true, List, Some, refl, subst, arith}
use Rattle.hrt_base.specs.declared.port.Port.TheVariants.{Model, Report}
use Rattle.hrt_base.specs.World.{World}
use Rattle.opb_text.specs.Spelling.{model_text}
use Rattle.hrt_cli.specs.Outcomes.{Outcome, modeled}
use Rattle.hrt_cli.specs.Outputs.{SendsAll, outputs_of}
use Rattle.hrt_cli.specs.Requests.{is_file_name, model}
use Rattle.hrt_cli.specs.Runs.{IsDecided, WritesModel}
use Rattle.hrt_cli.proofs.NamedOutputs.{stored}
use Rattle.hrt_cli.proofs.Printed.{done, on_instance, reported_as}

pub model_written : (i m : List ℕ) (old new : World) → is_file_name m ≡ true → IsDecided (Some (model i m)) 0 old new → WritesModel i m old.content new.content
model_written i m old new named is =
    let run = done (Some (model i m)) 0 old new refl is in
    let found = on_instance (Some (model i m)) i 0 old new refl run in
    let sends = subst (λ (o : Outcome). SendsAll (outputs_of (Some (model i m)) o.texts) old.content new.content) found.comes run.sends in
    record {
      bytes = found.bytes;
      file = found.file;
      lists = found.lists_are;
      spelled = found.spelled;
      sent = sends.sent Model (λ same. absurd (omega arith));
      written = sends.files m ∙ stored m (model_text found.lists_are) old.content.file named;
      report = reported_as run.outcome (modeled found.lists_are) (new.content.sent Report) found.comes run.report;
    }
