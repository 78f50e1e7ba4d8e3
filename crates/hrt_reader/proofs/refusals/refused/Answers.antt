use Rattle.std.proofs.Common.{ap, Some}
use Rattle.hrt_reader.specs.Refusal.{Refusal}
use Rattle.hrt_reader.specs.Kinds.{flaw_number}
use Rattle.hrt_reader.specs.declared.refusals.Flaw.{Flaw}
use Rattle.hrt_reader.proofs.refusals.refused.Goals as goal

pub returns-in-TooManyResidents : goal.returns-in-TooManyResidents
returns-in-TooManyResidents c =
    let refusal : Flaw → Refusal = λ f. record { line = c.args.line; kind = flaw_number f } in
    (c.args.line, ap (λ (f : Flaw). Some (refusal f)) c.in-TooManyResidents.is)

pub returns-in-TooManyHospitals : goal.returns-in-TooManyHospitals
returns-in-TooManyHospitals c =
    let refusal : Flaw → Refusal = λ f. record { line = c.args.line; kind = flaw_number f } in
    (c.args.line, ap (λ (f : Flaw). Some (refusal f)) c.in-TooManyHospitals.is)
