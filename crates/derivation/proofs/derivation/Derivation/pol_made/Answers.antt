use Rattle.std.proofs.Common.{◌∙◌, ap}
use Rattle.proof_lines.specs.declared.line.Line.TheVariants.{Pol}
use Rattle.proof_lines.specs.Texts.{line_text}
use Rattle.derivation.proofs.Taken.{pol_taken}
use Rattle.derivation.proofs.Standing.{stays-step}
use Rattle.derivation.proofs.derivation.Derivation.pol_made.Goals as goal

pub returns-clause-valid : goal.returns-clause-valid
returns-clause-valid c =
    stays-step (Pol c.args.steps.now) c.args.self.now c.add.new.self c.requires.writable (λ e. absurd (cc)) c.requires.open
    (pol_taken c.args.steps.now c.args.self.now c.add.new.self c.args.row c.deref.result.now c.requires.made
    (c.deref.ensures.value ∙ c.in_ok-text.ensures ∙ ap line_text c.in_ok-line.ensures) c.in_ok-id.ensures.ok)
