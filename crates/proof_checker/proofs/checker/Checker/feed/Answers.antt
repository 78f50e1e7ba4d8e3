use Rattle.std.proofs.Common.{List, ℕ, ◌++◌, ap, ◌∙◌}
use Rattle.proof_checker.specs.Standing.{Checked}
use Rattle.proof_checker.proofs.Carrying.{stands-fed}
use Rattle.proof_checker.proofs.checker.Checker.feed.Goals as goal

pub returns-in-Ok-clause-stands : goal.returns-in-Ok-clause-stands
returns-in-Ok-clause-stands c text s =
    stands-fed text c.args.piece.now c.args.self.now _
    (ap (λ (bytes : List ℕ). record { formula = c.self.inside.formula; bytes = bytes; phase = c.self.inside.phase }) c.in-Ok.ensures.items ∙ ap (λ (checked : Checked). record checked { bytes = checked.bytes ++ c.args.piece.now }) c.self.view_is) s
