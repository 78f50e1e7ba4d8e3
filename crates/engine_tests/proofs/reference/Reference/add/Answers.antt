use Rattle.std.proofs.Common.{◌∙◌, ap, sym}
use Rattle.std.specs.Option.{option_copied}
use Rattle.engine_tests.proofs.Numbered.{unnumbered}
use Rattle.engine_tests.proofs.reference.Reference.add.Goals as goal

pub add-requires-clause-fresh : goal.add-requires-clause-fresh
add-requires-clause-fresh c = unnumbered c.args.number c.self.inside.live.rows (sym c.get.ensures ∙ ap option_copied c.in-None.is)
