use Rattle.std.proofs.Common.{◌≡◌, ◌∷◌, take}
use Rattle.std.specs.Prelude.{flat_map}
use Rattle.rank_tables.specs.Tables.{numbers_of}
use Rattle.stability_model.specs.Model.{pair_row_no}
use Rattle.proof_lines.specs.declared.line.PolStep.TheVariants.{Id}
use Rattle.proof_lines.specs.Spelling.{row_no}
use Rattle.pair_reduction.specs.Offers.{before_steps}
use Rattle.pair_reduction.proofs.offers.offer_steps.Given as goal

abbrev pub invariant-loop-o : goal.invariant-loop-o
invariant-loop-o l = l.steps.items ≡ Id (row_no (pair_row_no l.fn.model l.q.0)) ∷ flat_map (before_steps l.inst l.gone l.q.0) (numbers_of (take l.o-index l.pairs))
