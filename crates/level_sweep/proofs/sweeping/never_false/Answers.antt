use Rattle.std.proofs.Common.{◌∙◌, ap, arith}
use Rattle.std.proofs.lemmas.List.{take_all}
use Rattle.std.proofs.lemmas.List.Sums.{sum_by_more, sum_by_more_le}
use Rattle.level_sweep.specs.declared.sweeping.Stand.TheVariants.{Free}
use Rattle.level_sweep.specs.declared.sweeping.Standing.{Standing}
use Rattle.level_sweep.specs.Sweeps.{never_false, never_false_share}
use Rattle.level_sweep.proofs.Sweeps.{never_false-below}
use Rattle.level_sweep.proofs.sweeping.never_false.Goals as goal

abbrev blank : Standing
blank = record { weight = 0; stand = Free }

pub overflow_add-sum : goal.overflow_add-sum
overflow_add-sum c =
    let xs = c.args.stands.now in
    omega (arith, c.loop-s.invariant, c.never_false_share-sum.ensures, sum_by_more_le never_false_share xs c.loop-s.s-index blank c.loop-s-test.true, never_false-below xs, c.requires)

pub loop-s-preserved : goal.loop-s-preserved
loop-s-preserved c =
    omega (arith, c.loop-s.invariant, c.never_false_share-sum.ensures, sum_by_more never_false_share c.args.stands.now c.loop-s.s-index blank c.loop-s-test.true)

pub returns : goal.returns
returns c = c.loop-s.invariant ∙ ap never_false (take_all c.loop-s.s-index c.args.stands.now c.loop-s-test.false)
