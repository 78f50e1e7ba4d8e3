use Rattle.std.proofs.Common.{arith, false, pos}
use Rattle.hrt_base.specs.declared.literal.Term.{Term}
use Rattle.pb_rows.proofs.Sums.{coef_sum_more}
use Rattle.engine_tests.proofs.checks.is_light.Goals as goal

pub loop-k-preserved : goal.loop-k-preserved
loop-k-preserved c =
    let none : Term = record { coef = pos 0; lit = record { var = 0; neg = false } } in
    omega (arith, c.loop-k.invariant, c.in-Some.ensures.0, c.in-Some.ensures.1, c.size_of.ensures, coef_sum_more c.args.terms.now c.loop-k.k none c.loop-k-test.true)
