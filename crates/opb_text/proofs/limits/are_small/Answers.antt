use Rattle.std.proofs.Common.{arith, sym, true≢false}
use Rattle.pb_rows.proofs.Signs.{sizes_more, sizes_take_le}
use Rattle.opb_text.proofs.limits.are_small.Goals as goal

pub returns-then-sum-gt-MOST_SIZES : goal.returns-then-sum-gt-MOST_SIZES
returns-then-sum-gt-MOST_SIZES c = (λ e. absurd (true≢false (sym e)), λ h. absurd (omega (arith, h, sizes_take_le c.args.terms.now c.loop-term.term-index, c.loop-term.invariant)))

pub loop-term-preserved : goal.loop-term-preserved
loop-term-preserved c = omega (arith, sizes_more)
