use Rattle.std.proofs.Common.{◌≡◌, ◌∙◌, ◌+◌, ◌-◌, ◌<◌, ℕ, length, subst, take, arith}
use Rattle.instance_gen.specs.Swaps.{swapped}
use Rattle.instance_gen.proofs.Swapped.{length-swaps, one_back}
use Rattle.instance_gen.proofs.draws.swap_back.Goals as goal

pub swap-requires-clause-a_in_bounds : goal.swap-requires-clause-a_in_bounds
swap-requires-clause-a_in_bounds c =
    omega (arith, c.loop-left-test.true, c.loop-left.invariant.same, c.loop-left.invariant.few, c.requires.1.few, length-swaps c.requires.0 c.args.places.now c.args.numbers.now c.requires.1)

pub swap-requires-clause-b_in_bounds : goal.swap-requires-clause-b_in_bounds
swap-requires-clause-b_in_bounds c =
    omega (
      arith,
      c.loop-left.invariant.same,
      c.requires.1.within (c.loop-left.left - 1) 0 (omega (arith, c.loop-left-test.true, c.loop-left.invariant.few)),
      length-swaps c.requires.0 c.args.places.now c.args.numbers.now c.requires.1,
    )

pub loop-left-preserved : goal.loop-left-preserved
loop-left-preserved c =
    let left = c.loop-left.left in
    let places = c.args.places.now in
    let within : left - 1 < length places = omega (arith, c.loop-left-test.true, c.loop-left.invariant.few) in
    let one_more : left ≡ left - 1 + 1 = omega (arith, c.loop-left-test.true) in
    record {
      same = c.swap.ensures.len ∙ c.loop-left.invariant.same;
      few = omega (arith, within);
      back = λ before s. c.swap.ensures.after
          ∙ one_back before places c.loop-left.numbers (left - 1) 0 s.within s.few within
          (subst (λ (n : ℕ). c.loop-left.numbers ≡ swapped 0 (take n places) before) one_more (c.loop-left.invariant.back before s));
    }
