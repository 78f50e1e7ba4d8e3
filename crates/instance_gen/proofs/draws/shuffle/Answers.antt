use Rattle.std.proofs.Common.{◌≡◌, ◌∙◌, ◌+◌, ◌-◌, ◌<◌, ◌++◌, ◌∷◌, ℕ, [], length, length-append, sym, ap, subst, arith}
use Rattle.std.specs.List.{swap}
use Rattle.instance_gen.specs.Draws.{drawn}
use Rattle.instance_gen.specs.Swaps.{AreSwaps}
use Rattle.instance_gen.proofs.Steps.{shuffled_next}
use Rattle.instance_gen.proofs.Swapped.{swaps_more}
use Rattle.instance_gen.proofs.draws.shuffle.Goals as goal

pub loop-place-preserved : goal.loop-place-preserved
loop-place-preserved c =
    let place = c.loop-place.place in
    let numbers = c.loop-place.numbers in
    let places = c.loop-place.places.items in
    let left : 0 < c.args.steps - place = omega (arith, c.loop-place-test.true) in
    let one_less : c.args.steps - (place + 1) ≡ (c.args.steps - place) - 1 = omega arith in
    let count : length numbers ≡ length c.args.numbers.now = c.loop-place.invariant.same in
    let value : c.draw.result ≡ drawn (length numbers - place) c.loop-place.words = rw count c.draw.ensures.value in
    let noted : length places ≡ place = c.loop-place.invariant.noted in
    let pushed : c.push.new.self.items ≡ places ++ (place + c.draw.result) ∷ [] = c.in_ok-push.ensures.items in
    record {
      same = c.swap.ensures.len ∙ count;
      whole = rw (one_less, c.swap.ensures.after, c.draw.ensures.rest, value) (sym (shuffled_next (c.args.steps - place) place numbers c.loop-place.words left) ∙ c.loop-place.invariant.whole);
      noted = ap length pushed ∙ omega (arith, noted, length-append places ((place + c.draw.result) ∷ []));
      swaps = rw (pushed, c.swap.ensures.after) (subst (λ (n : ℕ). AreSwaps c.args.numbers.now (places ++ (place + c.draw.result) ∷ []) (swap numbers n (place + c.draw.result))) noted
          (swaps_more c.args.numbers.now places numbers (place + c.draw.result) c.loop-place.invariant.swaps (omega (arith, c.draw.ensures.below, c.requires.steps, c.loop-place-test.true)) (omega (arith, noted, c.requires.steps, c.loop-place-test.true))));
    }
