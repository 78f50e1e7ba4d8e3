use Rattle.std.proofs.Common.{◌+◌, ℕ, List, [], take, drop, get_or, arith, subst, sym, None}
use Rattle.std.proofs.lemmas.List.{drop_all, take_more}
use Rattle.std.proofs.lemmas.List.Sums.{get_or-le-sum_by}
use Rattle.level_sweep.specs.declared.sweeping.Stand.TheVariants.{Free}
use Rattle.level_sweep.specs.declared.sweeping.Standing.{Standing}
use Rattle.level_sweep.specs.declared.sweeping.Sweep.{Sweep}
use Rattle.level_sweep.specs.Levels.{IsLowestOpen}
use Rattle.level_sweep.specs.Sweeps.{IsSweptDown, stepped}
use Rattle.level_sweep.proofs.Sorted.{drop-here}
use Rattle.level_sweep.proofs.Sweeps.{at-end, greatest-within, start, step-keeps, sum-within}
use Rattle.level_sweep.proofs.sweeping.lowest_falling.Goals as goal

abbrev blank : Standing
blank = record { weight = 0; stand = Free }

pub loop-s-init : goal.loop-s-init
loop-s-init c =
    subst (λ (n : ℕ). IsSweptDown c.args.degree c.args.stands.now [] c.args.stands.now (record { sum = n; greatest = 0; last = None; lowest = None })) (sym c.never_false.ensures)
    (start c.args.degree c.args.stands.now c.requires.falling)

pub step-sweep-requires-clause-sum : goal.step-sweep-requires-clause-sum
step-sweep-requires-clause-sum c =
    let xs = c.args.stands.now in
    let k = c.loop-s.s-index in
    omega (arith, sum-within c.args.degree xs (take k xs) (drop k xs) c.loop-s.sweep c.loop-s.invariant, get_or-le-sum_by (λ (s : Standing). s.weight) xs k blank c.loop-s-test.true, c.requires.sum)

pub step-sweep-requires-clause-degree : goal.step-sweep-requires-clause-degree
step-sweep-requires-clause-degree c =
    let xs = c.args.stands.now in
    let k = c.loop-s.s-index in
    omega (arith, greatest-within c.args.degree xs (take k xs) (drop k xs) c.loop-s.sweep c.loop-s.invariant, c.requires.sum, c.requires.degree)

pub loop-s-preserved : goal.loop-s-preserved
loop-s-preserved c =
    let xs = c.args.stands.now in
    let k = c.loop-s.s-index in
    let s = get_or xs k blank in
    let w = c.loop-s.sweep in
    let d = subst (λ (ys : List Standing). IsSweptDown c.args.degree xs (take k xs) ys w) (drop-here xs k blank c.loop-s-test.true) c.loop-s.invariant in
    let next = step-keeps c.args.degree xs (take k xs) s (drop (k + 1) xs) w d c.step-sweep.ensures.level in
    let moved = subst (λ (ys : List Standing). IsSweptDown c.args.degree xs ys (drop (k + 1) xs) (stepped c.args.degree s w)) (sym (take_more xs k blank c.loop-s-test.true)) next in
    subst (IsSweptDown c.args.degree xs (take (k + 1) xs) (drop (k + 1) xs)) (sym c.step-sweep.ensures.is) moved

pub reached-requires : goal.reached-requires
reached-requires c =
    let xs = c.args.stands.now in
    let k = c.loop-s.s-index in
    omega (arith, greatest-within c.args.degree xs (take k xs) (drop k xs) c.loop-s.sweep c.loop-s.invariant, c.requires.sum, c.requires.degree)

pub returns : goal.returns
returns c =
    let xs = c.args.stands.now in
    let k = c.loop-s.s-index in
    let d = subst (λ (ys : List Standing). IsSweptDown c.args.degree xs (take k xs) ys c.loop-s.sweep) (drop_all k xs c.loop-s-test.false) c.loop-s.invariant in
    subst (λ (w : Sweep). IsLowestOpen c.args.degree xs w.lowest) (sym c.reached.ensures.is) (at-end c.args.degree xs (take k xs) c.loop-s.sweep d)
