use Rattle.std.proofs.Common.{ap, ◌∙◌, ◌≤◌, ◌≡◌, ◌<◌, subst, length, arith, List, take, true, not}
use Rattle.std.specs.List.{All, list_all}
use Rattle.std.proofs.lemmas.List.{length-take}
use Rattle.hrt_base.specs.declared.numbered.PairNo.{PairNo}
use Rattle.rank_tables.specs.Instance.{Lists, pair_count}
use Rattle.rank_tables.specs.Numbers.{numbers_to}
use Rattle.rank_tables.specs.Stability.{blocks, is_weakly_stable}
use Rattle.rank_tables.specs.Tables.{IsPairNo, numbers_of}
use Rattle.lazy_stability.specs.Candidates.{AreBlocking, candidate}
use Rattle.pb_search.specs.Improving.{Improves}
use Rattle.pb_search.proofs.Further.{loads_further, tried}
use Rattle.pb_search.proofs.Trying.{is_full, is_longer, is_matched, is_stable, is_within}
use Rattle.pb_search.proofs.candidate.try_candidate.Goals as goal

pub load_broken-requires-clause-full : goal.load_broken-requires-clause-full
load_broken-requires-clause-full c = is_full c.args.budget c.args.ceiling c.args.bound_row c.args.found.now.items c.args.engine.now c.args.deriv.now c.requires.joined c.level-level.ensures.order c.next-next.ensures.in_order c.requires.idle c.requires.full c.requires.knows

pub load_broken-requires-clause-matching : goal.load_broken-requires-clause-matching
load_broken-requires-clause-matching c = is_matched c.args.budget c.args.ceiling c.args.bound_row c.args.found.now.items c.args.engine.now c.args.deriv.now c.requires.joined c.level-level.ensures.order c.next-next.ensures.in_order c.requires.idle c.requires.full c.requires.knows

pub load_broken-requires-clause-block : goal.load_broken-requires-clause-block
load_broken-requires-clause-block c = subst (λ (l : Lists). AreBlocking l (candidate l c.args.engine.now) (take c.broken-count.result c.broken-count.new.out)) (c.instance-2.ensures ∙ c.requires.same) c.broken-count.ensures.blocking

pub returns-then-count-gt0-clause-tries : goal.returns-then-count-gt0-clause-tries
returns-then-count-gt0-clause-tries c =
    let pairs : List PairNo = take c.broken-count.result c.broken-count.new.out in
    let block = subst (λ (l : Lists). AreBlocking l (candidate l c.args.engine.now) pairs) (c.instance-2.ensures ∙ c.requires.same) c.broken-count.ensures.blocking in
    let some : 0 < length pairs = omega (arith, length-take c.broken-count.result c.broken-count.new.out, c.if-count-gt0.true, c.broken-count.ensures.count, c.broken-count.ensures.length) in
    loads_further c.args.budget c.args.ceiling c.args.bound_row c.args.found.now.items pairs c.args.engine.now c.load_broken.new.engine c.args.deriv.now c.load_broken.new.deriv c.requires.joined c.requires.knows some (λ k d l. (block.each k d l).0) c.in_ok-load_broken.ensures

pub improve-requires-clause-full : goal.improve-requires-clause-full
improve-requires-clause-full c = is_full c.args.budget c.args.ceiling c.args.bound_row c.args.found.now.items c.args.engine.now c.args.deriv.now c.requires.joined c.level-level.ensures.order c.next-next.ensures.in_order c.requires.idle c.requires.full c.requires.knows

pub improve-requires-clause-stable : goal.improve-requires-clause-stable
improve-requires-clause-stable c =
    let D : Lists = c.args.deriv.now.lists in
    let none = subst (λ (l : Lists). list_all (λ p. not (blocks l (candidate l c.args.engine.now) p)) (numbers_to (pair_count l)) ≡ true) (c.instance-2.ensures ∙ c.requires.same) (c.broken-count.ensures.none.0 (omega (arith, c.if-count-gt0.false))) in
    let are : numbers_of c.deref.result.now ≡ candidate D c.args.engine.now = ap numbers_of c.deref.ensures.value ∙ c.in_ok-pairs.ensures.pairs ∙ ap (λ (l : Lists). candidate l c.args.engine.now) (c.instance-3.ensures ∙ c.requires.same) in
    ap (is_weakly_stable D) are ∙ is_stable c.args.budget c.args.ceiling c.args.bound_row c.args.found.now.items c.args.engine.now c.args.deriv.now c.requires.joined c.level-level.ensures.order c.next-next.ensures.in_order c.requires.idle c.requires.full c.requires.knows none

pub improve-requires-clause-within : goal.improve-requires-clause-within
improve-requires-clause-within c =
    let are : numbers_of c.deref.result.now ≡ candidate c.args.deriv.now.lists c.args.engine.now = ap numbers_of c.deref.ensures.value ∙ c.in_ok-pairs.ensures.pairs ∙ ap (λ (l : Lists). candidate l c.args.engine.now) (c.instance-3.ensures ∙ c.requires.same) in
    is_within c.args.budget c.args.ceiling c.args.bound_row c.args.found.now.items c.args.engine.now c.args.deriv.now c.requires.joined c.level-level.ensures.order c.next-next.ensures.in_order c.requires.idle c.requires.full c.requires.knows c.deref.result.now are

pub returns-clause-tries : goal.returns-clause-tries
returns-clause-tries c =
    let D : Lists = c.args.deriv.now.lists in
    let pairs : List PairNo = c.in_ok-pairs.pairs.items in
    let none = subst (λ (l : Lists). list_all (λ p. not (blocks l (candidate l c.args.engine.now) p)) (numbers_to (pair_count l)) ≡ true) (c.instance-2.ensures ∙ c.requires.same) (c.broken-count.ensures.none.0 (omega (arith, c.if-count-gt0.false))) in
    let are : numbers_of pairs ≡ candidate D c.args.engine.now = c.in_ok-pairs.ensures.pairs ∙ ap (λ (l : Lists). candidate l c.args.engine.now) (c.instance-3.ensures ∙ c.requires.same) in
    let few : pair_count D ≤ 100000 = subst (λ (l : Lists). pair_count l ≤ 100000) (c.instance.ensures ∙ c.requires.same) (omega (arith, c.pairs-pairs.ensures.count, c.pairs-pairs.ensures.few)) in
    tried c.args.budget c.args.ceiling c.args.bound_row c.args.found.now.items pairs c.args.engine.now c.improve.new.engine c.args.deriv.now c.improve.new.deriv c.in_ok-step.step c.requires.joined c.next-next.ensures.in_order c.requires.knows
    (subst (λ (l : Lists). All (λ (p : PairNo). IsPairNo l p.0) pairs) (c.instance-3.ensures ∙ c.requires.same) c.in_ok-pairs.ensures.numbers) c.in_ok-pairs.ensures.rising (ap (is_weakly_stable D) are ∙ is_stable c.args.budget c.args.ceiling c.args.bound_row c.args.found.now.items c.args.engine.now c.args.deriv.now c.requires.joined c.level-level.ensures.order c.next-next.ensures.in_order c.requires.idle c.requires.full c.requires.knows none) (is_longer c.args.budget c.args.ceiling c.args.bound_row c.args.found.now.items c.args.engine.now c.args.deriv.now c.requires.joined c.level-level.ensures.order c.next-next.ensures.in_order c.requires.idle c.requires.full c.requires.knows pairs are) few
    (subst (λ (ps : List PairNo). Improves c.args.ceiling c.args.bound_row ps c.args.engine.now c.improve.new.engine c.args.deriv.now c.improve.new.deriv c.in_ok-step.step) c.deref.ensures.value c.in_ok-step.ensures)
