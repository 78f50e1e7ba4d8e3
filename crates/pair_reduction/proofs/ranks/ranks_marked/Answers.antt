use Rattle.std.proofs.Common.{ap, ◌∙◌}
use Rattle.std.proofs.lemmas.List.Sorted.{IsNonDecreasingBy-from_sort}
use Rattle.pair_reduction.specs.Flags.{is_marked}
use Rattle.pair_reduction.proofs.RankTests.{ranks_done, ranks_marked-one, ranks_passed-one}
use Rattle.pair_reduction.proofs.Tested.{next_number}
use Rattle.pair_reduction.proofs.ranks.ranks_marked.Goals as goal
use Rattle.pair_reduction.proofs.ranks.ranks_marked.Goals.{then-marks-p+in_ok-push, else-marks-p}

pub loop-p-preserved : goal.loop-p-preserved
loop-p-preserved c =
    elim c.if-marks-p.branch [
      | then-marks-p+in_ok-push w ↦
          ranks_marked-one c.args.side c.args.inst.now (is_marked c.args.marks.now) _ _ c.loop-p.ranks.items _ _ w.rank_on.result c.loop-p.invariant (next_number c.pairs_on-pairs.result.now c.loop-p.p-index _ c.loop-p-test.true)
          (ap (λ v. v.items) w.ranks-is ∙ w.in_ok-push.ensures.items) w.rank_on.ensures.value w.if-marks-p.true
      | else-marks-p w ↦
          ranks_passed-one c.args.side c.args.inst.now (is_marked c.args.marks.now) _ _ c.loop-p.ranks.items _ _ c.loop-p.invariant (next_number c.pairs_on-pairs.result.now c.loop-p.p-index _ c.loop-p-test.true) (ap (λ v. v.items) w.ranks-is) w.if-marks-p.false
    ]

pub returns : goal.returns
returns c =
    ranks_done c.args.side c.args.inst.now (is_marked c.args.marks.now) c.args.n c.loop-p.p-index c.pairs_on-pairs.result.now c.loop-p.ranks.items c.sort_unstable.new.self.items c.loop-p.invariant c.sort_unstable.ensures.permutation
    (IsNonDecreasingBy-from_sort (λ x. x) c.sort_unstable.new.self.items c.sort_unstable.ensures.sorted) c.loop-p-test.false c.pairs_on-pairs.ensures.distinct c.pairs_on-pairs.ensures.same
