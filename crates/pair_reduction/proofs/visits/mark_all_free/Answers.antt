use Rattle.pair_reduction.proofs.Tested.{next_number}
use Rattle.pair_reduction.proofs.Visiting.{marking_done, marking_more, ranks_now}
use Rattle.pair_reduction.proofs.visits.mark_all_free.Goals as goal

pub mark_if_free-requires-clause-ranks : goal.mark_if_free-requires-clause-ranks
mark_if_free-requires-clause-ranks c =
    ranks_now c.args.side c.args.inst.now c.args.known.now.gone c.loop-p.known.gone c.args.n _ c.in_ok-ranks.ranks.items c.deref.result.now c.loop-p.invariant.gone (c.pairs_on-pairs.ensures.each c.loop-p.p-index _ c.loop-p-test.true).list c.deref.ensures.value
    c.in_ok-ranks.ensures

pub loop-p-preserved : goal.loop-p-preserved
loop-p-preserved c =
    marking_more c.args.side c.args.inst.now c.args.known.now c.loop-p.known c.mark_if_free.new.known _ _ _ (next_number c.pairs_on-pairs.result.now c.loop-p.p-index _ c.loop-p-test.true) c.loop-p.invariant c.in_ok-mark_if_free.ensures

pub returns-clause-settled : goal.returns-clause-settled
returns-clause-settled c =
    marking_done c.args.side c.args.inst.now c.args.known.now c.loop-p.known c.args.n c.loop-p.p-index c.pairs_on-pairs.result.now c.loop-p-test.false c.pairs_on-pairs.ensures.same c.requires.passed c.loop-p.invariant
