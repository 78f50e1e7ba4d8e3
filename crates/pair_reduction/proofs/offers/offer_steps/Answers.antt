use Rattle.pair_reduction.proofs.OfferMade.{steps_done}
use Rattle.pair_reduction.proofs.offers.offer_steps.Goals as goal

pub returns : goal.returns
returns c =
    steps_done c.args.model.now c.instance-inst.result.now c.args.gone.now c.args.q.0 c.resident_of.result c.hospital_of.result c.loop-o.o-index c.pairs_of_resident-pairs.result.now c.loop-o.steps.items c.push_row.new.steps.items c.hospital_row.result
    c.instance-inst.ensures c.in_ok-push_row.ensures c.loop-o.invariant c.loop-o-test.false c.pairs_of_resident-pairs.ensures.numbers c.resident_of.ensures.value c.hospital_row.ensures.number c.hospital_of.ensures.value
