use Rattle.std.proofs.Common.{◌∙◌}
use Rattle.pair_reduction.proofs.OfferMade.{limits_of, makes_offer}
use Rattle.pair_reduction.proofs.offers.offer.Goals as goal

pub pol_that_fits-requires-clause-writable : goal.pol_that_fits-requires-clause-writable
pol_that_fits-requires-clause-writable c =
    (makes_offer c.args.model.now c.args.q.0 c.args.deriv.now c.args.gone.now c.deref.result.now c.pair_row.result
    (limits_of c.instance-inst.result.now c.args.model.now c.args.q.0 c.pairs.result c.hospital_of-hospital.result c.capacity.result c.instance-inst.ensures c.residents.ensures.well_formed c.pairs.ensures.count c.pairs.ensures.few
    c.hospital_of-hospital.ensures.value c.hospital_of-hospital.ensures.declared c.capacity.ensures.value c.capacity.ensures.few)
    c.requires.q c.requires.model c.requires.ready c.next.ensures.in_order c.requires.next c.requires.units c.requires.only c.requires.posts c.requires.few c.pair_row.ensures.number c.pair_row.ensures.row (c.deref.ensures.value ∙ c.in_ok-steps.ensures)).writable

pub pol_that_fits-requires-clause-made : goal.pol_that_fits-requires-clause-made
pol_that_fits-requires-clause-made c =
    (makes_offer c.args.model.now c.args.q.0 c.args.deriv.now c.args.gone.now c.deref.result.now c.pair_row.result
    (limits_of c.instance-inst.result.now c.args.model.now c.args.q.0 c.pairs.result c.hospital_of-hospital.result c.capacity.result c.instance-inst.ensures c.residents.ensures.well_formed c.pairs.ensures.count c.pairs.ensures.few
    c.hospital_of-hospital.ensures.value c.hospital_of-hospital.ensures.declared c.capacity.ensures.value c.capacity.ensures.few)
    c.requires.q c.requires.model c.requires.ready c.next.ensures.in_order c.requires.next c.requires.units c.requires.only c.requires.posts c.requires.few c.pair_row.ensures.number c.pair_row.ensures.row (c.deref.ensures.value ∙ c.in_ok-steps.ensures)).made

pub returns-clause-made : goal.returns-clause-made
returns-clause-made c =
    (makes_offer c.args.model.now c.args.q.0 c.args.deriv.now c.args.gone.now c.deref.result.now c.pair_row.result
    (limits_of c.instance-inst.result.now c.args.model.now c.args.q.0 c.pairs.result c.hospital_of-hospital.result c.capacity.result c.instance-inst.ensures c.residents.ensures.well_formed c.pairs.ensures.count c.pairs.ensures.few
    c.hospital_of-hospital.ensures.value c.hospital_of-hospital.ensures.declared c.capacity.ensures.value c.capacity.ensures.few)
    c.requires.q c.requires.model c.requires.ready c.next.ensures.in_order c.requires.next c.requires.units c.requires.only c.requires.posts c.requires.few c.pair_row.ensures.number c.pair_row.ensures.row (c.deref.ensures.value ∙ c.in_ok-steps.ensures)).done
    c.pol_that_fits.new.self c.in_ok-id.ensures.step

pub returns-clause-takes : goal.returns-clause-takes
returns-clause-takes c =
    (makes_offer c.args.model.now c.args.q.0 c.args.deriv.now c.args.gone.now c.deref.result.now c.pair_row.result
    (limits_of c.instance-inst.result.now c.args.model.now c.args.q.0 c.pairs.result c.hospital_of-hospital.result c.capacity.result c.instance-inst.ensures c.residents.ensures.well_formed c.pairs.ensures.count c.pairs.ensures.few
    c.hospital_of-hospital.ensures.value c.hospital_of-hospital.ensures.declared c.capacity.ensures.value c.capacity.ensures.few)
    c.requires.q c.requires.model c.requires.ready c.next.ensures.in_order c.requires.next c.requires.units c.requires.only c.requires.posts c.requires.few c.pair_row.ensures.number c.pair_row.ensures.row (c.deref.ensures.value ∙ c.in_ok-steps.ensures)).takes
    c.pol_that_fits.new.self c.in_ok-id.ensures.step
