use Rattle.std.proofs.Common.{true, false, sym, ◌∙◌, arith}
use Rattle.pair_reduction.specs.Flags.{is_marked}
use Rattle.pair_reduction.proofs.GoingOn.{goes_further}
use Rattle.pair_reduction.proofs.Offering.{all_are_enough, ends_with_offers, few_posts, marked_has_only, offering_as, offering_made, offering_none, offering_passed, offering_test}
use Rattle.pair_reduction.proofs.Tested.{next_number}
use Rattle.pair_reduction.proofs.offers.make_offers.Goals as goal
use Rattle.pair_reduction.proofs.offers.make_offers.Goals.{then-is_offering+in_ok-offer_once, else-is_offering}

pub loop-q-init : goal.loop-q-init
loop-q-init c = offering_none c.args.model.now c.args.deriv.now c.args.known.now.gone c.args.known.now.only.items c.args.p.0 c.args.offers.now c.requires.can c.requires.offers

pub offer_once-requires-clause-only : goal.offer_once-requires-clause-only
offer_once-requires-clause-only c =
    marked_has_only c.instance-inst.result.now c.args.model.now c.args.known.now c.args.p.0 _ c.instance-inst.ensures c.requires.kept (c.pairs_of_hospital-pairs.ensures.each c.loop-q.q-index _ c.loop-q-test.true).number (sym c.is_offering.ensures ∙ c.if-is_offering.true)

pub offer_once-requires-clause-few : goal.offer_once-requires-clause-few
offer_once-requires-clause-few c =
    few_posts c.instance-inst.result.now c.args.model.now (is_marked c.args.known.now.only.items) c.args.p.0 _ c.hospital_of-hospital.result c.instance-inst.ensures c.hospital_of-hospital.ensures.value (c.pairs_of_hospital-pairs.ensures.each c.loop-q.q-index _ c.loop-q-test.true).hospital c.requires.rule

pub returns-in_err-offer_once-clause-goes_on : goal.returns-in_err-offer_once-clause-goes_on
returns-in_err-offer_once-clause-goes_on c = goes_further c.args.deriv.now c.loop-q.deriv c.offer_once.new.deriv c.loop-q.invariant.reduces.reduces.goes_on c.in_err-offer_once.ensures.goes_on

pub loop-q-preserved : goal.loop-q-preserved
loop-q-preserved c =
    elim c.if-is_offering.branch [
      | then-is_offering+in_ok-offer_once w ↦
          offering_as c.args.model.now c.args.deriv.now w.offer_once.new.deriv c.if-is_offering.deriv c.args.known.now.gone c.args.known.now.only.items c.args.p.0 _ c.if-is_offering.found _ c.args.offers.now w.offer_once.new.offers c.if-is_offering.offers w.deriv-is w.offers-is w.found-is
          (offering_made c.args.model.now c.args.deriv.now c.loop-q.deriv w.offer_once.new.deriv c.args.known.now.gone c.args.known.now.only.items c.args.p.0 c.loop-q.found _ _ _ c.args.offers.now c.loop-q.offers w.offer_once.new.offers
          (next_number c.pairs_of_hospital-pairs.result.now c.loop-q.q-index _ c.loop-q-test.true) (offering_test c.instance-inst.result.now c.args.model.now c.args.known.now.only.items c.args.p.0 _ _ true c.instance-inst.ensures c.is_offering.ensures w.if-is_offering.true) w.in_ok-offer_once.ensures.reduces w.in_ok-offer_once.ensures.offered c.loop-q.invariant)
      | else-is_offering w ↦
          offering_as c.args.model.now c.args.deriv.now c.loop-q.deriv c.if-is_offering.deriv c.args.known.now.gone c.args.known.now.only.items c.args.p.0 _ c.if-is_offering.found _ c.args.offers.now c.loop-q.offers c.if-is_offering.offers w.deriv-is w.offers-is w.found-is
          (offering_passed c.args.model.now c.args.deriv.now c.loop-q.deriv c.args.known.now.gone c.args.known.now.only.items c.args.p.0 c.loop-q.found _ _ _ c.args.offers.now c.loop-q.offers (next_number c.pairs_of_hospital-pairs.result.now c.loop-q.q-index _ c.loop-q-test.true)
          (offering_test c.instance-inst.result.now c.args.model.now c.args.known.now.only.items c.args.p.0 _ _ false c.instance-inst.ensures c.is_offering.ensures w.if-is_offering.false) c.loop-q.invariant)
    ]

pub returns-then-found-posts-clause-offers : goal.returns-then-found-posts-clause-offers
returns-then-found-posts-clause-offers c =
    ends_with_offers c.instance-inst.result.now c.args.model.now c.args.deriv.now c.loop-q.deriv c.args.known.now.gone c.args.known.now.only.items c.args.p.0 c.hospital_of-hospital.result c.capacity-posts.result c.loop-q.found c.loop-q.q-index c.pairs_of_hospital-pairs.result.now
    c.args.offers.now c.loop-q.offers c.instance-inst.ensures c.hospital_of-hospital.ensures.value c.capacity-posts.ensures.value c.pairs_of_hospital-pairs.ensures.distinct c.pairs_of_hospital-pairs.ensures.same c.loop-q.invariant (omega (arith, c.if-found-posts.true))

pub returns-clause-offers : goal.returns-clause-offers
returns-clause-offers c =
    ends_with_offers c.instance-inst.result.now c.args.model.now c.args.deriv.now c.loop-q.deriv c.args.known.now.gone c.args.known.now.only.items c.args.p.0 c.hospital_of-hospital.result c.capacity-posts.result c.loop-q.found c.loop-q.q-index c.pairs_of_hospital-pairs.result.now
    c.args.offers.now c.loop-q.offers c.instance-inst.ensures c.hospital_of-hospital.ensures.value c.capacity-posts.ensures.value c.pairs_of_hospital-pairs.ensures.distinct c.pairs_of_hospital-pairs.ensures.same c.loop-q.invariant
    (all_are_enough c.instance-inst.result.now c.args.model.now c.args.deriv.now c.loop-q.deriv c.args.known.now.gone c.args.known.now.only.items c.args.p.0 c.hospital_of-hospital.result c.capacity-posts.result c.loop-q.found c.loop-q.q-index
    c.pairs_of_hospital-pairs.result.now c.args.offers.now c.loop-q.offers c.instance-inst.ensures c.hospital_of-hospital.ensures.value c.capacity-posts.ensures.value c.pairs_of_hospital-pairs.ensures.distinct c.pairs_of_hospital-pairs.ensures.same c.loop-q-test.false
    c.requires.rule c.loop-q.invariant)
