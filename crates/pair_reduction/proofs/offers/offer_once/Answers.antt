use Rattle.std.proofs.Common.{◌≡◌, ◌+◌, sym, ap, ◌∙◌, arith}
use Rattle.proof_lines.specs.declared.line.Line.TheVariants.{Pol}
use Rattle.proof_lines.specs.Texts.{line_text}
use Rattle.derivation.specs.Derived.{Derived}
use Rattle.pair_reduction.specs.Offers.{offer_row, offer_steps}
use Rattle.pair_reduction.proofs.Offering.{by_none, by_offer, one_more_offer}
use Rattle.pair_reduction.proofs.Reducing.{reduces_offer}
use Rattle.pair_reduction.proofs.offers.offer_once.Goals as goal

pub returns-then-is_offered-clause-reduces : goal.returns-then-is_offered-clause-reduces
returns-then-is_offered-clause-reduces c = by_none c.args.model.now c.args.deriv.now c.args.gone.now c.args.offers.now c.requires.can c.requires.offers

pub offer-requires-clause-next : goal.offer-requires-clause-next
offer-requires-clause-next c = omega (arith, c.requires.next, one_more_offer c.args.model.now c.args.deriv.now.state.live c.args.offers.now c.args.q.0 c.requires.offers c.requires.q (sym c.is_offered.ensures ∙ c.if-is_offered.false))

pub returns-in_err-add-clause-next : goal.returns-in_err-add-clause-next
returns-in_err-add-clause-next c =
    let next : c.offer.new.deriv.state.next ≡ c.args.deriv.now.state.next + 1 = ap (λ (d : Derived). d.state.next) c.in_ok-id.ensures.made in
    omega (arith, next, one_more_offer c.args.model.now c.args.deriv.now.state.live c.args.offers.now c.args.q.0 c.requires.offers c.requires.q (sym c.is_offered.ensures ∙ c.if-is_offered.false))

pub returns-clause-reduces : goal.returns-clause-reduces
returns-clause-reduces c =
    by_offer c.args.model.now c.args.deriv.now c.offer.new.deriv c.args.offers.now c.add.new.self c.args.q.0 c.in_ok-id.id (line_text (Pol (offer_steps c.args.model.now c.args.gone.now c.args.q.0))) c.requires.offers c.requires.q (sym c.is_offered.ensures ∙ c.if-is_offered.false)
    c.in_ok-id.ensures.made c.in_ok-id.ensures.order c.in_ok-add.ensures.offered c.in_ok-add.ensures.made c.args.gone.now
    (reduces_offer c.args.model.now c.args.deriv.now c.offer.new.deriv c.args.gone.now (offer_row c.args.model.now c.args.q.0) (offer_steps c.args.model.now c.args.gone.now c.args.q.0) c.in_ok-id.id c.requires.can c.in_ok-id.ensures.order c.in_ok-id.ensures.id
    c.in_ok-id.ensures.made c.in_ok-id.ensures.takes c.in_ok-id.ensures.valid)

pub returns-clause-next : goal.returns-clause-next
returns-clause-next c =
    let next : c.offer.new.deriv.state.next ≡ c.args.deriv.now.state.next + 1 = ap (λ (d : Derived). d.state.next) c.in_ok-id.ensures.made in
    omega (arith, next, one_more_offer c.args.model.now c.args.deriv.now.state.live c.args.offers.now c.args.q.0 c.requires.offers c.requires.q (sym c.is_offered.ensures ∙ c.if-is_offered.false))
