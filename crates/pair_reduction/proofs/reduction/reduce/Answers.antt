use Rattle.std.proofs.Common.{◌≡◌, false, List, ◌+◌, ◌-◌, ◌*◌, ◌<◌, length, refl, sym, ap, ◌∙◌, subst, arith}
use Rattle.std.specs.Prelude.{None, replicate}
use Rattle.hrt_base.specs.declared.numbered.RowNo.{RowNo}
use Rattle.rank_tables.specs.Instance.{Lists, pair_count}
use Rattle.derivation.specs.Deletions.{deleted_count}
use Rattle.pair_reduction.specs.declared.known.Known.{Known}
use Rattle.pair_reduction.specs.Flags.{is_waiting}
use Rattle.pair_reduction.specs.Known.{IsKept, mark_count, waiting_count, waiting_on}
use Rattle.pair_reduction.specs.Offered.{offers_left}
use Rattle.pair_reduction.specs.Reduced.{CanForget, CanReduce, Forgets, HasRoom, Reduces}
use Rattle.pair_reduction.proofs.Ending.{can_forget, ends_goes, ends_holds, ends_kept, ends_ready, ends_units, two_each}
use Rattle.pair_reduction.proofs.GoingOn.{goes_further}
use Rattle.pair_reduction.proofs.Offering.{most_offers, offers_first}
use Rattle.pair_reduction.proofs.Reducing.{are_gone, are_in_none, reduces_first, reduces_more}
use Rattle.pair_reduction.proofs.Settling.{closed_when_settled, nearer}
use Rattle.pair_reduction.proofs.reduction.reduce.Goals as goal

pub visits-init : goal.visits-init
visits-init c = record {
  reduces = subst (Reduces c.args.model.now c.args.deriv.now c.args.deriv.now (replicate (pair_count c.args.model.now) None) c.in_ok-known.known.gone) (sym c.in_ok-offers.ensures.made)
      (reduces_first c.args.model.now c.args.inst.now c.args.deriv.now (pair_count c.args.inst.now) c.in_ok-known.known.gone c.requires.model c.requires.inst c.requires.ready refl c.in_ok-known.ensures.gone);
  kept = subst (λ (l : Lists). IsKept l c.in_ok-known.known) (c.requires.inst ∙ sym c.requires.model) c.in_ok-known.ensures.kept;
  offers = offers_first c.args.model.now c.args.inst.now c.args.deriv.now.state.live c.pairs.result c.in_ok-offers.offers (c.requires.inst ∙ sym c.requires.model) c.pairs.ensures.count c.in_ok-offers.ensures.offered c.in_ok-offers.ensures.made;
}

pub returns-in_default-clause-gone : goal.returns-in_default-clause-gone
returns-in_default-clause-gone c =
    are_gone c.args.model.now c.args.deriv.now.lists c.visits.deriv c.next.new.self.gone c.requires.model
    (subst (λ (k : Known). CanReduce c.args.model.now c.visits.deriv k.gone) (sym c.next.ensures.same) c.visits.invariant.reduces.can)
    (closed_when_settled c.args.model.now c.next.new.self (subst (λ (k : Known). IsKept c.args.model.now k) (sym c.next.ensures.same) c.visits.invariant.kept) (λ side n. subst (λ (k : Known). is_waiting (waiting_on side k) n ≡ false) (sym c.next.ensures.same) (c.next.ensures.none c.in_default.is side n)))

pub returns-in_default-clause-in_none : goal.returns-in_default-clause-in_none
returns-in_default-clause-in_none c =
    are_in_none c.args.model.now c.args.deriv.now.lists c.visits.deriv c.next.new.self.gone c.requires.model
    (subst (λ (k : Known). CanReduce c.args.model.now c.visits.deriv k.gone) (sym c.next.ensures.same) c.visits.invariant.reduces.can)

pub forget-requires-clause-can : goal.forget-requires-clause-can
forget-requires-clause-can c =
    subst (λ (xs : List RowNo). CanForget xs c.visits.deriv) (sym c.deref.ensures.value)
    (can_forget c.args.model.now c.args.deriv.now c.visits.deriv (replicate (pair_count c.args.model.now) None) c.visits.known.gone c.visits.offers.made.items c.requires.ready c.next-start.ensures.in_order c.visits.invariant.reduces)

pub forget-requires-clause-few : goal.forget-requires-clause-few
forget-requires-clause-few c =
    omega (arith, ap (λ (xs : List RowNo). length xs) c.deref.ensures.value, most_offers c.args.model.now c.visits.deriv.state.live c.visits.offers c.visits.invariant.offers, c.pairs.ensures.count, c.pairs.ensures.few, ap pair_count c.requires.inst, ap pair_count c.requires.model)

pub forget-requires-clause-next : goal.forget-requires-clause-next
forget-requires-clause-next c =
    omega (
      arith,
      two_each c.args.model.now c.args.deriv.now c.visits.deriv c.visits.known.gone c.visits.offers c.visits.deriv.state.next c.visits.invariant.reduces c.visits.invariant.offers (omega arith),
      ap pair_count c.requires.model,
      c.requires.next,
    )

pub forget-requires-clause-ready : goal.forget-requires-clause-ready
forget-requires-clause-ready c = c.visits.invariant.reduces.can.ready

pub returns-in_default-clause-units : goal.returns-in_default-clause-units
returns-in_default-clause-units c =
    ends_units c.args.model.now c.args.deriv.now c.visits.deriv c.forget.new.deriv (pair_count c.args.model.now) c.next.new.self.gone c.visits.offers.made.items c.requires.ready c.next-start.ensures.in_order
    (subst (λ (k : Known). Reduces c.args.model.now c.args.deriv.now c.visits.deriv (replicate (pair_count c.args.model.now) None) k.gone c.visits.offers.made.items) (sym c.next.ensures.same) c.visits.invariant.reduces)
    (subst (λ (xs : List RowNo). Forgets xs c.visits.deriv c.forget.new.deriv) c.deref.ensures.value c.in_ok-forget.ensures.forgets)

pub returns-in_default-clause-holds : goal.returns-in_default-clause-holds
returns-in_default-clause-holds c =
    ends_holds c.args.model.now c.args.deriv.now c.visits.deriv c.forget.new.deriv (pair_count c.args.model.now) c.next.new.self.gone c.visits.offers.made.items c.requires.ready c.next-start.ensures.in_order
    (subst (λ (k : Known). Reduces c.args.model.now c.args.deriv.now c.visits.deriv (replicate (pair_count c.args.model.now) None) k.gone c.visits.offers.made.items) (sym c.next.ensures.same) c.visits.invariant.reduces)
    (subst (λ (xs : List RowNo). Forgets xs c.visits.deriv c.forget.new.deriv) c.deref.ensures.value c.in_ok-forget.ensures.forgets)

pub returns-in_default-clause-kept : goal.returns-in_default-clause-kept
returns-in_default-clause-kept c =
    ends_kept c.args.model.now c.args.deriv.now c.visits.deriv c.forget.new.deriv (pair_count c.args.model.now) c.next.new.self.gone c.visits.offers.made.items c.requires.ready c.next-start.ensures.in_order
    (subst (λ (k : Known). Reduces c.args.model.now c.args.deriv.now c.visits.deriv (replicate (pair_count c.args.model.now) None) k.gone c.visits.offers.made.items) (sym c.next.ensures.same) c.visits.invariant.reduces)
    (subst (λ (xs : List RowNo). Forgets xs c.visits.deriv c.forget.new.deriv) c.deref.ensures.value c.in_ok-forget.ensures.forgets)

pub returns-in_default-clause-ready : goal.returns-in_default-clause-ready
returns-in_default-clause-ready c =
    ends_ready c.args.model.now c.args.deriv.now c.visits.deriv c.forget.new.deriv (pair_count c.args.model.now) c.next.new.self.gone c.visits.offers.made.items c.requires.ready c.next-start.ensures.in_order
    (subst (λ (k : Known). Reduces c.args.model.now c.args.deriv.now c.visits.deriv (replicate (pair_count c.args.model.now) None) k.gone c.visits.offers.made.items) (sym c.next.ensures.same) c.visits.invariant.reduces)
    (subst (λ (xs : List RowNo). Forgets xs c.visits.deriv c.forget.new.deriv) c.deref.ensures.value c.in_ok-forget.ensures.forgets)

pub returns-in_default-clause-goes_on : goal.returns-in_default-clause-goes_on
returns-in_default-clause-goes_on c =
    ends_goes c.args.model.now c.args.deriv.now c.visits.deriv c.forget.new.deriv (pair_count c.args.model.now) c.next.new.self.gone c.visits.offers.made.items c.requires.ready c.next-start.ensures.in_order
    (subst (λ (k : Known). Reduces c.args.model.now c.args.deriv.now c.visits.deriv (replicate (pair_count c.args.model.now) None) k.gone c.visits.offers.made.items) (sym c.next.ensures.same) c.visits.invariant.reduces)
    (subst (λ (xs : List RowNo). Forgets xs c.visits.deriv c.forget.new.deriv) c.deref.ensures.value c.in_ok-forget.ensures.forgets)

pub visit-requires-clause-room : goal.visit-requires-clause-room
visit-requires-clause-room c =
    subst (λ (k : Known). HasRoom (offers_left c.args.model.now c.visits.offers) c.args.model.now c.visits.deriv k.gone) (sym c.next.ensures.same)
    (omega (
      arith,
      two_each c.args.model.now c.args.deriv.now c.visits.deriv c.visits.known.gone c.visits.offers (c.visits.deriv.state.next + (pair_count c.args.model.now - deleted_count c.visits.known.gone) + offers_left c.args.model.now c.visits.offers) c.visits.invariant.reduces c.visits.invariant.offers (omega arith),
      ap pair_count c.requires.model,
      c.requires.next,
    ))

pub returns-in_err-visit-clause-few : goal.returns-in_err-visit-clause-few
returns-in_err-visit-clause-few c =
    omega (
      arith,
      two_each c.args.model.now c.args.deriv.now c.visits.deriv c.next.new.self.gone c.visits.offers c.visit.new.deriv.state.next
          (subst (λ (k : Known). Reduces c.args.model.now c.args.deriv.now c.visits.deriv (replicate (pair_count c.args.model.now) None) k.gone c.visits.offers.made.items) (sym c.next.ensures.same) c.visits.invariant.reduces) c.visits.invariant.offers c.in_err-visit.ensures.few,
      ap pair_count c.requires.model,
    )

pub visits-smaller : goal.visits-smaller
visits-smaller c =
    subst (λ (k : Known). waiting_count c.visit.new.known + 3 * pair_count c.args.model.now - mark_count c.visit.new.known < waiting_count k + 3 * pair_count c.args.model.now - mark_count k) c.next.ensures.same
    (nearer c.args.model.now c.next.new.self c.visit.new.known c.in_ok-visit.ensures.kept c.in_ok-visit.ensures.gains)

pub visits-preserved : goal.visits-preserved
visits-preserved c = record {
  reduces = subst (Reduces c.args.model.now c.args.deriv.now c.visit.new.deriv (replicate (pair_count c.args.model.now) None) c.visit.new.known.gone) (sym c.in_ok-visit.ensures.reduces.more)
      (reduces_more c.args.model.now c.args.deriv.now c.visits.deriv c.visit.new.deriv (replicate (pair_count c.args.model.now) None) c.next.new.self.gone c.visit.new.known.gone c.visits.offers.made.items c.in_ok-visit.ensures.reduces.made
      (subst (λ (k : Known). Reduces c.args.model.now c.args.deriv.now c.visits.deriv (replicate (pair_count c.args.model.now) None) k.gone c.visits.offers.made.items) (sym c.next.ensures.same) c.visits.invariant.reduces) c.in_ok-visit.ensures.reduces.reduces);
  kept = c.in_ok-visit.ensures.kept;
  offers = c.in_ok-visit.ensures.reduces.offers;
}

pub returns-in_err-visit-clause-goes_on : goal.returns-in_err-visit-clause-goes_on
returns-in_err-visit-clause-goes_on c = goes_further c.args.deriv.now c.visits.deriv c.visit.new.deriv c.visits.invariant.reduces.goes_on c.in_err-visit.ensures.goes_on
