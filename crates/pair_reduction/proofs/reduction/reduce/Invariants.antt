use Rattle.std.proofs.Common.{◌+◌, ◌-◌, ◌*◌}
use Rattle.std.specs.Prelude.{None, replicate}
use Rattle.rank_tables.specs.Instance.{pair_count}
use Rattle.pair_reduction.specs.Known.{IsKept, mark_count, waiting_count}
use Rattle.pair_reduction.specs.Offered.{AreOffers}
use Rattle.pair_reduction.specs.Reduced.{Reduces}
use Rattle.pair_reduction.proofs.reduction.reduce.Given as goal

abbrev pub invariant-visits : goal.invariant-visits
invariant-visits l = record {
  reduces : Reduces l.model l.fn.deriv l.deriv (replicate (pair_count l.model) None) l.known.gone l.offers.made.items;
  offers : AreOffers l.model l.deriv.state.live l.offers;
  kept : IsKept l.model l.known;
}

abbrev pub decreases-visits : goal.decreases-visits
decreases-visits l = waiting_count l.known + 3 * pair_count l.model - mark_count l.known
