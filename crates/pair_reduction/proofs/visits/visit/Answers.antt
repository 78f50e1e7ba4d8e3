use Rattle.std.proofs.Common.{◌<◌, length, sym, subst, arith}
use Rattle.rank_tables.specs.Instance.{Lists}
use Rattle.pair_reduction.specs.Known.{ArePassed, IsKept, IsListSettled, Pays, waiting_on}
use Rattle.pair_reduction.proofs.Settling.{gains_rests, kept_rests}
use Rattle.pair_reduction.proofs.visits.visit.Goals as goal

pub mark_all_free-requires-clause-passed : goal.mark_all_free-requires-clause-passed
mark_all_free-requires-clause-passed c = subst (λ (l : Lists). ArePassed c.args.side l c.delete_all_passed.new.known c.args.n) (sym c.instance.ensures) c.in_ok-delete_all_passed.ensures.passed

pub returns-clause-kept : goal.returns-clause-kept
returns-clause-kept c =
    kept_rests c.args.side c.args.model.now c.mark_all_free.new.known c.settle.new.self c.args.n (subst (λ (l : Lists). IsKept l c.mark_all_free.new.known) c.instance.ensures c.in_ok-mark_all_free.ensures.kept)
    (subst (λ (l : Lists). IsListSettled c.args.side l c.mark_all_free.new.known c.args.n) c.instance.ensures c.in_ok-mark_all_free.ensures.settled) c.settle.ensures

pub returns-clause-gains : goal.returns-clause-gains
returns-clause-gains c =
    let kept : IsKept c.args.model.now c.mark_all_free.new.known = subst (λ (l : Lists). IsKept l c.mark_all_free.new.known) c.instance.ensures c.in_ok-mark_all_free.ensures.kept in
    let within : c.args.n < length (waiting_on c.args.side c.mark_all_free.new.known) = omega (arith, kept.flags c.args.side, c.requires.n) in
    let pays : Pays c.args.known.now c.mark_all_free.new.known = omega (arith, c.in_ok-delete_all_passed.ensures.pays, c.in_ok-mark_all_free.ensures.pays) in
    gains_rests c.args.side c.args.model.now c.args.known.now c.mark_all_free.new.known c.settle.new.self c.args.n within c.in_ok-mark_all_free.ensures.waits c.settle.ensures pays
