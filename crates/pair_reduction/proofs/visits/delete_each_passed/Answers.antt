use Rattle.std.proofs.Common.{[], ap, ◌∙◌, arith}
use Rattle.rank_tables.specs.Numbers.{is_in}
use Rattle.rank_tables.specs.Instance.{Lists}
use Rattle.pair_reduction.specs.Sides.{list_of, pairs_on}
use Rattle.pair_reduction.proofs.GoingOn.{goes_further}
use Rattle.pair_reduction.proofs.Reducing.{ones_further, reduces_more, reduces_none, room_for_ones}
use Rattle.pair_reduction.proofs.Serving.{same_list, served_now}
use Rattle.pair_reduction.proofs.Tested.{next_number}
use Rattle.pair_reduction.proofs.Visiting.{deleting_done, deleting_more, deleting_none}
use Rattle.pair_reduction.proofs.visits.delete_each_passed.Goals as goal

pub delete_if_passed-requires-clause-served : goal.delete_if_passed-requires-clause-served
delete_if_passed-requires-clause-served c =
    served_now c.args.side c.args.model.now c.args.known.now c.loop-w.known c.args.deriv.now c.loop-w.deriv c.args.first.0 _ _ c.requires.first c.requires.served c.loop-w.invariant.reduces.kept c.loop-w.invariant.deleting
    (same_list c.args.side c.instance-inst.result.now c.args.model.now c.args.first.0 _ c.list_of.result c.instance-inst.ensures c.list_of.ensures.value (c.pairs_on-pairs.ensures.each c.loop-w.w-index _ c.loop-w-test.true).list)

pub delete_if_passed-requires-clause-room : goal.delete_if_passed-requires-clause-room
delete_if_passed-requires-clause-room c = room_for_ones c.args.model.now c.args.deriv.now c.loop-w.deriv c.args.known.now.gone c.loop-w.known.gone c.loop-w.invariant.reduces c.requires.room

pub loop-w-init : goal.loop-w-init
loop-w-init c = record {
  reduces = reduces_none c.args.model.now c.args.deriv.now c.args.known.now.gone c.requires.can;
  deleting = deleting_none c.args.side c.args.model.now c.args.known.now c.requires.kept;
}

pub loop-w-preserved : goal.loop-w-preserved
loop-w-preserved c = record {
  reduces = reduces_more c.args.model.now c.args.deriv.now c.loop-w.deriv c.delete_if_passed.new.deriv c.args.known.now.gone c.loop-w.known.gone c.delete_if_passed.new.known.gone [] [] c.loop-w.invariant.reduces c.in_ok-delete_if_passed.ensures.reduces;
  deleting = deleting_more c.args.side c.args.model.now c.args.known.now c.loop-w.known c.delete_if_passed.new.known _ _ _ (next_number c.pairs_on-pairs.result.now c.loop-w.w-index _ c.loop-w-test.true) c.loop-w.invariant.deleting c.in_ok-delete_if_passed.ensures.tried;
}

pub returns-in_err-delete_if_passed-clause-few : goal.returns-in_err-delete_if_passed-clause-few
returns-in_err-delete_if_passed-clause-few c = ones_further c.args.model.now c.args.deriv.now c.loop-w.deriv c.args.known.now.gone c.loop-w.known.gone _ c.loop-w.invariant.reduces c.in_err-delete_if_passed.ensures.few

pub returns-in_err-delete_if_passed-clause-goes_on : goal.returns-in_err-delete_if_passed-clause-goes_on
returns-in_err-delete_if_passed-clause-goes_on c = goes_further c.args.deriv.now c.loop-w.deriv c.delete_if_passed.new.deriv c.loop-w.invariant.reduces.goes_on c.in_err-delete_if_passed.ensures.goes_on

pub returns-clause-few : goal.returns-clause-few
returns-clause-few c = ones_further c.args.model.now c.args.deriv.now c.loop-w.deriv c.args.known.now.gone c.loop-w.known.gone _ c.loop-w.invariant.reduces (omega arith)

pub returns-clause-passed : goal.returns-clause-passed
returns-clause-passed c =
    deleting_done c.args.side c.args.model.now c.args.known.now c.loop-w.known (list_of c.args.side c.args.model.now c.args.first.0) c.loop-w.w-index c.pairs_on-pairs.result.now c.loop-w-test.false
    (λ q. c.pairs_on-pairs.ensures.same q ∙ ap (is_in q) (ap (pairs_on c.args.side c.instance-inst.result.now) c.list_of.ensures.value ∙ ap (λ (l : Lists). pairs_on c.args.side l (list_of c.args.side l c.args.first.0)) c.instance-inst.ensures)) c.loop-w.invariant.deleting
