use Rattle.std.proofs.Common.{List, ap, sym, ◌∙◌}
use Rattle.std.proofs.lemmas.Bool.{true≢false}
use Rattle.std.proofs.lemmas.List.{take_all}
use Rattle.hrt_base.specs.declared.numbered.PairNo.{PairNo}
use Rattle.rank_tables.specs.Numbers.{is_in}
use Rattle.rank_tables.specs.Tables.{numbers_of}
use Rattle.pair_reduction.proofs.Serving.{first_as, first_more}
use Rattle.pair_reduction.proofs.Tested.{next_number}
use Rattle.pair_reduction.proofs.visits.first_due.Goals as goal

pub loop-w-init : goal.loop-w-init
loop-w-init c = λ w i due. true≢false (sym i)

pub loop-w-preserved : goal.loop-w-preserved
loop-w-preserved c =
    first_more c.args.side c.args.inst.now c.args.known.now c.args.n _ _ _ _ c.loop-w.first c.sooner-first.result (c.pairs_on-pairs.ensures.each c.loop-w.w-index _ c.loop-w-test.true).list (next_number c.pairs_on-pairs.result.now c.loop-w.w-index _ c.loop-w-test.true) c.loop-w.invariant c.sooner-first.ensures

pub returns : goal.returns
returns c =
    first_as c.args.side c.args.inst.now c.args.known.now c.args.n _ _ c.loop-w.first
    (λ p. sym (ap (λ (qs : List PairNo). is_in p (numbers_of qs)) (take_all c.loop-w.w-index c.pairs_on-pairs.result.now c.loop-w-test.false) ∙ c.pairs_on-pairs.ensures.same p)) c.loop-w.invariant
