use Rattle.std.proofs.Common.{not, sym, ap, ◌∙◌}
use Rattle.std.proofs.lemmas.List.Sorted.{IsNonDecreasingBy-from_sort}
use Rattle.derivation.specs.Deletions.{is_deleted}
use Rattle.pair_reduction.proofs.RankTests.{ranks_done, ranks_marked-one, ranks_passed-one}
use Rattle.pair_reduction.proofs.Tested.{next_number}
use Rattle.pair_reduction.proofs.ranks.ranks_left.Goals as goal
use Rattle.pair_reduction.proofs.ranks.ranks_left.Goals.{then-not-is_gone+in_ok-push, else-not-is_gone}

pub loop-p-preserved : goal.loop-p-preserved
loop-p-preserved c =
    elim c.if-not-is_gone.branch [
      | then-not-is_gone+in_ok-push w ↦
          ranks_marked-one c.args.side c.args.inst.now (λ q. not (is_deleted c.args.gone.now q)) _ _ c.loop-p.ranks.items _ _ w.rank_on.result c.loop-p.invariant (next_number c.pairs_on-pairs.result.now c.loop-p.p-index _ c.loop-p-test.true)
          (ap (λ v. v.items) w.ranks-is ∙ w.in_ok-push.ensures.items) w.rank_on.ensures.value (ap not (sym c.is_gone.ensures ∙ w.if-not-is_gone.true))
      | else-not-is_gone w ↦
          ranks_passed-one c.args.side c.args.inst.now (λ q. not (is_deleted c.args.gone.now q)) _ _ c.loop-p.ranks.items _ _ c.loop-p.invariant (next_number c.pairs_on-pairs.result.now c.loop-p.p-index _ c.loop-p-test.true) (ap (λ v. v.items) w.ranks-is)
          (ap not (sym c.is_gone.ensures ∙ w.if-not-is_gone.false))
    ]

pub returns : goal.returns
returns c =
    ranks_done c.args.side c.args.inst.now (λ q. not (is_deleted c.args.gone.now q)) c.args.n c.loop-p.p-index c.pairs_on-pairs.result.now c.loop-p.ranks.items c.sort_unstable.new.self.items c.loop-p.invariant c.sort_unstable.ensures.permutation
    (IsNonDecreasingBy-from_sort (λ x. x) c.sort_unstable.new.self.items c.sort_unstable.ensures.sorted) c.loop-p-test.false c.pairs_on-pairs.ensures.distinct c.pairs_on-pairs.ensures.same
