use Rattle.std.proofs.Common.{◌≤◌, ◌∙◌, not, arith}
use Rattle.std.specs.List.{list_any}
use Rattle.rank_tables.specs.Instance.{pairs_of_resident}
use Rattle.derivation.specs.Deletions.{is_deleted}
use Rattle.capacity_bound.proofs.Counted.{counted_most, no_more_resident, one_more_resident}
use Rattle.capacity_bound.proofs.counts.residents_left.Goals as goal
use Rattle.capacity_bound.proofs.counts.residents_left.Goals.{then-count_left-gt0, else-count_left-gt0}

pub overflow_add-residents : goal.overflow_add-residents
overflow_add-residents c =
    let most : c.loop-r.residents ≤ c.loop-r.r = counted_most (λ r. list_any (λ p. not (is_deleted c.args.gone.now p)) (pairs_of_resident c.args.inst.now r)) c.loop-r.residents c.loop-r.r c.loop-r.invariant in
    record { fits = omega (arith, c.loop-r-test.true, c.residents-r-end.ensures.few) }

pub loop-r-preserved : goal.loop-r-preserved
loop-r-preserved c = elim c.if-count_left-gt0.branch [
  | then-count_left-gt0 w ↦ w.residents-is
      ∙ one_more_resident c.args.inst.now (is_deleted c.args.gone.now) c.loop-r.r c.loop-r.residents c.count_left.result c.pairs_of_resident.result.now c.pairs_of_resident.ensures.numbers c.count_left.ensures c.loop-r.invariant w.if-count_left-gt0.true
  | else-count_left-gt0 w ↦ w.residents-is
      ∙ no_more_resident c.args.inst.now (is_deleted c.args.gone.now) c.loop-r.r c.loop-r.residents c.count_left.result c.pairs_of_resident.result.now c.pairs_of_resident.ensures.numbers c.count_left.ensures c.loop-r.invariant w.if-count_left-gt0.false
]

pub returns-clause-few : goal.returns-clause-few
returns-clause-few c =
    let most : c.loop-r.residents ≤ c.loop-r.r = counted_most (λ r. list_any (λ p. not (is_deleted c.args.gone.now p)) (pairs_of_resident c.args.inst.now r)) c.loop-r.residents c.loop-r.r c.loop-r.invariant in
    omega (arith, c.residents-r-end.ensures.few)
