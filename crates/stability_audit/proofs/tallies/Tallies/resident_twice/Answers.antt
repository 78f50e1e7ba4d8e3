use Rattle.std.proofs.Common.{length, nat_le, Some, ap, ◌∙◌, arith}
use Rattle.std.proofs.lemmas.Bool.{le-leb, lt-leb}
use Rattle.rank_tables.specs.Instance.{rank_by_resident}
use Rattle.rank_tables.specs.Stability.{uses_of_resident}
use Rattle.rank_tables.specs.Tables.{numbers_of}
use Rattle.stability_audit.specs.Tallies.{resident_of}
use Rattle.stability_audit.proofs.Least.{least_next, least_still}
use Rattle.stability_audit.proofs.Pairs.{pair_number_at}
use Rattle.stability_audit.proofs.Tallying.{read_count}
use Rattle.stability_audit.proofs.Verdicts.{least_resident}
use Rattle.stability_audit.proofs.tallies.Tallies.resident_twice.Goals as goal
use Rattle.stability_audit.proofs.tallies.Tallies.resident_twice.Goals.{then-index-gt1, else-index-gt1}

pub resident_of-r-requires : goal.resident_of-r-requires
resident_of-r-requires c = pair_number_at c.args.inst.now c.args.pairs.now c.loop-pair.pair-index (record { 0 = 0 }) c.requires.pairs (omega arith)

pub loop-pair-preserved : goal.loop-pair-preserved
loop-pair-preserved c =
    let i = c.args.inst.now in
    let m = numbers_of c.args.pairs.now in
    let r = c.resident_of-r.result in
    let count = read_count (resident_of i) (rank_by_resident i) m (length i.residents) c.args.self.now.residents.items r c.index.result.now
    c.requires.marked.of_residents c.resident_of-r.ensures.declared c.index.ensures in
    elim c.if-index-gt1.branch [
      | then-index-gt1 w ↦ least_next (λ k. nat_le 2 (uses_of_resident i m k)) (resident_of i) c.args.pairs.now c.loop-pair.pair-index (record { 0 = 0 }) r
          c.loop-pair.least c.if-index-gt1.least c.loop-pair.invariant (omega arith) c.resident_of-r.ensures.value
          (le-leb 2 (uses_of_resident i m r) (omega (arith, count, w.if-index-gt1.true))) (w.least-is ∙ ap Some w.lesser.ensures)
      | else-index-gt1 w ↦ least_still (λ k. nat_le 2 (uses_of_resident i m k)) (resident_of i) c.args.pairs.now c.loop-pair.pair-index (record { 0 = 0 }) r
          c.loop-pair.least c.if-index-gt1.least c.loop-pair.invariant (omega arith) c.resident_of-r.ensures.value
          (lt-leb 2 (uses_of_resident i m r) (omega (arith, count, w.if-index-gt1.false))) w.least-is
    ]

pub returns : goal.returns
returns c = least_resident c.args.inst.now c.args.pairs.now c.loop-pair.pair-index c.loop-pair.least c.requires.pairs (omega arith) c.loop-pair.invariant
