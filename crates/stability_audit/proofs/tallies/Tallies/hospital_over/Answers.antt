use Rattle.std.proofs.Common.{length, nat_lt, Some, ap, ◌∙◌, arith}
use Rattle.std.proofs.lemmas.Bool.{lt-ltb, le-ltb}
use Rattle.rank_tables.specs.Instance.{rank_by_hospital, capacity_of}
use Rattle.rank_tables.specs.Stability.{uses_of_hospital}
use Rattle.rank_tables.specs.Tables.{numbers_of}
use Rattle.stability_audit.specs.Tallies.{hospital_of}
use Rattle.stability_audit.proofs.Least.{least_next, least_still}
use Rattle.stability_audit.proofs.Pairs.{pair_number_at}
use Rattle.stability_audit.proofs.Tallying.{read_count}
use Rattle.stability_audit.proofs.Verdicts.{least_hospital}
use Rattle.stability_audit.proofs.tallies.Tallies.hospital_over.Goals as goal
use Rattle.stability_audit.proofs.tallies.Tallies.hospital_over.Goals.{then-index-capacity, else-index-capacity}

pub hospital_of-h-requires : goal.hospital_of-h-requires
hospital_of-h-requires c = pair_number_at c.args.inst.now c.args.pairs.now c.loop-pair.pair-index (record { 0 = 0 }) c.requires.pairs (omega arith)

pub loop-pair-preserved : goal.loop-pair-preserved
loop-pair-preserved c =
    let i = c.args.inst.now in
    let m = numbers_of c.args.pairs.now in
    let h = c.hospital_of-h.result in
    let count = read_count (hospital_of i) (rank_by_hospital i) m (length i.hospitals) c.args.self.now.hospitals.items h c.index.result.now
    c.requires.marked.of_hospitals c.hospital_of-h.ensures.declared c.index.ensures in
    elim c.if-index-capacity.branch [
      | then-index-capacity w ↦ least_next (λ k. nat_lt (capacity_of i k) (uses_of_hospital i m k)) (hospital_of i) c.args.pairs.now c.loop-pair.pair-index (record { 0 = 0 }) h
          c.loop-pair.least c.if-index-capacity.least c.loop-pair.invariant (omega arith) c.hospital_of-h.ensures.value
          (lt-ltb (capacity_of i h) (uses_of_hospital i m h) (omega (arith, count, c.capacity.ensures.value, w.if-index-capacity.true))) (w.least-is ∙ ap Some w.lesser.ensures)
      | else-index-capacity w ↦ least_still (λ k. nat_lt (capacity_of i k) (uses_of_hospital i m k)) (hospital_of i) c.args.pairs.now c.loop-pair.pair-index (record { 0 = 0 }) h
          c.loop-pair.least c.if-index-capacity.least c.loop-pair.invariant (omega arith) c.hospital_of-h.ensures.value
          (le-ltb (capacity_of i h) (uses_of_hospital i m h) (omega (arith, count, c.capacity.ensures.value, w.if-index-capacity.false))) w.least-is
    ]

pub returns : goal.returns
returns c = least_hospital c.args.inst.now c.args.pairs.now c.loop-pair.pair-index c.loop-pair.least c.requires.pairs (omega arith) c.loop-pair.invariant
