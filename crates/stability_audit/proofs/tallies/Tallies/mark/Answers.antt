use Rattle.std.proofs.Common.{length, arith}
use Rattle.rank_tables.specs.Instance.{rank_by_resident, rank_by_hospital}
use Rattle.stability_audit.specs.Tallies.{resident_of, hospital_of}
use Rattle.stability_audit.proofs.Pairs.{pair_number_at}
use Rattle.stability_audit.proofs.Tallying.{tallied_next, read_small}
use Rattle.stability_audit.proofs.tallies.Tallies.mark.Goals as goal

pub resident_of-r-requires : goal.resident_of-r-requires
resident_of-r-requires c = pair_number_at c.args.inst.now c.args.pairs.now c.loop-pair.pair-index (record { 0 = 0 }) c.requires.pairs (omega arith)

pub rank_by_resident-requires : goal.rank_by_resident-requires
rank_by_resident-requires c = pair_number_at c.args.inst.now c.args.pairs.now c.loop-pair.pair-index (record { 0 = 0 }) c.requires.pairs (omega arith)

pub hospital_of-h-requires : goal.hospital_of-h-requires
hospital_of-h-requires c = pair_number_at c.args.inst.now c.args.pairs.now c.loop-pair.pair-index (record { 0 = 0 }) c.requires.pairs (omega arith)

pub rank_by_hospital-requires : goal.rank_by_hospital-requires
rank_by_hospital-requires c = pair_number_at c.args.inst.now c.args.pairs.now c.loop-pair.pair-index (record { 0 = 0 }) c.requires.pairs (omega arith)

pub one_more-requires : goal.one_more-requires
one_more-requires c =
    let i = c.args.inst.now in
    let few = read_small (resident_of i) (rank_by_resident i) c.args.pairs.now c.loop-pair.pair-index (length i.residents)
    c.loop-pair.self.residents.items c.resident_of-r.result c.index.result.now c.loop-pair.invariant.of_residents c.resident_of-r.ensures.declared c.index.ensures in
    omega (arith, few)

pub one_more-requires-in-loop-pair : goal.one_more-requires-in-loop-pair
one_more-requires-in-loop-pair c =
    let i = c.args.inst.now in
    let few = read_small (hospital_of i) (rank_by_hospital i) c.args.pairs.now c.loop-pair.pair-index (length i.hospitals)
    c.loop-pair.self.hospitals.items c.hospital_of-h.result c.index-in-loop-pair.result.now c.loop-pair.invariant.of_hospitals c.hospital_of-h.ensures.declared c.index-in-loop-pair.ensures in
    omega (arith, few)

pub loop-pair-preserved : goal.loop-pair-preserved
loop-pair-preserved c =
    let i = c.args.inst.now in
    record {
      of_residents = tallied_next (resident_of i) (rank_by_resident i) c.args.pairs.now c.loop-pair.pair-index (record { 0 = 0 }) (length i.residents)
          c.loop-pair.self.residents.items c.resident_of-r.result c.rank_by_resident.result c.index.result.now c.one_more.result
          c.loop-pair.invariant.of_residents (omega arith) c.resident_of-r.ensures.declared c.resident_of-r.ensures.value c.rank_by_resident.ensures.value
          c.index.ensures c.one_more.ensures;
      of_hospitals = tallied_next (hospital_of i) (rank_by_hospital i) c.args.pairs.now c.loop-pair.pair-index (record { 0 = 0 }) (length i.hospitals)
          c.loop-pair.self.hospitals.items c.hospital_of-h.result c.rank_by_hospital.result c.index-in-loop-pair.result.now c.one_more-in-loop-pair.result
          c.loop-pair.invariant.of_hospitals (omega arith) c.hospital_of-h.ensures.declared c.hospital_of-h.ensures.value c.rank_by_hospital.ensures.value
          c.index-in-loop-pair.ensures c.one_more-in-loop-pair.ensures;
    }
