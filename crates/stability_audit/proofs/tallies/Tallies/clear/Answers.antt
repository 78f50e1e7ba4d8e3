use Rattle.std.proofs.Common.{length, arith}
use Rattle.rank_tables.specs.Instance.{rank_by_resident, rank_by_hospital}
use Rattle.rank_tables.specs.Tables.{numbers_of}
use Rattle.stability_audit.specs.Tallies.{resident_of, hospital_of}
use Rattle.stability_audit.proofs.Pairs.{pair_number_at}
use Rattle.stability_audit.proofs.Tallying.{clear_but_all}
use Rattle.stability_audit.proofs.tallies.Tallies.clear.Goals as goal

pub loop-pair-init : goal.loop-pair-init
loop-pair-init c =
    let i = c.args.inst.now in
    let m = numbers_of c.args.pairs.now in
    record {
      of_residents = clear_but_all (resident_of i) (rank_by_resident i) m (length i.residents) c.args.self.now.residents.items c.requires.marked.of_residents;
      of_hospitals = clear_but_all (hospital_of i) (rank_by_hospital i) m (length i.hospitals) c.args.self.now.hospitals.items c.requires.marked.of_hospitals;
    }

pub resident_of-requires : goal.resident_of-requires
resident_of-requires c = pair_number_at c.args.inst.now c.args.pairs.now c.loop-pair.pair-index (record { 0 = 0 }) c.requires.pairs (omega arith)

pub hospital_of-requires : goal.hospital_of-requires
hospital_of-requires c = pair_number_at c.args.inst.now c.args.pairs.now c.loop-pair.pair-index (record { 0 = 0 }) c.requires.pairs (omega arith)
