-- Only the pairs to come are still in the tables.
use Rattle.std.proofs.Common.{length, drop}
use Rattle.rank_tables.specs.Tables.{numbers_of}
use Rattle.stability_audit.specs.Tallies.{resident_of, hospital_of}
use Rattle.stability_audit.proofs.Tallying.{IsClearBut}
use Rattle.stability_audit.proofs.tallies.Tallies.clear.Given as goal

abbrev pub invariant-loop-pair : goal.invariant-loop-pair
invariant-loop-pair l = record {
  of_residents : IsClearBut (resident_of l.inst) (numbers_of (drop l.pair-index l.pairs)) (length l.inst.residents) l.self.residents.items;
  of_hospitals : IsClearBut (hospital_of l.inst) (numbers_of (drop l.pair-index l.pairs)) (length l.inst.hospitals) l.self.hospitals.items;
}
