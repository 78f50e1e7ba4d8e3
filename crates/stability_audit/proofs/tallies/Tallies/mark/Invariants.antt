-- The pairs so far are in the tables.
use Rattle.std.proofs.Common.{take}
use Rattle.rank_tables.specs.Tables.{numbers_of}
use Rattle.stability_audit.specs.Tallies.{AreTallied}
use Rattle.stability_audit.proofs.tallies.Tallies.mark.Given as goal

abbrev pub invariant-loop-pair : goal.invariant-loop-pair
invariant-loop-pair l = AreTallied l.inst (numbers_of (take l.pair-index l.pairs)) l.self.residents.items l.self.hospitals.items
