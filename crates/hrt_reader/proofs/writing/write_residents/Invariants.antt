use Rattle.std.proofs.Common.{take}
use Rattle.std.specs.Prelude.{flat_map}
use Rattle.hrt_base.specs.Calls.{Sent}
use Rattle.hrt_base.specs.declared.port.Port.TheVariants.{Instance}
use Rattle.rank_tables.specs.WellFormed.{names_of_hospitals}
use Rattle.hrt_reader.proofs.WrittenLines.{line_for}
use Rattle.hrt_reader.proofs.writing.write_residents.Given as goal

abbrev pub invariant-loop-r : goal.invariant-loop-r
invariant-loop-r g l = Sent g.H.Host.told Instance (flat_map (line_for (names_of_hospitals l.instance)) (take l.r l.instance.residents)) (g.H.Host.world l.initial.host) (g.H.Host.world l.host)
