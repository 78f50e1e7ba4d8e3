use Rattle.std.proofs.Common.{take}
use Rattle.std.specs.Prelude.{flat_map}
use Rattle.hrt_base.specs.Calls.{Sent}
use Rattle.hrt_base.specs.declared.port.Port.TheVariants.{Instance}
use Rattle.rank_tables.specs.WellFormed.{names_of_residents}
use Rattle.hrt_reader.proofs.WrittenLines.{hospital_line_for}
use Rattle.hrt_reader.proofs.writing.write_hospitals.Given as goal

abbrev pub invariant-loop-h : goal.invariant-loop-h
invariant-loop-h g l = Sent g.H.Host.told Instance (flat_map (hospital_line_for (names_of_residents l.instance)) (take l.h l.instance.hospitals)) (g.H.Host.world l.initial.host) (g.H.Host.world l.host)
