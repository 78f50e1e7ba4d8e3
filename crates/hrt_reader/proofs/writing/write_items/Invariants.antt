use Rattle.std.proofs.Common.{take}
use Rattle.hrt_base.specs.Calls.{Sent}
use Rattle.hrt_base.specs.declared.port.Port.TheVariants.{Instance}
use Rattle.hrt_reader.specs.Spelling.{items_text}
use Rattle.hrt_reader.specs.Written.{names_of}
use Rattle.hrt_reader.proofs.writing.write_items.Given as goal

abbrev pub invariant-loop-k : goal.invariant-loop-k
invariant-loop-k g l = Sent g.H.Host.told Instance (items_text (names_of l.side l.instance) (take l.k l.groups)) (g.H.Host.world l.initial.host) (g.H.Host.world l.host)
