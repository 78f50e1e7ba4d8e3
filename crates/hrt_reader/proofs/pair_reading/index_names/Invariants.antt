use Rattle.std.proofs.Common.{◌≡◌, take}
use Rattle.hrt_text.specs.Views.{texts}
use Rattle.hrt_reader.specs.Written.{names_of}
use Rattle.hrt_reader.proofs.pair_reading.index_names.Given as goal

abbrev pub invariant-loop-number : goal.invariant-loop-number
invariant-loop-number l = texts l.names.keys ≡ take l.number (names_of l.side l.instance)
