use Rattle.std.proofs.Common.{length}
use Rattle.opb_text.specs.Refusal.{lines_of}
use Rattle.opb_text.proofs.LineByLine.{HasRead}
use Rattle.opb_text.proofs.reading.read_opb.Given as goal

abbrev pub invariant-loop-line : goal.invariant-loop-line
invariant-loop-line l = HasRead (lines_of l.bytes) l.number (lines_of l.rest) l.draft

abbrev pub decreases-loop-line : goal.decreases-loop-line
decreases-loop-line l = length l.rest
