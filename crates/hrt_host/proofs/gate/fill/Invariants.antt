use Rattle.std.proofs.Common.{◌≤◌, length}
use Rattle.hrt_host.proofs.gate.fill.Given as goal

abbrev pub invariant-loop : goal.invariant-loop
invariant-loop l = l.done ≤ length l.buffer
