use Rattle.pb_propagate.proofs.Serves.{AreServed}
use Rattle.pb_propagate.proofs.serving.serve.Given as goal

abbrev pub invariant-loop-k : goal.invariant-loop-k
invariant-loop-k l = AreServed l.arena.held l.place.0 l.sum l.k l.fn.trail l.trail
