use Rattle.std.proofs.Common.{◌≡◌, ◌+◌, length}
use Rattle.hrt_base.specs.declared.port.Port.TheVariants.{Proof}
use Rattle.hrt_base.specs.Calls.{Taken}
use Rattle.proof_checker.specs.declared.phase.Phase.TheVariants.{Reading}
use Rattle.proof_checker.specs.Standing.{StandsFor}
use Rattle.proof_checker.specs.Limits.{most_proof_bytes}
use Rattle.hrt_solve.proofs.reading.feed_proof.Given as goal

abbrev pub invariant-loop-count : goal.invariant-loop-count
invariant-loop-count g l = record {
  fed : l.checker ≡ record l.initial.checker { bytes = l.checker.bytes };
  reading : l.checker.phase ≡ Reading;
  stands : StandsFor l.checker.bytes l.checker;
  taken : Taken g.H.Host.told Proof l.checker.bytes (g.H.Host.world l.initial.host) (g.H.Host.world l.host);
  room : l.left + length l.checker.bytes ≡ most_proof_bytes;
}

abbrev pub decreases-loop-count : goal.decreases-loop-count
decreases-loop-count g l = l.left
