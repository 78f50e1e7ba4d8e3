use Rattle.std.proofs.Common.{arith, ℕ, ◌≤◌, ◌-◌, length, length-drop}
use Rattle.std.proofs.lemmas.List.{length-take}
use Rattle.hrt_base.proofs.Pieces.{sent_on}
use Rattle.hrt_base.proofs.whole.write_all.Goals as goal

pub loop-done-preserved : goal.loop-done-preserved
loop-done-preserved g c =
    let fits : c.in_ok-count.count ≤ length c.args.bytes.now - c.loop-done.done = omega (arith, c.in_ok-count.ensures.count, length-take {A = ℕ}, length-drop {A = ℕ}) in
    record {
      in_range = omega arith;
      sent = sent_on _ _ _ _ _ _ _ _ c.loop-done.invariant.sent c.in_ok-count.ensures.sent fits;
    }
