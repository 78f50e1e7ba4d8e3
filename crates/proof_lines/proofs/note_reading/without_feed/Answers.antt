use Rattle.std.proofs.Common.{◌≡◌, ◌-◌, suc, length, sym, arith}
use Rattle.proof_lines.proofs.Fronts.{feed_dropped, no_feed, no_feed_nil}
use Rattle.proof_lines.proofs.note_reading.without_feed.Goals as goal
use Rattle.proof_lines.proofs.note_reading.without_feed.Goals.{else-len-gt0-via-then-len-gt0+else-line-len-eq10, else-len-gt0-via-else-len-gt0}

pub returns-then-line-len-eq10 : goal.returns-then-line-len-eq10
returns-then-line-len-eq10 c = sym (feed_dropped c.args.line.now (length c.args.line.now - 1) (omega arith) c.if-line-len-eq10.true)

pub returns-else-len-gt0 : goal.returns-else-len-gt0
returns-else-len-gt0 c =
    elim c.else-len-gt0.branch [
      | else-len-gt0-via-then-len-gt0+else-line-len-eq10 w ↦ let some : length c.args.line.now ≡ suc (length c.args.line.now - 1) = omega (arith, w.if-len-gt0.true) in sym (no_feed c.args.line.now (length c.args.line.now - 1) some w.if-line-len-eq10.false)
      | else-len-gt0-via-else-len-gt0 w ↦ sym (no_feed_nil c.args.line.now (omega (arith, w.if-len-gt0.false)))
    ]
