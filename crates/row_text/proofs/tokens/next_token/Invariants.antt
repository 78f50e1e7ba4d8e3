use Rattle.std.proofs.Common.{◌≡◌, drop}
use Rattle.row_text.specs.Tokens.{tokens}
use Rattle.row_text.proofs.tokens.next_token.Given as goal

abbrev pub invariant-loop-i : goal.invariant-loop-i
invariant-loop-i l = tokens l.line ≡ tokens (drop l.i l.line)
