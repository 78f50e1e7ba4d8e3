use Rattle.std.proofs.Common.{◌≡◌, take, drop}
use Rattle.row_text.specs.Tokens.{onward_from}
use Rattle.row_text.proofs.Scan.{behind}
use Rattle.row_text.proofs.tokens.word_len.Given as goal

abbrev pub invariant-loop-i : goal.invariant-loop-i
invariant-loop-i l = onward_from l.line ≡ behind (take l.i l.line) (onward_from (drop l.i l.line))
