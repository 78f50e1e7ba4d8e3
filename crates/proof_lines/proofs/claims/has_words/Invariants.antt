use Rattle.std.proofs.Common.{◌≡◌, length}
use Rattle.row_text.specs.Tokens.{are, tokens}
use Rattle.proof_lines.proofs.claims.has_words.Given as goal

abbrev pub invariant-loop-token : goal.invariant-loop-token
invariant-loop-token l = are (tokens l.line) (tokens l.words) ≡ are (tokens l.rest) (tokens l.left)

abbrev pub decreases-loop-token : goal.decreases-loop-token
decreases-loop-token l = length l.rest
