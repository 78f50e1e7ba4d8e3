use Rattle.std.proofs.Common.{◌≡◌, ◌++◌, length, true}
use Rattle.hrt_text.specs.Text.{tokens}
use Rattle.rank_tables.specs.Names.{are_apart}
use Rattle.hrt_text.specs.Grammar.{words}
use Rattle.hrt_text.specs.Views.{texts}
use Rattle.hrt_text.proofs.items.are_distinct.Given as goal

abbrev pub invariant-loop-token : goal.invariant-loop-token
invariant-loop-token l = record {
  whole : are_apart (words (tokens l.items)) ≡ are_apart (texts l.seen.keys ++ words (tokens l.rest));
  apart : are_apart (texts l.seen.keys) ≡ true;
}

abbrev pub decreases-loop-token : goal.decreases-loop-token
decreases-loop-token l = length l.rest
