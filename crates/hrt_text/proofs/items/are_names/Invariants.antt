use Rattle.std.proofs.Common.{◌≡◌, length}
use Rattle.std.specs.List.{list_all}
use Rattle.hrt_text.specs.Text.{tokens}
use Rattle.rank_tables.specs.Names.{is_name}
use Rattle.hrt_text.specs.Grammar.{words}
use Rattle.hrt_text.proofs.items.are_names.Given as goal

abbrev pub invariant-loop-token : goal.invariant-loop-token
invariant-loop-token l = list_all is_name (words (tokens l.items)) ≡ list_all is_name (words (tokens l.rest))

abbrev pub decreases-loop-token : goal.decreases-loop-token
decreases-loop-token l = length l.rest
