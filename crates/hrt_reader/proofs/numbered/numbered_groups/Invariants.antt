use Rattle.std.proofs.Common.{◌≡◌, ◌<◌, [], length}
use Rattle.std.specs.List.{list_all}
use Rattle.hrt_text.specs.Text.{tokens}
use Rattle.rank_tables.specs.Names.{is_among}
use Rattle.hrt_text.specs.Grammar.{words}
use Rattle.hrt_text.specs.Views.{texts}
use Rattle.hrt_text.specs.declared.items.Place.TheVariants.{Outside, Inside}
use Rattle.hrt_reader.proofs.TokenReading.{reads}
use Rattle.hrt_reader.proofs.numbered.numbered_groups.Given as goal

abbrev pub invariant-loop-token : goal.invariant-loop-token
invariant-loop-token l = record {
  groups : reads (texts l.names.keys) [] Outside (tokens l.items) ≡ reads (texts l.names.keys) l.groups l.place (tokens l.rest);
  known : list_all (λ w. is_among w (texts l.names.keys)) (words (tokens l.items)) ≡ list_all (λ w. is_among w (texts l.names.keys)) (words (tokens l.rest));
  some : l.place ≡ Inside → 0 < length l.groups;
}

abbrev pub decreases-loop-token : goal.decreases-loop-token
decreases-loop-token l = length l.rest
