use Rattle.std.proofs.Common.{◌<◌, nat_lt, length, map, slice_index, ap, ◌∙◌, arith}
use Rattle.std.specs.List.{filter}
use Rattle.std.proofs.lemmas.List.Elements.{All-same}
use Rattle.rank_tables.specs.declared.marks.Mark.{Mark}
use Rattle.rank_tables.specs.Building.{with_ranks, marked, cleared}
use Rattle.rank_tables.proofs.ListFacts.{is_list-ranked}
use Rattle.rank_tables.proofs.Ranks.{with_ranks-below, cleared-marked}
use Rattle.rank_tables.proofs.Listed.{listed-numbered}
use Rattle.rank_tables.proofs.listing.list_hospital.Goals as goal

pub ranked-requires-clause-few : goal.ranked-requires-clause-few
ranked-requires-clause-few c = let list = is_list-ranked (length c.args.numbers.now) c.args.groups.now c.requires.list in omega (arith, list.few_groups)

pub listed-requires : goal.listed-requires
listed-requires c =
    let list = is_list-ranked (length c.args.numbers.now) c.args.groups.now c.requires.list in
    All-same (λ (m : Mark). m.number < length c.stamp.new.table) c.deref.result.now (with_ranks c.args.groups.now) (c.deref.ensures.value ∙ c.in_ok-list.ensures)
    (λ k d l. let within = with_ranks-below (length c.args.numbers.now) c.args.groups.now list.below k d l in omega (arith, within, c.stamp.auto.table))

pub returns-clause-ok : goal.returns-clause-ok
returns-clause-ok c =
    c.in_ok-row.ensures
    ∙ ap (λ ms. filter (nat_lt 0) (map (λ (m : Mark). slice_index c.stamp.new.table m.number) ms)) (c.deref.ensures.value ∙ c.in_ok-list.ensures)
    ∙ listed-numbered c.args.groups.now c.args.pairs.now c.stamp.new.table (λ i. c.stamp.ensures i ∙ ap (marked i c.args.pairs.now) (c.requires.zero i))

pub returns-clause-zero : goal.returns-clause-zero
returns-clause-zero c =
    λ i. c.clear.ensures i ∙ ap (cleared i c.args.pairs.now) (c.stamp.ensures i ∙ ap (marked i c.args.pairs.now) (c.requires.zero i))
    ∙ cleared-marked i c.args.pairs.now
