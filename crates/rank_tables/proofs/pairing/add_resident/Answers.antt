use Rattle.std.proofs.Common.{◌≡◌, ℕ, ◌<◌, ◌++◌, List, length, slice_index, ap, ◌∙◌, arith}
use Rattle.std.proofs.lemmas.Result.{err_from_is_err_and}
use Rattle.std.proofs.lemmas.List.Elements.{All-same}
use Rattle.rank_tables.specs.declared.marks.Mark.{Mark}
use Rattle.rank_tables.specs.declared.entry.PairEntry.{PairEntry}
use Rattle.rank_tables.specs.Building.{with_ranks, marked, cleared, found, answered}
use Rattle.rank_tables.proofs.ListFacts.{is_list-ranked}
use Rattle.rank_tables.proofs.Ranks.{with_ranks-below, cleared-marked}
use Rattle.rank_tables.proofs.Turning.{found-answered}
use Rattle.rank_tables.proofs.pairing.add_resident.Goals as goal

-- the table after its zeros were written over, and the pairs that are found by it
by_table : (r : ℕ) (groups : List (List ℕ)) (namings list : List Mark) (zeros table : List ℕ) → list ≡ with_ranks groups →
    ((i : ℕ) → slice_index table i ≡ marked i namings (slice_index zeros i)) → ((i : ℕ) → slice_index zeros i ≡ 0) →
    found r list table ≡ answered r groups namings
by_table r groups namings list zeros table e stamped zero =
    ap (λ l. found r l table) e ∙ found-answered r groups namings table (λ i. stamped i ∙ ap (marked i namings) (zero i))

pub ranked-requires-clause-few : goal.ranked-requires-clause-few
ranked-requires-clause-few c = let list = is_list-ranked (length c.args.ranks.now) c.args.groups.now c.requires.list in omega (arith, list.few_groups)

pub add_pairs-requires-clause-numbers : goal.add_pairs-requires-clause-numbers
add_pairs-requires-clause-numbers c =
    let list = is_list-ranked (length c.args.ranks.now) c.args.groups.now c.requires.list in
    All-same (λ (m : Mark). m.number < length c.stamp.new.table) c.deref.result.now (with_ranks c.args.groups.now) (c.deref.ensures.value ∙ c.in_ok-list.ensures)
    (λ k d l. let within = with_ranks-below (length c.args.ranks.now) c.args.groups.now list.below k d l in omega (arith, within, c.stamp.auto.table))

pub returns-in_err-add_pairs-clause-too_many : goal.returns-in_err-add_pairs-clause-too_many
returns-in_err-add_pairs-clause-too_many c =
    let p = err_from_is_err_and c.from_residual-in_err-add_pairs.result c.from_residual-in_err-add_pairs.ensures.1 in
    let same = by_table c.args.resident c.args.groups.now c.args.namings.now c.deref.result.now c.args.ranks.now c.stamp.new.table
    (c.deref.ensures.value ∙ c.in_ok-list.ensures) c.stamp.ensures c.requires.zero in
    rw (p.1, p.2) (λ e. omega (arith, c.in_err-add_pairs.ensures.too_many e, ap length same))

pub returns-clause-ok : goal.returns-clause-ok
returns-clause-ok c =
    let same = by_table c.args.resident c.args.groups.now c.args.namings.now c.deref.result.now c.args.ranks.now c.stamp.new.table
    (c.deref.ensures.value ∙ c.in_ok-list.ensures) c.stamp.ensures c.requires.zero in
    c.in_ok-add_pairs.ensures.ok ∙ ap (λ (es : List PairEntry). c.args.entries.now.items ++ es) same

pub returns-clause-zero : goal.returns-clause-zero
returns-clause-zero c =
    λ i. c.clear.ensures i ∙ ap (cleared i c.args.namings.now) (c.stamp.ensures i ∙ ap (marked i c.args.namings.now) (c.requires.zero i))
    ∙ cleared-marked i c.args.namings.now
