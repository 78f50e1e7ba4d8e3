use Rattle.std.proofs.Common.{◌≡◌, ℕ, ◌+◌, ◌<◌, ◌++◌, List, length, slice_index, drop, ap, sym, ◌∙◌, arith}
use Rattle.std.proofs.lemmas.Result.{err_from_is_err_and}
use Rattle.std.proofs.lemmas.List.{take_at}
use Rattle.std.proofs.lemmas.List.Elements.{All-same}
use Rattle.std.specs.List.{flat_map}
use Rattle.rank_tables.specs.declared.marks.Mark.{Mark}
use Rattle.rank_tables.specs.declared.entry.PairEntry.{PairEntry}
use Rattle.rank_tables.specs.Numbers.{below}
use Rattle.rank_tables.specs.WellFormed.{most_pairs}
use Rattle.rank_tables.specs.Building.{row_at, answered, resident_groups}
use Rattle.rank_tables.proofs.ListFacts.{resident_groups-read}
use Rattle.rank_tables.proofs.RowsGrow.{row_at-read}
use Rattle.rank_tables.proofs.Turning.{flat_map-below, flat_map-part}
use Rattle.rank_tables.proofs.pairing.pair_entries.Goals as goal

pub add_resident-requires-clause-numbers : goal.add_resident-requires-clause-numbers
add_resident-requires-clause-numbers c =
    let r = c.loop-r.r in
    let rows = c.args.named_by.now in
    let row = c.deref.ensures.value ∙ ap (λ row. row.items) c.index-named_by-r.is ∙ sym (row_at-read rows r c.index-named_by-r.result (omega (arith, c.requires.count))) in
    All-same (λ (m : Mark). m.number < length c.deref_mut.result.now) c.deref.result.now (row_at rows r) row
    (λ k d l. let within = c.requires.numbers r k d l in omega (arith, within, c.deref_mut.ensures.len, c.loop-r.invariant.0, c.loop-r.ranks.ok.0))

pub returns-in_err-add_resident-clause-too_many : goal.returns-in_err-add_resident-clause-too_many
returns-in_err-add_resident-clause-too_many c =
    let p = err_from_is_err_and c.from_residual-in_err-add_resident.result c.from_residual-in_err-add_resident.ensures.1 in
    let r = c.loop-r.r in
    let residents = c.args.residents.now in
    let rows = c.args.named_by.now in
    let each : ℕ → List PairEntry = λ r. answered r (resident_groups residents r) (row_at rows r) in
    let groups = resident_groups-read residents r c.index-residents-r.result (omega arith) c.index-residents-r.is in
    let row = c.deref.ensures.value ∙ ap (λ row. row.items) c.index-named_by-r.is ∙ sym (row_at-read rows r c.index-named_by-r.result (omega (arith, c.requires.count))) in
    let same : answered r c.index-residents-r.result.groups c.deref.result.now ≡ each r =
    ap (λ g. answered r g c.deref.result.now) (sym groups) ∙ ap (λ ms. answered r (resident_groups residents r) ms) row in
    let part = flat_map-part each (length residents) r (omega arith) in
    rw (p.1, p.2) (λ e.
    let full : most_pairs < length c.loop-r.entries.items + length (answered r c.index-residents-r.result.groups c.deref.result.now) = c.in_err-add_resident.ensures.too_many e in
    omega (arith, full, part, ap length same, ap length c.loop-r.invariant.3))

pub loop-r-preserved : goal.loop-r-preserved
loop-r-preserved c =
    let r = c.loop-r.r in
    let residents = c.args.residents.now in
    let rows = c.args.named_by.now in
    let each : ℕ → List PairEntry = λ r. answered r (resident_groups residents r) (row_at rows r) in
    let groups = resident_groups-read residents r c.index-residents-r.result (omega arith) c.index-residents-r.is in
    let row = c.deref.ensures.value ∙ ap (λ row. row.items) c.index-named_by-r.is ∙ sym (row_at-read rows r c.index-named_by-r.result (omega (arith, c.requires.count))) in
    let same : answered r c.index-residents-r.result.groups c.deref.result.now ≡ each r =
    ap (λ g. answered r g c.deref.result.now) (sym groups) ∙ ap (λ ms. answered r (resident_groups residents r) ms) row in
    let new = c.add_resident.new.ranks in
    let long : length new ≡ c.loop-r.ranks.len = omega (arith, c.add_resident.auto.ranks, c.deref_mut.ensures.len) in
    let kept = take_at new (drop (length new) c.loop-r.ranks.items) c.loop-r.ranks.len long in (
      ap length kept ∙ long ∙ c.loop-r.ranks.ok.0 ∙ c.loop-r.invariant.0,
      λ i. ap (λ xs. slice_index xs i) kept ∙ c.in_ok-add_resident.ensures.zero i,
      c.in_ok-add_resident.ensures.few,
      c.in_ok-add_resident.ensures.ok ∙ ap (λ (es : List PairEntry). es ++ answered r c.index-residents-r.result.groups c.deref.result.now) c.loop-r.invariant.3
          ∙ ap (λ (es : List PairEntry). flat_map each (below r) ++ es) same ∙ sym (flat_map-below each r),
    )
