use Rattle.std.proofs.Common.{◌≡◌, ℕ, ◌+◌, ◌-◌, ◌<◌, length, map, ap, ◌∙◌, arith}
use Rattle.std.proofs.lemmas.List.{length-map}
use Rattle.std.proofs.lemmas.List.Elements.{All-same}
use Rattle.rank_tables.specs.declared.marks.Mark.{Mark}
use Rattle.rank_tables.specs.Numbers.{below}
use Rattle.rank_tables.specs.Instance.{pairs_of_resident, pairs_as_listed}
use Rattle.rank_tables.specs.Tables.{numbers_of}
use Rattle.rank_tables.specs.Building.{row_at, rows_of, both}
use Rattle.rank_tables.proofs.TableFacts.{entries-length, rows-length}
use Rattle.rank_tables.proofs.TablesMade.{marks_of_hospital, rows-made}
use Rattle.rank_tables.proofs.RowsMade.{entries-declared, numbers-made, marks-made, marks-declared, columns-made, column-length}
use Rattle.rank_tables.proofs.OneSided.{hospitals-side, one_sided-is, pair_count-le}
use Rattle.rank_tables.proofs.tables.with_rows.Goals as goal

pub by_resident-requires-clause-declared : goal.by_resident-requires-clause-declared
by_resident-requires-clause-declared c =
    let lists = both c.args.residents.now c.args.hospitals.now in
    λ k d l. (entries-declared lists c.deref.result.now (c.deref.ensures.value ∙ c.requires.pairs) k d l).resident

pub by_hospital-requires-clause-declared : goal.by_hospital-requires-clause-declared
by_hospital-requires-clause-declared c =
    let lists = both c.args.residents.now c.args.hospitals.now in
    λ k d l. (entries-declared lists c.deref-2.result.now (c.deref-2.ensures.value ∙ c.requires.pairs) k d l).hospital

pub as_listed-requires-clause-numbers : goal.as_listed-requires-clause-numbers
as_listed-requires-clause-numbers c =
    let lists = both c.args.residents.now c.args.hospitals.now in
    λ h. All-same (λ (m : Mark). m.number < length c.args.residents.now) (row_at c.deref-3.result.now h) (marks_of_hospital lists h)
    (ap (λ rows. row_at rows h) c.deref-3.ensures.value ∙ c.in_ok-marks.ensures.each h ∙ marks-made lists c.deref-2.result.now (c.deref-2.ensures.value ∙ c.requires.pairs) h)
    (marks-declared lists h)

pub silent_residents-silent-requires-clause-count : goal.silent_residents-silent-requires-clause-count
silent_residents-silent-requires-clause-count c =
    let lists = both c.args.residents.now c.args.hospitals.now in
    let made : map numbers_of (rows_of c.in_ok-columns.columns.items) ≡ map (pairs_as_listed lists) (below (length c.args.hospitals.now)) =
    c.in_ok-columns.ensures ∙ columns-made lists c.requires.well_formed (row_at c.deref-3.result.now)
    (λ h. ap (λ rows. row_at rows h) c.deref-3.ensures.value ∙ c.in_ok-marks.ensures.each h ∙ marks-made lists c.deref-2.result.now (c.deref-2.ensures.value ∙ c.requires.pairs) h) in
    let columns = c.in_ok-columns.columns in
    omega (arith, c.deref-4.ensures.len, columns.ok.0, length-map columns.items (λ column. column.items), rows-length (pairs_as_listed lists) (length c.args.hospitals.now) (rows_of columns.items) made)

pub silent_residents-silent-requires-clause-part : goal.silent_residents-silent-requires-clause-part
silent_residents-silent-requires-clause-part c =
    let lists = both c.args.residents.now c.args.hospitals.now in
    let made : map numbers_of (rows_of c.in_ok-columns.columns.items) ≡ map (pairs_as_listed lists) (below (length c.args.hospitals.now)) =
    c.in_ok-columns.ensures ∙ columns-made lists c.requires.well_formed (row_at c.deref-3.result.now)
    (λ h. ap (λ rows. row_at rows h) c.deref-3.ensures.value ∙ c.in_ok-marks.ensures.each h ∙ marks-made lists c.deref-2.result.now (c.deref-2.ensures.value ∙ c.requires.pairs) h) in
    λ h l. omega (arith, ap length (ap (λ rows. row_at rows h) c.deref-4.ensures.value), column-length lists (rows_of c.in_ok-columns.columns.items) made h l, hospitals-side lists h)

pub overflow_sub-unanswered : goal.overflow_sub-unanswered
overflow_sub-unanswered c =
    let lists = both c.args.residents.now c.args.hospitals.now in
    omega (arith, c.len.ensures, c.args.entries.ok.0, entries-length lists c.args.entries.items c.requires.pairs, c.named_hospitals-named.ensures.value, pair_count-le lists)

pub returns : goal.returns
returns c =
    let lists = both c.args.residents.now c.args.hospitals.now in
    let made : map numbers_of (rows_of c.in_ok-columns.columns.items) ≡ map (pairs_as_listed lists) (below (length c.args.hospitals.now)) =
    c.in_ok-columns.ensures ∙ columns-made lists c.requires.well_formed (row_at c.deref-3.result.now)
    (λ h. ap (λ rows. row_at rows h) c.deref-3.ensures.value ∙ c.in_ok-marks.ensures.each h ∙ marks-made lists c.deref-2.result.now (c.deref-2.ensures.value ∙ c.requires.pairs) h) in
    let rows = c.in_ok-rows.rows in
    let count = entries-length lists c.args.entries.items c.requires.pairs in
    let row : ℕ → ℕ = λ h. length (row_at c.deref-4.result.now h) in
    let column : (h : ℕ) → h < length c.args.hospitals.now → row h ≡ length (pairs_as_listed lists h) =
    λ h l. ap length (ap (λ rows. row_at rows h) c.deref-4.ensures.value) ∙ column-length lists (rows_of c.in_ok-columns.columns.items) made h l in
    record {
      well_formed = c.requires.well_formed;
      few_pairs = omega (arith, c.requires.few, count);
      entries_are = c.requires.pairs;
      residents_are =
          rows-made (rows_of rows.items) (pairs_of_resident lists) (length c.args.residents.now) (length-map rows.items (λ row. row.items) ∙ c.in_ok-rows.ensures.count)
          (λ r. c.in_ok-rows.ensures.each r ∙ numbers-made lists c.deref.result.now (c.deref.ensures.value ∙ c.requires.pairs) r);
      hospitals_are = made;
      unanswered_is =
          ap (λ n. c.named_hospitals-named.result - n + c.silent_residents-silent.result) (c.len.ensures ∙ c.args.entries.ok.0 ∙ count)
          ∙ one_sided-is lists c.named_hospitals-named.result c.silent_residents-silent.result row c.named_hospitals-named.ensures.value c.silent_residents-silent.ensures.value column;
    }
