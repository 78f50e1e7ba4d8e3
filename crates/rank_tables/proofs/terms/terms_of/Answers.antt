use Rattle.std.proofs.Common.{◌≡◌, ◌+◌, ◌*◌, length, sym, ap, ◌∙◌, arith}
use Rattle.std.proofs.lemmas.List.{length-map}
use Rattle.rank_tables.specs.Instance.{lists_of, pair_count}
use Rattle.rank_tables.specs.Counting.{counting, as_high}
use Rattle.rank_tables.proofs.RowsMade.{entries-declared}
use Rattle.rank_tables.proofs.TableFacts.{count-entries, count-rows, count-cols}
use Rattle.rank_tables.proofs.TermRows.{fit_residents, fit_hospitals, residents_sum, hospitals_sum}
use Rattle.rank_tables.proofs.TermTotal.{terms-counted}
use Rattle.rank_tables.proofs.terms.terms_of.Goals as goal

pub terms_of_rows-of_residents-requires-clause-few : goal.terms_of_rows-of_residents-requires-clause-few
terms_of_rows-of_residents-requires-clause-few c =
    omega (arith, ap length c.deref-3.ensures.value, length-map c.args.tables.now.by_resident.items (λ row. row.items), count-rows c.requires, c.requires.well_formed.few_residents)

pub terms_of_rows-of_residents-requires-clause-declared : goal.terms_of_rows-of_residents-requires-clause-declared
terms_of_rows-of_residents-requires-clause-declared c =
    rw (c.deref.ensures.value, c.deref-2.ensures.value) (λ k d l. (entries-declared (lists_of c.args.draft.now) c.args.tables.now.entries.items c.requires.entries_are k d l).hospital)

pub terms_of_rows-of_residents-requires-clause-numbers : goal.terms_of_rows-of_residents-requires-clause-numbers
terms_of_rows-of_residents-requires-clause-numbers c =
    rw (c.deref-2.ensures.value, c.deref-3.ensures.value) (λ k. (fit_residents (lists_of c.args.draft.now) c.requires k).numbers)

pub terms_of_rows-of_residents-requires-clause-rising : goal.terms_of_rows-of_residents-requires-clause-rising
terms_of_rows-of_residents-requires-clause-rising c =
    rw (c.deref.ensures.value, c.deref-2.ensures.value, c.deref-3.ensures.value) (λ k. (fit_residents (lists_of c.args.draft.now) c.requires k).rising)

pub terms_of_rows-of_residents-requires-clause-short : goal.terms_of_rows-of_residents-requires-clause-short
terms_of_rows-of_residents-requires-clause-short c = rw c.deref-3.ensures.value (λ k. (fit_residents (lists_of c.args.draft.now) c.requires k).short)

pub terms_of_rows-of_hospitals-requires-clause-few : goal.terms_of_rows-of_hospitals-requires-clause-few
terms_of_rows-of_hospitals-requires-clause-few c =
    omega (arith, ap length c.deref-6.ensures.value, length-map c.args.tables.now.by_hospital.items (λ row. row.items), count-cols c.requires, c.requires.well_formed.few_hospitals)

pub terms_of_rows-of_hospitals-requires-clause-declared : goal.terms_of_rows-of_hospitals-requires-clause-declared
terms_of_rows-of_hospitals-requires-clause-declared c =
    rw (c.deref-4.ensures.value, c.deref-5.ensures.value) (λ k d l. (entries-declared (lists_of c.args.draft.now) c.args.tables.now.entries.items c.requires.entries_are k d l).hospital)

pub terms_of_rows-of_hospitals-requires-clause-numbers : goal.terms_of_rows-of_hospitals-requires-clause-numbers
terms_of_rows-of_hospitals-requires-clause-numbers c =
    rw (c.deref-5.ensures.value, c.deref-6.ensures.value) (λ k. (fit_hospitals (lists_of c.args.draft.now) c.requires k).numbers)

pub terms_of_rows-of_hospitals-requires-clause-rising : goal.terms_of_rows-of_hospitals-requires-clause-rising
terms_of_rows-of_hospitals-requires-clause-rising c =
    rw (c.deref-5.ensures.value, c.deref-6.ensures.value) (λ k. (fit_hospitals (lists_of c.args.draft.now) c.requires k).rising)

pub terms_of_rows-of_hospitals-requires-clause-short : goal.terms_of_rows-of_hospitals-requires-clause-short
terms_of_rows-of_hospitals-requires-clause-short c = rw c.deref-6.ensures.value (λ k. (fit_hospitals (lists_of c.args.draft.now) c.requires k).short)

pub returns : goal.returns
returns c =
    let lists = lists_of c.args.draft.now in
    let r = c.terms_of_rows-of_residents.result in
    let h = c.terms_of_rows-of_hospitals.result in
    let rows = rw (c.deref.ensures.value, c.deref-2.ensures.value, c.deref-3.ensures.value) at c.terms_of_rows-of_residents.ensures.value in
    let cols = rw (c.deref-5.ensures.value, c.deref-6.ensures.value) at c.terms_of_rows-of_hospitals.ensures.value in
    let m : length c.args.tables.now.by_resident.items ≡ length lists.residents = sym (length-map c.args.tables.now.by_resident.items (λ row. row.items)) ∙ count-rows c.requires in
    let n : length c.args.tables.now.by_hospital.items ≡ length lists.hospitals = sym (length-map c.args.tables.now.by_hospital.items (λ row. row.items)) ∙ count-cols c.requires in
    let count : c.len.result ≡ pair_count lists = omega (arith, c.args.tables.now.entries.ok.0, count-entries c.requires, c.len.ensures) in
    ap (λ k. 3 * k + r + h) count
    ∙ terms-counted lists c.requires.well_formed r h
    (ap (λ k. r + k) (sym (residents_sum lists c.requires counting _ m)) ∙ rows ∙ residents_sum lists c.requires as_high _ m)
    (ap (λ k. h + k) (sym (hospitals_sum lists c.requires counting _ n)) ∙ cols ∙ hospitals_sum lists c.requires as_high _ n)
