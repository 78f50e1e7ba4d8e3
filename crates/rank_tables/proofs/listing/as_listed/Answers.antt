use Rattle.std.proofs.Common.{◌≡◌, ℕ, ◌<◌, ◌++◌, [], ◌∷◌, List, length, map, slice_index, drop, ap, sym, ◌∙◌, arith, add-one}
use Rattle.std.proofs.lemmas.List.{take_at, map-append}
use Rattle.std.proofs.lemmas.List.Elements.{All-same}
use Rattle.rank_tables.specs.declared.marks.Mark.{Mark}
use Rattle.rank_tables.specs.Numbers.{below}
use Rattle.rank_tables.specs.Tables.{numbers_of}
use Rattle.rank_tables.specs.Building.{row_at, rows_of, numbered, hospital_groups}
use Rattle.rank_tables.proofs.ListFacts.{hospital_groups-read}
use Rattle.rank_tables.proofs.RowsGrow.{row_at-read}
use Rattle.rank_tables.proofs.listing.as_listed.Goals as goal

pub list_hospital-requires-clause-marks : goal.list_hospital-requires-clause-marks
list_hospital-requires-clause-marks c =
    let h = c.loop-h.h in
    let rows = c.args.pairs.now in
    let row = c.deref.ensures.value ∙ ap (λ row. row.items) c.index-pairs-h.is ∙ sym (row_at-read rows h c.index-pairs-h.result (omega (arith, c.requires.count))) in
    All-same (λ (m : Mark). m.number < length c.deref_mut.result.now) c.deref.result.now (row_at rows h) row
    (λ k d l. let within = c.requires.numbers h k d l in omega (arith, within, c.deref_mut.ensures.len, c.loop-h.invariant.0, c.loop-h.numbers.ok.0))

pub loop-h-preserved : goal.loop-h-preserved
loop-h-preserved c =
    let h = c.loop-h.h in
    let hospitals = c.args.hospitals.now in
    let rows = c.args.pairs.now in
    let each : ℕ → List ℕ = λ h. numbered (hospital_groups hospitals h) (row_at rows h) in
    let groups = hospital_groups-read hospitals h c.index-hospitals-h.result (omega arith) c.index-hospitals-h.is in
    let row = c.deref.ensures.value ∙ ap (λ row. row.items) c.index-pairs-h.is ∙ sym (row_at-read rows h c.index-pairs-h.result (omega (arith, c.requires.count))) in
    let same : numbered c.index-hospitals-h.result.groups c.deref.result.now ≡ each h =
    ap (λ g. numbered g c.deref.result.now) (sym groups) ∙ ap (λ ms. numbered (hospital_groups hospitals h) ms) row in
    let new = c.list_hospital.new.numbers in
    let long : length new ≡ c.loop-h.numbers.len = omega (arith, c.list_hospital.auto.numbers, c.deref_mut.ensures.len) in
    let kept = take_at new (drop (length new) c.loop-h.numbers.items) c.loop-h.numbers.len long in
    let added : map numbers_of (rows_of c.push.new.self.items) ≡ map numbers_of (rows_of c.loop-h.rows.items) ++ numbers_of c.in_ok-row.row.items ∷ [] =
    ap (λ xs. map numbers_of (rows_of xs)) c.in_ok-push.ensures.items
    ∙ ap (map numbers_of) (map-append (λ row. row.items) c.loop-h.rows.items (c.in_ok-row.row ∷ []))
    ∙ map-append numbers_of (rows_of c.loop-h.rows.items) (c.in_ok-row.row.items ∷ []) in (
      ap length kept ∙ long ∙ c.loop-h.numbers.ok.0 ∙ c.loop-h.invariant.0,
      λ i. ap (λ xs. slice_index xs i) kept ∙ c.in_ok-row.ensures.zero i,
      added ∙ ap (λ (xs : List (List ℕ)). xs ++ numbers_of c.in_ok-row.row.items ∷ []) c.loop-h.invariant.2
          ∙ ap (λ (ns : List ℕ). map each (below h) ++ ns ∷ []) (c.in_ok-row.ensures.ok ∙ same)
          ∙ sym (ap (λ k. map each (below k)) (add-one h) ∙ map-append each (below h) (h ∷ [])),
    )
