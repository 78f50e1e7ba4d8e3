use Rattle.std.proofs.Common.{◌<◌, ◌++◌, length, ap, sym, ◌∙◌, arith}
use Rattle.std.proofs.lemmas.List.Elements.{All-same}
use Rattle.rank_tables.specs.declared.marks.Mark.{Mark}
use Rattle.rank_tables.specs.Building.{naming, namings_of, with_ranks, hospital_groups}
use Rattle.rank_tables.proofs.ListFacts.{hospital_list-ranked, hospital_groups-read}
use Rattle.rank_tables.proofs.Ranks.{with_ranks-below}
use Rattle.rank_tables.proofs.Turning.{flat_map-below}
use Rattle.rank_tables.proofs.pairing.namings.Goals as goal

pub ranked-requires-clause-few : goal.ranked-requires-clause-few
ranked-requires-clause-few c =
    let list = hospital_list-ranked c.args.residents c.args.hospitals.now c.loop-h.h c.index-hospitals-h.result c.requires.lists (omega arith) c.index-hospitals-h.is in
    omega (arith, list.few_groups)

pub add_namings-requires : goal.add_namings-requires
add_namings-requires c =
    let list = hospital_list-ranked c.args.residents c.args.hospitals.now c.loop-h.h c.index-hospitals-h.result c.requires.lists (omega arith) c.index-hospitals-h.is in
    All-same (λ (m : Mark). m.number < length c.loop-h.rows.items) c.deref.result.now (with_ranks c.index-hospitals-h.result.groups) (c.deref.ensures.value ∙ c.in_ok-list.ensures)
    (λ k d l. let within = with_ranks-below c.args.residents c.index-hospitals-h.result.groups list.below k d l in omega (arith, within, c.loop-h.invariant.0))

pub loop-h-preserved : goal.loop-h-preserved
loop-h-preserved c =
    let hospitals = c.args.hospitals.now in
    let h = c.loop-h.h in
    let groups = hospital_groups-read hospitals h c.index-hospitals-h.result (omega arith) c.index-hospitals-h.is in (
      omega (arith, c.add_namings.ensures.count, c.loop-h.invariant.0),
      λ r.
          c.in_ok-add_namings.ensures.each r
          ∙ ap (λ ms. ms ++ naming h r c.deref.result.now) (c.loop-h.invariant.1 r)
          ∙ ap (λ ms. namings_of hospitals h r ++ naming h r ms) (c.deref.ensures.value ∙ c.in_ok-list.ensures ∙ ap with_ranks (sym groups))
          ∙ sym (flat_map-below (λ h. naming h r (with_ranks (hospital_groups hospitals h))) h),
    )
