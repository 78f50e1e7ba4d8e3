use Rattle.std.proofs.Common.{◌≡◌, ℕ, List, [], ◌∷◌, ◌++◌, Option, length, count_by, sym, ap, ap₂, ◌∙◌, arith}
use Rattle.pb_rows.specs.Terms.{PlainRow}
use Rattle.rank_tables.specs.Numbers.{below}
use Rattle.stability_model.specs.Model.{resident_has_pair, resident_row, resident_row_no}
use Rattle.stability_model.specs.Making.{number_after, row_if_any}
use Rattle.stability_model.proofs.Growing.{map_below, rows_counted, rows_few, rows_more}
use Rattle.stability_model.proofs.making.push_resident_rows.Goals as goal

pub push_at_most-requires : goal.push_at_most-requires
push_at_most-requires c =
    omega (
      arith,
      rows_few [] (resident_row c.args.inst.now) (resident_has_pair c.args.inst.now) c.loop-r.r,
      ap length c.loop-r.invariant.0,
      c.loop-r-test.true,
      c.residents-r-end.ensures.few,
    )

pub loop-r-preserved : goal.loop-r-preserved
loop-r-preserved c =
    let lists = c.args.inst.now in
    let r = c.loop-r.r in
    let count : length c.loop-r.rows.items ≡ count_by (resident_has_pair lists) (below r) =
    omega (arith, ap length c.loop-r.invariant.0, rows_counted [] (resident_row lists) (resident_has_pair lists) r) in (
      c.in_ok-push_at_most.ensures.rows
          ∙ ap₂ (λ (rs : List PlainRow) (ps : List ℕ). rs ++ row_if_any 1 ps) c.loop-r.invariant.0 c.pairs_of_resident.ensures.numbers
          ∙ sym (rows_more [] (resident_row lists) (resident_has_pair lists) r),
      c.in_ok-push.ensures.items
          ∙ ap₂ (λ (ns : List (Option ℕ)) (n : Option ℕ). ns ++ n ∷ []) c.loop-r.invariant.1 (c.in_ok-push_at_most.ensures.number ∙ ap₂ number_after count c.pairs_of_resident.ensures.numbers)
          ∙ sym (map_below (resident_row_no lists) r),
    )

pub returns-clause-few : goal.returns-clause-few
returns-clause-few c =
    omega (
      arith,
      rows_few [] (resident_row c.args.inst.now) (resident_has_pair c.args.inst.now) c.loop-r.r,
      ap length c.loop-r.invariant.0,
      c.loop-r.auto.r-end,
      c.residents-r-end.ensures.few,
    )
