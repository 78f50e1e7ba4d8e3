use Rattle.std.proofs.Common.{◌≡◌, ◌+◌, ◌<◌, ℕ, List, [], ◌∷◌, ◌++◌, Option, length, count_by, sym, ap, ap₂, ◌∙◌, arith}
use Rattle.std.proofs.lemmas.List.{length-map}
use Rattle.pb_rows.specs.Terms.{PlainRow, Written}
use Rattle.pb_rows.specs.Rows.{in_normal_form}
use Rattle.rank_tables.specs.Numbers.{below}
use Rattle.rank_tables.specs.Tables.{numbers_of}
use Rattle.rank_tables.specs.Instance.{rising_pairs_of_hospital}
use Rattle.stability_model.specs.Model.{hospital_has_pair, hospital_row, hospital_row_no, resident_rows}
use Rattle.stability_model.specs.Making.{number_after, row_if_any}
use Rattle.stability_model.proofs.Growing.{map_below, rows_counted, rows_few, rows_more, rows_to}
use Rattle.stability_model.proofs.Pushes.{bucket_at-read}
use Rattle.stability_model.proofs.making.push_hospital_rows.Goals as goal

pub push_at_most-requires : goal.push_at_most-requires
push_at_most-requires c =
    let before = resident_rows c.args.inst.now in
    omega (
      arith,
      rows_few before (hospital_row c.args.inst.now) (hospital_has_pair c.args.inst.now) c.loop-h.h,
      ap length c.loop-h.invariant.0,
      ap length c.requires.before,
      length-map before in_normal_form,
      c.requires.room,
      c.loop-h-test.true,
      c.hospitals-h-end.ensures.few,
    )

pub loop-h-preserved : goal.loop-h-preserved
loop-h-preserved c =
    let lists = c.args.inst.now in
    let h = c.loop-h.h in
    let before : List Written = resident_rows lists in
    let within : h < length c.args.buckets.now = omega (arith, c.requires.count, c.loop-h-test.true, c.hospitals-h-end.ensures.count) in
    let pairs : numbers_of c.deref.result.now ≡ rising_pairs_of_hospital lists h =
    ap numbers_of (c.deref.ensures.value ∙ ap (λ b. b.items) c.index-buckets-h.is ∙ sym (bucket_at-read c.args.buckets.now h c.index-buckets-h.result within)) ∙ c.requires.each h in
    let count : length c.loop-h.rows.items ≡ length before + count_by (hospital_has_pair lists) (below h) =
    ap length c.loop-h.invariant.0 ∙ rows_counted before (hospital_row lists) (hospital_has_pair lists) h in (
      c.in_ok-push_at_most.ensures.rows
          ∙ ap₂ (λ (rs : List PlainRow) (ps : List ℕ). rs ++ row_if_any c.capacity.result ps) c.loop-h.invariant.0 pairs
          ∙ ap (λ n. rows_to before (hospital_row lists) (hospital_has_pair lists) h ++ row_if_any n (rising_pairs_of_hospital lists h)) c.capacity.ensures.value
          ∙ sym (rows_more before (hospital_row lists) (hospital_has_pair lists) h),
      c.in_ok-push.ensures.items
          ∙ ap₂ (λ (ns : List (Option ℕ)) (n : Option ℕ). ns ++ n ∷ []) c.loop-h.invariant.1 (c.in_ok-push_at_most.ensures.number ∙ ap₂ number_after count pairs)
          ∙ sym (map_below (hospital_row_no lists) h),
    )

pub returns-clause-few : goal.returns-clause-few
returns-clause-few c =
    let before = resident_rows c.args.inst.now in
    omega (
      arith,
      rows_few before (hospital_row c.args.inst.now) (hospital_has_pair c.args.inst.now) c.loop-h.h,
      ap length c.loop-h.invariant.0,
      ap length c.requires.before,
      length-map before in_normal_form,
      c.loop-h.auto.h-end,
      c.hospitals-h-end.ensures.few,
    )
