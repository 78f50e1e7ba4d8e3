use Rattle.std.proofs.Common.{◌≡◌, ◌∙◌, [], Option, Some, option_map, length, refl, sym, ap, arith, slice_get}
use Rattle.std.specs.Prelude.{unwrap_or}
use Rattle.std.specs.List.{concat}
use Rattle.std.proofs.lemmas.Option.{slice_get_read}
use Rattle.rank_tables.specs.declared.draft.DraftResident.{DraftResident}
use Rattle.rank_tables.specs.Instance.{resident_names}
use Rattle.rank_tables.specs.Numbers.{is_in}
use Rattle.instance_gen.specs.Rows.{with_chooser}
use Rattle.instance_gen.proofs.Choosing.{row_more}
use Rattle.instance_gen.proofs.choosers.choosers_of.Goals as goal

pub loop-number-preserved : goal.loop-number-preserved
loop-number-preserved c =
    let n = c.loop-number.number in
    let rs = c.args.residents.now in
    let found : slice_get rs n ≡ Some c.index-residents-number.result = slice_get_read rs (length rs) n c.index-residents-number.result refl (omega arith) c.index-residents-number.is in
    let many : length c.loop-number.rows.items ≡ c.args.hospitals = c.loop-number.invariant.many in
    record {
      many = c.in_ok-add_choices.ensures.many ∙ many;
      each = λ h lt.
          c.in_ok-add_choices.ensures.each h (omega (arith, many, lt))
          ∙ ap (with_chooser n (is_in h (concat c.index-residents-number.result.groups))) (c.loop-number.invariant.each h lt)
          ∙ row_more (λ i. resident_names (record { residents = rs; hospitals = [] }) i h) n (is_in h (concat c.index-residents-number.result.groups))
          (sym (ap (λ (o : Option DraftResident). is_in h (concat (unwrap_or (option_map (λ r. r.groups) o) []))) found));
    }
