use Rattle.std.proofs.Common.{◌≡◌, ◌++◌, List, length, map, sym, ap, ◌∙◌, arith}
use Rattle.std.proofs.lemmas.List.{length-append, length-map, map-append}
use Rattle.pb_rows.specs.Terms.{PlainRow}
use Rattle.pb_rows.specs.Rows.{in_normal_form}
use Rattle.rank_tables.specs.Numbers.{numbers_to}
use Rattle.rank_tables.specs.Instance.{pair_count}
use Rattle.stability_model.specs.Model.{hospital_rows, pair_row, resident_rows, rows}
use Rattle.stability_model.proofs.ShortRows.{made_short}
use Rattle.stability_model.proofs.model.Model.of.Goals as goal

pub invariant_of-result : goal.invariant_of-result
invariant_of-result c =
    let lists = c.args.inst.now in
    let before = resident_rows lists ++ hospital_rows lists in
    let of_pairs = map (pair_row lists) (numbers_to (pair_count lists)) in
    let front : c.push_hospital_rows.new.rows.items ≡ map in_normal_form before = c.in_ok-hospital_rows.ensures.rows in
    let made : c.push_pair_rows.new.rows.items ≡ rows lists =
    c.in_ok-push_pair_rows.ensures.rows ∙ ap (λ (rs : List PlainRow). rs ++ map in_normal_form of_pairs) front ∙ sym (map-append in_normal_form before of_pairs) in
    record {
      rows_are = made;
      residents_are = c.in_ok-resident_rows.ensures.numbers;
      hospitals_are = c.in_ok-hospital_rows.ensures.numbers;
      before_is = omega (arith, c.len-before_pairs.ensures, ap length front, length-map before in_normal_form, length-append (resident_rows lists) (hospital_rows lists), c.in_ok-resident_rows.ensures.few, c.in_ok-hospital_rows.ensures.few);
      few = omega (arith, c.in_ok-push_pair_rows.ensures.few, c.in_ok-hospital_rows.ensures.few, c.in_ok-resident_rows.ensures.few);
      short = made_short lists c.push_pair_rows.new.rows.items made c.push_resident_rows.ensures.formed c.push_pair_rows.ensures.few_pairs;
    }
