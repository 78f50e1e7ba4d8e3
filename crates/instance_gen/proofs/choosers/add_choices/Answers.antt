use Rattle.std.proofs.Common.{◌≡◌, ◌+◌, ◌<◌, ◌++◌, ℕ, List, length, take, sym, ap, ◌∙◌, arith}
use Rattle.std.specs.List.{concat}
use Rattle.std.proofs.lemmas.List.{take_all}
use Rattle.rank_tables.specs.Building.{row_at}
use Rattle.rank_tables.specs.Numbers.{is_in}
use Rattle.instance_gen.specs.Rows.{with_chooser}
use Rattle.instance_gen.proofs.Chosen.{concat_more}
use Rattle.instance_gen.proofs.choosers.add_choices.Goals as goal

pub loop-k-preserved : goal.loop-k-preserved
loop-k-preserved c =
    let groups = c.args.groups.now in
    let k = c.loop-k.k in
    let items = c.group-hospital-items.result.now in
    let within : k < length groups = omega arith in
    let done : take c.loop-hospital.hospital-index items ≡ items = take_all c.loop-hospital.hospital-index items c.loop-hospital-test.false in
    let all : concat (take k groups) ++ take c.loop-hospital.hospital-index items ≡ concat (take (k + 1) groups) =
    ap (λ (l : List ℕ). concat (take k groups) ++ l) (done ∙ c.group-hospital-items.ensures.value) ∙ sym (concat_more groups k within) in
    record {
      many = c.loop-hospital.invariant.many;
      each = λ h lt. c.loop-hospital.invariant.each h lt
          ∙ ap (λ (l : List ℕ). with_chooser c.args.number (is_in h l) (row_at c.args.rows.now.items h)) all;
    }
