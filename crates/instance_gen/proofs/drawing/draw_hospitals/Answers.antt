use Rattle.std.proofs.Common.{rules, ◌≡◌, ◌∙◌, ◌<◌, ℕ, List, length, ap, arith, length-set}
use Rattle.instance_gen.specs.Drafts.{choosers, hospital_list}
use Rattle.instance_gen.proofs.Hospitals.{few_choosers, row_is, row_kept}
use Rattle.instance_gen.proofs.drawing.draw_hospitals.Goals as goal

pub draw_hospital-requires : goal.draw_hospital-requires
draw_hospital-requires c =
    let rows = c.loop-before.rows.items in
    let h = c.loop-before.before in
    let chosen = choosers c.args.residents.now h in
    let within : h < length rows = omega (arith, c.loop-before.invariant.many, c.loop-before-test.true) in
    let row : c.index_mut-choosers.result.now.items ≡ chosen = row_is rows h c.index_mut-choosers.result.now chosen within c.index_mut-choosers.ensures.value (c.loop-before.invariant.left h (omega arith) c.loop-before-test.true) in
    omega (arith, ap length row, few_choosers c.args.residents.now h, c.requires.few)

pub loop-before-preserved : goal.loop-before-preserved
loop-before-preserved c =
    let rows = c.loop-before.rows.items in
    let h = c.loop-before.before in
    let chosen = choosers c.args.residents.now h in
    let within : h < length rows = omega (arith, c.loop-before.invariant.many, c.loop-before-test.true) in
    let row : c.index_mut-choosers.result.now.items ≡ chosen = row_is rows h c.index_mut-choosers.result.now chosen within c.index_mut-choosers.ensures.value (c.loop-before.invariant.left h (omega arith) c.loop-before-test.true) in
    let groups : c.in_ok-groups.groups ≡ (hospital_list c.args.recipe.now chosen c.loop-before.words).value = c.in_ok-groups.ensures.drawn ∙ ap (λ (l : List ℕ). (hospital_list c.args.recipe.now l c.loop-before.words).value) row in
    let words : c.draw_hospital.new.words ≡ (hospital_list c.args.recipe.now chosen c.loop-before.words).rest = c.in_ok-groups.ensures.words ∙ ap (λ (l : List ℕ). (hospital_list c.args.recipe.now l c.loop-before.words).rest) row in
    record {
      many = length-set rows h c.draw_hospital.new.choosers ∙ c.loop-before.invariant.many;
      left = λ k ge lt. row_kept rows h k c.draw_hospital.new.choosers (omega (arith, ge)) ∙ c.loop-before.invariant.left k (omega (arith, ge)) lt;
      value = search rules;
      rest = search rules;
    }
