use Rattle.std.proofs.lemmas.Result.{IfOk-equal}
use Rattle.capacity_bound.proofs.Pushed.{hospital_pairs_chosen, hospital_row_chosen}
use Rattle.capacity_bound.proofs.operands.push_hospital.Goals as goal

pub returns-then-count_left-capacity : goal.returns-then-count_left-capacity
returns-then-count_left-capacity c =
    IfOk-equal c.push_row.result _ _ _ c.push_row.ensures
    (hospital_row_chosen c.args.inst.now c.args.model.now c.requires.same c.args.gone.now c.args.h c.count_left.result c.pairs_of_hospital-pairs.result.now c.count_left.ensures c.pairs_of_hospital-pairs.ensures.numbers
    c.pairs_of_hospital-pairs.ensures.same c.pairs_of_hospital-pairs.ensures.distinct c.capacity.result c.capacity.ensures.value c.hospital_row.result c.args.operands.now.items c.if-count_left-capacity.true c.hospital_row.ensures.number)

pub returns : goal.returns
returns c =
    IfOk-equal c.push_pairs.result _ _ _ c.push_pairs.ensures
    (hospital_pairs_chosen c.args.inst.now c.args.model.now c.requires.same c.args.gone.now c.args.h c.count_left.result c.pairs_of_hospital-pairs.result.now c.count_left.ensures c.pairs_of_hospital-pairs.ensures.numbers
    c.pairs_of_hospital-pairs.ensures.same c.pairs_of_hospital-pairs.ensures.distinct c.capacity.result c.capacity.ensures.value c.args.operands.now.items c.if-count_left-capacity.false)
