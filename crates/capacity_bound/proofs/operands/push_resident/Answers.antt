use Rattle.std.proofs.lemmas.Result.{IfOk-equal}
use Rattle.capacity_bound.proofs.Pushed.{resident_pairs_chosen, resident_row_chosen}
use Rattle.capacity_bound.proofs.operands.push_resident.Goals as goal

pub returns-then-count_left-gt0 : goal.returns-then-count_left-gt0
returns-then-count_left-gt0 c =
    IfOk-equal c.push_row.result _ _ _ c.push_row.ensures
    (resident_row_chosen c.args.inst.now c.args.model.now c.requires.same c.args.gone.now c.args.r c.count_left.result c.pairs_of_resident-pairs.result.now c.count_left.ensures c.pairs_of_resident-pairs.ensures.numbers
    c.resident_row.result c.args.operands.now.items c.if-count_left-gt0.true c.resident_row.ensures.number)

pub returns : goal.returns
returns c =
    IfOk-equal c.push_pairs.result _ _ _ c.push_pairs.ensures
    (resident_pairs_chosen c.args.inst.now c.args.model.now c.requires.same c.args.gone.now c.args.r c.count_left.result c.pairs_of_resident-pairs.result.now c.count_left.ensures c.pairs_of_resident-pairs.ensures.numbers
    c.args.operands.now.items c.if-count_left-gt0.false)
