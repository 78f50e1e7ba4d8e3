use Rattle.std.proofs.Common.{true, sym, ◌∙◌}
use Rattle.lazy_stability.specs.Candidates.{candidate, point_of_trail}
use Rattle.lazy_stability.proofs.Asked.{other_asked}
use Rattle.lazy_stability.proofs.table.Table.blocks.Goals as goal

pub returns : goal.returns
returns c =
    let m = candidate c.args.inst.now c.args.engine.now in
    other_asked c.args.inst.now (point_of_trail c.args.engine.now.trail) c.args.p.0 true c.hospital_wants.result c.requires.p
    (sym c.is_taken.ensures ∙ c.if-is_taken.false) (sym c.if-not-resident_wants.false ∙ c.resident_wants.ensures m c.requires.taken) (c.hospital_wants.ensures m c.requires.taken)
