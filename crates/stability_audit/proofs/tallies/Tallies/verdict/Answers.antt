use Rattle.std.proofs.Common.{Some, None, sym, ap, ◌∙◌, option_map}
use Rattle.rank_tables.specs.Tables.{numbers_of}
use Rattle.stability_audit.proofs.Verdicts.{verdict_by_pair}
use Rattle.stability_audit.proofs.tallies.Tallies.verdict.Goals as goal

pub returns-in-Some-wanted_pair : goal.returns-in-Some-wanted_pair
returns-in-Some-wanted_pair c =
    let self = c.args.self.now in
    verdict_by_pair c.args.inst.now (numbers_of c.args.pairs.now) self.residents.items self.hospitals.items (Some c.in-Some-wanted_pair.pair.0) c.requires.marked
    (sym c.in_default.is ∙ c.resident_twice.ensures) (sym c.in_default-hospital_over.is ∙ c.hospital_over.ensures)
    (ap (option_map (λ p. p.0)) (sym c.in-Some-wanted_pair.is) ∙ c.wanted_pair.ensures)

pub returns-in-None : goal.returns-in-None
returns-in-None c =
    let self = c.args.self.now in
    verdict_by_pair c.args.inst.now (numbers_of c.args.pairs.now) self.residents.items self.hospitals.items None c.requires.marked
    (sym c.in_default.is ∙ c.resident_twice.ensures) (sym c.in_default-hospital_over.is ∙ c.hospital_over.ensures)
    (ap (option_map (λ p. p.0)) (sym c.in-None.is) ∙ c.wanted_pair.ensures)
