use Rattle.std.proofs.Common.{rules, ◌≡◌, length, arith, ap, sym, subst, ◌∙◌}
use Rattle.rank_tables.specs.WellFormed.{IsWellFormed}
use Rattle.instance_gen.specs.Drafts.{draft_of}
use Rattle.instance_gen.proofs.LawfulDrafts.{lawful}
use Rattle.instance_gen.proofs.Counts.{length_drawn}
use Rattle.instance_gen.proofs.drawing.generate.Goals as goal

pub draw_hospitals-requires-clause-few : goal.draw_hospitals-requires-clause-few
draw_hospitals-requires-clause-few c =
    let count : length c.in_ok-residents.residents.items ≡ c.args.recipe.now.residents = ap length c.in_ok-residents.ensures.drawn ∙ length_drawn c.args.recipe.now c.args.recipe.now.residents c.start-words.result in
    omega (arith, count, c.requires.residents)

pub returns-clause-well_formed : goal.returns-clause-well_formed
returns-clause-well_formed c =
    let drawn : record { residents = c.in_ok-residents.residents.items; hospitals = c.in_ok-hospitals.hospitals.items } ≡ draft_of c.args.recipe.now = search rules in
    subst IsWellFormed (sym drawn) (lawful c.args.recipe.now c.requires)
