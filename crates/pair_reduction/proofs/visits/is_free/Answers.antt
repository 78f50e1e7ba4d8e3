use Rattle.std.proofs.Common.{not, sym, ap, ◌∙◌}
use Rattle.derivation.specs.Deletions.{is_deleted}
use Rattle.pair_reduction.specs.Sides.{list_of, places}
use Rattle.pair_reduction.proofs.RankTests.{free_of_gone, free_of_left}
use Rattle.pair_reduction.proofs.TwoSides.{listed, listed_once}
use Rattle.pair_reduction.proofs.visits.is_free.Goals as goal

pub returns-then-is_gone : goal.returns-then-is_gone
returns-then-is_gone c =
    ap not c.are_within.ensures
    ∙ free_of_gone c.args.side c.args.inst.now (is_deleted c.args.gone.now) c.args.p.0 c.places-most.result c.rank_on-rank.result c.args.ranks.now c.requires.ranks (c.places-most.ensures.value ∙ ap (places c.args.side c.args.inst.now) c.list_of.ensures.value) c.rank_on-rank.ensures.value
    (sym c.is_gone.ensures ∙ c.if-is_gone.true)

pub returns : goal.returns
returns c =
    ap not c.are_within-2.ensures
    ∙ free_of_left c.args.side c.args.inst.now (is_deleted c.args.gone.now) c.args.p.0 c.places-most.result c.rank_on-rank.result c.args.ranks.now c.requires.ranks (c.places-most.ensures.value ∙ ap (places c.args.side c.args.inst.now) c.list_of.ensures.value) c.rank_on-rank.ensures.value
    (listed_once c.args.side c.args.inst.now (list_of c.args.side c.args.inst.now c.args.p.0)) (listed c.args.side c.args.inst.now c.args.p.0 c.requires.p) (sym c.is_gone.ensures ∙ c.if-is_gone.false)
