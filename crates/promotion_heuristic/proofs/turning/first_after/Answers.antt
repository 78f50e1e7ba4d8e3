use Rattle.std.proofs.Common.{nat_le, option_map, ap, ◌∙◌, rules}
use Rattle.std.proofs.lemmas.List.Sorted.{IsPartitionPoint-from_clause}
use Rattle.hrt_base.specs.declared.numbered.PairNo.{PairNo}
use Rattle.promotion_heuristic.proofs.Rising.{rising-partitioned, first_after-is}
use Rattle.promotion_heuristic.proofs.turning.first_after.Goals as goal

pub returns : goal.returns
returns c =
    let parted = rising-partitioned c.args.pairs.now c.args.number c.requires in
    let point = IsPartitionPoint-from_clause (λ (p : PairNo). nat_le p.0 c.args.number) _ _ c.partition_point-place.ensures.partitioned parted (λ a r q k. search rules) in
    ap (option_map (λ (p : PairNo). p.0)) c.copied.ensures
    ∙ first_after-is c.args.pairs.now c.args.number c.partition_point-place.result c.get.result c.get.ensures.lookup point c.partition_point-place.ensures.bound
