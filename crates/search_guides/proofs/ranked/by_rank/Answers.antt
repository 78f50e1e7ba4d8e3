use Rattle.std.proofs.Common.{rules, ◌≡◌, List, subst}
use Rattle.std.specs.List.Sorted.{IsPermutation}
use Rattle.std.proofs.lemmas.List.Sorted.{IsNonDecreasingBy-from_sort_by_key, answers_always, ties_still_rise}
use Rattle.search_guides.specs.declared.ranked.RankedPair.{RankedPair}
use Rattle.search_guides.specs.Ranks.{all_ranked}
use Rattle.search_guides.proofs.LeastRanked.{numbers_rise}
use Rattle.search_guides.proofs.ranked.by_rank.Goals as goal

pub returns : goal.returns
returns c =
    let made : c.in_ok-order.order.items ≡ all_ranked c.args.inst.now = c.in_ok-order.ensures in
    let after = c.sort_by_key.new.self.items in
    record {
      pairs = subst (λ (xs : List RankedPair). IsPermutation xs after) made c.sort_by_key.ensures.permutation;
      ranks = IsNonDecreasingBy-from_sort_by_key (λ (e : RankedPair). e.rank) _ c.in_ok-sort_by_key.ensures.sorted (λ a r q k. search rules);
      numbers = ties_still_rise (λ (e : RankedPair). e.pair) (λ e. e.rank) (all_ranked c.args.inst.now) after (numbers_rise c.args.inst.now)
          (rw (← made) (c.sort_by_key.ensures.stable (λ (e : RankedPair). e.rank) (answers_always _ _ _ (λ f a r g h. search rules))));
    }
