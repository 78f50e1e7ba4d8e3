use Rattle.std.proofs.Common.{rules}
use Rattle.std.proofs.lemmas.List.Sorted.{IsNonDecreasingBy-from_sort_by_key}
use Rattle.hrt_base.specs.declared.literal.Term.{Term}
use Rattle.pb_rows.proofs.Lasts.{sorted_copy}
use Rattle.pb_rows.proofs.join.sort.Goals as goal

pub returns : goal.returns
returns c =
    sorted_copy c.args.terms.now.items c.sort_unstable_by_key.new.self.items c.requires c.sort_unstable_by_key.ensures.permutation
    (IsNonDecreasingBy-from_sort_by_key (λ (t : Term). t.lit.var) _ c.sort_unstable_by_key.ensures.sorted (λ a r q k. search rules))
