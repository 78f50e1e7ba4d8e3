use Rattle.std.proofs.Common.{◌∙◌, ap, sym, subst}
use Rattle.std.specs.List.Sorted.{IsNonDecreasing}
use Rattle.std.proofs.lemmas.List.Sorted.{IsNonDecreasingBy-from_sort}
use Rattle.pb_rows.specs.Rows.{weaken_all}
use Rattle.pb_rows.proofs.Weakenings.{weaken_all-moved}
use Rattle.proof_steps.proofs.stack.weaken_by.Goals as goal

pub weaken_all-requires : goal.weaken_all-requires
weaken_all-requires c =
    subst IsNonDecreasing (sym c.deref.ensures.value) (IsNonDecreasingBy-from_sort (λ x. x) c.sort_unstable.new.self.items c.sort_unstable.ensures.sorted)

pub returns : goal.returns
returns c =
    c.in_ok-weaken_all.ensures.is ∙ ap (λ vs. weaken_all vs c.args.row.now) c.deref.ensures.value
    ∙ sym (weaken_all-moved c.args.vars.now.items c.sort_unstable.new.self.items c.args.row.now c.sort_unstable.ensures.permutation)
