use Rattle.std.proofs.Common.{arith, ap, ◌∙◌, ◌≤◌, ◌≡◌, subst, length}
use Rattle.derivation.specs.Derived.{Derived}
use Rattle.rank_tables.specs.Instance.{Lists, pair_count}
use Rattle.pb_search.proofs.Improved.{ceiling_stays, logged_broken, logged_short}
use Rattle.pb_search.proofs.improving.improve.Goals as goal

pub close-requires-clause-bound : goal.close-requires-clause-bound
close-requires-clause-bound c = ceiling_stays c.args.ceiling (length c.args.pairs.now) (length c.args.pairs.now) c.args.bound_row c.in_ok-larger.larger c.args.deriv.now c.log.new.deriv c.in_ok-larger.ensures.logged c.requires.bound c.if-size-ceiling.true

pub add_live-requires-clause-short : goal.add_live-requires-clause-short
add_live-requires-clause-short c =
    let few : pair_count c.args.deriv.now.lists ≤ 100000 = subst (λ (l : Lists). pair_count l ≤ 100000) (c.instance.ensures ∙ c.requires.same) (omega (arith, c.pairs-pairs.ensures.count, c.pairs-pairs.ensures.few)) in
    let same : c.log.new.deriv.lists ≡ c.args.deriv.now.lists = ap (λ (d : Derived). d.lists) c.in_ok-larger.ensures.logged.is in
    logged_short c.args.deriv.now.lists c.args.engine.now c.log.new.deriv c.args.pairs.now few c.requires.vars c.in_ok-larger.larger same c.in_ok-larger.ensures.larger c.requires.stable

pub add_live-requires-clause-broken : goal.add_live-requires-clause-broken
add_live-requires-clause-broken c =
    let few : pair_count c.args.deriv.now.lists ≤ 100000 = subst (λ (l : Lists). pair_count l ≤ 100000) (c.instance.ensures ∙ c.requires.same) (omega (arith, c.pairs-pairs.ensures.count, c.pairs-pairs.ensures.few)) in
    let same : c.log.new.deriv.lists ≡ c.args.deriv.now.lists = ap (λ (d : Derived). d.lists) c.in_ok-larger.ensures.logged.is in
    logged_broken c.args.deriv.now.lists c.args.engine.now c.log.new.deriv c.args.pairs.now few c.requires.vars c.in_ok-larger.larger same c.in_ok-larger.ensures.larger c.requires.stable c.requires.full c.requires.candidate
