use Rattle.std.proofs.Common.{◌≡◌, ℕ, refl, subst, arith}
use Rattle.conflict_cuts.specs.Forgetting.{AreBetween}
use Rattle.conflict_cuts.proofs.Between.{between_none, between_push}
use Rattle.conflict_cuts.proofs.forgetting.numbers_between.Goals as goal

pub loop-n-init : goal.loop-n-init
loop-n-init c = between_none c.args.first c.new-ids.result.items c.new-ids.ensures.items

pub loop-n-preserved : goal.loop-n-preserved
loop-n-preserved c = between_push c.args.first c.loop-n.n c.loop-n.ids.items c.push.new.self.items (record { 0 = c.loop-n.n }) c.loop-n.auto.n refl c.in_ok-push.ensures.items c.loop-n.invariant

pub returns : goal.returns
returns c =
    let end : c.loop-n.n ≡ c.args.last = omega (arith, c.loop-n-test.false, c.loop-n.auto.n-end c.requires) in
    subst (λ (n : ℕ). AreBetween c.args.first n c.loop-n.ids.items) end c.loop-n.invariant
