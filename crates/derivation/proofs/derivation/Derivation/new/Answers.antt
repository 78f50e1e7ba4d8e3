use Rattle.std.proofs.Common.{◌≡◌, ◌<◌, ◌^◌, ℕ, ◌+◌, length, ap, arith, ◌∙◌}
use Rattle.stability_model.specs.Model.{rows}
use Rattle.derivation.proofs.InOrder.{order_first}
use Rattle.derivation.proofs.Starts.{first_lawful, first_ready, first_stands}
use Rattle.derivation.proofs.derivation.Derivation.new.Goals as goal

pub invariant_of-result : goal.invariant_of-result
invariant_of-result c = order_first (rows c.args.model.now) c.from.result c.in_ok-rows.rows c.in_ok-rows.ensures (c.from.ensures ∙ c.row_count.ensures.count)

pub returns-clause-valid : goal.returns-clause-valid
returns-clause-valid c =
    let next : c.from.result + 1 ≡ length (rows c.args.model.now) + 1 = ap (λ (n : ℕ). n + 1) (c.from.ensures ∙ c.row_count.ensures.count) in
    let few : length (rows c.args.model.now) < 2 ^ 32 = omega (arith, c.row_count.ensures.count, c.row_count.type_inv) in
    first_stands c.args.model.now c.instance.result.now c.in_ok-rows.rows (c.from.result + 1) c.in_ok-kept.kept.items c.new.result.items c.in_ok-pending.pending.items c.instance.ensures c.in_ok-rows.ensures next c.in_ok-kept.ensures c.new.ensures.items c.in_ok-pending.ensures few

pub returns-clause-ready : goal.returns-clause-ready
returns-clause-ready c =
    let next : c.from.result + 1 ≡ length (rows c.args.model.now) + 1 = ap (λ (n : ℕ). n + 1) (c.from.ensures ∙ c.row_count.ensures.count) in
    let few : length (rows c.args.model.now) < 2 ^ 32 = omega (arith, c.row_count.ensures.count, c.row_count.type_inv) in
    first_ready c.args.model.now c.instance.result.now c.in_ok-rows.rows (c.from.result + 1) c.in_ok-kept.kept.items c.new.result.items c.in_ok-pending.pending.items c.instance.ensures c.in_ok-rows.ensures next c.in_ok-kept.ensures c.new.ensures.items c.in_ok-pending.ensures few

pub returns-clause-traced : goal.returns-clause-traced
returns-clause-traced c =
    let next : c.from.result + 1 ≡ length (rows c.args.model.now) + 1 = ap (λ (n : ℕ). n + 1) (c.from.ensures ∙ c.row_count.ensures.count) in
    let few : length (rows c.args.model.now) < 2 ^ 32 = omega (arith, c.row_count.ensures.count, c.row_count.type_inv) in
    first_lawful c.args.model.now c.instance.result.now c.in_ok-rows.rows (c.from.result + 1) c.in_ok-kept.kept.items c.new.result.items c.in_ok-pending.pending.items c.instance.ensures c.in_ok-rows.ensures next c.in_ok-kept.ensures c.new.ensures.items c.in_ok-pending.ensures few
