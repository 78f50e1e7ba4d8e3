use Rattle.std.proofs.Common.{◌<◌, ℕ, ◌-◌, length, sym, ap, ◌∙◌, subst, take, arith}
use Rattle.std.specs.List.{All}
use Rattle.std.proofs.lemmas.List.Elements.{All-take}
use Rattle.pair_reduction.proofs.Forgets.{some_there}
use Rattle.pair_reduction.proofs.Stacked.{not_waiting, stacked_front}
use Rattle.pair_reduction.proofs.waiting.Waiting.first.Goals as goal

pub stack-preserved : goal.stack-preserved
stack-preserved c =
    let some : 0 < length c.stack.self-inside.stack.items = some_there c.stack.self-inside.stack.len (length c.stack.self-inside.stack.items) c.stack.self-inside.stack.ok.0 (sym c.is_empty.ensures ∙ c.stack-test.true) in
    let here : c.index-n.result.now < length c.stack.self-inside.flags.items =
    subst (λ (n : ℕ). n < length c.stack.self-inside.flags.items) (sym c.index-n.ensures) (c.stack.invariant.within (c.len.result - 1) c.index-n.result.now (omega (arith, some, c.len.ensures, c.stack.self-inside.stack.ok))) in
    record {
      same = c.stack.invariant.same;
      stacked = stacked_front c.stack.self-inside.flags.items c.stack.self-inside.stack.items c.pop.new.self.items c.index-n.result.now some (c.pop.ensures.rest ∙ ap (λ (n : ℕ). take (n - 1) c.stack.self-inside.stack.items) c.stack.self-inside.stack.ok.0)
          (not_waiting c.stack.self-inside.flags.items c.stack.self-inside.stack.items c.len.result c.index-n.result.now c.index.result.now (omega (arith, c.len.ensures, c.stack.self-inside.stack.ok)) c.index-n.ensures c.index.ensures here c.if-index.false)
          c.stack.invariant.stacked;
      within = subst (All (λ n. n < length c.stack.self-inside.flags.items)) (sym c.pop.ensures.rest) (All-take (λ n. n < length c.stack.self-inside.flags.items) (c.stack.self-inside.stack.len - 1) c.stack.self-inside.stack.items c.stack.invariant.within);
    }
