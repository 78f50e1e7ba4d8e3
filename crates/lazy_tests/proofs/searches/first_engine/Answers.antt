use Rattle.std.proofs.Common.{◌≡◌, ◌-◌, ℕ, ap, sym, subst, arith}
use Rattle.derivation.specs.Ready.{IsReady}
use Rattle.pb_propagate.specs.Engines.{EngineState}
use Rattle.agreement.specs.Agreement.{Agree}
use Rattle.lazy_tests.proofs.Starting.{HoldsBelow, all_held, next_held, row_over, row_short}
use Rattle.lazy_tests.proofs.searches.first_engine.Goals as goal

pub add_row-requires-clause-covered : goal.add_row-requires-clause-covered
add_row-requires-clause-covered c = row_over c.args.model.now c.loop-k.engine.vars (c.loop-k.k - 1) c.in_ok-row.row c.row_count-rows.ensures.short c.in_ok-row.ensures c.loop-k.invariant.vars

pub add_row-requires-clause-short : goal.add_row-requires-clause-short
add_row-requires-clause-short c = (row_short c.args.model.now (c.loop-k.k - 1) c.in_ok-row.row c.row_count-rows.ensures.short c.in_ok-row.ensures).short

pub loop-k-preserved : goal.loop-k-preserved
loop-k-preserved c =
    next_held c.args.model.now c.loop-k.k c.in_ok-add_row.field-0.0 c.from.result c.in_ok-row.row c.loop-k.engine c.add_row.new.self c.loop-k.invariant
    (omega (arith, c.loop-k-test.true, c.pair_row-k-end.ensures.number)) (subst IsReady c.requires.first c.requires.ready) c.row_count-rows.ensures.short c.in_ok-row.ensures
    (ap (λ (s : EngineState). s.vars) c.in_ok-add_row.ensures.ok) c.from.ensures (ap (λ (s : EngineState). s.held) c.in_ok-add_row.ensures.ok)

pub returns : goal.returns
returns c =
    subst (Agree c.loop-k.engine) (sym c.requires.first)
    (all_held c.args.model.now c.loop-k.engine (subst (λ (n : ℕ). HoldsBelow c.args.model.now n c.loop-k.engine) (omega (arith, c.loop-k-test.false, c.loop-k.auto.k, c.pair_row-k-end.ensures.number)) c.loop-k.invariant))
