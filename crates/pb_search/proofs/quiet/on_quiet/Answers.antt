use Rattle.std.proofs.Common.{ap, arith}
use Rattle.derivation.specs.Derived.{Derived}
use Rattle.pb_propagate.specs.Engines.{EngineState}
use Rattle.pb_search.specs.declared.moves.Move.{Move}
use Rattle.pb_search.specs.Loop.{IsAtRest, LeadsTo}
use Rattle.pb_search.specs.Tried.{TriesCandidate}
use Rattle.pb_search.proofs.Leading.{decided_leads, if_ok, tried_leads}
use Rattle.pb_search.proofs.quiet.on_quiet.Goals as goal

pub returns-in_default-clause-leads : goal.returns-in_default-clause-leads
returns-in_default-clause-leads c =
    let limits = c.args.limits.now in
    let before = c.args.found.now.items in
    let after = c.try_candidate.new.found.items in
    let e = c.args.engine.now in
    let new = c.try_candidate.new.engine in
    let d = c.args.deriv.now in
    let made = c.try_candidate.new.deriv in
    if_ok c.try_candidate.result (TriesCandidate limits.budget limits.ceiling limits.bound_row before after e new d made)
    (λ (move : Move). (first : Derived) → IsAtRest limits before first e d → LeadsTo limits before after first e new d made move)
    (λ move t. tried_leads limits before after e new d made move c.level-level.ensures.order t) c.try_candidate.ensures.tries

pub returns-clause-leads : goal.returns-clause-leads
returns-clause-leads c =
    decided_leads c.args.limits.now c.args.found.now.items c.in-Some.lit c.args.engine.now c.decide.new.self c.args.deriv.now c.level-level.ensures.order
    (record { vars = ap (λ (e : EngineState). e.vars) c.decide.ensures; held = ap (λ (e : EngineState). e.held) c.decide.ensures; trail = ap (λ (e : EngineState). e.trail) c.decide.ensures })
    (omega (arith, c.free_count-free.ensures)) c.requires.joined.agree.vars
