use Rattle.std.proofs.Common.{Some, None, ap, subst, sym, ◌∙◌}
use Rattle.row_arena.specs.Held.{Held, row_at}
use Rattle.pb_propagate.specs.Entries.{up_to}
use Rattle.pb_propagate.specs.Engines.{AreKeptBelow, EngineState, IsLowestOpen}
use Rattle.engine_tests.proofs.Below.{below-added, below-added-back}
use Rattle.engine_tests.proofs.driven.add_and_go_back.Goals as goal

pub returns-in_err-place : goal.returns-in_err-place
returns-in_err-place c = subst AreKeptBelow (sym c.in_err-place.ensures.err) c.requires

pub returns-in-Some : goal.returns-in-Some
returns-in-Some c =
    let h : Held = record { place = c.in_ok-place.place.0; row = c.args.row.now; tag = c.args.tag.0 } in
    let low = subst (λ (e : EngineState). IsLowestOpen e (row_at h.place e.held) (Some c.in-Some.level)) c.in_ok-place.ensures.ok c.in-Some.ensures in
    below-added-back c.args.engine.now c.back_to.new.self h c.in-Some.level c.in_ok-place.ensures.fresh c.requires low
    (ap (λ (e : EngineState). e.held) c.back_to.ensures ∙ ap (λ (e : EngineState). e.held) c.in_ok-place.ensures.ok)
    (ap (λ (e : EngineState). e.trail) c.back_to.ensures ∙ ap (λ (e : EngineState). up_to c.in-Some.level e.trail) c.in_ok-place.ensures.ok)

pub returns-in-None : goal.returns-in-None
returns-in-None c =
    let h : Held = record { place = c.in_ok-place.place.0; row = c.args.row.now; tag = c.args.tag.0 } in
    let low = subst (λ (e : EngineState). IsLowestOpen e (row_at h.place e.held) None) c.in_ok-place.ensures.ok c.in-None.ensures in
    subst AreKeptBelow (sym c.in_ok-place.ensures.ok) (below-added c.args.engine.now h c.in_ok-place.ensures.fresh c.requires low)
