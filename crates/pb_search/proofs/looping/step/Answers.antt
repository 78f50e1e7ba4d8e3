use Rattle.std.proofs.Common.{List}
use Rattle.hrt_base.specs.declared.numbered.PairNo.{PairNo}
use Rattle.derivation.specs.Derived.{Derived}
use Rattle.pb_search.specs.declared.moves.Move.{Move}
use Rattle.pb_search.specs.Loop.{Follows, IsAtConflict, IsAtRest, IsAtStep, LeadsTo}
use Rattle.pb_search.proofs.Leading.{conflict_leads, if_ok, quiet_leads}
use Rattle.pb_search.proofs.looping.step.Goals as goal

pub returns-in-Conflict-clause-leads : goal.returns-in-Conflict-clause-leads
returns-in-Conflict-clause-leads g c =
    let limits = c.args.limits.now in
    let pairs = c.args.found.now.items in
    let e = c.args.engine.now in
    let met = c.propagate.new.engine in
    let new = c.on_conflict.new.engine in
    let d = c.args.deriv.now in
    let made = c.on_conflict.new.deriv in
    if_ok c.on_conflict.result (λ (move : Move). (first : Derived) (ps : List PairNo) → IsAtConflict limits ps first met d → Follows limits ps first d new made move)
    (λ (move : Move). (first : Derived) → IsAtStep limits pairs first e d → LeadsTo limits pairs pairs first e new d made move) (λ move h. conflict_leads limits pairs c.in-Conflict.place.0 e met new d made move c.in-Conflict.ensures.comes h) c.on_conflict.ensures.follows

pub returns-in-Quiet-clause-leads : goal.returns-in-Quiet-clause-leads
returns-in-Quiet-clause-leads g c =
    let limits = c.args.limits.now in
    let before = c.args.found.now.items in
    let after = c.on_quiet.new.found.items in
    let e = c.args.engine.now in
    let calm = c.propagate.new.engine in
    let new = c.on_quiet.new.engine in
    let d = c.args.deriv.now in
    let made = c.on_quiet.new.deriv in
    if_ok c.on_quiet.result (λ (move : Move). (first : Derived) → IsAtRest limits before first calm d → LeadsTo limits before after first calm new d made move)
    (λ (move : Move). (first : Derived) → IsAtStep limits before first e d → LeadsTo limits before after first e new d made move) (λ move h. quiet_leads limits before after e calm new d made move c.in-Quiet.ensures.comes h) c.on_quiet.ensures.leads
