use Rattle.std.proofs.Common.{List, sym, subst}
use Rattle.hrt_base.specs.declared.numbered.PairNo.{PairNo}
use Rattle.pb_search.specs.declared.limits.Limits.{Limits}
use Rattle.pb_search.specs.Loop.{IsAtStep}
use Rattle.pb_search.proofs.Starting.{can_start}
use Rattle.pb_search.proofs.looping.search.Goals as goal

pub search_on-requires-clause-starts : goal.search_on-requires-clause-starts
search_on-requires-clause-starts g c =
    let limits : Limits = record { ceiling = c.args.ceiling; bound_row = c.args.bound_row; budget = c.args.budget } in
    let all = rw c.new-found.ensures.items at c.in_ok-extend_from_slice.ensures.items in
    subst (λ (pairs : List PairNo). IsAtStep limits pairs c.args.deriv.now c.in_ok-engine.engine c.args.deriv.now) (sym {A = List PairNo} all)
    (can_start limits c.args.gone.now c.args.improve_row c.args.first.now c.in_ok-engine.engine c.args.deriv.now c.requires.can c.in_ok-engine.ensures.agree c.in_ok-engine.ensures.start)
