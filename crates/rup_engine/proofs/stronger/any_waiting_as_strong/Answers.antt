use Rattle.std.proofs.Common.{below_more, arith, None, sym, subst, refl}
use Rattle.std.proofs.lemmas.List.{get_or_read}
use Rattle.std.proofs.lemmas.Bool.{both_ways}
use Rattle.rup_engine.specs.Queue.{IsStrongPlace}
use Rattle.rup_engine.proofs.Waiting.{strong-among, strong-place}
use Rattle.rup_engine.proofs.stronger.any_waiting_as_strong.Goals as goal

pub returns-then-is_strong_place : goal.returns-then-is_strong_place
returns-then-is_strong_place c =
    let at = get_or_read c.args.places.now c.loop-place.place-index c.place-item.result c.loop-place-test.true c.place-item.is None in
    (λ _. strong-among c.args.places.now c.args.row.now c.loop-place.place-index (subst (IsStrongPlace c.args.row.now) at (c.is_strong_place.ensures.0 c.if-is_strong_place.true)), λ _. refl)

pub returns : goal.returns
returns c = (
  λ e. absurd (cc),
  λ h. let found = strong-place c.args.places.now c.args.row.now h.0 h.1.0 h.1.1 h.1.2 h.2 h.3 in absurd (c.loop-place.invariant found.0 (omega (arith, found.1, c.loop-place-test.false)) found.2),
)

pub loop-place-preserved : goal.loop-place-preserved
loop-place-preserved c =
    let at = get_or_read c.args.places.now c.loop-place.place-index c.place-item.result c.loop-place-test.true c.place-item.is None in
    below_more _ _ c.loop-place.invariant (λ strong. both_ways _ c.if-is_strong_place.false (c.is_strong_place.ensures.1 (subst (IsStrongPlace c.args.row.now) (sym at) strong)))
