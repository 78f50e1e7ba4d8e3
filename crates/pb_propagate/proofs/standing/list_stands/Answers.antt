use Rattle.std.proofs.Common.{◌<◌, ◌+◌, ◌∷◌, [], ℕ, List, ap, arith, get_or, length, length-append, subst, sym, take}
use Rattle.std.proofs.lemmas.List.{take_all}
use Rattle.hrt_base.specs.declared.literal.Term.{Term}
use Rattle.pb_rows.specs.Terms.{IsPositive}
use Rattle.pb_rows.proofs.Order.{positive_at}
use Rattle.level_sweep.specs.declared.sweeping.Standing.{Standing}
use Rattle.level_sweep.specs.Rows.{StandFor, StandsFor}
use Rattle.level_sweep.proofs.Rows.{stand-more}
use Rattle.row_arena.specs.Held.{row_at}
use Rattle.pb_propagate.specs.Entries.{set_of, up_to}
use Rattle.pb_propagate.proofs.standing.list_stands.Goals as goal

pub standing_of-requires-clause-positive : goal.standing_of-requires-clause-positive
standing_of-requires-clause-positive c =
    subst (λ (t : Term). IsPositive t.coef) (sym c.term.ensures) (positive_at _ 0 c.loop-k.k c.term.result c.len-k-end.ensures.kept.normal.rising (omega (arith, c.loop-k-test.true, c.len-k-end.ensures.value)))

pub loop-k-init : goal.loop-k-init
loop-k-init c = (
  omega (arith, c.requires.room, c.clear.ensures.capacity),
  omega (arith, ap length c.clear.ensures.items),
  subst (λ (xs : List Standing). StandFor (λ k. set_of (up_to k c.args.trail.now.entries)) [] xs) (sym c.clear.ensures.items) tt,
)

pub loop-k-preserved : goal.loop-k-preserved
loop-k-preserved c =
    let ts = (row_at c.args.place.0 c.args.arena.now.held).terms in
    let at = λ (k : ℕ). set_of (up_to k c.args.trail.now.entries) in
    let within : c.loop-k.k < length ts = omega (arith, c.loop-k-test.true, c.len-k-end.ensures.value) in
    let one : StandsFor at (get_or ts c.loop-k.k c.term.result) c.standing_of.result = subst (λ (t : Term). StandsFor at t c.standing_of.result) c.term.ensures c.standing_of.ensures in (
      omega (arith, c.loop-k.invariant.0, c.push_reserved.ensures.capacity),
      omega (arith, c.loop-k.invariant.1, ap length c.push_reserved.ensures.items, length-append c.loop-k.stands.items (c.standing_of.result ∷ [])),
      subst (λ (xs : List Standing). StandFor at (take (c.loop-k.k + 1) ts) xs) (sym c.push_reserved.ensures.items) (stand-more at ts c.loop-k.k c.term.result c.loop-k.stands.items c.standing_of.result within c.loop-k.invariant.2 one),
    )

pub returns-clause-stand : goal.returns-clause-stand
returns-clause-stand c =
    let ts = (row_at c.args.place.0 c.args.arena.now.held).terms in
    let all = take_all c.loop-k.k ts (omega (arith, c.loop-k-test.false, c.len-k-end.ensures.value)) in
    subst (λ (xs : List Term). StandFor (λ k. set_of (up_to k c.args.trail.now.entries)) xs c.loop-k.stands.items) all c.loop-k.invariant.2
