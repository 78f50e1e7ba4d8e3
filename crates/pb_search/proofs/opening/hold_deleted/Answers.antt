use Rattle.std.proofs.Common.{arith, ap, ◌∙◌, ◌≤◌, ◌≡◌, length, ◌+◌}
use Rattle.rank_tables.specs.Instance.{pair_count}
use Rattle.pb_search.proofs.Openings.{next_units, all_units}
use Rattle.pb_search.proofs.opening.hold_deleted.Goals as goal

pub hold_unit-requires-clause-can : goal.hold_unit-requires-clause-can
hold_unit-requires-clause-can c id e = c.requires.can c.loop-p.p id e

pub loop-p-preserved : goal.loop-p-preserved
loop-p-preserved c =
    let last : c.loop-p.p ≤ length c.args.gone.now = omega (arith, c.loop-p-test.true, c.pairs-p-end.ensures.count, c.requires.pairs, ap pair_count (c.instance.ensures ∙ c.requires.model)) in (
      c.in_ok-hold_unit.ensures.vars ∙ c.loop-p.invariant.0,
      λ numbers has. next_units c.args.deriv.now c.loop-p.engine c.hold_unit.new.engine numbers c.loop-p.p c.args.gone.now c.loop-p.auto.p last (c.loop-p.invariant.1 numbers has) c.in_ok-hold_unit.ensures.held,
    )

pub returns-clause-held : goal.returns-clause-held
returns-clause-held c numbers has =
    let end : c.loop-p.p ≡ length c.args.gone.now + 1 = omega (arith, c.loop-p-test.false, c.loop-p.auto.p-end (omega arith), c.pairs-p-end.ensures.count, c.requires.pairs, ap pair_count (c.instance.ensures ∙ c.requires.model)) in
    all_units c.args.deriv.now c.loop-p.engine numbers c.loop-p.p c.args.gone.now end (c.loop-p.invariant.1 numbers has)
