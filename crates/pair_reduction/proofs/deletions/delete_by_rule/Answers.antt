use Rattle.std.proofs.Common.{◌≡◌, ◌+◌, ap, arith}
use Rattle.derivation.specs.Deletions.{is_deleted, unit_row_no}
use Rattle.derivation.specs.Derived.{Derived}
use Rattle.pair_reduction.proofs.Deleting.{deletes_by_rule}
use Rattle.pair_reduction.proofs.Reducing.{absent_from, is_one_more, reduces_one}
use Rattle.pair_reduction.proofs.Serving.{shown_implies}
use Rattle.pair_reduction.proofs.TwoSides.{rule_shown}
use Rattle.pair_reduction.proofs.deletions.delete_by_rule.Goals as goal

pub delete-requires-clause-implied : goal.delete-requires-clause-implied
delete-requires-clause-implied c = shown_implies c.args.side c.args.model.now c.args.deriv.now c.args.gone.now c.args.w.0 c.requires.can c.requires.w c.requires.rule c.requires.served

pub returns-clause-reduces : goal.returns-clause-reduces
returns-clause-reduces c =
    reduces_one c.args.model.now c.args.deriv.now c.delete.new.deriv c.args.gone.now c.delete.new.gone c.args.w.0 c.requires.can c.requires.w (absent_from (unit_row_no c.args.gone.now c.args.w.0) c.requires.absent)
    (rule_shown c.args.side c.args.model.now (is_deleted c.args.gone.now) c.args.w.0 c.requires.rule)
    (deletes_by_rule c.args.side c.args.model.now c.args.deriv.now c.delete.new.deriv c.args.gone.now c.delete.new.gone c.args.w.0 c.requires.can c.requires.w c.requires.absent c.requires.rule c.next-next.ensures.in_order c.in_ok-delete.ensures.adds c.in_ok-delete.ensures.made
    c.in_ok-delete.ensures.valid c.in_ok-delete.ensures.marked)
    (let n : c.delete.new.deriv.state.next ≡ c.args.deriv.now.state.next + 1 = ap (λ (d : Derived). d.state.next) c.in_ok-delete.ensures.made in omega (arith, n))

pub returns-clause-more : goal.returns-clause-more
returns-clause-more c =
    is_one_more c.args.deriv.now c.delete.new.deriv c.args.gone.now c.delete.new.gone c.args.w.0 c.requires.w.0 (omega (arith, c.requires.w.1, c.requires.can.pairs)) c.requires.absent
    (deletes_by_rule c.args.side c.args.model.now c.args.deriv.now c.delete.new.deriv c.args.gone.now c.delete.new.gone c.args.w.0 c.requires.can c.requires.w c.requires.absent c.requires.rule c.next-next.ensures.in_order c.in_ok-delete.ensures.adds c.in_ok-delete.ensures.made
    c.in_ok-delete.ensures.valid c.in_ok-delete.ensures.marked)
