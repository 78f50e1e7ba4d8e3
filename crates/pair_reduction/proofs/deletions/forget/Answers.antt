use Rattle.std.proofs.Common.{length, refl, sym, ◌∙◌}
use Rattle.std.proofs.lemmas.Bool.{eqb-true}
use Rattle.derivation.proofs.Writable.{del_writable}
use Rattle.pair_reduction.proofs.Forgets.{forget_asks, forgets_all, forgets_none, numbers_within, some_there}
use Rattle.pair_reduction.proofs.deletions.forget.Goals as goal

pub returns-then-is_empty-clause-forgets : goal.returns-then-is_empty-clause-forgets
returns-then-is_empty-clause-forgets c = forgets_none c.args.ids.now c.args.deriv.now _ (eqb-true (length c.args.ids.now) 0 (sym c.is_empty.ensures ∙ c.if-is_empty.true)) refl

pub forget-requires-clause-writable : goal.forget-requires-clause-writable
forget-requires-clause-writable c =
    del_writable c.args.ids.now (some_there (length c.args.ids.now) (length c.args.ids.now) refl (sym c.is_empty.ensures ∙ c.if-is_empty.false)) c.requires.few
    (numbers_within c.args.ids.now c.args.deriv.now c.requires.can c.next-last.ensures.in_order c.requires.next)

pub forget-requires-clause-live : goal.forget-requires-clause-live
forget-requires-clause-live c = forget_asks c.args.ids.now c.args.deriv.now c.requires.can

pub forget-requires-clause-open : goal.forget-requires-clause-open
forget-requires-clause-open c = c.requires.ready.unconcluded

pub forget-requires-clause-spare : goal.forget-requires-clause-spare
forget-requires-clause-spare c = c.requires.can.spare

pub returns-clause-forgets : goal.returns-clause-forgets
returns-clause-forgets c =
    forgets_all c.args.ids.now c.args.deriv.now c.forget.new.self c.requires.ready c.requires.can (del_writable c.args.ids.now (some_there (length c.args.ids.now) (length c.args.ids.now) refl (sym c.is_empty.ensures ∙ c.if-is_empty.false)) c.requires.few (numbers_within c.args.ids.now c.args.deriv.now c.requires.can c.next-last.ensures.in_order c.requires.next)) c.in_ok-forget.ensures.step c.in_ok-forget.ensures.valid
