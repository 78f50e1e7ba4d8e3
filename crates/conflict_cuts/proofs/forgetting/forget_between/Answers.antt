use Rattle.std.proofs.Common.{subst, sym}
use Rattle.conflict_cuts.specs.Forgetting.{AreBetween}
use Rattle.conflict_cuts.proofs.Forgets.{forget_live, forget_spare, forget_writable, forgets}
use Rattle.conflict_cuts.proofs.forgetting.forget_between.Goals as goal

pub forget-requires-clause-writable : goal.forget-requires-clause-writable
forget-requires-clause-writable c =
    forget_writable c.args.first c.args.last c.deref.result.now c.args.deriv.now c.if-last-first.false (subst (AreBetween c.args.first c.args.last) (sym c.deref.ensures.value) c.in_ok-ids.ensures) c.requires.can c.requires.few c.requires.next

pub forget-requires-clause-live : goal.forget-requires-clause-live
forget-requires-clause-live c =
    forget_live c.args.first c.args.last c.deref.result.now c.args.deriv.now c.if-last-first.false (subst (AreBetween c.args.first c.args.last) (sym c.deref.ensures.value) c.in_ok-ids.ensures) c.requires.can

pub forget-requires-clause-spare : goal.forget-requires-clause-spare
forget-requires-clause-spare c =
    forget_spare c.args.first c.args.last c.deref.result.now c.args.deriv.now c.if-last-first.false (subst (AreBetween c.args.first c.args.last) (sym c.deref.ensures.value) c.in_ok-ids.ensures) c.requires.can

pub returns-clause-forgets : goal.returns-clause-forgets
returns-clause-forgets c =
    let are = subst (AreBetween c.args.first c.args.last) (sym c.deref.ensures.value) c.in_ok-ids.ensures in
    forgets c.args.first c.args.last c.deref.result.now c.args.deriv.now c.if-last-first.false are c.requires.can c.forget.new.self
    (forget_writable c.args.first c.args.last c.deref.result.now c.args.deriv.now c.if-last-first.false are c.requires.can c.requires.few c.requires.next)
    c.requires.ready c.in_ok-forget.ensures.step c.in_ok-forget.ensures.valid (c.in_ok-forget.ensures.ready c.requires.ready)
