use Rattle.std.proofs.Common.{◌≡◌, ◌<◌, [], arith, sym}
use Rattle.pb_rows.proofs.Heads.{lost_all_le, merges_both, merges_first, merges_last, merges_later}
use Rattle.pb_rows.proofs.join.loss.Goals as goal

pub loop-u-preserved-then-t-u : goal.loop-u-preserved-then-t-u
loop-u-preserved-then-t-u c =
    (_, merges_first c.args.a.now c.args.b.now c.loop-u.invariant.0 c.loop-u.lost c.loop-u.left.now c.loop-u.right.now _ _ _ _ c.in-Some-next.ensures c.in-Some.ensures c.if-t-u.true c.loop-u.invariant.1)

pub overflow_add-lost : goal.overflow_add-lost
overflow_add-lost c =
    let m = merges_both c.args.a.now c.args.b.now c.loop-u.invariant.0 c.loop-u.lost c.loop-u.left.now c.loop-u.right.now _ _ _ _ c.in-Some-next.ensures c.in-Some.ensures (sym c.if-t-u-2.true) c.loop-u.invariant.1 in
    omega (arith, m.losses, c.lost_between-lost.ensures, lost_all_le c.args.a.now c.args.b.now, c.requires.b_fits)

pub loop-u-preserved-then-t-u-2 : goal.loop-u-preserved-then-t-u-2
loop-u-preserved-then-t-u-2 c =
    rw c.lost_between-lost.ensures
    (_, merges_both c.args.a.now c.args.b.now c.loop-u.invariant.0 c.loop-u.lost c.loop-u.left.now c.loop-u.right.now _ _ _ _ c.in-Some-next.ensures c.in-Some.ensures (sym c.if-t-u-2.true) c.loop-u.invariant.1)

pub loop-u-preserved-in_default-next : goal.loop-u-preserved-in_default-next
loop-u-preserved-in_default-next c =
    let later : c.in-Some.u.lit.var < c.in-Some-next.t.lit.var = omega (arith, c.if-t-u.false, c.if-t-u-2.false) in
    (_, merges_later c.args.a.now c.args.b.now c.loop-u.invariant.0 c.loop-u.lost c.loop-u.left.now c.loop-u.right.now _ _ _ _ c.in-Some-next.ensures c.in-Some.ensures later c.loop-u.invariant.1)

pub loop-u-preserved : goal.loop-u-preserved
loop-u-preserved c =
    let none : c.loop-u.left.now ≡ [] = rw c.in_default-next.is at c.next-in-Some.ensures in
    (_, merges_last c.args.a.now c.args.b.now c.loop-u.invariant.0 c.loop-u.lost c.loop-u.left.now c.loop-u.right.now _ _ none c.in-Some.ensures c.loop-u.invariant.1)
