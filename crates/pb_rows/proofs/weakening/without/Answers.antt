use Rattle.std.proofs.Common.{◌<◌, arith}
use Rattle.pb_rows.proofs.Weakenings.{among_le, keeps_below, keeps_last, passes_variable, takes_term}
use Rattle.pb_rows.proofs.weakening.without.Goals as goal
use Rattle.pb_rows.proofs.weakening.without.Goals.{in_default-next_variable-via-in-Some-2+else-v-t-2, in_default-next_variable-via-in_default-next_variable}

pub loop-t-preserved-then-v-t : goal.loop-t-preserved-then-v-t
loop-t-preserved-then-v-t c =
    passes_variable c.args.vars.now c.args.terms.now c.loop-t.kept.items c.loop-t.gone c.loop-t.vars_left.now c.loop-t.left.now _ _ _ _ c.in-Some.ensures c.in-Some-next_variable.ensures c.if-v-t.true c.loop-t.invariant

pub overflow_add-gone : goal.overflow_add-gone
overflow_add-gone c =
    let w = takes_term c.args.vars.now c.args.terms.now c.loop-t.kept.items c.loop-t.gone c.loop-t.vars_left.now c.loop-t.left.now _ _ _ _ c.in-Some.ensures c.in-Some-next_variable.ensures c.if-v-t-2.true c.loop-t.invariant in
    omega (arith, w.takes, c.weight_of-gone.ensures.value, among_le c.args.vars.now c.args.terms.now, c.requires.fits)

pub loop-t-preserved-then-v-t-2 : goal.loop-t-preserved-then-v-t-2
loop-t-preserved-then-v-t-2 c =
    rw c.weight_of-gone.ensures.value
    (takes_term c.args.vars.now c.args.terms.now c.loop-t.kept.items c.loop-t.gone c.loop-t.vars_left.now c.loop-t.left.now _ _ _ _ c.in-Some.ensures c.in-Some-next_variable.ensures c.if-v-t-2.true c.loop-t.invariant)

pub loop-t-preserved : goal.loop-t-preserved
loop-t-preserved c =
    rw c.in_ok-push-in_default-next_variable.ensures.items
    (elim c.in_default-next_variable.branch [
      | in_default-next_variable-via-in-Some-2+else-v-t-2 w ↦
          let above : c.in-Some.t.lit.var < w.in-Some-next_variable.v = omega (arith, w.if-v-t.false, w.if-v-t-2.false) in
          keeps_below c.args.vars.now c.args.terms.now c.loop-t.kept.items c.loop-t.gone c.loop-t.vars_left.now c.loop-t.left.now _ _ _ _ c.in-Some.ensures w.in-Some-next_variable.ensures above c.loop-t.invariant
      | in_default-next_variable-via-in_default-next_variable w ↦
          keeps_last c.args.vars.now c.args.terms.now c.loop-t.kept.items c.loop-t.gone c.loop-t.vars_left.now c.loop-t.left.now _ _ c.in-Some.ensures w.in_default-next_variable.ensures c.loop-t.invariant
    ])
