use Rattle.std.proofs.Common.{◌≡◌, ◌<◌, ◌-◌, List, length, get_or, subst}
use Rattle.pb_rows.specs.Terms.{PlainRow}
use Rattle.proof_steps.proofs.Waiting.{weakens_last}
use Rattle.proof_steps.proofs.stack.Stack.weaken.Goals as goal

pub returns : goal.returns
returns c =
    let row = c.in-Some.row.now in
    let read = c.deref.ensures.value in
    let long = subst (λ (rows : List PlainRow). 0 < length rows) read c.in-Some.ensures.item.3.0 in
    let last = subst (λ (rows : List PlainRow). row ≡ get_or rows (length rows - 1) row) read c.in-Some.ensures.item.1 in
    weakens_last c.self.inside.waiting.items c.push.new.self.items c.args.var row c.self.inside.rows.items c.args.self.now c.self.view_is long last c.terms-terms.ensures.normal c.in_ok-push.ensures.items
