use Rattle.std.proofs.Common.{refl}
use Rattle.pb_rows.proofs.Changes.{opposite_holds}
use Rattle.pb_rows.proofs.row.Row.holds.Goals as goal

pub returns-clause-value : goal.returns-clause-value
returns-clause-value c = rw (c.true_total.ensures, c.deref.ensures.value, ← c.self.view_is) refl

pub returns-clause-opposite : goal.returns-clause-opposite
returns-clause-opposite c p = opposite_holds p c.args.self.now
