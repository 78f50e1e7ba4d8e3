use Rattle.std.proofs.Common.{◌∙◌, ap, sym, subst}
use Rattle.pb_rows.specs.Rows.{IsWellFormedRow, weaken_all}
use Rattle.pb_rows.proofs.Changes.{row_of}
use Rattle.pb_rows.proofs.Weakenings.{made_at_once, weaken_all-normal, weaken_all-sound}
use Rattle.pb_rows.proofs.row.Row.weaken_all.Goals as goal

pub invariant_of-self : goal.invariant_of-self
invariant_of-self c =
    let before = row_of c.self.inside.terms.items c.self.inside.degree in
    let made = made_at_once c.args.vars.now before c.deref.result.now c.in-Ok.weakened c.saturating_sub-self-inside.result c.deref.ensures.value c.in-Ok.ensures c.saturating_sub-self-inside.ensures in
    subst IsWellFormedRow (sym made) (weaken_all-normal c.args.vars.now before c.self.invariant)

pub returns-in-Ok-clause-is : goal.returns-in-Ok-clause-is
returns-in-Ok-clause-is c =
    let before = row_of c.self.inside.terms.items c.self.inside.degree in
    let made = made_at_once c.args.vars.now before c.deref.result.now c.in-Ok.weakened c.saturating_sub-self-inside.result c.deref.ensures.value c.in-Ok.ensures c.saturating_sub-self-inside.ensures in
    made ∙ ap (weaken_all c.args.vars.now) c.self.view_is

pub returns-in-Ok-clause-sound : goal.returns-in-Ok-clause-sound
returns-in-Ok-clause-sound c = weaken_all-sound c.args.vars.now c.args.self.now _ (returns-in-Ok-clause-is c)
