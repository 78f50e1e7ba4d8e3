use Rattle.std.proofs.Common.{sym, subst, rules, arith, ◌∙◌, ap₂}
use Rattle.std.proofs.lemmas.Grind.{common_steps}
use Rattle.pb_rows.specs.Terms.{PlainRow}
use Rattle.pb_rows.specs.Rows.{Fits, IsWellFormedRow, add}
use Rattle.pb_rows.specs.Joined.{lost_all, put_all}
use Rattle.pb_rows.proofs.Changes.{row_of}
use Rattle.pb_rows.proofs.Forms.{add_exact, add_sound, add_symmetric, made_sum, merged_normal}
use Rattle.pb_rows.proofs.row.Row.add.Goals as goal

pub returns-in-Ok-clause-ok : goal.returns-in-Ok-clause-ok
returns-in-Ok-clause-ok c =
    made_sum _ c.args.self.now c.args.other.now (subst IsWellFormedRow c.self.view_is c.self.invariant) (subst IsWellFormedRow c.other.view_is c.other.invariant) (grind (arith, common_steps))

pub returns-in-Ok-clause-sound : goal.returns-in-Ok-clause-sound
returns-in-Ok-clause-sound c =
    add_sound c.args.self.now c.args.other.now _ (subst IsWellFormedRow c.self.view_is c.self.invariant) (subst IsWellFormedRow c.other.view_is c.other.invariant) (returns-in-Ok-clause-ok c)

pub returns-in-Ok-clause-exact : goal.returns-in-Ok-clause-exact
returns-in-Ok-clause-exact c =
    add_exact c.args.self.now c.args.other.now _ (subst IsWellFormedRow c.self.view_is c.self.invariant) (subst IsWellFormedRow c.other.view_is c.other.invariant) (returns-in-Ok-clause-ok c)

pub returns-in-Ok-clause-symmetric : goal.returns-in-Ok-clause-symmetric
returns-in-Ok-clause-symmetric c =
    add_symmetric c.args.self.now c.args.other.now _ (subst IsWellFormedRow c.self.view_is c.self.invariant) (subst IsWellFormedRow c.other.view_is c.other.invariant) (returns-in-Ok-clause-ok c)

pub invariant_of-self : goal.invariant_of-self
invariant_of-self c =
    let a : PlainRow = row_of c.self.inside.terms.items c.self.inside.degree in
    let b : PlainRow = row_of c.other.inside.terms.items c.other.inside.degree in
    let f : Fits (add a b) =
    subst (λ (r : PlainRow). Fits (add r b)) (sym c.self.view_is)
    (subst (λ (r : PlainRow). Fits (add c.args.self.now r)) (sym c.other.view_is) (c.if-not-can_add.ensures.0 (search rules))) in
    rw (c.in-Ok.ensures.terms ∙ ap₂ put_all c.deref.ensures.value c.deref-2.ensures.value, c.saturating_sub-self-inside.ensures, c.in-Ok.ensures.lost ∙ ap₂ lost_all c.deref.ensures.value c.deref-2.ensures.value)
    (merged_normal a b c.self.invariant c.other.invariant f)
