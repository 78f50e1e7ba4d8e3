use mir.Val.{SFits, of_z, to_z}
use Rattle.std.proofs.Common.{◌≡◌, ℤ, pos, ◌-ℤ◌, Bool, List, refl, sym, ap, ap₂, ◌∙◌, subst}
use Rattle.std.specs.Int.{w128}
use Rattle.std.specs.List.{All}
use Rattle.std.proofs.lemmas.Int.{to_z-of_z}
use Rattle.std.proofs.lemmas.Result.{err_from_is_err_and}
use Rattle.hrt_base.specs.declared.literal.Term.{Term}
use Rattle.pb_rows.specs.Points.{IsCovered, point_of, value_at}
use Rattle.pb_rows.specs.Formula.{Formula}
use Rattle.opb_text.specs.Limits.{IsWithinLimits}
use Rattle.proof_rules.specs.States.{at_most_row}
use Rattle.proof_checker.proofs.Covering.{improvement-over, literals-covered}
use Rattle.proof_checker.proofs.Solving.{halts-broken, halts-not_full, halts-unknown, logs}
use Rattle.proof_checker.proofs.solution.log.Goals as goal

pub returns-in_err-check_literals-clause-refused : goal.returns-in_err-check_literals-clause-refused
returns-in_err-check_literals-clause-refused c =
    let p = err_from_is_err_and c.from_residual.result c.from_residual.ensures.1 in
    let f : Formula = record { vars = c.formula.inside.vars; objective = c.formula.inside.objective.items; rows = c.formula.inside.rows.items } in
    rw (p.1, p.2, ← c.formula.view_is) (halts-unknown f c.args.state.now.state c.args.literals.now c.in_err-check_literals.field-0.0 c.in_err-check_literals.ensures.refused)

pub named_point-requires : goal.named_point-requires
named_point-requires c = literals-covered c.formula.inside.vars c.args.literals.now c.requires.made c.in_ok-check_literals.ensures.ok

pub returns-in_err-point-clause-refused : goal.returns-in_err-point-clause-refused
returns-in_err-point-clause-refused c =
    let p = err_from_is_err_and c.from_residual-in_err-point.result c.from_residual-in_err-point.ensures.1 in
    let f : Formula = record { vars = c.formula.inside.vars; objective = c.formula.inside.objective.items; rows = c.formula.inside.rows.items } in
    rw (p.1, p.2, ← c.formula.view_is)
    (halts-not_full f c.args.state.now.state c.args.literals.now c.in_err-point.field-0.0 c.in_ok-check_literals.ensures.ok c.in_err-point.ensures.refused)

pub returns-in_err-check_rows-clause-refused : goal.returns-in_err-check_rows-clause-refused
returns-in_err-check_rows-clause-refused c =
    let p = err_from_is_err_and c.from_residual-in_err-check_rows.result c.from_residual-in_err-check_rows.ensures.1 in
    let f : Formula = record { vars = c.formula.inside.vars; objective = c.formula.inside.objective.items; rows = c.formula.inside.rows.items } in
    rw (p.1, p.2, ← c.formula.view_is)
    (halts-broken f c.args.state.now.state c.args.literals.now c.in_ok-point.point.items (subst IsWithinLimits (sym c.formula.view_is) c.requires.limits) c.in_ok-check_literals.ensures.ok c.in_ok-point.ensures.ok
    c.in_err-check_rows.field-0.0 c.deref-2.result.now c.deref.result.now c.deref-2.ensures.value c.deref.ensures.value c.in_err-check_rows.ensures.refused)

pub log-requires-clause-over : goal.log-requires-clause-over
log-requires-clause-over c =
    let objective : All (λ (t : Term). IsCovered c.args.formula.now.vars t.lit.var) c.deref-5.result.now =
    subst (All (λ (t : Term). IsCovered c.args.formula.now.vars t.lit.var)) (sym (c.deref-5.ensures.value ∙ ap (λ (f : Formula). f.objective) c.formula.view_is)) c.requires.limits.objective in
    rw (c.requires.vars, c.in_ok-row.ensures) (improvement-over c.args.formula.now.vars c.deref-5.result.now (to_z w128 (of_z w128 c.objective_value-value.result) -ℤ pos 1) objective)

pub returns-clause-ok : goal.returns-clause-ok
returns-clause-ok c =
    let fits : SFits w128 c.objective_value-value.result = record { sfits = c.objective_value-value.type_inv } in
    let v : ℤ = to_z w128 (of_z w128 c.objective_value-value.result) in
    let f : Formula = record { vars = c.formula.inside.vars; objective = c.formula.inside.objective.items; rows = c.formula.inside.rows.items } in
    let value : v ≡ value_at (point_of c.in_ok-point.point.items) f.objective =
    to_z-of_z w128 c.objective_value-value.result fits ∙ c.objective_value-value.ensures ∙ ap₂ (λ (bits : List Bool) (ts : List Term). value_at (point_of bits) ts) c.deref-4.ensures.value c.deref-3.ensures.value in
    rw (← c.formula.view_is)
    (logs f c.args.state.now.state c.args.literals.now c.in_ok-point.point.items (subst IsWithinLimits (sym c.formula.view_is) c.requires.limits) c.in_ok-check_literals.ensures.ok c.in_ok-point.ensures.ok
    c.args.state.now c.log.new.self v c.in_ok-row.row c.deref-2.result.now c.deref.result.now refl c.deref-2.ensures.value c.deref.ensures.value c.in_ok-check_rows.ensures.ok value
    (c.in_ok-row.ensures ∙ ap (λ (ts : List Term). at_most_row ts (v -ℤ pos 1)) c.deref-5.ensures.value) c.in_ok-log.ensures)
