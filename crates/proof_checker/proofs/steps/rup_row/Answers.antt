use mir.Val.{of_z, to_z}
use Rattle.std.proofs.Common.{◌≡◌, ◌≤◌, ◌<◌, ◌^◌, ℤ, List, true, sym, ap, ap₂, ◌∙◌, subst}
use Rattle.std.specs.Prelude.{Ok}
use Rattle.std.specs.Int.{w128}
use Rattle.std.proofs.lemmas.Result.{err_from_is_err_and}
use Rattle.hrt_base.specs.declared.literal.Term.{Term}
use Rattle.pb_rows.specs.Terms.{Written}
use Rattle.pb_rows.specs.Normal.{all_sizes, normal_form}
use Rattle.row_text.specs.Rows.{is_small_row}
use Rattle.proof_checker.specs.Tests.{known_terms}
use Rattle.proof_checker.proofs.Halting.{answers-as}
use Rattle.proof_checker.proofs.Sizes.{right-passed}
use Rattle.proof_checker.proofs.Following.{rup-made, rup-too_big, rup-unknown}
use Rattle.proof_checker.proofs.steps.rup_row.Goals as goal

pub returns-in_err-check_terms-clause-refused : goal.returns-in_err-check_terms-clause-refused
returns-in_err-check_terms-clause-refused c =
    let p = err_from_is_err_and c.from_residual.result c.from_residual.ensures.1 in
    let w : Written = record { terms = c.written.inside.terms.items; at_least = c.written.inside.at_least } in
    let small : is_small_row w ≡ true = subst (λ (v : Written). is_small_row v ≡ true) (sym c.written.view_is) c.requires in
    rw (p.1, p.2, ← c.written.view_is)
    (answers-as (known_terms c.args.vars c.deref.result.now) _ c.in_err-check_terms.field-0.0
    (λ e h. rup-unknown c.args.vars w small e (ap (known_terms c.args.vars) (sym c.deref.ensures.value) ∙ h)) c.in_err-check_terms.ensures.refused)

pub returns-in-Ok-clause-ok : goal.returns-in-Ok-clause-ok
returns-in-Ok-clause-ok c =
    let w : Written = record { terms = c.written.inside.terms.items; at_least = c.written.inside.at_least } in
    let small : is_small_row w ≡ true = subst (λ (v : Written). is_small_row v ≡ true) (sym c.written.view_is) c.requires in
    let right : to_z w128 (of_z w128 w.at_least) ≡ w.at_least = right-passed w small in
    let known : known_terms c.args.vars w.terms ≡ Ok tt = ap (known_terms c.args.vars) (sym c.deref.ensures.value) ∙ c.in_ok-check_terms.ensures.ok in
    let fits : all_sizes w.terms w.at_least ≤ 2 ^ 120 = subst (λ (ts : List Term). all_sizes ts w.at_least ≤ 2 ^ 120) c.deref-2.ensures.value (subst (λ (z : ℤ). all_sizes c.deref-2.result.now z ≤ 2 ^ 120) right c.in-Ok.ensures.fits) in
    rw (← c.written.view_is) (rup-made c.args.vars w small known fits ∙ ap Ok (sym (c.in-Ok.ensures.ok ∙ ap₂ normal_form c.deref-2.ensures.value right)))

pub returns-in-Err-TooBig-clause-refused : goal.returns-in-Err-TooBig-clause-refused
returns-in-Err-TooBig-clause-refused c =
    let w : Written = record { terms = c.written.inside.terms.items; at_least = c.written.inside.at_least } in
    let small : is_small_row w ≡ true = subst (λ (v : Written). is_small_row v ≡ true) (sym c.written.view_is) c.requires in
    let right : to_z w128 (of_z w128 w.at_least) ≡ w.at_least = right-passed w small in
    let known : known_terms c.args.vars w.terms ≡ Ok tt = ap (known_terms c.args.vars) (sym c.deref.ensures.value) ∙ c.in_ok-check_terms.ensures.ok in
    let beyond : 2 ^ 120 < all_sizes w.terms w.at_least =
    subst (λ (ts : List Term). 2 ^ 120 < all_sizes ts w.at_least) c.deref-2.ensures.value (subst (λ (z : ℤ). 2 ^ 120 < all_sizes c.deref-2.result.now z) right (c.in-Err-TooBig.ensures.too_big.0 c.in-Err-TooBig.field-0-is)) in
    rw (← c.written.view_is) (rup-too_big c.args.vars w small known beyond)
