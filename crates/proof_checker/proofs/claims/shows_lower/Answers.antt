use mir.Val.{of_z, to_z}
use Rattle.std.proofs.Common.{◌≡◌, ◌<◌, ◌^◌, ◌<ℤ◌, ◌↔◌, ◌⊎◌, ℤ, pos, List, true, sym, ap, ap₂, ◌∙◌, subst}
use Rattle.std.specs.Prelude.{Option}
use Rattle.std.specs.Int.{w128}
use Rattle.std.specs.List.{All}
use Rattle.std.proofs.lemmas.Int.{to_z-of_z}
use Rattle.std.proofs.lemmas.Result.{IfOk-weaker}
use Rattle.hrt_base.specs.declared.literal.Term.{Term}
use Rattle.pb_rows.specs.Points.{IsCovered}
use Rattle.pb_rows.specs.Normal.{all_sizes, normal_form}
use Rattle.pb_rows.specs.Formula.{Formula}
use Rattle.proof_rules.specs.Claims.{IsUnpassed, ShowsNone}
use Rattle.proof_checker.proofs.Covering.{at_least-over}
use Rattle.proof_checker.proofs.Showing.{far_shown, row_shown}
use Rattle.proof_checker.proofs.claims.shows_lower.Goals as goal

pub shows_row-requires : goal.shows_row-requires
shows_row-requires c =
    let terms = c.deref.ensures.value ∙ ap (λ (f : Formula). f.objective) c.formula.view_is in
    let objective : All (λ (t : Term). IsCovered c.args.formula.now.vars t.lit.var) c.deref.result.now = subst (All (λ (t : Term). IsCovered c.args.formula.now.vars t.lit.var)) (sym terms) c.requires.limits.objective in
    rw (c.requires.vars, c.in-Ok.ensures.ok) (at_least-over c.args.formula.now.vars c.deref.result.now (to_z w128 (of_z w128 c.args.lower)) objective)

pub returns-in-Ok-clause-shown : goal.returns-in-Ok-clause-shown
returns-in-Ok-clause-shown c =
    let terms = c.deref.ensures.value ∙ ap (λ (f : Formula). f.objective) c.formula.view_is in
    let passed : to_z w128 (of_z w128 c.args.lower) ≡ c.args.lower = to_z-of_z w128 c.args.lower c.ranges.lower in
    let unpassed : IsUnpassed c.args.state.now.state.least c.args.lower =
    subst (λ (z : ℤ). IsUnpassed c.args.state.now.state.least z) passed
    (subst (λ (o : Option ℤ). IsUnpassed o (to_z w128 (of_z w128 c.args.lower))) c.least.ensures (c.is_unpassed.ensures.0 c.if-not-is_unpassed.false)) in
    IfOk-weaker c.shows_row.result _ _
    (λ shown h. row_shown c.args.formula.now c.args.state.now.state c.args.lower c.in-Ok.row shown unpassed (c.in-Ok.ensures.ok ∙ ap₂ normal_form terms passed) h) c.shows_row.ensures.shown

pub returns-in-Err-TooBig-clause-shown : goal.returns-in-Err-TooBig-clause-shown
returns-in-Err-TooBig-clause-shown c =
    let terms = c.deref.ensures.value ∙ ap (λ (f : Formula). f.objective) c.formula.view_is in
    let passed : to_z w128 (of_z w128 c.args.lower) ≡ c.args.lower = to_z-of_z w128 c.args.lower c.ranges.lower in
    let beyond : 2 ^ 120 < all_sizes c.args.formula.now.objective c.args.lower =
    subst (λ (ts : List Term). 2 ^ 120 < all_sizes ts c.args.lower) terms
    (subst (λ (z : ℤ). 2 ^ 120 < all_sizes c.deref.result.now z) passed (c.in-Err-TooBig.ensures.too_big.0 c.in-Err-TooBig.field-0-is)) in
    IfOk-weaker c.shows_far.result _ _
    (λ shown h. far_shown c.args.formula.now c.args.state.now.state c.args.lower shown c.requires.sound c.requires.limits.objective_sum beyond
    (subst (λ (z : ℤ). (shown ≡ true) ↔ ((z <ℤ pos 0) ⊎ ShowsNone c.args.state.now.state)) passed h)) c.shows_far.ensures.shown
