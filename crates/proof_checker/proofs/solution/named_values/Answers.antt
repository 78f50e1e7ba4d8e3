use Rattle.std.proofs.Common.{◌≡◌, ◌<◌, ◌+◌, ◌-◌, ◌++◌, List, false, length, drop, get_or, take, refl, sym, ap, ◌∙◌, subst, arith}
use Rattle.std.specs.Prelude.{None, is_some}
use Rattle.std.proofs.lemmas.List.{get_or_read, take-append-drop, take_more}
use Rattle.hrt_base.specs.declared.literal.Lit.{Lit}
use Rattle.pb_rows.specs.Points.{IsCovered}
use Rattle.proof_rules.specs.States.{is_full}
use Rattle.proof_checker.proofs.Living.{drop-at}
use Rattle.proof_checker.proofs.Naming.{named-more, named-twice}
use Rattle.proof_checker.proofs.solution.named_values.Goals as goal

pub returns-then-is_some-clause-refused : goal.returns-then-is_some-clause-refused
returns-then-is_some-clause-refused c =
    let d : Lit = record { var = 0; neg = false } in
    let l : Lit = get_or c.args.literals.now c.loop-lit.lit-index d in
    let cl : IsCovered c.args.vars l.var = c.requires c.loop-lit.lit-index d c.loop-lit-test.true in
    let within : l.var - 1 < length c.loop-lit.values.items = omega (arith, c.loop-lit.invariant.size, cl.first, cl.last) in
    let read = get_or_read c.loop-lit.values.items (l.var - 1) c.index.result.now within c.index.ensures None in
    let whole = ap (λ (rest : List Lit). take c.loop-lit.lit-index c.args.literals.now ++ rest) (sym (drop-at c.args.literals.now c.loop-lit.lit-index d c.loop-lit-test.true)) ∙ take-append-drop c.loop-lit.lit-index c.args.literals.now in (
      refl,
      subst (λ (ls : List Lit). is_full c.args.vars ls ≡ false) whole
          (named-twice c.args.vars (take c.loop-lit.lit-index c.args.literals.now) (drop (c.loop-lit.lit-index + 1) c.args.literals.now) c.loop-lit.values.items l c.loop-lit.invariant cl
          (ap is_some (sym read) ∙ (sym c.is_some.ensures ∙ c.if-is_some.true))),
    )

pub loop-lit-preserved : goal.loop-lit-preserved
loop-lit-preserved c =
    let d : Lit = record { var = 0; neg = false } in
    let l : Lit = get_or c.args.literals.now c.loop-lit.lit-index d in
    let cl : IsCovered c.args.vars l.var = c.requires c.loop-lit.lit-index d c.loop-lit-test.true in
    let within : l.var - 1 < length c.loop-lit.values.items = omega (arith, c.loop-lit.invariant.size, cl.first, cl.last) in
    let read = get_or_read c.loop-lit.values.items (l.var - 1) c.index.result.now within c.index.ensures None in
    rw (take_more c.args.literals.now c.loop-lit.lit-index d c.loop-lit-test.true)
    (named-more c.args.vars (take c.loop-lit.lit-index c.args.literals.now) c.loop-lit.values.items l c.loop-lit.invariant cl (ap is_some (sym read) ∙ (sym c.is_some.ensures ∙ c.if-is_some.false)))
