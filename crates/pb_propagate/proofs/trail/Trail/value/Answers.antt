use Rattle.std.proofs.Common.{◌<◌, ◌-◌, ◌∙◌, ap, arith, length}
use Rattle.std.proofs.lemmas.List.{get_or_read}
use Rattle.hrt_base.specs.declared.literal.Value.TheVariants.{Free}
use Rattle.pb_propagate.specs.Entries.{value_in}
use Rattle.pb_propagate.specs.Tables.{TrailState}
use Rattle.pb_propagate.proofs.Backs.{value-at, value-past}
use Rattle.pb_propagate.proofs.trail.Trail.value.Goals as goal
use Rattle.pb_propagate.proofs.trail.Trail.value.Goals.{then-var-eq0-via-then-var-eq0, then-var-eq0-via-else-var-eq0+then-var-len}

pub returns-then-var-eq0 : goal.returns-then-var-eq0
returns-then-var-eq0 c = elim c.then-var-eq0.branch [
  | then-var-eq0-via-then-var-eq0 w ↦
      value-past _ _ _ _ _ c.self.invariant c.args.var (λ h. absurd (omega (arith, h.first, w.if-var-eq0.true)))
      ∙ ap (λ (t : TrailState). value_in t.entries c.args.var) c.self.view_is
  | then-var-eq0-via-else-var-eq0+then-var-len w ↦
      value-past _ _ _ _ _ c.self.invariant c.args.var (λ h. absurd (omega (arith, h.last, w.if-var-len.true, w.len.ensures, c.self.inside.values.ok.0)))
      ∙ ap (λ (t : TrailState). value_in t.entries c.args.var) c.self.view_is
]

pub returns : goal.returns
returns c =
    let pos : 0 < c.args.var = omega (arith, c.if-var-eq0.false) in
    let here : c.args.var - 1 < length c.self.inside.values.items = omega (arith, pos, c.if-var-len.false, c.len.ensures, c.self.inside.values.ok.0) in
    get_or_read c.self.inside.values.items (c.args.var - 1) c.index.result.now here c.index.ensures Free
    ∙ value-at _ _ _ _ _ c.self.invariant c.args.var pos
    ∙ ap (λ (t : TrailState). value_in t.entries c.args.var) c.self.view_is
