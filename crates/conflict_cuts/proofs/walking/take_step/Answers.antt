use Rattle.std.proofs.Common.{false, ◌∙◌, ap, inl, inr, refl, sym, arith}
use Rattle.std.specs.Prelude.{slice_index_or}
use Rattle.hrt_base.specs.declared.literal.Lit.{Lit}
use Rattle.conflict_rows.specs.Trail.{weight_of}
use Rattle.engine_trails.proofs.Passing.{stands_there}
use Rattle.conflict_cuts.proofs.Walked.{inside, last_there, next_there, not_decided, passed_there, reason_at}
use Rattle.conflict_cuts.proofs.walking.take_step.Goals as goal

pub returns-then-weight_in-eq0-clause-steps : goal.returns-then-weight_in-eq0-clause-steps
returns-then-weight_in-eq0-clause-steps c = λ conflict come. (
  inl (refl, refl),
  passed_there c.args.engine.now c.args.marks.now c.requires.set.order c.requires.set.table c.args.k (slice_index_or c.trail.result.now c.args.k (record { var = 0; neg = false }))
      (stands_there c.args.engine.now c.requires.set.order c.trail.result.now c.trail.ensures.value c.args.k (record { var = 0; neg = false }) (inside c.args.engine.now c.args.k c.trail.result.now c.trail.ensures.value c.requires.k)) c.args.made.row conflict
      (sym (ap (λ (a : Lit). weight_of a c.args.made.row.terms) c.opposite.ensures) ∙ (sym c.weight_in.ensures.value ∙ c.if-weight_in-eq0.true)) come,
)

pub returns-then-has_one_at-clause-steps : goal.returns-then-has_one_at-clause-steps
returns-then-has_one_at-clause-steps c = λ conflict come. (
  refl,
  refl,
  last_there c.args.engine.now c.args.marks.now c.requires.set.order c.requires.set.table c.args.k (slice_index_or c.trail.result.now c.args.k (record { var = 0; neg = false }))
      (stands_there c.args.engine.now c.requires.set.order c.trail.result.now c.trail.ensures.value c.args.k (record { var = 0; neg = false }) (inside c.args.engine.now c.args.k c.trail.result.now c.trail.ensures.value c.requires.k)) c.args.made.row conflict c.level_of.result
      (λ z. c.if-weight_in-eq0.false (c.weight_in.ensures.value ∙ (ap (λ (a : Lit). weight_of a c.args.made.row.terms) c.opposite.ensures ∙ z))) c.level_of.ensures (sym c.has_one_at.ensures ∙ c.if-has_one_at.true) come,
)

pub unreachable-requires : goal.unreachable-requires
unreachable-requires c = not_decided c.args.engine.now c.args.marks.now c.requires.set.order c.requires.set.table c.args.k (slice_index_or c.trail.result.now c.args.k (record { var = 0; neg = false }))
    (stands_there c.args.engine.now c.requires.set.order c.trail.result.now c.trail.ensures.value c.args.k (record { var = 0; neg = false }) (inside c.args.engine.now c.args.k c.trail.result.now c.trail.ensures.value c.requires.k)) c.args.made.row c.requires.stands.0 c.requires.stands.1
    (λ z. c.if-weight_in-eq0.false (c.weight_in.ensures.value ∙ (ap (λ (a : Lit). weight_of a c.args.made.row.terms) c.opposite.ensures ∙ z))) c.level_of.result c.level_of.ensures (sym c.has_one_at.ensures ∙ c.if-has_one_at.false) (sym c.in_default.ensures)

pub resolve-requires-clause-reason : goal.resolve-requires-clause-reason
resolve-requires-clause-reason c = reason_at c.args.engine.now c.args.marks.now c.requires.set.order c.requires.set.table c.args.k (slice_index_or c.trail.result.now c.args.k (record { var = 0; neg = false }))
    (stands_there c.args.engine.now c.requires.set.order c.trail.result.now c.trail.ensures.value c.args.k (record { var = 0; neg = false }) (inside c.args.engine.now c.args.k c.trail.result.now c.trail.ensures.value c.requires.k)) c.args.made.row c.requires.stands.0 c.requires.stands.1
    (λ z. c.if-weight_in-eq0.false (c.weight_in.ensures.value ∙ (ap (λ (a : Lit). weight_of a c.args.made.row.terms) c.opposite.ensures ∙ z))) c.level_of.result c.level_of.ensures (sym c.has_one_at.ensures ∙ c.if-has_one_at.false) c.in-Some.reason.0 (sym c.in-Some.ensures)

pub returns-clause-steps : goal.returns-clause-steps
returns-clause-steps c = λ conflict come. (
  inr c.in_ok-next.ensures.made,
  next_there c.args.engine.now c.args.marks.now c.requires.set.order c.requires.set.table c.args.k (slice_index_or c.trail.result.now c.args.k (record { var = 0; neg = false }))
      (stands_there c.args.engine.now c.requires.set.order c.trail.result.now c.trail.ensures.value c.args.k (record { var = 0; neg = false }) (inside c.args.engine.now c.args.k c.trail.result.now c.trail.ensures.value c.requires.k)) c.args.made.row conflict come
      (λ z. c.if-weight_in-eq0.false (c.weight_in.ensures.value ∙ (ap (λ (a : Lit). weight_of a c.args.made.row.terms) c.opposite.ensures ∙ z))) c.level_of.result c.level_of.ensures (sym c.has_one_at.ensures ∙ c.if-has_one_at.false) c.in-Some.reason.0 (sym c.in-Some.ensures)
      (omega (arith, c.requires.set.few)) c.in_ok-next.next.row c.in_ok-next.ensures.row,
)
