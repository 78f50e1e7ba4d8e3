use Rattle.std.proofs.Common.{◌≡◌, ◌+◌, ℕ, if◌then◌else◌, is_none, false, length, length-set, ◌∙◌, ap, sym, subst, arith}
use Rattle.std.proofs.lemmas.List.{length-map}
use Rattle.std.specs.Prelude.{Option, slice_index_or}
use Rattle.hrt_base.specs.declared.literal.Lit.{Lit}
use Rattle.conflict_rows.specs.declared.marks.Mark.{Mark}
use Rattle.pb_propagate.specs.Entries.{reason_in}
use Rattle.conflict_rows.specs.Trail.{top_level}
use Rattle.engine_trails.specs.History.{history, history_to}
use Rattle.engine_trails.proofs.Histories.{histories_are_trails}
use Rattle.engine_trails.proofs.Tables.{HasMarks, are_marks}
use Rattle.engine_trails.proofs.Passing.{all_passed, covered_there, one_at_most, level_is, next_marks, next_top, stands_there}
use Rattle.engine_trails.proofs.marks.marks_of.Goals as goal

pub loop-k-preserved : goal.loop-k-preserved
loop-k-preserved c =
    let d : Lit = record { var = 0; neg = false } in
    let e = c.args.engine.now in
    let ls = c.trail-trail.result.now in
    let k = c.loop-k.k in
    let l : Lit = slice_index_or ls k d in
    let order = c.trail-trail.ensures.order in
    let s = stands_there e order ls c.trail-trail.ensures.value k d (omega arith) in
    let covered = covered_there e order ls c.trail-trail.ensures.value k d (omega arith) in
    let opens : c.opened-level.result ≡ (if is_none (reason_in e.trail l.var) then 1 else 0) = c.opened-level.ensures ∙ ap (λ (r : Option ℕ). if is_none r then 1 else 0) c.reason.ensures in
    let level : c.loop-k.level + c.opened-level.result ≡ s.entry.level = omega (arith, c.loop-k.invariant.top, opens, level_is e k l order s) in
    record {
      vars = length-set c.loop-k.marks.items _ _ ∙ c.loop-k.invariant.vars;
      top = level ∙ sym (next_top e k l order s);
      few = omega (arith, c.loop-k.invariant.few, opens, one_at_most (is_none (reason_in e.trail l.var)));
      has = next_marks e k l order s c.loop-k.marks.items (c.loop-k.level + c.opened-level.result) covered.first (omega (arith, covered.last, c.loop-k.invariant.vars)) level c.loop-k.invariant.has;
    }

pub returns-clause-marks : goal.returns-clause-marks
returns-clause-marks c =
    let e = c.args.engine.now in
    let order = c.trail-trail.ensures.order in
    let all : history_to c.loop-k.k e ≡ history e = all_passed e c.loop-k.k (omega (arith, ap length c.trail-trail.ensures.value, length-map e.trail (λ x. x.lit))) in
    are_marks c.loop-k.marks.items (history e) (histories_are_trails e order).trail (subst (HasMarks c.loop-k.marks.items) all c.loop-k.invariant.has)
