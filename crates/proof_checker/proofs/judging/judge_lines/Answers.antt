use Rattle.std.proofs.Common.{sym, subst, arith}
use Rattle.std.specs.Prelude.{IfSome}
use Rattle.proof_rules.specs.Texts.{HasVerdict}
use Rattle.proof_checker.specs.declared.refusal.ProofRefusal.{ProofRefusal}
use Rattle.proof_checker.specs.Answers.{refusal_verdict}
use Rattle.proof_checker.specs.Endings.{TakesLine}
use Rattle.proof_checker.specs.Places.{place_of}
use Rattle.proof_checker.proofs.Passed.{ended, ended-sound, halted, passed-on, passed-sound, to-end}
use Rattle.proof_checker.proofs.judging.judge_lines.Goals as goal

pub take_line-requires-clause-sound : goal.take_line-requires-clause-sound
take_line-requires-clause-sound c = passed-sound c.args.formula.now c.args.bytes.now c.lines.left.now c.lines.lines c.lines.stage c.lines.state.state c.requires.normal c.lines.invariant.passed

pub returns-in-Ok-None-clause-verdict : goal.returns-in-Ok-None-clause-verdict
returns-in-Ok-None-clause-verdict c =
    ended c.args.formula.now c.args.bytes.now c.lines.left.now c.lines.lines (place_of c.lines.stage c.lines.state.state) c.lines.invariant.passed (rw c.in-Ok-None.field-0-is at c.in-Ok-None.ensures.taken) c.judge_rest.result
    (c.judge_rest.ensures c.args.formula.now c.lines.state.state)

pub returns-in-Ok-None-clause-sound : goal.returns-in-Ok-None-clause-sound
returns-in-Ok-None-clause-sound c =
    ended-sound c.args.formula.now c.args.bytes.now c.lines.left.now c.lines.lines (place_of c.lines.stage c.lines.state.state) c.lines.invariant.passed (rw c.in-Ok-None.field-0-is at c.in-Ok-None.ensures.taken) c.judge_rest.result
    c.requires.normal (c.judge_rest.ensures c.args.formula.now c.lines.state.state)

pub lines-preserved : goal.lines-preserved
lines-preserved c =
    let taken : TakesLine c.args.formula.now c.lines.left.now c.lines.stage c.lines.state c.in-Ok-Some.next c.in-Ok-Some.len c.take_line.new.state = rw c.in-Ok-Some.field-0-is at c.in-Ok-Some.ensures.taken in
    record {
      stands = taken.goes.stands;
      passed =
          rw (to-end c.lines.left.now c.in-Ok-Some.len)
          (passed-on c.args.formula.now c.args.bytes.now c.lines.left.now c.lines.lines c.in-Ok-Some.len (place_of c.lines.stage c.lines.state.state) (place_of c.in-Ok-Some.next c.take_line.new.state.state) taken.line
          c.lines.invariant.passed taken.goes.moves taken.whole taken.rest taken.some taken.within);
      next = omega (arith, taken.goes.next, c.lines.invariant.next);
    }

pub returns-in-Err-clause-verdict : goal.returns-in-Err-clause-verdict
returns-in-Err-clause-verdict c =
    subst (λ (r : ProofRefusal). IfSome (refusal_verdict r) (HasVerdict c.args.formula.now c.args.bytes.now)) (sym c.at_line.ensures)
    (halted c.args.formula.now c.args.bytes.now c.lines.left.now c.lines.lines (place_of c.lines.stage c.lines.state.state) c.in-Err.fault c.lines.invariant.passed c.in-Err.ensures.refused)
