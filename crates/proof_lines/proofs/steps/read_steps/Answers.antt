use Rattle.std.proofs.Common.{◌≡◌, [], ◌∷◌, ◌++◌, ℕ, List, Bool, sym, ap, ◌∙◌, refl, if◌then◌else◌}
use Rattle.std.specs.Prelude.{is_some, option_map}
use Rattle.std.specs.List.{list_all}
use Rattle.row_text.specs.declared.readings.Reading.{Reading}
use Rattle.row_text.specs.declared.readings.Reading.TheVariants.{Unspelled, TooBig, Value}
use Rattle.row_text.specs.Readings.{reading}
use Rattle.row_text.specs.Tokens.{tokens}
use Rattle.proof_lines.specs.declared.line.PolStep.{PolStep}
use Rattle.proof_lines.specs.Spelling.{is_small_step, read_steps}
use Rattle.proof_lines.specs.Steps.{first_step}
use Rattle.proof_lines.proofs.Onto.{behind, none_yet}
use Rattle.proof_lines.proofs.StepByStep.{step_read, step_small, no_step, big_step}
use Rattle.proof_lines.proofs.steps.read_steps.Goals as goal
use Rattle.proof_lines.proofs.steps.read_steps.Goals.{then-are_steps, else-are_steps}

abbrev too_big_where : Bool → Reading (List PolStep)
too_big_where b = if b then TooBig else Unspelled

pub loop-first-init : goal.loop-first-init
loop-first-init c =
    let whole = read_steps (tokens c.args.line.now) in
    record {
      whole = rw c.new-steps.ensures (none_yet whole);
      small = rw c.new-steps.ensures refl;
    }

pub returns-in-TooBig : goal.returns-in-TooBig
returns-in-TooBig c =
    let t : List ℕ = c.in-Some.first.now in
    let rest : List (List ℕ) = tokens c.in-Some.after.now in
    let whole : read_steps (tokens c.args.line.now) ≡ option_map (behind c.loop-first.steps) (read_steps (t ∷ rest)) =
    c.loop-first.invariant.whole ∙ ap (λ (us : List (List ℕ)). option_map (behind c.loop-first.steps) (read_steps us)) c.in-Some.ensures.some in
    let big : too_big_where c.are_steps.result ≡ reading (list_all is_small_step) (read_steps (tokens c.args.line.now)) =
    ap too_big_where (c.are_steps.ensures ∙ ap (λ (us : List (List ℕ)). is_some (read_steps us)) c.next_step-step.ensures.rest)
    ∙ sym (big_step _ c.loop-first.steps t rest whole (sym c.in-TooBig.is ∙ c.next_step-step.ensures.step)) in
    elim c.if-are_steps.branch [
      | then-are_steps w ↦ w.result-is ∙ ap too_big_where (sym w.if-are_steps.true) ∙ big
      | else-are_steps w ↦ w.result-is ∙ ap too_big_where (sym w.if-are_steps.false) ∙ big
    ]

pub returns-in-Unspelled : goal.returns-in-Unspelled
returns-in-Unspelled c =
    let t : List ℕ = c.in-Some.first.now in
    let rest : List (List ℕ) = tokens c.in-Some.after.now in
    let whole : read_steps (tokens c.args.line.now) ≡ option_map (behind c.loop-first.steps) (read_steps (t ∷ rest)) =
    c.loop-first.invariant.whole ∙ ap (λ (us : List (List ℕ)). option_map (behind c.loop-first.steps) (read_steps us)) c.in-Some.ensures.some in
    ap (reading (list_all is_small_step)) (sym (no_step _ c.loop-first.steps t rest whole (sym c.in-Unspelled.is ∙ c.next_step-step.ensures.step)))

pub loop-first-preserved : goal.loop-first-preserved
loop-first-preserved c =
    let t : List ℕ = c.in-Some.first.now in
    let rest : List (List ℕ) = tokens c.in-Some.after.now in
    let whole : read_steps (tokens c.args.line.now) ≡ option_map (behind c.loop-first.steps) (read_steps (t ∷ rest)) =
    c.loop-first.invariant.whole ∙ ap (λ (us : List (List ℕ)). option_map (behind c.loop-first.steps) (read_steps us)) c.in-Some.ensures.some in
    let kept : Value c.in-Value.step ≡ reading is_small_step (first_step t rest) = sym c.in-Value.is ∙ c.next_step-step.ensures.step in
    let pushed : c.push.new.self ≡ c.loop-first.steps ++ c.in-Value.step ∷ [] = c.in_ok-push-in-Value.ensures.ok in
    record {
      whole = rw (pushed, c.next_step-step.ensures.rest) (step_read _ c.loop-first.steps t rest c.in-Value.step whole kept);
      small = rw pushed (step_small c.loop-first.steps t rest c.in-Value.step c.loop-first.invariant.small kept);
    }
