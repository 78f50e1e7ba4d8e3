use Rattle.std.proofs.Common.{◌≡◌, ◌∙◌, ◌+◌, ◌++◌, ◌∷◌, [], ℕ, List, sym, ap, subst, rules, Option, map, length, take, drop, arith}
use Rattle.hrt_text.specs.Text.{Row, rows, tokens}
use Rattle.hrt_reader.specs.Refusal.{Refusal, refusal_but_6, declared_residents, declared_hospitals}
use Rattle.hrt_reader.specs.Survey.{IsRefusedBy}
use Rattle.hrt_text.specs.Views.{texts}
use Rattle.hrt_reader.specs.Stages.{IsStage, StepsTo}
use Rattle.hrt_reader.specs.declared.stages.Stage.{Stage}
use Rattle.hrt_reader.specs.declared.stages.Stage.TheVariants.{Start, Open, Ended}
use Rattle.hrt_reader.specs.declared.stages.Step.{Step}
use Rattle.hrt_reader.proofs.Places.{IsClean, refused_at, accepted_all, no_end, no_header, drop_next, take_next, clean_next, all_read, all_taken, last_is, within_at}
use Rattle.hrt_reader.proofs.first_pass.survey.Goals as goal

pub returns-in-Refused : goal.returns-in-Refused
returns-in-Refused c =
    let all : List Row = rows c.args.text.now in
    let i : ℕ = c.loop-line.number in
    let row : Row = tokens c.in-Some.line.now in
    let after : List Row = rows c.in-Some.after.now in
    let v = c.loop-line.invariant in
    let e : drop i all ≡ row ∷ after = v.rest ∙ ap (map tokens) c.in-Some.ensures.some in
    let made = c.in_ok-done.ensures (take i all) after v.stage v.residents v.hospitals (c.is_empty.ensures ∙ last_is c.in-Some.after.now) in
    let done = subst (λ (s : Step). StepsTo (take i all) row after (texts c.line_step.new.residents.keys) (texts c.line_step.new.hospitals.keys) s) c.in-Refused.is made in
    let is = refused_at all i _ row after e done.0 v.clean done.1 in
    let by : IsRefusedBy (refusal_but_6 all) c.refused.result = subst (λ (o : Option Refusal). IsRefusedBy o c.refused.result) (sym is) c.refused.ensures in
    search rules

pub loop-line-preserved : goal.loop-line-preserved
loop-line-preserved c =
    let all : List Row = rows c.args.text.now in
    let i : ℕ = c.loop-line.number in
    let row : Row = tokens c.in-Some.line.now in
    let after : List Row = rows c.in-Some.after.now in
    let v = c.loop-line.invariant in
    let e : drop i all ≡ row ∷ after = v.rest ∙ ap (map tokens) c.in-Some.ensures.some in
    let made = c.in_ok-done.ensures (take i all) after v.stage v.residents v.hospitals (c.is_empty.ensures ∙ last_is c.in-Some.after.now) in
    let done = subst (λ (s : Step). StepsTo (take i all) row after (texts c.line_step.new.residents.keys) (texts c.line_step.new.hospitals.keys) s) c.in-Next.is made in
    let next : take (i + 1) all ≡ take i all ++ row ∷ [] = take_next all i row after e in
    record {
      rest = drop_next all i row after e;
      within = omega (arith, within_at all i row after e);
      stage = subst (λ (l : List Row). IsStage c.in-Next.next l) (sym next) done.1;
      residents = ap (λ (l : List Row). declared_residents l) next ∙ done.2;
      hospitals = ap (λ (l : List Row). declared_hospitals l) next ∙ done.3;
      clean = clean_next all i row after e v.clean done.0;
    }

pub returns-in-Start-clause-refused : goal.returns-in-Start-clause-refused
returns-in-Start-clause-refused c =
    let all : List Row = rows c.args.text.now in
    let v = c.loop-line.invariant in
    let end : c.loop-line.number ≡ length all = all_read all c.loop-line.number (v.rest ∙ ap (map tokens) c.in_default.ensures.none) v.within in
    let whole : take c.loop-line.number all ≡ all = ap (λ (k : ℕ). take k all) end ∙ all_taken all in
    no_header all (subst (λ (l : List Row). IsStage Start l) whole (subst (λ (s : Stage). IsStage s (take c.loop-line.number all)) c.in-Start.is v.stage))

pub returns-in-Open-clause-refused : goal.returns-in-Open-clause-refused
returns-in-Open-clause-refused c =
    let all : List Row = rows c.args.text.now in
    let v = c.loop-line.invariant in
    let end : c.loop-line.number ≡ length all = all_read all c.loop-line.number (v.rest ∙ ap (map tokens) c.in_default.ensures.none) v.within in
    let whole : take c.loop-line.number all ≡ all = ap (λ (k : ℕ). take k all) end ∙ all_taken all in
    let open-is = subst (λ (l : List Row). IsStage Open l) whole (subst (λ (s : Stage). IsStage s (take c.loop-line.number all)) c.in-Open.is v.stage) in
    rw end (no_end all open-is (subst (λ (k : ℕ). IsClean all k) end v.clean))

pub returns-clause-accepted : goal.returns-clause-accepted
returns-clause-accepted c =
    let all : List Row = rows c.args.text.now in
    let v = c.loop-line.invariant in
    let end : c.loop-line.number ≡ length all = all_read all c.loop-line.number (v.rest ∙ ap (map tokens) c.in_default.ensures.none) v.within in
    let whole : take c.loop-line.number all ≡ all = ap (λ (k : ℕ). take k all) end ∙ all_taken all in
    let ended = subst (λ (l : List Row). IsStage Ended l) whole (subst (λ (s : Stage). IsStage s (take c.loop-line.number all)) c.in-Ended.is v.stage) in
    accepted_all all ended.0 ended.1 (subst (λ (k : ℕ). IsClean all k) end v.clean)

pub returns-clause-residents : goal.returns-clause-residents
returns-clause-residents c =
    let all : List Row = rows c.args.text.now in
    let v = c.loop-line.invariant in
    let end : c.loop-line.number ≡ length all = all_read all c.loop-line.number (v.rest ∙ ap (map tokens) c.in_default.ensures.none) v.within in
    let whole : take c.loop-line.number all ≡ all = ap (λ (k : ℕ). take k all) end ∙ all_taken all in
    sym v.residents ∙ ap (λ (l : List Row). declared_residents l) whole

pub returns-clause-hospitals : goal.returns-clause-hospitals
returns-clause-hospitals c =
    let all : List Row = rows c.args.text.now in
    let v = c.loop-line.invariant in
    let end : c.loop-line.number ≡ length all = all_read all c.loop-line.number (v.rest ∙ ap (map tokens) c.in_default.ensures.none) v.within in
    let whole : take c.loop-line.number all ≡ all = ap (λ (k : ℕ). take k all) end ∙ all_taken all in
    sym v.hospitals ∙ ap (λ (l : List Row). declared_hospitals l) whole
