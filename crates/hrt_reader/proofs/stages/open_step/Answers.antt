use Rattle.std.proofs.Common.{◌≡◌, ◌∙◌, ◌++◌, ◌∷◌, [], sym, ap, subst, refl, List, ℕ, None}
use Rattle.std.proofs.lemmas.List.{append-nil}
use Rattle.hrt_text.specs.Text.{Row, tokens}
use Rattle.hrt_text.specs.Grammar.{resident, hospital}
use Rattle.hrt_reader.specs.Stages.{StepsTo}
use Rattle.hrt_text.specs.Views.{texts, view_form}
use Rattle.hrt_reader.specs.Refusal.{declared_residents, declared_hospitals}
use Rattle.hrt_reader.specs.declared.stages.Stage.TheVariants.{Open}
use Rattle.hrt_reader.specs.declared.stages.Step.TheVariants.{Next}
use Rattle.hrt_reader.proofs.LineSteps.{open_blank, open_finish, declared_step, wrong_line, at_none}
use Rattle.hrt_reader.proofs.stages.open_step.Goals as goal

pub returns-in-None : goal.returns-in-None
returns-in-None c = λ before after h r k last. subst (λ (row : Row). StepsTo before row after (texts c.args.residents.now.keys) (texts c.args.hospitals.now.keys) (Next Open)) (sym c.in-None.ensures.none) (open_blank before after (texts c.args.residents.now.keys) (texts c.args.hospitals.now.keys) h r k)

pub returns-in-Some-Finish : goal.returns-in-Some-Finish
returns-in-Some-Finish c = λ before after h r k last.
    open_finish before (tokens c.args.line.now) after (texts c.args.residents.now.keys) (texts c.args.hospitals.now.keys) h c.in-Some-Finish.ensures.filled
    (ap view_form (sym c.in-Some-Finish.field-0-is) ∙ c.in-Some-Finish.ensures.some) r k

pub returns-in-Some-Other : goal.returns-in-Some-Other
returns-in-Some-Other c = λ before after h r k last.
    (c.in-Some-Other.ensures.filled, wrong_line before (tokens c.args.line.now) after h c.in-Some-Other.ensures.filled (ap view_form (sym c.in-Some-Other.field-0-is) ∙ c.in-Some-Other.ensures.some))

pub returns-in_ok-flaw-in-Some-Resident : goal.returns-in_ok-flaw-in-Some-Resident
returns-in_ok-flaw-in-Some-Resident c = λ before after h r k last.
    let e = ap view_form (sym c.in-Some-Resident.field-0-is) ∙ c.in-Some-Resident.ensures.some in
    let row : Row = tokens c.args.line.now in
    let name : List ℕ = c.in-Some-Resident.name.now in
    let made = c.in_ok-flaw-in-Some-Resident.ensures in
    let rs : List (List ℕ) = texts c.resident_flaw.new.residents.keys in
    let hs : List (List ℕ) = texts c.args.hospitals.now.keys in
    declared_step before row after (resident name (tokens c.in-Some-Resident.items.now)) c.in_ok-flaw-in-Some-Resident.flaw c.args.is_last c.step_by.result rs hs
    h c.in-Some-Resident.ensures.filled e refl (made.least before (before ++ row ∷ after) r) last c.step_by.ensures
    (λ (none : c.in_ok-flaw-in-Some-Resident.flaw ≡ None).
    (ap (λ (ns : List (List ℕ)). ns ++ name ∷ []) r ∙ sym (at_none c.in_ok-flaw-in-Some-Resident.flaw made.added none), append-nil (declared_hospitals before) ∙ k))

pub returns-in_ok-flaw-in-Some-Hospital : goal.returns-in_ok-flaw-in-Some-Hospital
returns-in_ok-flaw-in-Some-Hospital c = λ before after h r k last.
    let e = ap view_form (sym c.in-Some-Hospital.field-0-is) ∙ c.in-Some-Hospital.ensures.some in
    let row : Row = tokens c.args.line.now in
    let name : List ℕ = c.in-Some-Hospital.name.now in
    let made = c.in_ok-flaw-in-Some-Hospital.ensures in
    let rs : List (List ℕ) = texts c.args.residents.now.keys in
    let hs : List (List ℕ) = texts c.hospital_flaw.new.hospitals.keys in
    declared_step before row after (hospital name c.in-Some-Hospital.capacity.now (tokens c.in-Some-Hospital.items.now)) c.in_ok-flaw-in-Some-Hospital.flaw c.args.is_last c.step_by-in-Some-Hospital.result rs hs
    h c.in-Some-Hospital.ensures.filled e refl (made.least before (before ++ row ∷ after) k) last c.step_by-in-Some-Hospital.ensures
    (λ (none : c.in_ok-flaw-in-Some-Hospital.flaw ≡ None).
    (append-nil (declared_residents before) ∙ r, ap (λ (ns : List (List ℕ)). ns ++ name ∷ []) k ∙ sym (at_none c.in_ok-flaw-in-Some-Hospital.flaw made.added none)))
