-- Sums that are put behind other steps.
use Rattle.std.proofs.Common.{◌≡◌, ℕ, List, [], ◌∷◌, ◌++◌, length, get_or, take, drop, refl, sym, ap, ap₂, ◌∙◌, arith, append_assoc}
use Rattle.std.proofs.lemmas.List.{take-append-drop}
use Rattle.proof_lines.specs.declared.line.PolStep.{PolStep}
use Rattle.proof_lines.specs.declared.line.PolStep.TheVariants.{Add}
use Rattle.capacity_bound.specs.Steps.{Both, PutsSum, Row}

pub puts_one : (operands before after : List PolStep) (d : PolStep) → length operands ≡ 1 → after ≡ before ++ get_or operands 0 d ∷ [] → PutsSum operands before after
puts_one [] before after d e is = absurd (omega arith)
puts_one (x ∷ []) before after d e is = record { steps = x ∷ []; adds = record { sum = Row x; operands_are = refl; steps_are = refl }; is = is }
puts_one (x ∷ y ∷ operands) before after d e is = absurd (omega arith)

pub puts_both : (operands first second before middle next after : List PolStep) (k : ℕ) → first ≡ take k operands → second ≡ drop k operands → PutsSum first before middle → PutsSum second middle next → after ≡ next ++ Add ∷ [] →
    PutsSum operands before after
puts_both operands first second before middle next after k front back one two is = record {
  steps = one.steps ++ (two.steps ++ Add ∷ []);
  adds = record {
    sum = Both one.adds.sum two.adds.sum;
    operands_are = sym (take-append-drop k operands) ∙ ap₂ ◌++◌ (sym front ∙ one.adds.operands_are) (sym back ∙ two.adds.operands_are);
    steps_are = ap₂ (λ (xs ys : List PolStep). xs ++ (ys ++ Add ∷ [])) one.adds.steps_are two.adds.steps_are;
  };
  is = is ∙ ap (λ (xs : List PolStep). xs ++ Add ∷ []) (two.is ∙ ap (λ (xs : List PolStep). xs ++ two.steps) one.is ∙ append_assoc before one.steps two.steps)
      ∙ append_assoc before (one.steps ++ two.steps) (Add ∷ []) ∙ ap (λ (xs : List PolStep). before ++ xs) (append_assoc one.steps two.steps (Add ∷ []));
}
