-- A trail without its newest literals.
use Rattle.std.proofs.Common.{◌≡◌, ◌∙◌, ◌≤◌, ◌<◌, ◌++◌, ◌∷◌, ℕ, List, [], Option, Some, None, option_to_list, append-nil, length, length-append, take, refl, sym, ap, ap₂, arith}
use Rattle.std.proofs.lemmas.List.{take-append-le, take_all}
use Rattle.hrt_base.specs.declared.literal.Lit.{Lit}
use Rattle.rup_engine.specs.Trail.{Assigned}

-- the oldest so many literals are as they were
pub record IsShortened (count : ℕ) (old new : Assigned) : Type 0 where
  pub vars : new.vars ≡ old.vars
  pub front : take count new.literals ≡ take count old.literals

pub shortened-nothing : (count : ℕ) (t : Assigned) → IsShortened count t t
shortened-nothing count t = record { vars = refl; front = refl }

-- one literal less, of more than so many
pub shortened-more : (count : ℕ) (old mid new : Assigned) (r : Option Lit) → IsShortened count old mid → mid ≡ record { vars = new.vars; literals = new.literals ++ option_to_list r } → count < length mid.literals
    → IsShortened count old new
shortened-more count old mid new r s last h =
    let literals : mid.literals ≡ new.literals ++ option_to_list r = ap (λ (t : Assigned). t.literals) last in
    record {
      vars = sym (ap (λ (t : Assigned). t.vars) last) ∙ s.vars;
      front = sym (ap (take count) literals ∙ front r literals) ∙ s.front;
    }
  where
    front : (r : Option Lit) → mid.literals ≡ new.literals ++ option_to_list r → take count (new.literals ++ option_to_list r) ≡ take count new.literals
    front None e = ap (take count) (append-nil new.literals)
    front (Some l) e = take-append-le count new.literals (l ∷ []) (omega (arith, h, ap length e, length-append new.literals (l ∷ [])))

pub shortened-all : (count : ℕ) (old new : Assigned) → IsShortened count old new → length new.literals ≤ count → new ≡ record { vars = old.vars; literals = take count old.literals }
shortened-all count old new s h =
    let made : ℕ → List Lit → Assigned = λ v ls. record { vars = v; literals = ls } in
    ap₂ made s.vars (sym (take_all count new.literals h) ∙ s.front)
