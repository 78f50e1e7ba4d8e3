-- A decision of a quiet engine.
use Rattle.std.proofs.Common.{◌≡◌, ◌≤◌, ◌-◌, ◌==◌, ℕ, false, List, [], ◌∷◌, ◌++◌, get_or, sym, ap, ◌∙◌, subst, append-nil, inl, inr, arith}
use Rattle.std.specs.Prelude.{Option, Some, None, IfNone, IfSome}
use Rattle.std.proofs.lemmas.Bool.{cases_lt}
use Rattle.hrt_base.specs.declared.literal.Lit.{Lit}
use Rattle.pb_rows.specs.Terms.{opposite_lit}
use Rattle.pb_rows.specs.Closure.{Keeps}
use Rattle.pb_propagate.specs.declared.visit.Due.{Due}
use Rattle.pb_propagate.specs.declared.visit.Due.TheVariants.{Literal, Row}
use Rattle.pb_propagate.specs.Entries.{Entry, level_of, set_of, up_to}
use Rattle.pb_propagate.specs.Engines.{AreKept, AreKeptBelow, EngineState, IsIdle, is_due_literal, is_due_row}
use Rattle.pb_propagate.specs.Visits.{IsDue}
use Rattle.pb_propagate.proofs.Levels.{level-append, up_to-above, up_to-all, up_to-below}
use Rattle.pb_rows.specs.Closure.{among}
use Rattle.std.specs.List.{list_any}

nothing_due : (e : EngineState) (due : Due) → IsIdle e → IsDue e due → ⊥
nothing_due e (Row place) idle h = (let none : is_due_row place.0 e ≡ false = ap (λ (ps : List ℕ). list_any (λ p. place.0 == p) ps) idle.rows in cc)
nothing_due e (Literal l) idle h = (let none : is_due_literal l e ≡ false = ap (λ (ls : List Lit). among ls l) idle.literals in cc)

pub kept_idle : (e : EngineState) (o : Option Due) → IsIdle e → IfSome o (IsDue e) → IfNone o (AreKept e) → AreKept e
kept_idle e None idle some none = none
kept_idle e (Some due) idle some none = absurd (nothing_due e due idle some)

-- nothing changes up to a level that was there
same_up_to : (k : ℕ) (es : List Entry) (l : Lit) → k ≤ level_of es → up_to k (es ++ record { lit = l; reason = None } ∷ []) ≡ up_to k es
same_up_to k es l h = elim (cases_lt k (level_of es)) [
  | inl below ↦ up_to-below k es (record { lit = l; reason = None } ∷ []) below
  | inr at ↦
      let none : k - level_of es ≡ 0 = omega (arith, h) in
      up_to-above k es (record { lit = l; reason = None } ∷ []) at
      ∙ (ap (λ (j : ℕ). es ++ up_to j (record { lit = l; reason = None } ∷ [])) none ∙ (append-nil es ∙ sym (up_to-all k es at)))
]

pub decided_kept : (e f : EngineState) (l : Lit) → AreKept e → f ≡ record e { trail = e.trail ++ record { lit = l; reason = None } ∷ []; due_literals = opposite_lit l ∷ [] } → AreKeptBelow f
decided_kept e f l kept is =
    subst AreKeptBelow (sym is) (λ i d h k below.
    let within : k ≤ level_of e.trail = omega (arith, below, level-append e.trail (record { lit = l; reason = None } ∷ [])) in
    subst (λ (es : List Entry). Keeps (set_of es) (get_or e.held i d).row) (sym (same_up_to k e.trail l within)) (kept k i d h))
