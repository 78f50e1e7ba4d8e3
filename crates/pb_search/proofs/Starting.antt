-- What a search asks for is enough to start it, and what it ends in is what it is to find.
use Rattle.std.proofs.Common.{◌≡◌, ◌==◌, ℕ, true, List, [], ◌∷◌, ◌++◌, refl, ap, ◌∙◌, arith}
use Rattle.std.proofs.lemmas.Bool.{eq-eqb, or_left, or_right}
use Rattle.hrt_base.specs.declared.numbered.PairNo.{PairNo}
use Rattle.hrt_base.specs.declared.numbered.RowNo.{RowNo}
use Rattle.rank_tables.specs.Numbers.{is_in, numbers_to}
use Rattle.stability_model.specs.Model.{pair_row_no}
use Rattle.proof_rules.specs.Held.{is_held}
use Rattle.proof_rules.proofs.Held.{is_in-append}
use Rattle.derivation.specs.Deletions.{Deletions}
use Rattle.derivation.specs.Derived.{Derived}
use Rattle.pb_propagate.specs.Entries.{level_of}
use Rattle.pb_propagate.specs.Engines.{AreKeptBelow, EngineState}
use Rattle.agreement.specs.Agreement.{Agree}
use Rattle.pb_search.specs.declared.limits.Limits.{Limits}
use Rattle.pb_search.specs.Knowing.{CanSearch, HoldsOpening, unit_numbers}
use Rattle.pb_search.specs.Loop.{IsAtStep}
use Rattle.pb_search.proofs.Lawful.{goes_none, marked_none}
use Rattle.pb_search.proofs.Steps.{starts}

-- the last two of the opening rows are held
holds_last : (gone : Deletions) (bound improve : RowNo) (d : Derived) (n : ℕ) → HoldsOpening gone bound improve d → is_in n (bound.0 ∷ improve.0 ∷ []) ≡ true → is_held d.held n ≡ true
holds_last gone bound improve d n h last =
    h.holds n
    ∙ is_in-append n (numbers_to (pair_row_no d.lists 0)) (unit_numbers gone ++ bound.0 ∷ improve.0 ∷ [])
    ∙ or_right (is_in n (numbers_to (pair_row_no d.lists 0))) (is_in n (unit_numbers gone ++ bound.0 ∷ improve.0 ∷ []))
    (is_in-append n (unit_numbers gone) (bound.0 ∷ improve.0 ∷ []) ∙ or_right (is_in n (unit_numbers gone)) (is_in n (bound.0 ∷ improve.0 ∷ [])) last)

bound_last : (bound improve : RowNo) → is_in bound.0 (bound.0 ∷ improve.0 ∷ []) ≡ true
bound_last bound improve = or_left (bound.0 == bound.0) (is_in bound.0 (improve.0 ∷ [])) (eq-eqb bound.0 bound.0 refl)

improve_last : (bound improve : RowNo) → is_in improve.0 (bound.0 ∷ improve.0 ∷ []) ≡ true
improve_last bound improve = or_right (bound.0 == improve.0) (is_in improve.0 (improve.0 ∷ [])) (or_left (improve.0 == improve.0) (is_in improve.0 []) (eq-eqb improve.0 improve.0 refl))

nothing_below : (e : EngineState) → e.trail ≡ [] → AreKeptBelow e
nothing_below e none i h lt k low = absurd (omega (arith, low, ap level_of none))

pub can_start : (limits : Limits) (gone : Deletions) (improve : RowNo) (pairs : List PairNo) (e : EngineState) (d : Derived) → CanSearch gone limits.ceiling limits.bound_row improve pairs d → Agree e d → e.trail ≡ [] → IsAtStep limits pairs d e d
can_start limits gone improve pairs e d can agree none = record {
  since = 0;
  is = starts d limits.budget e (record { ready = can.ready; agree = agree; within = omega (arith, can.opening.unlearned) }) (nothing_below e none);
  come = record {
    unlearned = can.opening.unlearned;
    goes_on = goes_none d;
    marked = marked_none d;
    knows = record {
      found = can.found;
      shorter = can.shorter;
      first = can.first_held;
      top = record { held = holds_last gone limits.bound_row improve d limits.bound_row.0 can.opening (bound_last limits.bound_row improve); live = can.top };
      improve = improve;
      larger = record { held = holds_last gone limits.bound_row improve d improve.0 can.opening (improve_last limits.bound_row improve); live = can.larger };
      behind_model = can.behind_model;
    };
  };
}
