-- What the deletions and the bound row come to.
use Rattle.std.proofs.Common.{subst, ◌<◌, ◌^◌, Bool, true, false, ◌≡◌, ℕ, zero, suc, ◌+◌, ◌≤◌, [], ◌∷◌, length, take, get_or, count_by, cond, refl, sym, ap, ◌∙◌, arith}
use Rattle.std.specs.Prelude.{Option, Some, None, IfSome, IsFalse, is_some, sum_by}
use Rattle.std.proofs.lemmas.Bool.{and_parts, true≢false}
use Rattle.std.proofs.lemmas.List.{take_all}
use Rattle.std.proofs.lemmas.List.Sums.{sum_by-append}
use Rattle.std.proofs.Math.Seq.{take-suc}
use Rattle.hrt_base.specs.declared.numbered.RowNo.{RowNo}
use Rattle.pb_rows.specs.Formula.{row_of}
use Rattle.rank_tables.specs.Numbers.{numbers_to}
use Rattle.rank_tables.specs.Instance.{Lists, pair_count}
use Rattle.stability_model.specs.Model.{formula, rows}
use Rattle.stability_model.specs.Gone.{AreGone, ceiling}
use Rattle.proof_rules.specs.Claims.{at_least_row}
use Rattle.derivation.specs.Deletions.{Deletions, deleted_count, is_deleted}
use Rattle.derivation.specs.Derived.{Derived}
use Rattle.derivation.specs.Steps.{first_derived}
use Rattle.rank_tables.specs.Stability.{is_matching}
use Rattle.capacity_bound.specs.Bound.{DerivesBound, bound_row}
use Rattle.capacity_bound.specs.Ceiling.{BoundsMatchings, IsCeiling}
use Rattle.pair_reduction.specs.Reduced.{AreInNone, GoesOn, MakesFew}
use Rattle.hrt_solve.specs.Gauged.{AreNumbersOf, HasBoundRow, IsGauged, IsMost, value_of}

-- ---- how many pairs are deleted

counted_to : (map : Deletions) (n : ℕ) → n ≤ length map → count_by (is_deleted map) (numbers_to n) ≡ count_by is_some (take n map)
counted_to map zero h = refl
counted_to map (suc n) h =
    sum_by-append (λ p. cond (is_deleted map p) 1 0) (numbers_to n) (suc n ∷ [])
    ∙ ap (λ (k : ℕ). k + sum_by (λ o. cond (is_some o) 1 0) (get_or map n None ∷ [])) (counted_to map n (omega arith))
    ∙ sym (sum_by-append (λ o. cond (is_some o) 1 0) (take n map) (get_or map n None ∷ []))
    ∙ ap (count_by is_some) (sym (take-suc map n None (omega arith)))

pub numbers_are : (lists : Lists) (map : Deletions) (deleted top : ℕ) → AreGone lists (is_deleted map) → length map ≡ pair_count lists → deleted ≡ deleted_count map → IsCeiling lists top → AreNumbersOf lists deleted top
numbers_are lists map deleted top are whole d c = record {
  gone = is_deleted map;
  are = are;
  deleted_is = d ∙ ap (count_by is_some) (sym (take_all (length map) map (omega arith))) ∙ sym (counted_to map (length map) (omega arith)) ∙ ap (λ (n : ℕ). count_by (is_deleted map) (numbers_to n)) whole;
  ceiling_is = c;
}

-- ---- the bound row

pub has_row : (lists : Lists) (map : Deletions) (top : ℕ) (id : Option RowNo) (old new : Derived) → top ≡ ceiling lists (is_deleted map) → DerivesBound lists map id old new →
    IfSome id (λ id. row_of id.0 new.state.live ≡ Some (bound_row lists map)) → HasBoundRow lists top id new
has_row lists map top None old new e derived row = derived.0
has_row lists map top (Some id) old new e derived row = row ∙ ap (λ (n : ℕ). Some (at_least_row (formula lists) (value_of n))) (sym e)

-- what the line and the note of the bound row leave
record Keeps (old new : Derived) : Type 0 where
  lists : new.lists ≡ old.lists
  claim : new.claim ≡ old.claim
  least : new.state.least ≡ old.state.least
  next : new.state.next ≤ old.state.next + 1

keeps : (lists : Lists) (map : Deletions) (id : Option RowNo) (old new : Derived) → DerivesBound lists map id old new → Keeps old new
keeps lists map None old new derived = subst (Keeps old) (sym derived.1) (record { lists = refl; claim = refl; least = refl; next = omega arith })
keeps lists map (Some id) old new derived = subst (Keeps old) (sym derived.is) (record { lists = refl; claim = refl; least = refl; next = omega arith })

-- ---- the whole, from a new derivation

module _ (lists : Lists) (map : Deletions) (id : Option RowNo) (first reduced new : Derived) (is_first : first ≡ first_derived lists) (on : GoesOn first reduced) (derived : DerivesBound lists map id reduced new) where
  kept : Keeps reduced new
  kept = keeps lists map id reduced new derived

  pub gauged : (top : ℕ) → top ≡ ceiling lists (is_deleted map) → IfSome id (λ id. row_of id.0 new.state.live ≡ Some (bound_row lists map)) → IsGauged lists top id new
  gauged top e row = record {
    lists_are = kept.lists ∙ on.lists ∙ ap (λ (d : Derived). d.lists) is_first;
    unconcluded = kept.claim ∙ on.claim ∙ ap (λ (d : Derived). d.claim) is_first;
    bound = has_row lists map top id reduced new e derived row;
  }

  pub unlogged : new.state.least ≡ None
  unlogged = kept.least ∙ on.least ∙ ap (λ (d : Derived). d.state.least) is_first

  pub next_small : MakesFew (pair_count lists) first reduced → pair_count lists ≤ 100000 → length (rows lists) < 2 ^ 32 → new.state.next < 10 ^ 17
  next_small few most rows_few = let start : first.state.next ≡ length (rows lists) + 1 = ap (λ (d : Derived). d.state.next) is_first in let more = kept.next in omega arith

-- no weakly stable matching is larger than the ceiling
pub most : (lists : Lists) (map : Deletions) (top : ℕ) → BoundsMatchings lists (is_deleted map) top → AreInNone lists map → IsMost lists top
most lists map top bounds none m stable =
    bounds.each m (and_parts (is_matching lists m) _ stable).0 (λ p i. not_deleted (is_deleted map p) (λ d. absurd (true≢false (sym i ∙ none m p stable d))))
  where
    not_deleted : (b : Bool) → (b ≡ true → ⊥) → IsFalse b
    not_deleted true h = absurd (h refl)
    not_deleted false h = refl
