-- The reduction ends: the offers that were made for it are forgotten.
use Rattle.std.proofs.Common.{◌≡◌, ℕ, zero, suc, ◌+◌, ◌-◌, ◌*◌, ◌<◌, ◌≤◌, true, false, ◌==◌, List, [], ◌∷◌, length, refl, sym, ap, ◌∙◌, subst, inl, inr, arith}
use Rattle.std.specs.Prelude.{IfSome, None, Option, Some, is_some, replicate}
use Rattle.std.specs.List.{All}
use Rattle.std.proofs.lemmas.Bool.{eq-eqb, false_from_ne_true, or_cases, or_left, or_right}
use Rattle.std.proofs.lemmas.List.{append-nil}
use Rattle.std.proofs.lemmas.List.Elements.{All-cons, All-nil}
use Rattle.std.proofs.lemmas.List.Sums.{count_by-le-length}
use Rattle.hrt_base.specs.declared.numbered.RowNo.{RowNo}
use Rattle.pb_rows.specs.Terms.{PlainRow}
use Rattle.pb_rows.specs.Formula.{is_numbered, row_of}
use Rattle.rank_tables.specs.Numbers.{is_in}
use Rattle.rank_tables.specs.Instance.{Lists, pair_count}
use Rattle.stability_model.specs.Model.{rows}
use Rattle.proof_lines.specs.declared.note.Note.{Note}
use Rattle.proof_rules.specs.Held.{Held, is_held, keeping, row_numbers}
use Rattle.proof_rules.specs.States.{IsInOrder}
use Rattle.proof_rules.proofs.Held.{is_held-keeping}
use Rattle.proof_rules.proofs.Numbers.{live_within}
use Rattle.derivation.specs.Deletions.{AreUnitRows, Deletions, deleted_count, is_deleted, unit_row_no, unit_row}
use Rattle.derivation.specs.Derived.{Derived}
use Rattle.derivation.specs.Ready.{IsReady, IsSpare}
use Rattle.derivation.proofs.NoneDeleted.{model_below}
use Rattle.derivation.proofs.Readiness.{row_numbered}
use Rattle.pair_reduction.specs.declared.offered.Offers.{Offers}
use Rattle.pair_reduction.specs.Added.{AddsNotes, unit_notes}
use Rattle.pair_reduction.specs.Offered.{AreOffers, offers_left}
use Rattle.pair_reduction.specs.Reduced.{CanForget, Forgets, GoesOn, HoldsUnits, KeepsLive, Reduces}
use Rattle.pair_reduction.proofs.Added.{adds_further}
use Rattle.pair_reduction.proofs.Deleting.{model_lives}
use Rattle.pair_reduction.proofs.GoingOn.{goes_further, kept_numbered, numbered_row}
use Rattle.pair_reduction.proofs.Offering.{most_offers}
use Rattle.pair_reduction.proofs.Reducing.{none_at, none_counted}

-- ---- the rows that were made

-- all rows so far, and those that can still be made, are at most two for each pair
pub two_each : (lists : Lists) (start now : Derived) (after : Deletions) (offers : Offers) (n : ℕ) → Reduces lists start now (replicate (pair_count lists) None) after offers.made.items → AreOffers lists now.state.live offers →
    n ≤ now.state.next + (pair_count lists - deleted_count after) + offers_left lists offers → n ≤ start.state.next + 2 * pair_count lists
two_each lists start now after offers n r are few =
    omega (arith, few, r.few, none_counted (pair_count lists), r.can.pairs, count_by-le-length is_some after, most_offers lists now.state.live offers are)

-- ---- what is left

spare_all : (d : Derived) (ids : List RowNo) → ((n : ℕ) → is_in n (row_numbers ids) ≡ true → (is_held d.held n ≡ false) × (length (rows d.lists) < n)) → All (IsSpare d) ids
spare_all d [] h = All-nil (IsSpare d)
spare_all d (id ∷ ids) h =
    let here = h id.0 (or_left (id.0 == id.0) (is_in id.0 (row_numbers ids)) (eq-eqb id.0 id.0 refl)) in
    All-cons (IsSpare d) id ids (record { not_held = here.0; behind_model = here.1 }) (spare_all d ids (λ n i. h n (or_right (id.0 == n) (is_in n (row_numbers ids)) i)))

-- an offer is no row from before, and no row of a deleted pair: it isn't held, and is no row of the model
module _ (lists : Lists) (start unit : Derived) (before after : Deletions) (made : List RowNo) (ready : IsReady start) (order : IsInOrder start.state) (reduces : Reduces lists start unit before after made) where
  offer_unheld : (n : ℕ) → is_in n (row_numbers made) ≡ true → is_held unit.held n ≡ false
  offer_unheld n i =
      false_from_ne_true (is_held unit.held n)
      (λ h. elim (or_cases (is_held start.held n) (is_in n reduces.ids) (sym (is_held-keeping start.held reduces.ids n) ∙ ap (λ (x : Held). is_held x n) (sym reduces.held) ∙ h)) [
        | inl e ↦
            let found = numbered_row n start.state.live (ready.held_live n e) in
            let place = live_within n start.state.next found.0 start.state.live order found.1 in
            let offer = reduces.offers.each n i in
            omega (arith, place.1, offer.0)
        | inr e ↦ reduces.apart n e i
      ])

  offer_behind : (n : ℕ) → is_in n (row_numbers made) ≡ true → length (rows unit.lists) < n
  offer_behind n i =
      let offer = reduces.offers.each n i in
      let same : length (rows unit.lists) ≡ length (rows start.lists) = ap (λ (l : Lists). length (rows l)) reduces.goes_on.lists in
      omega (arith, offer.0, same, model_below start ready order)

  pub can_forget : CanForget made unit
  can_forget = record {
    distinct = reduces.offers.distinct;
    live = λ n i. (reduces.offers.each n i).2;
    spare = spare_all unit made (λ n i. (offer_unheld n i, offer_behind n i));
  }

-- where no pair was deleted, none is told of
none_told : (pairs p : ℕ) → is_deleted [] p ≡ is_deleted (replicate pairs None) p
none_told pairs zero = refl
none_told pairs (suc k) = sym (ap is_some (none_at pairs (suc k)))

from_none : (pairs : ℕ) (after : Deletions) (notes : List Note) (old new : Derived) → AddsNotes (replicate pairs None) after notes old new → AddsNotes [] after notes old new
from_none pairs after notes old new adds = record {
  pieces = adds.pieces;
  lawful = λ t tells. adds.lawful t (record { since = tells.since; units = λ p. tells.units p ∙ none_told pairs p });
  are = adds.are;
}

module _ (lists : Lists) (start unit new : Derived) (pairs : ℕ) (after : Deletions) (made : List RowNo) (ready : IsReady start) (order : IsInOrder start.state) (reduces : Reduces lists start unit (replicate pairs None) after made) (forgets : Forgets made unit new) where
  -- a row from before isn't one of the offers, nor is a row of a deleted pair
  old_apart : (n : ℕ) (other : PlainRow) → row_of n start.state.live ≡ Some other → is_in n (row_numbers made) ≡ false
  old_apart n other e = false_from_ne_true (is_in n (row_numbers made)) (λ i. let place = live_within n start.state.next other start.state.live order e in let offer = reduces.offers.each n i in omega (arith, place.1, offer.0))

  unit_apart : (n : ℕ) → is_in n reduces.ids ≡ true → is_in n (row_numbers made) ≡ false
  unit_apart n i = false_from_ne_true (is_in n (row_numbers made)) (reduces.apart n i)

  pub ends_goes : GoesOn start new
  ends_goes = goes_further start unit new reduces.goes_on forgets.goes_on

  pub ends_kept : KeepsLive start new
  ends_kept n other e = forgets.others n (old_apart n other e) ∙ reduces.kept n other e

  held_left : new.held ≡ keeping reduces.ids start.held
  held_left = forgets.held ∙ reduces.held

  of_unit : (p : ℕ) (id : RowNo) → unit_row_no after p ≡ Some id → is_in id.0 reduces.ids ≡ true
  of_unit p id e = elim (reduces.all p id e) [
    | inl f ↦ let wrong : ◌≡◌ {A = Option RowNo} None (Some id) = sym (none_at pairs p) ∙ f in absurd (cc)
    | inr i ↦ i
  ]

  unit_stays : (p : ℕ) (o : Option RowNo) → unit_row_no after p ≡ o → IfSome o (λ id. row_of id.0 unit.state.live ≡ Some (unit_row p)) → IfSome o (λ id. row_of id.0 new.state.live ≡ Some (unit_row p))
  unit_stays p None e h = tt
  unit_stays p (Some id) e h = forgets.others id.0 (unit_apart id.0 (of_unit p id e)) ∙ h

  pub ends_units : AreUnitRows new.state.live after
  ends_units p = unit_stays p (unit_row_no after p) refl (reduces.can.units p)

  held_lives : (n : ℕ) → is_held new.held n ≡ true → is_numbered n new.state.live ≡ true
  held_lives n h = elim (or_cases (is_held start.held n) (is_in n reduces.ids) (sym (is_held-keeping start.held reduces.ids n) ∙ ap (λ (x : Held). is_held x n) (sym held_left) ∙ h)) [
    | inl e ↦ kept_numbered start new ends_kept n (ready.held_live n e)
    | inr e ↦
        let found = reduces.each n e in
        row_numbered n (unit_row found.0) new.state.live (subst (λ (o : Option RowNo). IfSome o (λ k. row_of k.0 new.state.live ≡ Some (unit_row found.0))) found.1 (ends_units found.0))
  ]

  pub ends_ready : IsReady new
  ends_ready = record {
    unconcluded = ends_goes.claim ∙ ready.unconcluded;
    model_live = λ k first last. model_lives start new ends_goes ends_kept ready k first last;
    held_live = held_lives;
  }

  pub ends_holds : HoldsUnits start new after
  ends_holds = record {
    ids = reduces.ids;
    later = λ n i. let place = reduces.later n i in (place.0, omega (arith, place.1, forgets.next));
    held = held_left;
    notes = from_none pairs after (unit_notes reduces.ids) start new
        (subst (λ (ns : List Note). AddsNotes (replicate pairs None) after ns start new) (append-nil (unit_notes reduces.ids))
        (adds_further (unit_notes reduces.ids) [] start unit new (replicate pairs None) after after reduces.notes (forgets.notes after)));
    only = λ n live out. let left = forgets.only n live in reduces.only n left.0 out left.1;
    count = omega (arith, reduces.count, none_counted pairs);
    each = reduces.each;
    all = of_unit;
  }
