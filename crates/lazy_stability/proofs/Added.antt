-- The rows of pairs, added to an engine one after another.
use Rattle.std.proofs.Common.{◌≡◌, ℕ, ◌+◌, ◌<◌, suc, List, [], ◌∷◌, ◌++◌, length, take, get_or, refl, sym, ap, ap₂, ◌∙◌, arith, length-append}
use Rattle.std.specs.Prelude.{Option, Some}
use Rattle.std.proofs.lemmas.List.{append-nil, append_assoc, length-map, map-append}
use Rattle.std.proofs.Math.Seq.{take-suc}
use Rattle.hrt_base.specs.declared.numbered.PairNo.{PairNo}
use Rattle.pb_rows.specs.Terms.{PlainRow}
use Rattle.pb_rows.specs.Rows.{in_normal_form}
use Rattle.rank_tables.specs.Instance.{Lists}
use Rattle.stability_model.specs.Model.{pair_row, pair_row_no}
use Rattle.row_arena.specs.Held.{Held}
use Rattle.row_arena.specs.declared.arena.Place.{Place}
use Rattle.pb_propagate.specs.Engines.{EngineState}
use Rattle.lazy_stability.specs.Loads.{LoadsFront, LoadsRows, place_numbers, rows_at}

-- one more pair is taken
pub take_next : (pairs : List PairNo) (k : ℕ) (d : PairNo) → k < length pairs → take (k + 1) pairs ≡ take k pairs ++ get_or pairs k d ∷ []
take_next pairs k d h = let e : k + 1 ≡ suc k = omega arith in ap (λ (n : ℕ). take n pairs) e ∙ take-suc pairs k d h

-- two rows at one place are one
pub same_row : (found : Option PlainRow) (a b : PlainRow) → found ≡ Some a → found ≡ Some b → a ≡ b
same_row found a b e f = let same : Some a ≡ Some b = sym e ∙ f in cc

-- one more row at one more place
rows_push : (lists : Lists) (pairs : List PairNo) (places : List ℕ) (p : PairNo) (place : ℕ) → length places ≡ length pairs →
    rows_at lists (pairs ++ p ∷ []) (places ++ place ∷ []) ≡ rows_at lists pairs places ++ record { place = place; row = in_normal_form (pair_row lists p.0); tag = pair_row_no lists p.0 } ∷ []
rows_push lists [] [] p place e = refl
rows_push lists [] (k ∷ places) p place e = absurd (omega (arith, e))
rows_push lists (q ∷ pairs) [] p place e = absurd (omega (arith, e))
rows_push lists (q ∷ pairs) (k ∷ places) p place e = ap (λ (hs : List Held). record { place = k; row = in_normal_form (pair_row lists q.0); tag = pair_row_no lists q.0 } ∷ hs) (rows_push lists pairs places p place (omega (arith, e)))

pub one_added :
    (lists : Lists) (old now new : EngineState) (pairs more : List PairNo) (places after : List Place) (p : PairNo) (place : Place) (row : PlainRow) (tag : ℕ) → LoadsRows lists pairs places old now →
    new ≡ record now { held = now.held ++ record { place = place.0; row = row; tag = tag } ∷ []; due_rows = now.due_rows ++ place.0 ∷ [] } →
    after ≡ places ++ place ∷ [] → more ≡ pairs ++ p ∷ [] → row ≡ in_normal_form (pair_row lists p.0) → tag ≡ pair_row_no lists p.0 → LoadsRows lists more after old new
one_added lists old now new pairs more places after p place row tag loads step pushed taken r t =
    let numbers : List ℕ = place_numbers places in
    let same : length numbers ≡ length pairs = length-map places (λ (x : Place). x.0) ∙ loads.count in
    let numbers_now : place_numbers after ≡ numbers ++ place.0 ∷ [] = ap place_numbers pushed ∙ map-append (λ (x : Place). x.0) places (place ∷ []) in
    let rows_now : rows_at lists more (place_numbers after) ≡ rows_at lists pairs numbers ++ record { place = place.0; row = row; tag = tag } ∷ [] =
    ap₂ (rows_at lists) taken numbers_now ∙ rows_push lists pairs numbers p place.0 same
    ∙ ap₂ (λ (x : PlainRow) (n : ℕ). rows_at lists pairs numbers ++ record { place = place.0; row = x; tag = n } ∷ []) (sym r) (sym t) in
    record {
      is = step
          ∙ ap (λ (e : EngineState). record e { held = e.held ++ record { place = place.0; row = row; tag = tag } ∷ []; due_rows = e.due_rows ++ place.0 ∷ [] }) loads.is
          ∙ ap₂ (λ (hs : List Held) (ds : List ℕ). record old { held = hs; due_rows = ds })
          (append_assoc old.held (rows_at lists pairs numbers) (record { place = place.0; row = row; tag = tag } ∷ []) ∙ ap (λ (hs : List Held). old.held ++ hs) (sym rows_now))
          (append_assoc old.due_rows numbers (place.0 ∷ []) ∙ ap (λ (ds : List ℕ). old.due_rows ++ ds) (sym numbers_now));
      count = omega (arith, loads.count, ap length pushed, ap length taken, length-append places (place ∷ []), length-append pairs (p ∷ []));
    }

-- no row was added
pub none_added : (lists : Lists) (pairs : List PairNo) (e : EngineState) → LoadsFront lists pairs e e
none_added lists pairs e = record {
  count = 0;
  places = [];
  loads = record { is = ap₂ (λ (hs : List Held) (ds : List ℕ). record e { held = hs; due_rows = ds }) (sym (append-nil e.held)) (sym (append-nil e.due_rows)); count = refl };
}
