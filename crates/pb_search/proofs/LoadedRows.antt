-- Rows of pairs that were loaded: they are broken, and the engine goes back to where one of them is open.
use Rattle.std.proofs.Common.{◌≡◌, ℕ, map, List, [], ◌∷◌, ◌++◌, length, refl, ap, ◌∙◌, arith}
use Rattle.std.specs.List.{All}
use Rattle.std.proofs.lemmas.List.{length-map}
use Rattle.std.proofs.lemmas.List.Elements.{All-cons, All-head, All-nil, All-tail}
use Rattle.hrt_base.specs.declared.numbered.PairNo.{PairNo}
use Rattle.pb_rows.specs.Closure.{Falsified, Literals}
use Rattle.pb_rows.specs.Rows.{in_normal_form}
use Rattle.rank_tables.specs.Instance.{Lists}
use Rattle.stability_model.specs.Model.{pair_row}
use Rattle.row_arena.specs.Held.{Held}
use Rattle.row_arena.specs.declared.arena.Place.{Place}
use Rattle.pb_propagate.specs.Entries.{set_of}
use Rattle.pb_propagate.specs.Engines.{EngineState}
use Rattle.pb_propagate.specs.Moments.{IsInOrder}
use Rattle.agreement.specs.Agreement.{Agree}
use Rattle.agreement.proofs.Growing.{engines_followed}
use Rattle.derivation.specs.Derived.{Derived, StaysValid}
use Rattle.derivation.specs.Pieces.{TakesNote}
use Rattle.derivation.specs.Ready.{IsReady}
use Rattle.lazy_stability.specs.Candidates.{candidate}
use Rattle.lazy_stability.specs.Loads.{AreFalsified, AreNotHeld, LoadsRows, load_note, place_numbers, rows_at}
use Rattle.pb_search.specs.Loading.{LoadsBroken}
use Rattle.pb_search.specs.Returning.{GoesBack, IsBroken}
use Rattle.pb_search.proofs.AddedRows.{adds_rows, all_broken}

places_are : (lists : Lists) (pairs : List PairNo) (ns : List ℕ) → length ns ≡ length pairs → map (λ (h : Held). h.place) (rows_at lists pairs ns) ≡ ns
places_are lists [] [] e = refl
places_are lists [] (n ∷ ns) e = absurd (omega (arith, e))
places_are lists (p ∷ pairs) [] e = absurd (omega (arith, e))
places_are lists (p ∷ pairs) (n ∷ ns) e = ap (λ (rest : List ℕ). n ∷ rest) (places_are lists pairs ns (omega (arith, e)))

rows_falsified : (lists : Lists) (set : Literals) (pairs : List PairNo) (ns : List ℕ) → AreFalsified lists set pairs → All (λ (h : Held). Falsified set h.row) (rows_at lists pairs ns)
rows_falsified lists set [] ns all = All-nil (λ (h : Held). Falsified set h.row)
rows_falsified lists set (p ∷ pairs) [] all = All-nil (λ (h : Held). Falsified set h.row)
rows_falsified lists set (p ∷ pairs) (n ∷ ns) all =
    let P : PairNo → Type 0 = λ q. Falsified set (in_normal_form (pair_row lists q.0)) in
    All-cons (λ (h : Held). Falsified set h.row) _ (rows_at lists pairs ns) (All-head P p pairs all) (rows_falsified lists set pairs ns (All-tail P p pairs all))

module _ (lists : Lists) (pairs : List PairNo) (places : List Place) (e mid : EngineState) (loads : LoadsRows lists pairs places e mid) (order : IsInOrder mid) where
  more : List Held
  more = rows_at lists pairs (place_numbers places)

  trail : mid.trail ≡ e.trail
  trail = ap (λ (x : EngineState). x.trail) loads.is

  held : mid.held ≡ e.held ++ more
  unfolding more
  held = ap (λ (x : EngineState). x.held) loads.is

  same : map (λ (h : Held). h.place) more ≡ place_numbers places
  unfolding more
  same = places_are lists pairs (place_numbers places) (length-map places (λ (p : Place). p.0) ∙ loads.count)

  pub loaded_broken : AreFalsified lists (set_of e.trail) pairs → All (IsBroken mid) places
  unfolding more
  loaded_broken all = all_broken e mid more places trail held order.sound.held same (rows_falsified lists (set_of e.trail) pairs (place_numbers places) all)

  pub loads_broken : (new : EngineState) (d made : Derived) → TakesNote (load_note d.lists (candidate d.lists e) pairs) d made → AreNotHeld d.lists d.held pairs → Agree mid made → IsReady made → StaysValid d made → AreFalsified lists (set_of e.trail) pairs → GoesBack places mid new →
      LoadsBroken pairs e new d made
  loads_broken new d made note fresh agree ready valid all back = record {
    note = note;
    fresh = fresh;
    agree = engines_followed mid new made agree (record { vars = back.vars; held = back.held });
    ready = ready;
    valid = valid;
    level = back.level;
    adds = adds_rows e mid more places trail held order.sound.held same new back (loaded_broken all);
  }
