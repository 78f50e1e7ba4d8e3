-- An engine goes back to the lowest level at which one of some rows is open.
use Rattle.std.proofs.Common.{◌≡◌, ◌<◌, ◌+◌, ℕ, suc, min, take, List, [], ◌∷◌, ◌++◌, length, get_or, sym, ap, ◌∙◌, subst, inl, inr, arith}
use Rattle.std.proofs.Math.Seq.{take-suc}
use Rattle.std.specs.Prelude.{◌⊎◌, Option, Some, None}
use Rattle.std.specs.Option.{unwrap_or}
use Rattle.std.specs.List.{All}
use Rattle.std.proofs.lemmas.Bool.{cases_lt}
use Rattle.std.proofs.lemmas.List.Elements.{All-nil, All-push, Contains-append_left, Contains-get_or, Contains-push}
use Rattle.pb_rows.specs.Closure.{Keeps}
use Rattle.row_arena.specs.Held.{row_at}
use Rattle.row_arena.specs.declared.arena.Place.{Place}
use Rattle.pb_propagate.specs.Entries.{Entry, level_of, set_of, up_to}
use Rattle.pb_propagate.specs.Engines.{EngineState, IsLowestOpen, set_at}
use Rattle.pb_propagate.specs.Open.{IsOpen}
use Rattle.pb_propagate.proofs.Levels.{up_to-all}
use Rattle.pb_search.specs.Returning.{GoesBack, IsBroken, IsLowest, IsOpenAt}

-- at first nothing was looked at
pub lowest_none : (e : EngineState) (level : ℕ) → level ≡ level_of e.trail → IsLowest [] e level
lowest_none e level is = record { within = omega (arith, is); under = λ k low. All-nil (λ (place : Place). Keeps (set_at k e) (row_at place.0 e.held)); reached = inl is }

open_more : (done : List Place) (place : Place) (level : ℕ) (e : EngineState) → IsOpenAt done level e → IsOpenAt (done ++ place ∷ []) level e
open_more done place level e o = record { place = o.place; among = Contains-append_left done (place ∷ []) o.place o.among; is_open = o.is_open }

-- one more row
lowest_next : (done : List Place) (place : Place) (e : EngineState) (lowest : ℕ) (o : Option ℕ) → IsLowest done e lowest → IsLowestOpen e (row_at place.0 e.held) o → (result : ℕ) → result ≡ min lowest (unwrap_or o lowest) → IsLowest (done ++ place ∷ []) e result
lowest_next done place e lowest None h is result r =
    let same : result ≡ lowest = omega (arith, r) in
    subst (IsLowest (done ++ place ∷ []) e) (sym same) (record {
      within = h.within;
      under = λ k low. All-push (λ (p : Place). Keeps (set_at k e) (row_at p.0 e.held)) done place (h.under k low) (is k (omega (arith, low, h.within)));
      reached = elim h.reached [ inl w ↦ inl w | inr s ↦ inr (open_more done place lowest e s) ];
    })
lowest_next done place e lowest (Some level) h is result r = elim (cases_lt level lowest) [
  | inl below ↦
      let same : result ≡ level = omega (arith, r, below) in
      subst (IsLowest (done ++ place ∷ []) e) (sym same) (record {
        within = is.0;
        under = λ k low. All-push (λ (p : Place). Keeps (set_at k e) (row_at p.0 e.held)) done place (h.under k (omega (arith, low, below))) (is.2 k low);
        reached = inr (record { place = place; among = Contains-push done place; is_open = is.1 });
      })
  | inr above ↦
      let same : result ≡ lowest = omega (arith, r, above) in
      subst (IsLowest (done ++ place ∷ []) e) (sym same) (record {
        within = h.within;
        under = λ k low. All-push (λ (p : Place). Keeps (set_at k e) (row_at p.0 e.held)) done place (h.under k low) (is.2 k (omega (arith, low, above)));
        reached = elim h.reached [ inl w ↦ inl w | inr s ↦ inr (open_more done place lowest e s) ];
      })
]

pub lowest_step : (places : List Place) (i : ℕ) (d : Place) (e : EngineState) (lowest result : ℕ) (o : Option ℕ) → i < length places → IsLowest (take i places) e lowest → IsLowestOpen e (row_at (get_or places i d).0 e.held) o → result ≡ min lowest (unwrap_or o lowest) →
    IsLowest (take (i + 1) places) e result
lowest_step places i d e lowest result o within h is r = subst (λ (ps : List Place). IsLowest ps e result) (sym taken) (lowest_next (take i places) (get_or places i d) e lowest o h is result r)
  where
    taken : take (i + 1) places ≡ take i places ++ get_or places i d ∷ []
    taken = let e : i + 1 ≡ suc i = omega arith in ap (λ (n : ℕ). take n places) e ∙ take-suc places i d within

-- a row that is falsified under the whole trail is open at the engine's level
pub goes_back : (places : List Place) (e new : EngineState) (level : ℕ) → 0 < length places → All (IsBroken e) places → IsLowest places e level → new.vars ≡ e.vars → new.held ≡ e.held → new.trail ≡ up_to level e.trail → GoesBack places e new
goes_back [] e new level some broken lowest vars held trail = absurd (omega arith)
goes_back (place ∷ places) e new level some broken lowest vars held trail = record { level = level; vars = vars; held = held; trail = trail; under = lowest.under; at = by lowest.reached }
  where
    by : (level ≡ level_of e.trail) ⊎ IsOpenAt (place ∷ places) level e → IsOpenAt (place ∷ places) level e
    by (inr s) = s
    by (inl w) =
        let first : IsBroken e place = broken 0 place (omega arith) in
        let whole : up_to level e.trail ≡ e.trail = up_to-all level e.trail (omega (arith, w)) in
        record { place = place; among = Contains-get_or (place ∷ places) 0 place (omega arith); is_open = subst (λ (t : List Entry). IsOpen (set_of t) (row_at place.0 e.held)) (sym whole) (inl first.falsified) }
