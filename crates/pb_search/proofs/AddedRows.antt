-- Rows that were added behind those of an engine, seen by their places.
use Rattle.std.proofs.Common.{◌≡◌, ◌==◌, ℕ, zero, suc, true, map, List, [], ◌∷◌, ◌++◌, get_or, refl, sym, ap, ◌∙◌, subst, inl, inr, arith}
use Rattle.std.specs.Prelude.{Contains}
use Rattle.std.specs.List.{All}
use Rattle.std.proofs.lemmas.Bool.{cases_eq, eq-eqb, ne_eqb}
use Rattle.std.proofs.lemmas.List.Elements.{All-contains, All-cons, All-head, All-nil, All-tail, Contains-get_or}
use Rattle.pb_rows.specs.Terms.{PlainRow}
use Rattle.pb_rows.specs.Closure.{Falsified, Keeps}
use Rattle.row_arena.specs.Held.{AreHeld, Held, is_held, row_at}
use Rattle.row_arena.specs.declared.arena.Place.{Place}
use Rattle.row_arena.proofs.Places.{row_at-each}
use Rattle.agreement.proofs.Numbers.{or_first, or_second}
use Rattle.lazy_stability.specs.Loads.{place_numbers}
use Rattle.pb_propagate.specs.Entries.{Entry, set_of, up_to}
use Rattle.pb_propagate.specs.Engines.{EngineState, set_at}
use Rattle.pb_propagate.specs.Open.{IsOpen}
use Rattle.pb_search.specs.Moves.{AddsRows}
use Rattle.pb_search.specs.Returning.{GoesBack, IsBroken}

-- a row that stands at its place
pub record Stands (held : List Held) (h : Held) : Type 0 where
  pub row : row_at h.place held ≡ h.row
  pub is : is_held h.place held ≡ true

own : (held : List Held) → All (λ (h : Held). is_held h.place held ≡ true) held
own [] k d h = absurd (omega arith)
own (x ∷ held) zero d h = or_first (x.place == x.place) (is_held x.place held) (eq-eqb x.place x.place refl)
own (x ∷ held) (suc k) d h = or_second ((get_or held k d).place == x.place) (is_held (get_or held k d).place held) (own held k d (omega arith))

all_stand : (vars : ℕ) (held : List Held) → AreHeld vars held → All (Stands held) held
all_stand vars held are k d h = record { row = row_at-each vars held are k d h; is = own held k d h }

behind : {A : Type 0} (P : A → Type 0) (xs ys : List A) → All P (xs ++ ys) → All P ys
behind P [] ys all = all
behind P (x ∷ xs) ys all = behind P xs ys (All-tail P x (xs ++ ys) all)

-- what is so of rows is so of what stands at their places
to_places : (P : PlainRow → Type 0) (held more : List Held) (places : List Place) → map (λ (h : Held). h.place) more ≡ place_numbers places → All (Stands held) more → All (λ (h : Held). P h.row) more →
    All (λ (place : Place). (is_held place.0 held ≡ true) × P (row_at place.0 held)) places
to_places P held [] [] same stand all = All-nil (λ (place : Place). (is_held place.0 held ≡ true) × P (row_at place.0 held))
to_places P held [] (place ∷ places) same stand all = absurd (cc)
to_places P held (h ∷ more) [] same stand all = absurd (cc)
to_places P held (h ∷ more) (place ∷ places) same stand all =
    let here : h.place ≡ place.0 = cc in
    let rest : map (λ (x : Held). x.place) more ≡ place_numbers places = cc in
    let at : Stands held h = All-head (Stands held) h more stand in
    All-cons (λ (p : Place). (is_held p.0 held ≡ true) × P (row_at p.0 held)) place places
    (subst (λ (n : ℕ). (is_held n held ≡ true) × P (row_at n held)) here (at.is, subst P (sym at.row) (All-head (λ (x : Held). P x.row) h more all)))
    (to_places P held more places rest (All-tail (Stands held) h more stand) (All-tail (λ (x : Held). P x.row) h more all))

-- and the other way round
to_rows : (P : PlainRow → Type 0) (held more : List Held) (places : List Place) → map (λ (h : Held). h.place) more ≡ place_numbers places → All (Stands held) more → All (λ (place : Place). P (row_at place.0 held)) places → All (λ (h : Held). P h.row) more
to_rows P held [] places same stand all = All-nil (λ (h : Held). P h.row)
to_rows P held (h ∷ more) [] same stand all = absurd (cc)
to_rows P held (h ∷ more) (place ∷ places) same stand all =
    let here : h.place ≡ place.0 = cc in
    let rest : map (λ (x : Held). x.place) more ≡ place_numbers places = cc in
    let at : Stands held h = All-head (Stands held) h more stand in
    All-cons (λ (x : Held). P x.row) h more (subst P (ap (λ (n : ℕ). row_at n held) (sym here) ∙ at.row) (All-head (λ (p : Place). P (row_at p.0 held)) place places all))
    (to_rows P held more places rest (All-tail (Stands held) h more stand) (All-tail (λ (p : Place). P (row_at p.0 held)) place places all))

-- what stands at a place is a held row
pub record Found (held : List Held) (p : ℕ) : Type 0 where
  pub which : Held
  pub among : Contains held which
  pub row : which.row ≡ row_at p held

found : (held : List Held) (p : ℕ) → is_held p held ≡ true → Found held p
found [] p h = absurd (cc)
found (x ∷ held) p h = elim (cases_eq p x.place) [
  | inl e ↦ record { which = x; among = Contains-get_or (x ∷ held) 0 x (omega arith); row = rw (eq-eqb p x.place e) refl }
  | inr ne ↦
      let rest : is_held p held ≡ true = rw (ne_eqb p x.place ne) at h in
      let f : Found held p = found held p rest in
      record { which = f.which; among = (suc f.among.0, omega (arith, f.among.1), f.among.2); row = rw (ne_eqb p x.place ne) f.row }
]

module _ (e mid : EngineState) (more : List Held) (places : List Place) (trail : mid.trail ≡ e.trail) (held : mid.held ≡ e.held ++ more) (are : AreHeld mid.vars mid.held) (same : map (λ (h : Held). h.place) more ≡ place_numbers places) where
  stand : All (Stands mid.held) more
  stand = behind (Stands mid.held) e.held more (subst (All (Stands mid.held)) held (all_stand mid.vars mid.held are))

  -- rows that are falsified
  pub all_broken : All (λ (h : Held). Falsified (set_of e.trail) h.row) more → All (IsBroken mid) places
  all_broken all k d l =
      let here = to_places (Falsified (set_of e.trail)) mid.held more places same stand all k d l in
      record { held = here.0; falsified = subst (λ (t : List Entry). Falsified (set_of t) (row_at (get_or places k d).0 mid.held)) (sym trail) here.1 }

  -- and the engine that goes back to where one of them is open
  pub adds_rows : (new : EngineState) (back : GoesBack places mid new) → All (IsBroken mid) places → AddsRows back.level e new
  adds_rows new back broken = record {
    more = more;
    held = back.held ∙ held;
    trail = back.trail ∙ ap (up_to back.level) trail;
    lower = λ k low. to_rows (Keeps (set_at k e)) mid.held more places same stand (subst (λ (t : List Entry). All (λ (place : Place). Keeps (set_of (up_to k t)) (row_at place.0 mid.held)) places) trail (back.under k low));
    some_open =
        let at : IsBroken mid back.at.place = All-contains (IsBroken mid) places back.at.place broken back.at.among in
        let f : Found mid.held back.at.place.0 = found mid.held back.at.place.0 at.held in
        record {
          which = f.which;
          held = subst (λ (hs : List Held). Contains hs f.which) (sym back.held) f.among;
          is = subst (λ (t : List Entry). IsOpen (set_of t) f.which.row) (sym back.trail) (subst (IsOpen (set_at back.level mid)) (sym f.row) back.at.is_open);
        };
  }
