-- A candidate that no pair blocks is logged.
use Rattle.std.proofs.Common.{◌≡◌, ◌≤◌, ℕ, true, false, nat_lt, map, List, [], ◌∷◌, ◌++◌, length, refl, sym, ap, ◌∙◌, subst, arith}
use Rattle.std.specs.Prelude.{Some}
use Rattle.std.specs.List.{All}
use Rattle.std.proofs.lemmas.Bool.Decides.{nat_tests}
use Rattle.std.proofs.lemmas.List.{length-map}
use Rattle.std.proofs.lemmas.List.Elements.{All-cons, All-nil}
use Rattle.hrt_base.specs.declared.numbered.PairNo.{PairNo}
use Rattle.hrt_base.specs.declared.numbered.RowNo.{RowNo}
use Rattle.pb_rows.specs.Terms.{PlainRow}
use Rattle.pb_rows.specs.Closure.{Falsified}
use Rattle.pb_rows.specs.Formula.{row_of}
use Rattle.rank_tables.specs.Instance.{Lists, pair_count}
use Rattle.rank_tables.specs.Stability.{is_weakly_stable}
use Rattle.rank_tables.specs.Tables.{numbers_of}
use Rattle.stability_model.specs.Model.{IsShortRow}
use Rattle.derivation.specs.Derived.{Derived}
use Rattle.derivation.proofs.Readiness.{row_front}
use Rattle.propagation.specs.Following.{IsOver}
use Rattle.row_arena.specs.Held.{Held}
use Rattle.row_arena.specs.declared.arena.Place.{Place}
use Rattle.pb_propagate.specs.Entries.{set_of}
use Rattle.pb_propagate.specs.Engines.{EngineState}
use Rattle.pb_propagate.specs.Moments.{IsInOrder}
use Rattle.lazy_stability.specs.Candidates.{IsFull, candidate, point_of_trail}
use Rattle.lazy_stability.proofs.Full.{broken_falsified}
use Rattle.matching_log.specs.Logged.{Logs, ceiling_row, larger_row}
use Rattle.pb_search.specs.Improving.{AddsLive}
use Rattle.pb_search.specs.Returning.{GoesBack, IsBroken}
use Rattle.pb_search.proofs.AddedRows.{adds_rows, all_broken}
use Rattle.pb_search.proofs.Counting.{larger_says}
use Rattle.pb_search.proofs.OpeningRows.{larger_short}

-- ---- one row

module _ (e mid : EngineState) (place tag : ℕ) (row : PlainRow) (due : List ℕ) (is : mid ≡ record e { held = e.held ++ record { place = place; row = row; tag = tag } ∷ []; due_rows = due }) (order : IsInOrder mid) (at : Place) (here : at.0 ≡ place) where
  h : Held
  h = record { place = place; row = row; tag = tag }

  held : mid.held ≡ e.held ++ h ∷ []
  unfolding h
  held = ap (λ (x : EngineState). x.held) is

  same : map (λ (x : Held). x.place) (h ∷ []) ≡ map (λ (p : Place). p.0) (at ∷ [])
  unfolding h
  same = ap (λ (n : ℕ). n ∷ []) (sym here)

  pub one_broken : Falsified (set_of e.trail) row → All (IsBroken mid) (at ∷ [])
  unfolding h
  one_broken f = all_broken e mid (h ∷ []) (at ∷ []) (ap (λ (x : EngineState). x.trail) is) held order.sound.held same (All-cons (λ (x : Held). Falsified (set_of e.trail) x.row) h [] f (All-nil (λ (x : Held). Falsified (set_of e.trail) x.row)))

  pub adds_live : (id : RowNo) (d : Derived) (new : EngineState) → id.0 ≡ tag → row_of id.0 d.state.live ≡ Some row → Falsified (set_of e.trail) row → GoesBack (at ∷ []) mid new → AddsLive id d e new
  unfolding h
  adds_live id d new number live f back = record {
    row = row;
    live = live;
    vars = back.vars ∙ ap (λ (x : EngineState). x.vars) is;
    place = place;
    held = back.held ∙ held ∙ ap (λ (n : ℕ). e.held ++ record { place = place; row = row; tag = n } ∷ []) (sym number);
    level = back.level;
    adds = adds_rows e mid (h ∷ []) (at ∷ []) (ap (λ (x : EngineState). x.trail) is) held order.sound.held same new back (one_broken f);
  }

-- ---- the row that asks for a larger matching

not_below : (n : ℕ) → nat_lt n n ≡ false
not_below n = grind (arith, nat_tests)

same_row : (a b : PlainRow) → Some a ≡ Some b → a ≡ b
same_row a b e = cc

module _ (lists : Lists) (e : EngineState) (d : Derived) (pairs : List PairNo) (few : pair_count lists ≤ 100000) (vars : e.vars ≡ pair_count lists) (larger : RowNo) (lists_are : d.lists ≡ lists) (live : row_of larger.0 d.state.live ≡ Some (larger_row d.lists (length pairs))) (stable : is_weakly_stable lists (numbers_of pairs) ≡ true) where
  pub logged_short : (row : PlainRow) → row_of larger.0 d.state.live ≡ Some row → IsShortRow (pair_count d.lists) row
  logged_short row is =
      subst (IsShortRow (pair_count d.lists)) (same_row (larger_row d.lists (length pairs)) row (sym live ∙ is))
      (subst (λ (l : Lists). IsShortRow (pair_count l) (larger_row l (length pairs))) (sym lists_are) (larger_short lists pairs few stable))

  pub logged_broken : IsFull e → numbers_of pairs ≡ candidate lists e → (row : PlainRow) → row_of larger.0 d.state.live ≡ Some row → Falsified (set_of e.trail) row
  logged_broken full are row is =
      let short : IsShortRow (pair_count lists) (larger_row lists (length pairs)) = larger_short lists pairs few stable in
      let count : length (candidate lists e) ≡ length pairs = ap length (sym are) ∙ length-map pairs (λ (p : PairNo). p.0) in
      subst (Falsified (set_of e.trail)) (ap (λ (l : Lists). larger_row l (length pairs)) (sym lists_are) ∙ same_row (larger_row d.lists (length pairs)) row (sym live ∙ is))
      (broken_falsified e.vars (set_of e.trail) (point_of_trail e.trail) full (λ v low high. refl) (larger_row lists (length pairs)) (subst (λ (n : ℕ). IsOver n (larger_row lists (length pairs))) (sym vars) short.over)
      (larger_says lists (point_of_trail e.trail) (length pairs) ∙ ap (nat_lt (length pairs)) count ∙ not_below (length pairs)))

-- the row of the ceiling stays live
pub ceiling_stays : (ceiling size n : ℕ) (bound larger : RowNo) (d made : Derived) → Logs n larger d made → row_of bound.0 d.state.live ≡ Some (ceiling_row d.lists ceiling) → size ≡ ceiling → row_of bound.0 made.state.live ≡ Some (ceiling_row made.lists size)
ceiling_stays ceiling size n bound larger d made logs live same =
    ap (λ (x : Derived). row_of bound.0 x.state.live) logs.is ∙ row_front bound.0 (ceiling_row d.lists ceiling) d.state.live _ live
    ∙ ap (λ (k : ℕ). Some (ceiling_row d.lists k)) (sym same) ∙ ap (λ (l : Lists). Some (ceiling_row l size)) (sym (ap (λ (x : Derived). x.lists) logs.is))
