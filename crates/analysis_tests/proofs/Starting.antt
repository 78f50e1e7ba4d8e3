-- An engine of the rows that are held first.
use Rattle.std.proofs.Common.{◌≡◌, ◌<◌, ◌≤◌, ◌+◌, ◌-◌, ◌||◌, ℕ, zero, suc, Bool, true, false, nat_le, List, [], ◌∷◌, ◌++◌, length, refl, sym, ap, ◌∙◌, subst, arith}
use Rattle.std.specs.Prelude.{Some, slice_get}
use Rattle.std.specs.List.{All}
use Rattle.std.proofs.lemmas.Bool.{and_from, le-leb}
use Rattle.std.proofs.lemmas.List.{map-append}
use Rattle.std.proofs.lemmas.List.Elements.{All-nil, All-push}
use Rattle.pb_rows.specs.Terms.{PlainRow}
use Rattle.rank_tables.specs.Instance.{Lists, pair_count}
use Rattle.rank_tables.specs.Numbers.{is_distinct, is_in, numbers_to}
use Rattle.rank_tables.proofs.Numbers.{distinct-numbers_to, is_in-numbers_to}
use Rattle.stability_model.specs.Model.{AreShortRows, pair_row_no, rows}
use Rattle.proof_rules.specs.Held.{is_held}
use Rattle.proof_rules.proofs.Held.{is_in-append}
use Rattle.derivation.specs.Derived.{Derived}
use Rattle.derivation.specs.Steps.{first_derived}
use Rattle.derivation.proofs.Readiness.{ready_first, rows_count}
use Rattle.row_arena.specs.Held.{Held}
use Rattle.pb_propagate.specs.Entries.{level_of}
use Rattle.pb_propagate.specs.Engines.{EngineState}
use Rattle.agreement.specs.Agreement.{Agree, IsHeldIn, tags}
use Rattle.analysis_tests.proofs.Holding.{model_live, short_row}

-- the rows with numbers below k were added to an engine with nothing on its trail
pub record HasFirst (lists : Lists) (d : Derived) (e : EngineState) (k : ℕ) : Type 0 where
  pub vars : e.vars ≡ pair_count lists
  pub rows : All (IsHeldIn d) e.held
  pub numbers : tags e.held ≡ numbers_to (k - 1)
  pub start : level_of e.trail ≡ 0

held_first : (lists : Lists) (k : ℕ) → 1 ≤ k → k ≤ pair_row_no lists 0 → is_held (first_derived lists).held k ≡ true
held_first lists k first last =
    is_in-append k (numbers_to (pair_row_no lists 0)) []
    ∙ left (is_in k (numbers_to (pair_row_no lists 0))) (is_in-numbers_to (pair_row_no lists 0) k ∙ and_from (nat_le 1 k) (nat_le k (pair_row_no lists 0)) (le-leb 1 k first) (le-leb k (pair_row_no lists 0) last))
  where
    left : (b : Bool) → b ≡ true → (b || false) ≡ true
    left true h = refl
    left false h = h

one_longer : (k : ℕ) → 1 ≤ k → numbers_to (k - 1) ++ k ∷ [] ≡ numbers_to (k + 1 - 1)
one_longer zero h = absurd (omega arith)
one_longer (suc n) h = let a : suc n - 1 ≡ n = omega arith in let b : suc n + 1 - 1 ≡ suc n = omega arith in ap (λ (m : ℕ). numbers_to m ++ suc n ∷ []) a ∙ sym (ap numbers_to b)

pub starts : (lists : Lists) (d : Derived) (e : EngineState) → e ≡ record { vars = pair_count lists; held = []; trail = []; due_rows = []; due_literals = [] } → HasFirst lists d e 1
starts lists d e is = subst (λ (f : EngineState). HasFirst lists d f 1) (sym is) (record { vars = refl; rows = All-nil (IsHeldIn d); numbers = refl; start = refl })

pub adds_first : (lists : Lists) (d : Derived) (e f : EngineState) (k place tag : ℕ) (row : PlainRow) (due : List ℕ) → d ≡ first_derived lists → AreShortRows (pair_count lists) (rows lists) → 1 ≤ k → k < pair_row_no lists 1 → slice_get (rows lists) (k - 1) ≡ Some row → HasFirst lists d e k →
    f ≡ record e { held = e.held ++ record { place = place; row = row; tag = tag } ∷ []; due_rows = due } → tag ≡ k → HasFirst lists d f (k + 1)
adds_first lists d e f k place tag row due is short first last at has made told =
    let added : Held = record { place = place; row = row; tag = k } in
    let within : k ≤ length (rows lists) = omega (arith, last, rows_count lists) in
    let short_one = short_row (pair_count lists) k (rows lists) row short first within at in
    let one : IsHeldIn (first_derived lists) added = record {
      held = held_first lists k first (omega (arith, last));
      row = record { live = model_live lists (first_derived lists) k row (ready_first lists) refl first within at; formed = short_one.formed };
    } in
    subst (λ (g : EngineState). HasFirst lists d g (k + 1)) (sym made) (subst (λ (n : ℕ). HasFirst lists d (record e { held = e.held ++ record { place = place; row = row; tag = n } ∷ []; due_rows = due }) (k + 1)) (sym told) (record {
      vars = has.vars;
      rows = All-push (IsHeldIn d) e.held added has.rows (subst (λ (x : Derived). IsHeldIn x added) (sym is) one);
      numbers = map-append (λ (h : Held). h.tag) e.held (added ∷ []) ∙ (ap (λ (ns : List ℕ). ns ++ k ∷ []) has.numbers ∙ one_longer k first);
      start = has.start;
    }))

pub agrees_first : (lists : Lists) (d : Derived) (e : EngineState) (k : ℕ) → d ≡ first_derived lists → k ≡ pair_row_no lists 1 → HasFirst lists d e k → Agree e d
agrees_first lists d e k is end has =
    let last : k - 1 ≡ pair_row_no lists 0 = omega (arith, end) in
    let whole : tags e.held ≡ numbers_to (pair_row_no lists 0) = has.numbers ∙ ap numbers_to last in
    record {
      vars = has.vars ∙ ap pair_count (sym (ap (λ (x : Derived). x.lists) is));
      rows = has.rows;
      once = ap is_distinct whole ∙ distinct-numbers_to (pair_row_no lists 0);
      all = λ n h. ap (is_in n) whole ∙ (sym (or_none (is_in n (numbers_to (pair_row_no lists 0)))) ∙ (sym (is_in-append n (numbers_to (pair_row_no lists 0)) []) ∙ (sym (ap (λ (x : Derived). is_held x.held n) is) ∙ h)));
    }
  where
    or_none : (b : Bool) → (b || false) ≡ b
    or_none true = refl
    or_none false = refl
