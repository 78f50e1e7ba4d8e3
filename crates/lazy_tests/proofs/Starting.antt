-- The rows that a new derivation holds, added to an engine one after another.
use Rattle.std.proofs.Common.{◌≡◌, ℕ, ◌+◌, ◌-◌, ◌≤◌, suc, Bool, true, false, ◌||◌, nat_le, List, [], ◌∷◌, ◌++◌, refl, sym, ap, ◌∙◌, subst, arith, le-leb}
use Rattle.std.specs.Prelude.{Some, slice_get}
use Rattle.std.specs.List.{All}
use Rattle.std.proofs.lemmas.Bool.{and_from}
use Rattle.std.proofs.lemmas.List.{map-append}
use Rattle.std.proofs.lemmas.List.Elements.{All-append, All-cons, All-get_or, All-nil}
use Rattle.std.proofs.lemmas.Option.{get_or_from_slice_get, slice_get_within}
use Rattle.pb_rows.specs.Terms.{PlainRow}
use Rattle.rank_tables.specs.Instance.{Lists, pair_count}
use Rattle.rank_tables.specs.Numbers.{is_distinct, is_in, numbers_to}
use Rattle.rank_tables.proofs.Numbers.{distinct-numbers_to, is_in-numbers_to}
use Rattle.propagation.specs.Following.{IsOver}
use Rattle.stability_model.specs.Model.{AreShortRows, IsShortRow, pair_row_no, rows}
use Rattle.stability_model.proofs.Growing.{rows_count}
use Rattle.proof_rules.proofs.Held.{is_in-append}
use Rattle.derivation.specs.Ready.{IsReady}
use Rattle.derivation.specs.Steps.{first_derived}
use Rattle.row_arena.specs.Held.{Held}
use Rattle.pb_propagate.specs.Engines.{EngineState}
use Rattle.agreement.specs.Agreement.{Agree, IsHeldIn, tags}
use Rattle.agreement.proofs.Numbers.{or_first}

-- the engine holds the rows of the model with the numbers below `next`, each under its own
pub record HoldsBelow (lists : Lists) (next : ℕ) (e : EngineState) : Type 0 where
  pub last : ℕ
  pub is : next ≡ suc last
  pub vars : e.vars ≡ pair_count lists
  pub tags_are : tags e.held ≡ numbers_to last
  pub rows : All (IsHeldIn (first_derived lists)) e.held

-- no row yet
pub none_held : (lists : Lists) (e : EngineState) → e.vars ≡ pair_count lists → e.held ≡ [] → HoldsBelow lists 1 e
none_held lists e vars empty = record {
  last = 0;
  is = omega arith;
  vars = vars;
  tags_are = ap tags empty;
  rows = subst (All (IsHeldIn (first_derived lists))) (sym empty) (All-nil (IsHeldIn (first_derived lists)));
}

-- a row of the model is short
pub row_short : (lists : Lists) (k : ℕ) (row : PlainRow) → AreShortRows (pair_count lists) (rows lists) → slice_get (rows lists) k ≡ Some row → IsShortRow (pair_count lists) row
row_short lists k row short at =
    let P : PlainRow → Type 0 = IsShortRow (pair_count lists) in
    subst P (get_or_from_slice_get (rows lists) k row row at) (All-get_or P (rows lists) k row (slice_get_within (rows lists) k row at) short.each)

-- over as many variables as there are pairs
pub row_over : (lists : Lists) (vars k : ℕ) (row : PlainRow) → AreShortRows (pair_count lists) (rows lists) → slice_get (rows lists) k ≡ Some row → vars ≡ pair_count lists → IsOver vars row
row_over lists vars k row short at e = subst (λ (n : ℕ). IsOver n row) (sym e) (row_short lists k row short at).over

-- the next row
pub next_held : (lists : Lists) (k place tag : ℕ) (row : PlainRow) (e f : EngineState) →
    HoldsBelow lists k e → k ≤ pair_row_no lists 0 → IsReady (first_derived lists) → AreShortRows (pair_count lists) (rows lists) →
    slice_get (rows lists) (k - 1) ≡ Some row → f.vars ≡ e.vars → tag ≡ k → f.held ≡ e.held ++ record { place = place; row = row; tag = tag } ∷ [] → HoldsBelow lists (k + 1) f
next_held lists k place tag row e f below high ready short at vars same behind = record {
  last = k;
  is = omega arith;
  vars = vars ∙ below.vars;
  tags_are = ap tags held ∙ map-append (λ (h : Held). h.tag) e.held (added ∷ []) ∙ ap (λ (ns : List ℕ). ns ++ k ∷ []) below.tags_are ∙ ap (λ (n : ℕ). numbers_to below.last ++ n ∷ []) below.is ∙ sym (ap numbers_to below.is);
  rows = subst (All (IsHeldIn (first_derived lists))) (sym held) (All-append (IsHeldIn (first_derived lists)) e.held (added ∷ []) below.rows (All-cons (IsHeldIn (first_derived lists)) added [] one (All-nil (IsHeldIn (first_derived lists)))));
}
  where
    added : Held
    added = record { place = place; row = row; tag = k }

    held : f.held ≡ e.held ++ added ∷ []
    held = behind ∙ ap (λ (t : ℕ). e.held ++ record { place = place; row = row; tag = t } ∷ []) same

    low : 1 ≤ k
    low = omega (arith, below.is)

    kept : is_in k (numbers_to (pair_row_no lists 0)) ≡ true
    kept = is_in-numbers_to (pair_row_no lists 0) k ∙ and_from (nat_le 1 k) (nat_le k (pair_row_no lists 0)) (le-leb 1 k low) (le-leb k (pair_row_no lists 0) high)

    one : IsHeldIn (first_derived lists) (record { place = place; row = row; tag = k })
    one = record {
      held = is_in-append k (numbers_to (pair_row_no lists 0)) [] ∙ or_first (is_in k (numbers_to (pair_row_no lists 0))) (is_in k []) kept;
      row = record {
        live = ready.model_live k low (omega (arith, high, rows_count lists)) ∙ at;
        formed = (row_short lists (k - 1) row short at).formed;
      };
    }

or_none : (b : Bool) → (b || false) ≡ true → b ≡ true
or_none true h = refl
or_none false h = h

-- all rows that a new derivation holds
pub all_held : (lists : Lists) (e : EngineState) → HoldsBelow lists (pair_row_no lists 1) e → Agree e (first_derived lists)
all_held lists e below = record {
  vars = below.vars;
  rows = below.rows;
  once = ap is_distinct below.tags_are ∙ distinct-numbers_to below.last;
  all = λ n h. ap (is_in n) (below.tags_are ∙ ap numbers_to whole) ∙ or_none (is_in n (numbers_to (pair_row_no lists 0))) (sym (is_in-append n (numbers_to (pair_row_no lists 0)) []) ∙ h);
}
  where
    whole : below.last ≡ pair_row_no lists 0
    whole = omega (arith, below.is)
