-- The rows with which a search starts can be held: their numbers are held, and they are short.
use Rattle.std.proofs.Common.{◌≡◌, ◌≤◌, ◌-◌, ◌==◌, ℕ, zero, suc, true, false, nat_le, List, [], ◌∷◌, ◌++◌, length, get_or, refl, sym, ap, ◌∙◌, subst, arith}
use Rattle.std.specs.Prelude.{Option, Some, None, slice_get, slice_index_or, IfSome, ℤ, ◌-ℤ◌, pos}
use Rattle.std.proofs.lemmas.Bool.{and_from, eq-eqb, le-leb}
use Rattle.std.proofs.lemmas.Option.{slice_get-get_or}
use Rattle.hrt_base.specs.declared.numbered.PairNo.{PairNo}
use Rattle.hrt_base.specs.declared.numbered.RowNo.{RowNo}
use Rattle.pb_rows.specs.Terms.{PlainRow}
use Rattle.pb_rows.specs.Points.{value_at}
use Rattle.pb_rows.specs.Formula.{row_of}
use Rattle.rank_tables.specs.Instance.{Lists, pair_count}
use Rattle.rank_tables.specs.Numbers.{is_in, numbers_to}
use Rattle.rank_tables.specs.Stability.{is_weakly_stable}
use Rattle.rank_tables.specs.Tables.{IsPairNo, numbers_of}
use Rattle.rank_tables.proofs.Membership.{Matching, in_order_length, stable_parts}
use Rattle.rank_tables.proofs.Numbers.{is_in-numbers_to}
use Rattle.std.proofs.lemmas.List.{length-map}
use Rattle.stability_model.specs.Model.{AreShortRows, IsShortRow, objective, pair_row_no, point_of_pairs, rows}
use Rattle.stability_model.proofs.ModelExact.{ObjectiveExact}
use Rattle.proof_rules.specs.Held.{is_held}
use Rattle.proof_rules.specs.States.{at_most_row}
use Rattle.proof_rules.proofs.Held.{is_in-append}
use Rattle.agreement.proofs.Numbers.{or_first, or_second}
use Rattle.derivation.specs.Deletions.{Deletions, unit_row, unit_row_no}
use Rattle.derivation.specs.Derived.{Derived}
use Rattle.derivation.specs.Ready.{IsReady}
use Rattle.derivation.proofs.ShortRows.{made_rows_short}
use Rattle.matching_log.specs.Logged.{ceiling_row, larger_row, value_of}
use Rattle.pb_search.specs.Knowing.{HoldsOpening, unit_numbers}
use Rattle.pb_search.specs.Opening.{CanHold}

same_row : (a b : PlainRow) → Some a ≡ Some b → a ≡ b
same_row a b e = cc

-- ---- rows of the model

short_row : (vars k : ℕ) (rs : List PlainRow) (row : PlainRow) → AreShortRows vars rs → 1 ≤ k → k ≤ length rs → slice_get rs (k - 1) ≡ Some row → IsShortRow vars row
short_row vars k rs row short first last e =
    let none : PlainRow = record { terms = []; degree = 0 } in
    let at : slice_get rs (k - 1) ≡ Some (get_or rs (k - 1) none) = slice_get-get_or rs (k - 1) none (omega arith) in
    let same : get_or rs (k - 1) none ≡ row = cc in
    subst (IsShortRow vars) same (short.each (k - 1) none (omega arith))

pub model_can : (d : Derived) (k : ℕ) → IsReady d → AreShortRows (pair_count d.lists) (rows d.lists) → is_held d.held k ≡ true → 1 ≤ k → k ≤ length (rows d.lists) → CanHold d k
model_can d k ready short held first last = record { held = held; short = λ row live. short_row (pair_count d.lists) k (rows d.lists) row short first last (sym (ready.model_live k first last) ∙ live) }

-- ---- a row that is known

pub known_can : (d : Derived) (n : ℕ) (row : PlainRow) → is_held d.held n ≡ true → row_of n d.state.live ≡ Some row → IsShortRow (pair_count d.lists) row → CanHold d n
known_can d n row held live short = record { held = held; short = λ other is. subst (IsShortRow (pair_count d.lists)) (same_row row other (sym live ∙ is)) short }

-- the row of the ceiling
pub ceiling_short : (lists : Lists) (n : ℕ) → pair_count lists ≤ 100000 → n ≤ pair_count lists → IsShortRow (pair_count lists) (ceiling_row lists n)
ceiling_short lists n few most = made_rows_short.bound lists n few most

-- the row that asks for a larger matching than one that is weakly stable
pub larger_short : (lists : Lists) (pairs : List PairNo) → pair_count lists ≤ 100000 → is_weakly_stable lists (numbers_of pairs) ≡ true → IsShortRow (pair_count lists) (larger_row lists (length pairs))
larger_short lists pairs few stable = subst (λ (v : ℤ). IsShortRow (pair_count lists) (at_most_row (objective lists) (v -ℤ pos 1))) value (made_rows_short.improvement lists (point_of_pairs (numbers_of pairs)) few)
  where
    parts : Matching lists (numbers_of pairs)
    parts = stable_parts lists (numbers_of pairs) stable

    value : value_at (point_of_pairs (numbers_of pairs)) (objective lists) ≡ value_of (length pairs)
    value = ObjectiveExact lists (point_of_pairs (numbers_of pairs)) ∙ ap value_of (in_order_length lists (numbers_of pairs) parts.distinct parts.in_range ∙ length-map pairs (λ p. p.0))

-- ---- rows of deleted pairs

-- a pair that has a row is a pair
within : (p : ℕ) (gone : Deletions) (id : RowNo) → unit_row_no gone p ≡ Some id → (1 ≤ p) × (p ≤ length gone)
within zero gone id e = absurd (cc)
within (suc k) gone id e = by k gone e
  where
    by : (k : ℕ) (gone : Deletions) → slice_index_or gone k None ≡ Some id → (1 ≤ suc k) × (suc k ≤ length gone)
    by k [] e = absurd (cc)
    by zero (o ∷ gone) e = (omega arith, omega arith)
    by (suc k) (o ∷ gone) e = let rest = by k gone e in (omega arith, omega (arith, rest.1))

-- its number is among those of the deleted pairs
numbered : (k : ℕ) (gone : Deletions) (id : RowNo) → slice_index_or gone k None ≡ Some id → is_in id.0 (unit_numbers gone) ≡ true
numbered k [] id e = absurd (cc)
numbered zero (None ∷ gone) id e = absurd (cc)
numbered zero (Some first ∷ gone) id e = or_first (first.0 == id.0) (is_in id.0 (unit_numbers gone)) (eq-eqb first.0 id.0 (cc))
numbered (suc k) (None ∷ gone) id e = numbered k gone id e
numbered (suc k) (Some first ∷ gone) id e = or_second (first.0 == id.0) (is_in id.0 (unit_numbers gone)) (numbered k gone id e)

unit_numbered : (p : ℕ) (gone : Deletions) (id : RowNo) → unit_row_no gone p ≡ Some id → is_in id.0 (unit_numbers gone) ≡ true
unit_numbered zero gone id e = absurd (cc)
unit_numbered (suc k) gone id e = numbered k gone id e

-- ---- all of them

module _ (gone : Deletions) (bound improve : RowNo) (d : Derived) (opening : HoldsOpening gone bound improve d) where
  first_part : (n : ℕ) → is_in n (numbers_to (pair_row_no d.lists 0)) ≡ true → is_held d.held n ≡ true
  first_part n i = opening.holds n ∙ is_in-append n (numbers_to (pair_row_no d.lists 0)) (unit_numbers gone ++ bound.0 ∷ improve.0 ∷ []) ∙ or_first (is_in n (numbers_to (pair_row_no d.lists 0))) (is_in n (unit_numbers gone ++ bound.0 ∷ improve.0 ∷ [])) i

  rest_part : (n : ℕ) → is_in n (unit_numbers gone ++ bound.0 ∷ improve.0 ∷ []) ≡ true → is_held d.held n ≡ true
  rest_part n i = opening.holds n ∙ is_in-append n (numbers_to (pair_row_no d.lists 0)) (unit_numbers gone ++ bound.0 ∷ improve.0 ∷ []) ∙ or_second (is_in n (numbers_to (pair_row_no d.lists 0))) (is_in n (unit_numbers gone ++ bound.0 ∷ improve.0 ∷ [])) i

  last_part : (n : ℕ) → is_in n (bound.0 ∷ improve.0 ∷ []) ≡ true → is_held d.held n ≡ true
  last_part n i = rest_part n (is_in-append n (unit_numbers gone) (bound.0 ∷ improve.0 ∷ []) ∙ or_second (is_in n (unit_numbers gone)) (is_in n (bound.0 ∷ improve.0 ∷ [])) i)

  pub first_held : (n : ℕ) → 1 ≤ n → n ≤ pair_row_no d.lists 0 → is_held d.held n ≡ true
  first_held n first last = first_part n (is_in-numbers_to (pair_row_no d.lists 0) n ∙ and_from (nat_le 1 n) (nat_le n (pair_row_no d.lists 0)) (le-leb 1 n first) (le-leb n (pair_row_no d.lists 0) last))

  pub bound_held : is_held d.held bound.0 ≡ true
  bound_held = last_part bound.0 (or_first (bound.0 == bound.0) (is_in bound.0 (improve.0 ∷ [])) (eq-eqb bound.0 bound.0 refl))

  pub improve_held : is_held d.held improve.0 ≡ true
  improve_held = last_part improve.0 (or_second (bound.0 == improve.0) (is_in improve.0 (improve.0 ∷ [])) (or_first (improve.0 == improve.0) false (eq-eqb improve.0 improve.0 refl)))

  pub unit_can : (p : ℕ) (id : RowNo) → unit_row_no gone p ≡ Some id → CanHold d id.0
  unit_can p id e =
      let at = within p gone id e in
      let live : row_of id.0 d.state.live ≡ Some (unit_row p) = subst (λ (o : Option RowNo). IfSome o (λ i. row_of i.0 d.state.live ≡ Some (unit_row p))) e (opening.units p) in
      let pair : IsPairNo d.lists p = (at.0, omega (arith, at.1, opening.pairs)) in
      known_can d id.0 (unit_row p) (rest_part id.0 (is_in-append id.0 (unit_numbers gone) (bound.0 ∷ improve.0 ∷ []) ∙ or_first (is_in id.0 (unit_numbers gone)) (is_in id.0 (bound.0 ∷ improve.0 ∷ [])) (unit_numbered p gone id e))) live
      (made_rows_short.unit d.lists p pair)
