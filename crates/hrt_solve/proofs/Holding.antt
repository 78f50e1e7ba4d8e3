-- Which rows a derivation holds before a search: those of residents and hospitals, of the deleted pairs, and what is made behind them.
use Rattle.std.proofs.Common.{◌≡◌, ℕ, zero, suc, ◌+◌, ◌≤◌, ◌==◌, Bool, true, not, ◌||◌, nat_le, List, [], ◌∷◌, ◌++◌, length, append_assoc, append-nil, get_or, refl, sym, ap, ap₂, ◌∙◌, subst, inl, inr, arith}
use Rattle.std.specs.Prelude.{Option, Some, None, IfSome}
use Rattle.std.proofs.lemmas.Bool.{and_from, and_parts, eq-eqb, eqb-true, false_from_ne_true, le-leb, leb-true, or_cases, or_left, or_right}
use Rattle.hrt_base.specs.declared.literal.Term.{Term}
use Rattle.hrt_base.specs.declared.numbered.RowNo.{RowNo}
use Rattle.pb_rows.specs.Terms.{PlainRow}
use Rattle.pb_rows.specs.Formula.{NumberedRow, row_of}
use Rattle.rank_tables.specs.Instance.{Lists, pair_count}
use Rattle.rank_tables.specs.Numbers.{is_distinct, is_in, numbers_to}
use Rattle.rank_tables.proofs.Numbers.{distinct-numbers_to, distinct_push, is_in-numbers_to, same_bools}
use Rattle.stability_model.specs.Model.{pair_row_no, rows}
use Rattle.proof_rules.specs.States.{IsInOrder}
use Rattle.proof_rules.specs.Held.{Held, first_held, is_held, keeping}
use Rattle.proof_rules.proofs.Held.{is_held-keeping, is_in-append}
use Rattle.proof_rules.proofs.Numbers.{none-from}
use Rattle.derivation.specs.Deletions.{AreUnitRows, Deletions, unit_row, unit_row_no}
use Rattle.derivation.specs.Derived.{Derived}
use Rattle.derivation.specs.Ready.{IsReady}
use Rattle.derivation.specs.Steps.{first_derived}
use Rattle.derivation.proofs.Readiness.{row_front, rows_count}
use Rattle.derivation.proofs.Rising.{numbered_is}
use Rattle.agreement.proofs.Numbers.{distinct_append}
use Rattle.pair_reduction.specs.Reduced.{GoesOn, HoldsUnits}
use Rattle.capacity_bound.specs.Bound.{DerivesBound}
use Rattle.lazy_stability.specs.Laws.{FirstStayHeld}
use Rattle.pb_search.specs.Knowing.{unit_numbers}
use Rattle.hrt_solve.specs.Started.{HoldsBeside, bound_numbers, numbers_beside}

-- ---- the numbers of the rows of deleted pairs

unit_named : (map : Deletions) (k : ℕ) (id : RowNo) → get_or map k None ≡ Some id → is_in id.0 (unit_numbers map) ≡ true
unit_named [] k id e = absurd (cc)
unit_named (None ∷ more) zero id e = absurd (cc)
unit_named (Some other ∷ more) zero id e =
    let same : other.0 ≡ id.0 = cc in
    or_left (other.0 == id.0) (is_in id.0 (unit_numbers more)) (eq-eqb other.0 id.0 same)
unit_named (None ∷ more) (suc k) id e = unit_named more k id e
unit_named (Some other ∷ more) (suc k) id e = or_right (other.0 == id.0) (is_in id.0 (unit_numbers more)) (unit_named more k id e)

named_unit : (map : Deletions) (n : ℕ) → is_in n (unit_numbers map) ≡ true → (k : ℕ) × (id : RowNo) × (get_or map k None ≡ Some id) × (id.0 ≡ n)
named_unit [] n i = absurd (cc)
named_unit (None ∷ more) n i = let rest = named_unit more n i in (suc rest.0, rest.1, rest.2, rest.3)
named_unit (Some id ∷ more) n i = elim (or_cases (id.0 == n) (is_in n (unit_numbers more)) i) [
  | inl e ↦ (zero, id, refl, eqb-true id.0 n e)
  | inr e ↦ let rest = named_unit more n e in (suc rest.0, rest.1, rest.2, rest.3)
]

-- the variable of a row's first term
first_variable : Option PlainRow → ℕ
first_variable None = 0
first_variable (Some row) = variable_in row.terms
  where
    variable_in : List Term → ℕ
    variable_in [] = 0
    variable_in (t ∷ ts) = t.lit.var

same_pair : (p q : ℕ) → ◌≡◌ {A = Option PlainRow} (Some (unit_row p)) (Some (unit_row q)) → p ≡ q
unfolding first_variable
same_pair p q e = ap first_variable e

-- rows of different pairs have different numbers
units_apart : (live : List NumberedRow) (low : ℕ) (map : Deletions) → ((k : ℕ) (id : RowNo) → get_or map k None ≡ Some id → row_of id.0 live ≡ Some (unit_row (suc (low + k)))) → is_distinct (unit_numbers map) ≡ true
units_apart live low [] h = refl
units_apart live low (None ∷ more) h =
    units_apart live (suc low) more (λ k id e. let place : low + suc k ≡ suc low + k = omega arith in h (suc k) id e ∙ ap (λ (p : ℕ). Some (unit_row (suc p))) place)
units_apart live low (Some id ∷ more) h =
    and_from (not (is_in id.0 (unit_numbers more))) (is_distinct (unit_numbers more))
    (ap not (false_from_ne_true (is_in id.0 (unit_numbers more)) (λ i. again (named_unit more id.0 i))))
    (units_apart live (suc low) more (λ k id e. let place : low + suc k ≡ suc low + k = omega arith in h (suc k) id e ∙ ap (λ (p : ℕ). Some (unit_row (suc p))) place))
  where
    again : ((k : ℕ) × (other : RowNo) × (get_or more k None ≡ Some other) × (other.0 ≡ id.0)) → ⊥
    again (k, other, e, same) =
        let here = h zero id refl in
        let there = h (suc k) other e in
        let one : suc (low + zero) ≡ suc (low + suc k) = same_pair (suc (low + zero)) (suc (low + suc k)) (sym here ∙ ap (λ (n : ℕ). row_of n live) (sym same) ∙ there) in
        omega (arith, one)

unit_at : (live : List NumberedRow) (p : ℕ) (u : Option RowNo) (id : RowNo) → IfSome u (λ id. row_of id.0 live ≡ Some (unit_row p)) → u ≡ Some id → row_of id.0 live ≡ Some (unit_row p)
unit_at live p None id h e = absurd (cc)
unit_at live p (Some other) id h e = let same : other.0 ≡ id.0 = cc in ap (λ (n : ℕ). row_of n live) (sym same) ∙ h

units_distinct : (live : List NumberedRow) (map : Deletions) → AreUnitRows live map → is_distinct (unit_numbers map) ≡ true
units_distinct live map units = units_apart live zero map (λ k id e. let place : zero + k ≡ k = omega arith in unit_at live (suc k) (unit_row_no map (suc k)) id (units (suc k)) e ∙ ap (λ (p : ℕ). Some (unit_row (suc p))) (sym place))

unit_front : (p : ℕ) (live more : List NumberedRow) (u : Option RowNo) → IfSome u (λ id. row_of id.0 live ≡ Some (unit_row p)) → IfSome u (λ id. row_of id.0 (live ++ more) ≡ Some (unit_row p))
unit_front p live more None h = h
unit_front p live more (Some id) h = row_front id.0 (unit_row p) live more h

-- ---- once the pairs are deleted

module _ (lists : Lists) (map : Deletions) (first reduced : Derived) (is_first : first ≡ first_derived lists) (on : GoesOn first reduced) (holds : HoldsUnits first reduced map) where
  same_lists : reduced.lists ≡ lists
  same_lists = on.lists ∙ ap (λ (d : Derived). d.lists) is_first

  held_is : reduced.held ≡ keeping holds.ids (first_held lists)
  held_is = holds.held ∙ ap (λ (d : Derived). keeping holds.ids d.held) is_first

  place_named : (n p : ℕ) (id : RowNo) → unit_row_no map p ≡ Some id → id.0 ≡ n → is_in n (unit_numbers map) ≡ true
  place_named n zero id e same = absurd (cc)
  place_named n (suc k) id e same = subst (λ (j : ℕ). is_in j (unit_numbers map) ≡ true) same (unit_named map k id e)

  ids_are : (n : ℕ) → is_in n holds.ids ≡ is_in n (unit_numbers map)
  ids_are n = same_bools (is_in n holds.ids) (is_in n (unit_numbers map))
      (λ i. let at = holds.each n i in place_named n at.0 (record { 0 = n }) at.1 refl)
      (λ i. let at = named_unit map n i in subst (λ (j : ℕ). is_in j holds.ids ≡ true) at.3 (holds.all (suc at.0) at.1 at.2))

  held_by_both : (n : ℕ) → is_held reduced.held n ≡ is_in n (numbers_beside lists map [])
  held_by_both n =
      ap (λ (h : Held). is_held h n) held_is ∙ is_held-keeping (first_held lists) holds.ids n
      ∙ ap₂ (λ (b c : Bool). b || c) (ap (is_in n) (append-nil (numbers_to (pair_row_no lists 0)))) (ids_are n ∙ ap (is_in n) (sym (append-nil (unit_numbers map))))
      ∙ sym (is_in-append n (numbers_to (pair_row_no lists 0)) (unit_numbers map ++ []))

  apart : (n : ℕ) → is_in n (numbers_to (pair_row_no lists 0)) ≡ true → is_in n (unit_numbers map) ≡ true → ⊥
  apart n i j =
      let range = and_parts (nat_le 1 n) (nat_le n (pair_row_no lists 0)) (sym (is_in-numbers_to (pair_row_no lists 0) n) ∙ i) in
      let later = holds.later n (ids_are n ∙ j) in
      let next : first.state.next ≡ length (rows lists) + 1 = ap (λ (d : Derived). d.state.next) is_first in
      omega (arith, leb-true n (pair_row_no lists 0) range.1, later.0, next, rows_count lists)

  stay : FirstStayHeld reduced
  stay n low high =
      let within : n ≤ pair_row_no lists 0 = subst (λ (l : Lists). n ≤ pair_row_no l 0) same_lists high in
      let there : is_in n (numbers_to (pair_row_no lists 0)) ≡ true = is_in-numbers_to (pair_row_no lists 0) n ∙ and_from (nat_le 1 n) (nat_le n (pair_row_no lists 0)) (le-leb 1 n low) (le-leb n (pair_row_no lists 0) within) in
      ap (λ (h : Held). is_in n h.kept) held_is ∙ is_in-append n (numbers_to (pair_row_no lists 0)) holds.ids ∙ or_left (is_in n (numbers_to (pair_row_no lists 0))) (is_in n holds.ids) there

  pub holds_units : length map ≡ pair_count lists → AreUnitRows reduced.state.live map → HoldsBeside map [] reduced
  holds_units pairs units = record {
    pairs = pairs ∙ ap pair_count (sym same_lists);
    units = units;
    first = stay;
    distinct =
        ap (λ (l : Lists). is_distinct (numbers_beside l map [])) same_lists
        ∙ ap (λ (ns : List ℕ). is_distinct (numbers_to (pair_row_no lists 0) ++ ns)) (append-nil (unit_numbers map))
        ∙ distinct_append (numbers_to (pair_row_no lists 0)) (unit_numbers map) (distinct-numbers_to (pair_row_no lists 0)) (units_distinct reduced.state.live map units) apart;
    holds = λ n. held_by_both n ∙ ap (λ (l : Lists). is_in n (numbers_beside l map [])) (sym same_lists);
    unlearned = ap (λ (h : Held). h.learn_notes) held_is;
  }

-- ---- one more row

-- a row was made and stays held
pub record KeepsNewRow (row : PlainRow) (old new : Derived) : Type 0 where
  pub lists : new.lists ≡ old.lists
  pub live : new.state.live ≡ old.state.live ++ record { number = old.state.next; row = row } ∷ []
  pub held : new.held ≡ keeping (old.state.next ∷ []) old.held

module _ (map : Deletions) (more : List ℕ) (row : PlainRow) (old new : Derived) (holds : HoldsBeside map more old) (ready : IsReady old) (order : IsInOrder old.state) (keeps : KeepsNewRow row old new) where
  next_unheld : is_held old.held old.state.next ≡ true → ⊥
  next_unheld h = numbered_is old.state.next old.state.live (ready.held_live old.state.next h) (none-from old.state.next 1 old.state.next old.state.live (omega arith) order)

  appended : numbers_beside old.lists map (more ++ old.state.next ∷ []) ≡ numbers_beside old.lists map more ++ old.state.next ∷ []
  appended =
      ap (λ (ns : List ℕ). numbers_to (pair_row_no old.lists 0) ++ ns) (sym (append_assoc (unit_numbers map) more (old.state.next ∷ [])))
      ∙ sym (append_assoc (numbers_to (pair_row_no old.lists 0)) (unit_numbers map ++ more) (old.state.next ∷ []))

  pub holds_more : HoldsBeside map (more ++ old.state.next ∷ []) new
  holds_more = record {
    pairs = holds.pairs ∙ ap pair_count (sym keeps.lists);
    units = λ p. subst (λ (live : List NumberedRow). IfSome (unit_row_no map p) (λ id. row_of id.0 live ≡ Some (unit_row p))) (sym keeps.live) (unit_front p old.state.live (record { number = old.state.next; row = row } ∷ []) (unit_row_no map p) (holds.units p));
    first = λ n low high.
        let before : is_in n old.held.kept ≡ true = holds.first n low (subst (λ (l : Lists). n ≤ pair_row_no l 0) keeps.lists high) in
        ap (λ (h : Held). is_in n h.kept) keeps.held ∙ is_in-append n old.held.kept (old.state.next ∷ []) ∙ or_left (is_in n old.held.kept) (is_in n (old.state.next ∷ [])) before;
    distinct =
        ap (λ (l : Lists). is_distinct (numbers_beside l map (more ++ old.state.next ∷ []))) keeps.lists ∙ ap is_distinct appended
        ∙ distinct_push (numbers_beside old.lists map more) old.state.next holds.distinct (sym (holds.holds old.state.next) ∙ false_from_ne_true (is_held old.held old.state.next) next_unheld);
    holds = λ n.
        ap (λ (h : Held). is_held h n) keeps.held ∙ is_held-keeping old.held (old.state.next ∷ []) n
        ∙ ap (λ (b : Bool). b || is_in n (old.state.next ∷ [])) (holds.holds n)
        ∙ sym (is_in-append n (numbers_beside old.lists map more) (old.state.next ∷ []))
        ∙ ap (is_in n) (sym appended)
        ∙ ap (λ (l : Lists). is_in n (numbers_beside l map (more ++ old.state.next ∷ []))) (sym keeps.lists);
    unlearned = ap (λ (h : Held). h.learn_notes) keeps.held ∙ holds.unlearned;
  }

-- ---- the bound row

pub holds_bound : (lists : Lists) (map : Deletions) (id : Option RowNo) (old new : Derived) → HoldsBeside map [] old → IsReady old → IsInOrder old.state → DerivesBound lists map id old new → HoldsBeside map (bound_numbers id) new
holds_bound lists map None old new holds ready order derived = subst (HoldsBeside map []) (sym derived.1) holds
holds_bound lists map (Some id) old new holds ready order derived =
    subst (λ (n : ℕ). HoldsBeside map (n ∷ []) new) (sym (ap (λ (r : RowNo). r.0) derived.number))
    (holds_more map [] _ old new holds ready order (record {
      lists = ap (λ (d : Derived). d.lists) derived.is;
      live = ap (λ (d : Derived). d.state.live) derived.is;
      held = ap (λ (d : Derived). d.held) derived.is;
    }))
