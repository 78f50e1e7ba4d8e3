-- What both rules show follows from the live rows.
use Rattle.std.proofs.Common.{◌≡◌, ℕ, ◌+◌, ◌<◌, Bool, true, false, ◌&&◌, ◌==◌, List, [], ◌∷◌, nat_lt, if◌then◌else◌, length, count_by, Contains, refl, sym, ap, ◌∙◌, arith}
use Rattle.std.specs.Prelude.{Option, Some, None, IfSome, is_some}
use Rattle.std.proofs.lemmas.Bool.{and_from, and_parts, eq-eqb, ltb-true}
use Rattle.std.proofs.lemmas.List.Elements.{Contains-append_right}
use Rattle.hrt_base.specs.declared.numbered.RowNo.{RowNo}
use Rattle.pb_rows.specs.Terms.{PlainRow}
use Rattle.pb_rows.specs.Rows.{in_normal_form}
use Rattle.pb_rows.specs.Closure.{Implies}
use Rattle.pb_rows.specs.Formula.{NumberedRow, row_of, rows_of}
use Rattle.rank_tables.specs.Numbers.{below, numbers_to}
use Rattle.rank_tables.specs.Instance.{Lists, pair_at, pair_count, rising_pairs_of_hospital, pairs_of_resident, rank_by_resident}
use Rattle.rank_tables.specs.Tables.{IsPairNo}
use Rattle.rank_tables.proofs.Numbers.{element, is_in-filter}
use Rattle.stability_model.specs.Model.{hospital_has_pair, hospital_row, hospital_row_no, pair_row, pair_row_no, resident_has_pair, resident_row, resident_row_no, resident_rows}
use Rattle.stability_model.specs.Gone.{is_sure, rule_a}
use Rattle.stability_model.proofs.Growing.{is_pair_row}
use Rattle.rank_tables.proofs.PairNumbers.{is_pair, pair_listed, pair_of_resident}
use Rattle.stability_model.proofs.Places.{names_hospital_row, names_resident_row}
use Rattle.proof_rules.specs.States.{live_rows}
use Rattle.derivation.specs.Deletions.{AreUnitRows, Deletions, is_deleted, unit_row_no, unit_row}
use Rattle.derivation.specs.Derived.{Derived}
use Rattle.derivation.specs.Ready.{IsReady}
use Rattle.pair_reduction.specs.Reduced.{HasOffers}
use Rattle.pair_reduction.proofs.OfferMade.{has_one, model_row}
use Rattle.pair_reduction.proofs.RuleA.{rule_a_follows}
use Rattle.pair_reduction.proofs.RuleB.{rule_b_follows}

contained_step : (b : Bool) (entry : NumberedRow) (rest : Option PlainRow) (row : PlainRow) (live : List NumberedRow) → (rest ≡ Some row → Contains (rows_of live) row) → (if b then Some entry.row else rest) ≡ Some row → Contains (rows_of (entry ∷ live)) row
contained_step true entry rest row live h e = let same : entry.row ≡ row = cc in (0, omega arith, same)
contained_step false entry rest row live h e = Contains-append_right (entry.row ∷ []) (rows_of live) row (h e)

-- a row with a number is one of the rows
pub row_contained : (n : ℕ) (row : PlainRow) (live : List NumberedRow) → row_of n live ≡ Some row → Contains (rows_of live) row
row_contained n row [] e = absurd (cc)
row_contained n row (entry ∷ live) e = contained_step (entry.number == n) entry (row_of n live) row live (row_contained n row live) e

unit_at : (live : List NumberedRow) (deletions : Deletions) (g : ℕ) (o : Option RowNo) → IfSome o (λ id. row_of id.0 live ≡ Some (unit_row g)) → is_some o ≡ true → Contains (rows_of live) (unit_row g)
unit_at live deletions g None h e = absurd (cc)
unit_at live deletions g (Some id) h e = row_contained id.0 (unit_row g) live h

pub hospital_contained : (lists : Lists) (d : Derived) (p : ℕ) → lists ≡ d.lists → IsReady d → IsPairNo lists p → (pair_at lists p).hospital < length lists.hospitals → Contains (live_rows d.state) (in_normal_form (hospital_row lists (pair_at lists p).hospital))
hospital_contained lists d p same ready p_is declared =
    let k : ℕ = length (resident_rows lists) + count_by (hospital_has_pair lists) (below (pair_at lists p).hospital) + 1 in
    let number : hospital_row_no lists (pair_at lists p).hospital ≡ Some k =
    ap (λ (b : Bool). if b then Some (length (resident_rows lists) + count_by (hospital_has_pair lists) (below (pair_at lists p).hospital) + 1) else None)
    (has_one p (rising_pairs_of_hospital lists (pair_at lists p).hospital)
    (is_in-filter (λ q. (pair_at lists q).hospital == (pair_at lists p).hospital) p (numbers_to (pair_count lists)) ∙ and_from (is_pair lists p) ((pair_at lists p).hospital == (pair_at lists p).hospital) (pair_listed lists p p_is) (eq-eqb (pair_at lists p).hospital (pair_at lists p).hospital refl))) in
    row_contained k (in_normal_form (hospital_row lists (pair_at lists p).hospital)) d.state.live
    (model_row lists d k (hospital_row lists (pair_at lists p).hospital) same ready (omega arith) (names_hospital_row lists (pair_at lists p).hospital (Some k) declared (sym number)))

resident_contained : (lists : Lists) (d : Derived) (p : ℕ) → lists ≡ d.lists → IsReady d → IsPairNo lists p → (pair_at lists p).resident < length lists.residents → Contains (live_rows d.state) (in_normal_form (resident_row lists (pair_at lists p).resident))
resident_contained lists d p same ready p_is declared =
    let k : ℕ = count_by (resident_has_pair lists) (below (pair_at lists p).resident) + 1 in
    let number : resident_row_no lists (pair_at lists p).resident ≡ Some k =
    ap (λ (b : Bool). if b then Some (count_by (resident_has_pair lists) (below (pair_at lists p).resident) + 1) else None)
    (has_one p (pairs_of_resident lists (pair_at lists p).resident)
    (is_in-filter (λ q. (pair_at lists q).resident == (pair_at lists p).resident) p (numbers_to (pair_count lists)) ∙ and_from (is_pair lists p) ((pair_at lists p).resident == (pair_at lists p).resident) (pair_listed lists p p_is) (eq-eqb (pair_at lists p).resident (pair_at lists p).resident refl))) in
    row_contained k (in_normal_form (resident_row lists (pair_at lists p).resident)) d.state.live
    (model_row lists d k (resident_row lists (pair_at lists p).resident) same ready (omega arith) (names_resident_row lists (pair_at lists p).resident (Some k) declared (sym number)))

pub implied_by_a : (lists : Lists) (d : Derived) (deletions : Deletions) (w : ℕ) → lists ≡ d.lists → IsReady d → AreUnitRows d.state.live deletions → IsPairNo lists w → (pair_at lists w).resident < length lists.residents → rule_a lists (is_deleted deletions) w ≡ true →
    Implies (live_rows d.state) (unit_row w)
implied_by_a lists d deletions w same ready units w_is declared rule =
    let found = element (λ p. is_sure lists (is_deleted deletions) p && nat_lt (rank_by_resident lists p) (rank_by_resident lists w)) (pairs_of_resident lists (pair_at lists w).resident) rule in
    let p : ℕ = found.0 in
    let two = and_parts (is_sure lists (is_deleted deletions) p) (nat_lt (rank_by_resident lists p) (rank_by_resident lists w)) found.2 in
    let at = pair_of_resident lists (pair_at lists w).resident p found.1 in
    rule_a_follows lists (is_deleted deletions) p w (live_rows d.state) at.0 w_is at.1 two.0 (ltb-true (rank_by_resident lists p) (rank_by_resident lists w) two.1) (resident_contained lists d w same ready w_is declared)
    (row_contained (pair_row_no lists p) (in_normal_form (pair_row lists p)) d.state.live (model_row lists d (pair_row_no lists p) (pair_row lists p) same ready (omega (arith, at.0.0)) (is_pair_row lists p at.0)))
    (λ g g_is k. unit_at d.state.live deletions g (unit_row_no deletions g) (units g) k)

pub implied_by_b : (lists : Lists) (d : Derived) (p : ℕ) → lists ≡ d.lists → IsReady d → IsPairNo lists p → (pair_at lists p).hospital < length lists.hospitals → HasOffers lists p d.state.live → Implies (live_rows d.state) (unit_row p)
implied_by_b lists d p same ready p_is declared offers =
    rule_b_follows lists p (live_rows d.state) offers.offered p_is offers.enough (λ q q_is o. let row = offers.rows q q_is o in row_contained row.0 _ d.state.live row.1) (hospital_contained lists d p same ready p_is declared)
