-- The operands of one resident and of one hospital.
use Rattle.std.proofs.Common.{◌≡◌, ℕ, ◌<◌, ◌≤◌, Bool, true, false, not, List, ◌++◌, nat_lt, if◌then◌else◌, map, count_by, sym, ap, ◌∙◌}
use Rattle.std.specs.Prelude.{Option}
use Rattle.std.specs.List.{list_any}
use Rattle.std.proofs.lemmas.Bool.{le-ltb, lt-ltb}
use Rattle.hrt_base.specs.declared.numbered.PairNo.{PairNo}
use Rattle.rank_tables.specs.Instance.{Lists, capacity_of, pairs_as_listed, rising_pairs_of_hospital, pairs_of_resident}
use Rattle.rank_tables.specs.Tables.{numbers_of}
use Rattle.rank_tables.specs.Numbers.{is_distinct, is_in}
use Rattle.rank_tables.proofs.Numbers.{list_any-count}
use Rattle.stability_model.specs.Model.{hospital_row_no, resident_row_no}
use Rattle.stability_model.proofs.Counts.{count_alike}
use Rattle.proof_lines.specs.declared.line.PolStep.{PolStep}
use Rattle.derivation.specs.Deletions.{Deletions, is_deleted}
use Rattle.capacity_bound.specs.Steps.{hospital_operands, pair_operand, resident_operands, row_operand}
use Rattle.capacity_bound.proofs.Parts.{numbers_distinct}

module _ (lists seen : Lists) (same : seen ≡ lists) (deletions : Deletions) (k count : ℕ) (pairs : List PairNo) (counts : count ≡ count_by (λ p. not (is_deleted deletions p)) (numbers_of pairs)) where
  -- ---- a resident

  module _ (numbers : numbers_of pairs ≡ pairs_of_resident lists k) where
    any_is : list_any (λ p. not (is_deleted deletions p)) (pairs_of_resident lists k) ≡ nat_lt 0 count
    any_is = list_any-count (λ p. not (is_deleted deletions p)) (pairs_of_resident lists k) ∙ ap (nat_lt 0) (sym (counts ∙ ap (λ (ps : List ℕ). count_by (λ p. not (is_deleted deletions p)) ps) numbers))

    chosen : (b : Bool) → nat_lt 0 count ≡ b → (if b then row_operand (resident_row_no lists k) else map (pair_operand deletions) (pairs_of_resident lists k)) ≡ resident_operands lists deletions k
    chosen b e = ap (λ (c : Bool). if c then row_operand (resident_row_no lists k) else map (pair_operand deletions) (pairs_of_resident lists k)) (sym (any_is ∙ e))

    pub resident_row_chosen : (number : Option ℕ) (old : List PolStep) → 0 < count → number ≡ resident_row_no seen k → old ++ row_operand number ≡ old ++ resident_operands lists deletions k
    resident_row_chosen number old h is =
        ap (λ (o : Option ℕ). old ++ row_operand o) (is ∙ ap (λ (l : Lists). resident_row_no l k) same) ∙ ap (λ (steps : List PolStep). old ++ steps) (chosen true (lt-ltb 0 count h))

    pub resident_pairs_chosen : (old : List PolStep) → count ≤ 0 → old ++ map (pair_operand deletions) (numbers_of pairs) ≡ old ++ resident_operands lists deletions k
    resident_pairs_chosen old h =
        ap (λ (ps : List ℕ). old ++ map (pair_operand deletions) ps) numbers ∙ ap (λ (steps : List PolStep). old ++ steps) (chosen false (le-ltb 0 count h))

  -- ---- a hospital

  module _ (numbers : numbers_of pairs ≡ pairs_as_listed lists k) (alike : (p : ℕ) → is_in p (numbers_of pairs) ≡ is_in p (rising_pairs_of_hospital lists k)) (distinct : is_distinct (numbers_of pairs) ≡ true) (capacity : ℕ) (is_capacity : capacity ≡ capacity_of lists k) where
    over_is : nat_lt (capacity_of lists k) (count_by (λ p. not (is_deleted deletions p)) (rising_pairs_of_hospital lists k)) ≡ nat_lt capacity count
    over_is =
        ap (λ (c : ℕ). nat_lt c (count_by (λ p. not (is_deleted deletions p)) (rising_pairs_of_hospital lists k))) (sym is_capacity)
        ∙ ap (nat_lt capacity) (sym (counts ∙ count_alike (λ p. not (is_deleted deletions p)) (numbers_of pairs) (rising_pairs_of_hospital lists k) distinct (numbers_distinct lists k) alike))

    choice : (b : Bool) → nat_lt capacity count ≡ b → (if b then row_operand (hospital_row_no lists k) else map (pair_operand deletions) (pairs_as_listed lists k)) ≡ hospital_operands lists deletions k
    choice b e = ap (λ (c : Bool). if c then row_operand (hospital_row_no lists k) else map (pair_operand deletions) (pairs_as_listed lists k)) (sym (over_is ∙ e))

    pub hospital_row_chosen : (number : Option ℕ) (old : List PolStep) → capacity < count → number ≡ hospital_row_no seen k → old ++ row_operand number ≡ old ++ hospital_operands lists deletions k
    hospital_row_chosen number old h is =
        ap (λ (o : Option ℕ). old ++ row_operand o) (is ∙ ap (λ (l : Lists). hospital_row_no l k) same) ∙ ap (λ (steps : List PolStep). old ++ steps) (choice true (lt-ltb capacity count h))

    pub hospital_pairs_chosen : (old : List PolStep) → count ≤ capacity → old ++ map (pair_operand deletions) (numbers_of pairs) ≡ old ++ hospital_operands lists deletions k
    hospital_pairs_chosen old h =
        ap (λ (ps : List ℕ). old ++ map (pair_operand deletions) ps) numbers ∙ ap (λ (steps : List PolStep). old ++ steps) (choice false (le-ltb capacity count h))
