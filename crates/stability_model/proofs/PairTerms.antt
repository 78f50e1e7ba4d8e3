-- The terms that the code writes for the row of a pair make that row.
use mir.Syntax.{w128}
use mir.Val.{of_z, to_z}
use Rattle.std.proofs.Common.{◌≡◌, ℕ, ◌+◌, ◌<◌, ◌^◌, Bool, true, false, ◌&&◌, List, [], ◌∷◌, ◌++◌, ◌==◌, nat_le, if◌then◌else◌, sum_by, ℤ, pos, ◌+ℤ◌, refl, sym, ap, ap₂, ◌∙◌, arith}
use Rattle.std.proofs.lemmas.Bool.{eq-eqb, eqb-true, le-leb}
use Rattle.std.proofs.lemmas.Int.{ints, to_z_pos}
use Rattle.std.proofs.lemmas.List.Sums.{sum_by-cons}
use Rattle.hrt_base.specs.declared.literal.Term.{Term}
use Rattle.pb_rows.specs.Points.{Point, value_at}
use Rattle.pb_rows.specs.Normal.{normal_form}
use Rattle.pb_rows.specs.Rows.{in_normal_form}
use Rattle.pb_rows.proofs.ByNets.{normal_form-same}
use Rattle.rank_tables.specs.Numbers.{numbers_to}
use Rattle.std.specs.Prelude.{unwrap_or}
use Rattle.rank_tables.specs.Instance.{Lists, capacity_of, groups_of_resident, rank_in, pair_at, pair_count, rising_pairs_of_hospital, pairs_of_resident, rank_by_hospital, rank_by_resident}
use Rattle.stability_model.specs.Model.{pair_row, stability_coef}
use Rattle.stability_model.specs.Making.{counted_terms, hospital_share, resident_share}
use Rattle.rank_tables.proofs.Numbers.{sum_by-filter, sum_by_same}
use Rattle.stability_model.proofs.PairRow.{value_of_terms, value_step}

value-append : (point : Point) (ts us : List Term) → value_at point (ts ++ us) ≡ value_at point ts +ℤ value_at point us
value-append point [] us = omega (arith, ints)
value-append point (t ∷ ts) us = omega (arith, ints, value-append point ts us)

value_counted : (point : Point) (f : ℕ → ℕ) (qs : List ℕ) → value_at point (counted_terms f qs) ≡ pos (sum_by (λ q. if point q then f q else 0) qs)
value_counted point f [] = refl
value_counted point f (q ∷ qs) = value_step (point q) (f q) _ _ (value_counted point f qs) ∙ ap pos (sym (sum_by-cons (λ q. if point q then f q else 0) q qs))

sum_by-plus : (f g : ℕ → ℕ) (qs : List ℕ) → sum_by f qs + sum_by g qs ≡ sum_by (λ q. f q + g q) qs
sum_by-plus f g [] = refl
sum_by-plus f g (q ∷ qs) = omega (arith, sum_by-cons f q qs, sum_by-cons g q qs, sum_by-cons (λ q. f q + g q) q qs, sum_by-plus f g qs)

-- t: the pair is taken; e: it is p; a, b: it is of p's resident, of its hospital; n, m: it is ranked at least as high there
abbrev Parts : Bool → Bool → Bool → Bool → Bool → Bool → ℕ → Type 0
Parts t e a b n m c =
    (if a then (if t then (if e then c + 1 else (if n then c else 0)) else 0) else 0) + (if b then (if t then (if a then 0 else (if m then 1 else 0)) else 0) else 0)
    ≡ (if t then (if e then c + 1 else if a && n then c else if b && m then 1 else 0) else 0)

parts : (t e a b n m : Bool) (c : ℕ) → (e ≡ true → a ≡ true) → (a ≡ true → b ≡ true → n ≡ true) → Parts t e a b n m c
parts false e true true n m c h k = refl
parts false e true false n m c h k = refl
parts false e false true n m c h k = refl
parts false e false false n m c h k = refl
parts true true true true n m c h k = omega arith
parts true true true false n m c h k = omega arith
parts true true false b n m c h k = absurd (cc (h refl))
parts true false true true true m c h k = omega arith
parts true false true false true m c h k = omega arith
parts true false true true false m c h k = absurd (cc (k refl refl))
parts true false true false false m c h k = refl
parts true false false true n true c h k = refl
parts true false false true n false c h k = refl
parts true false false false n m c h k = refl

same_rank : (lists : Lists) (p q : ℕ) → (pair_at lists q).resident ≡ (pair_at lists p).resident → (pair_at lists q).hospital ≡ (pair_at lists p).hospital → rank_by_resident lists q ≡ rank_by_resident lists p
same_rank lists p q e f =
    ap₂ (λ r h. unwrap_or (rank_in (groups_of_resident lists r) h) 0) e f

coef_parts : (lists : Lists) (point : Point) (p q : ℕ) →
    (if (pair_at lists q).resident == (pair_at lists p).resident then (if point q then resident_share lists p q else 0) else 0)
    + (if (pair_at lists q).hospital == (pair_at lists p).hospital then (if point q then hospital_share lists p q else 0) else 0)
    ≡ (if point q then stability_coef lists p q else 0)
coef_parts lists point p q =
    parts (point q) (q == p) ((pair_at lists q).resident == (pair_at lists p).resident) ((pair_at lists q).hospital == (pair_at lists p).hospital)
    (nat_le (rank_by_resident lists q) (rank_by_resident lists p)) (nat_le (rank_by_hospital lists q) (rank_by_hospital lists p)) (capacity_of lists (pair_at lists p).hospital)
    (λ e. eq-eqb _ _ (ap (λ k. (pair_at lists k).resident) (eqb-true q p e)))
    (λ a b. let s = same_rank lists p q (eqb-true _ _ a) (eqb-true _ _ b) in le-leb _ _ (omega (arith, s)))

pub pair_terms_value : (lists : Lists) (p : ℕ) (point : Point) →
    value_at point (counted_terms (resident_share lists p) (pairs_of_resident lists (pair_at lists p).resident) ++ counted_terms (hospital_share lists p) (rising_pairs_of_hospital lists (pair_at lists p).hospital))
    ≡ value_at point (pair_row lists p).terms
pair_terms_value lists p point =
    let ns : List ℕ = numbers_to (pair_count lists) in
    value-append point (counted_terms (resident_share lists p) (pairs_of_resident lists (pair_at lists p).resident)) (counted_terms (hospital_share lists p) (rising_pairs_of_hospital lists (pair_at lists p).hospital))
    ∙ ap₂ ◌+ℤ◌
    (value_counted point (resident_share lists p) (pairs_of_resident lists (pair_at lists p).resident)
    ∙ ap pos (sum_by-filter (λ q. if point q then resident_share lists p q else 0) (λ q. (pair_at lists q).resident == (pair_at lists p).resident) ns))
    (value_counted point (hospital_share lists p) (rising_pairs_of_hospital lists (pair_at lists p).hospital)
    ∙ ap pos (sum_by-filter (λ q. if point q then hospital_share lists p q else 0) (λ q. (pair_at lists q).hospital == (pair_at lists p).hospital) ns))
    ∙ ap pos (sum_by-plus _ _ ns ∙ sum_by_same _ _ ns (coef_parts lists point p))
    ∙ sym (value_of_terms point (stability_coef lists p) ns)

pub pair_terms_make : (lists : Lists) (p : ℕ) (at_least : ℤ) → at_least ≡ (pair_row lists p).at_least →
    normal_form (counted_terms (resident_share lists p) (pairs_of_resident lists (pair_at lists p).resident) ++ counted_terms (hospital_share lists p) (rising_pairs_of_hospital lists (pair_at lists p).hospital)) at_least
    ≡ in_normal_form (pair_row lists p)
pair_terms_make lists p at_least e =
    normal_form-same _ _ at_least (pair_terms_value lists p) ∙ ap (normal_form (pair_row lists p).terms) e

-- a count that was passed on by value
pub passed : (z : ℤ) (n : ℕ) → z ≡ pos n → n < 2 ^ 127 → to_z w128 (of_z w128 z) ≡ pos n
passed z n e h = rw e (to_z_pos w128 n h)
