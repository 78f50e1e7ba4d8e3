-- One more resident, and one more hospital, is counted.
use Rattle.std.proofs.Common.{◌≡◌, ℕ, ◌+◌, ◌<◌, ◌≤◌, min, Bool, true, false, not, List, nat_lt, if◌then◌else◌, sum_by, count_by, sym, ap, ap₂, ◌∙◌, arith, add-one}
use Rattle.std.specs.List.{list_any}
use Rattle.std.proofs.lemmas.Bool.{lt-ltb, le-ltb}
use Rattle.std.proofs.lemmas.List.Sums.{count_by-le-length, sum_by_push}
use Rattle.hrt_base.specs.declared.numbered.PairNo.{PairNo}
use Rattle.rank_tables.specs.Numbers.{below, is_distinct, is_in}
use Rattle.rank_tables.specs.Instance.{Lists, capacity_of, rising_pairs_of_hospital, pairs_of_resident}
use Rattle.rank_tables.specs.Tables.{numbers_of}
use Rattle.rank_tables.proofs.Below.{length-below}
use Rattle.rank_tables.proofs.Numbers.{list_any-count}
use Rattle.stability_model.specs.Gone.{Pairs}
use Rattle.stability_model.proofs.Counts.{count_alike}
use Rattle.derivation.specs.Deletions.{Deletions, is_deleted}
use Rattle.capacity_bound.proofs.Parts.{numbers_distinct}

sum_below : (f : ℕ → ℕ) (k : ℕ) → sum_by f (below (k + 1)) ≡ sum_by f (below k) + f k
sum_below f k = rw (add-one k) (sum_by_push f (below k) k)

pub counted_most : (t : ℕ → Bool) (n k : ℕ) → n ≡ count_by t (below k) → n ≤ k
counted_most t n k e = omega (arith, e, count_by-le-length t (below k), length-below k)

-- ---- residents

module _ (lists : Lists) (gone : Pairs) (k n count : ℕ) (pairs : List PairNo) (numbers : numbers_of pairs ≡ pairs_of_resident lists k) (counts : count ≡ count_by (λ p. not (gone p)) (numbers_of pairs)) (so_far : n ≡ count_by (λ r. list_any (λ p. not (gone p)) (pairs_of_resident lists r)) (below k)) where
  any_is : list_any (λ p. not (gone p)) (pairs_of_resident lists k) ≡ nat_lt 0 count
  any_is = list_any-count (λ p. not (gone p)) (pairs_of_resident lists k) ∙ ap (nat_lt 0) (sym (counts ∙ ap (λ (ps : List ℕ). count_by (λ p. not (gone p)) ps) numbers))

  step : (b : Bool) → nat_lt 0 count ≡ b → n + (if b then 1 else 0) ≡ count_by (λ r. list_any (λ p. not (gone p)) (pairs_of_resident lists r)) (below (k + 1))
  step b e =
      ap₂ (λ (m : ℕ) (c : Bool). m + (if c then 1 else 0)) so_far (sym e ∙ sym any_is)
      ∙ sym (sum_below (λ r. if list_any (λ p. not (gone p)) (pairs_of_resident lists r) then 1 else 0) k)

  pub one_more_resident : 0 < count → n + 1 ≡ count_by (λ r. list_any (λ p. not (gone p)) (pairs_of_resident lists r)) (below (k + 1))
  one_more_resident h = step true (lt-ltb 0 count h)

  pub no_more_resident : count ≤ 0 → n ≡ count_by (λ r. list_any (λ p. not (gone p)) (pairs_of_resident lists r)) (below (k + 1))
  no_more_resident h = let s = step false (le-ltb 0 count h) in omega arith

-- ---- hospitals

pub posts_more : (lists : Lists) (deletions : Deletions) (k n capacity count least : ℕ) (pairs : List PairNo) → ((p : ℕ) → is_in p (numbers_of pairs) ≡ is_in p (rising_pairs_of_hospital lists k)) → is_distinct (numbers_of pairs) ≡ true → count ≡ count_by (λ p. not (is_deleted deletions p)) (numbers_of pairs) →
    capacity ≡ capacity_of lists k → least ≡ min capacity count → n ≡ sum_by (λ h. min (capacity_of lists h) (count_by (λ p. not (is_deleted deletions p)) (rising_pairs_of_hospital lists h))) (below k) →
    n + least ≡ sum_by (λ h. min (capacity_of lists h) (count_by (λ p. not (is_deleted deletions p)) (rising_pairs_of_hospital lists h))) (below (k + 1))
posts_more lists deletions k n capacity count least pairs alike distinct counts is_capacity is_least so_far =
    let left : ℕ → Bool = λ p. not (is_deleted deletions p) in
    let here : count ≡ count_by left (rising_pairs_of_hospital lists k) = counts ∙ count_alike left (numbers_of pairs) (rising_pairs_of_hospital lists k) distinct (numbers_distinct lists k) alike in
    ap₂ ◌+◌ so_far (is_least ∙ ap₂ min is_capacity here)
    ∙ sym (sum_below (λ h. min (capacity_of lists h) (count_by left (rising_pairs_of_hospital lists h))) k)
