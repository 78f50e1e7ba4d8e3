-- No more posts can be filled than there are pairs.
use Rattle.std.proofs.Common.{◌≡◌, ℕ, ◌≤◌, not, ◌==◌, true, nat_le, count_by, length, sym, ◌∙◌, subst, arith}
use Rattle.std.proofs.lemmas.Bool.{and_parts, leb-true}
use Rattle.rank_tables.specs.Numbers.{below, is_in, numbers_to}
use Rattle.rank_tables.specs.Instance.{Lists, pair_at, pair_count, rising_pairs_of_hospital}
use Rattle.rank_tables.specs.Tables.{IsPairNo}
use Rattle.rank_tables.proofs.Below.{length-numbers_to}
use Rattle.rank_tables.proofs.Numbers.{is_in-numbers_to}
use Rattle.rank_tables.proofs.PairFacts.{pair_at-acceptable}
use Rattle.stability_model.specs.Gone.{Pairs, posts_left}
use Rattle.stability_model.proofs.Counts.{count_by_le, count_in_filter, sum_by_le}
use Rattle.capacity_bound.proofs.ByKinds.{length_by_kinds}

module _ (lists : Lists) (gone : Pairs) where
  pair_in : (p : ℕ) → is_in p (numbers_to (pair_count lists)) ≡ true → IsPairNo lists p
  pair_in p i =
      let range = and_parts (nat_le 1 p) (nat_le p (pair_count lists)) (sym (is_in-numbers_to (pair_count lists) p) ∙ i) in
      (leb-true 1 p range.0, leb-true p (pair_count lists) range.1)

  -- the pairs of a hospital that are left are pairs of it
  hospital_few : (h : ℕ) → count_by (λ p. not (gone p)) (rising_pairs_of_hospital lists h) ≤ count_by (λ p. (pair_at lists p).hospital == h) (numbers_to (pair_count lists))
  hospital_few h =
      subst (λ (n : ℕ). n ≤ count_by (λ p. (pair_at lists p).hospital == h) (numbers_to (pair_count lists)))
      (sym (count_in_filter (λ p. not (gone p)) (λ p. (pair_at lists p).hospital == h) (numbers_to (pair_count lists))))
      (count_by_le _ _ (numbers_to (pair_count lists)) (λ p i both. (and_parts ((pair_at lists p).hospital == h) _ both).0))

  pub posts_few : posts_left lists gone ≤ pair_count lists
  posts_few =
      subst (λ (n : ℕ). posts_left lists gone ≤ n)
      (length_by_kinds (λ p. (pair_at lists p).hospital) (length lists.hospitals) (numbers_to (pair_count lists)) (λ p i. (pair_at-acceptable lists p (pair_in p i)).hospital_declared) ∙ length-numbers_to (pair_count lists))
      (sum_by_le _ _ (below (length lists.hospitals)) (λ h i. let few = hospital_few h in omega arith))
