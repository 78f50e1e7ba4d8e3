-- Few pairs have few terms.
use Rattle.std.proofs.Common.{◌≡◌, ℕ, ◌+◌, ◌*◌, ◌≤◌, List, length, get_or, sum_by, count_by, subst, arith}
use Rattle.std.proofs.lemmas.List.Sums.{sum_by-le, count_by-le-length}
use Rattle.rank_tables.specs.Numbers.{numbers_to}
use Rattle.rank_tables.specs.Instance.{Lists, pair_at, pair_count}
use Rattle.rank_tables.specs.Terms.{has_term, model_terms}
use Rattle.rank_tables.proofs.Below.{length-numbers_to}
use Rattle.rank_tables.proofs.TermSums.{rows-length}
use Rattle.rank_tables.proofs.TermTotal.{residents_within, hospitals_within}

pub model_terms-le : (lists : Lists) → model_terms lists ≤ pair_count lists + pair_count lists + pair_count lists * pair_count lists
model_terms-le lists =
    let ns : List ℕ = numbers_to (pair_count lists) in
    let count : length ns ≡ pair_count lists = length-numbers_to (pair_count lists) in
    let own : sum_by (λ p. count_by (has_term lists p) ns) ns ≤ length ns * pair_count lists =
    sum_by-le (λ p. count_by (has_term lists p) ns) (pair_count lists) ns (λ k d l. omega (arith, count_by-le-length (has_term lists (get_or ns k d)) ns, count)) in
    whole _ _ _ (length ns) (pair_count lists) (rows-length (λ p. (pair_at lists p).resident) ns (length lists.residents) (residents_within lists))
    (rows-length (λ p. (pair_at lists p).hospital) ns (length lists.hospitals) (hospitals_within lists)) own count
  where
    whole : (a b c len n : ℕ) → a ≡ len → b ≡ len → c ≤ len * n → len ≡ n → a + b + c ≤ n + n + n * n
    whole a b c len n p q r s = let t : c ≤ n * n = subst (λ (k : ℕ). c ≤ k * n) s r in omega arith
