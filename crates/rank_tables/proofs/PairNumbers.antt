-- The numbers of pairs as elements of lists.
use Rattle.std.proofs.Common.{◌≡◌, ℕ, Bool, true, ◌==◌, nat_le, sym, ◌∙◌}
use Rattle.std.proofs.lemmas.Bool.{and_from, and_parts, eqb-true, le-leb, leb-true}
use Rattle.rank_tables.specs.Numbers.{numbers_to, is_in}
use Rattle.rank_tables.specs.Instance.{Lists, pair_at, pair_count, rising_pairs_of_hospital, pairs_of_resident}
use Rattle.rank_tables.specs.Tables.{IsPairNo}
use Rattle.rank_tables.proofs.Numbers.{is_in-filter, is_in-numbers_to}

abbrev pub is_pair : Lists → ℕ → Bool
is_pair lists p = is_in p (numbers_to (pair_count lists))

pub pair_listed : (lists : Lists) (p : ℕ) → IsPairNo lists p → is_pair lists p ≡ true
pair_listed lists p i = is_in-numbers_to (pair_count lists) p ∙ and_from (nat_le 1 p) (nat_le p (pair_count lists)) (le-leb 1 p i.0) (le-leb p (pair_count lists) i.1)

pub listed_pair : (lists : Lists) (p : ℕ) → is_pair lists p ≡ true → IsPairNo lists p
listed_pair lists p i =
    let two = and_parts (nat_le 1 p) (nat_le p (pair_count lists)) (sym (is_in-numbers_to (pair_count lists) p) ∙ i) in
    (leb-true 1 p two.0, leb-true p (pair_count lists) two.1)

pub pair_of_resident : (lists : Lists) (r p : ℕ) → is_in p (pairs_of_resident lists r) ≡ true → IsPairNo lists p × ((pair_at lists p).resident ≡ r)
pair_of_resident lists r p i =
    let two = and_parts (is_pair lists p) ((pair_at lists p).resident == r) (sym (is_in-filter (λ q. (pair_at lists q).resident == r) p (numbers_to (pair_count lists))) ∙ i) in
    (listed_pair lists p two.0, eqb-true _ _ two.1)

pub pair_of_hospital : (lists : Lists) (h p : ℕ) → is_in p (rising_pairs_of_hospital lists h) ≡ true → IsPairNo lists p × ((pair_at lists p).hospital ≡ h)
pair_of_hospital lists h p i =
    let two = and_parts (is_pair lists p) ((pair_at lists p).hospital == h) (sym (is_in-filter (λ q. (pair_at lists q).hospital == h) p (numbers_to (pair_count lists))) ∙ i) in
    (listed_pair lists p two.0, eqb-true _ _ two.1)
