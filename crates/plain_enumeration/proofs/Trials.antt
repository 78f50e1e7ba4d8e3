-- What is known after so many sets were tried, and that the last one leaves a largest stable matching.
use Rattle.std.proofs.Common.{◌≡◌, ℕ, ◌+◌, ◌^◌, ◌<◌, ◌≤◌, true, List, [], ◌∷◌, length, ◌⊎◌, inl, inr, refl, sym, ap, ◌∙◌, subst, arith, below_more}
use Rattle.std.specs.List.Sorted.{IsStrictlyIncreasing}
use Rattle.rank_tables.specs.Instance.{Lists, pair_count}
use Rattle.rank_tables.specs.Stability.{is_weakly_stable, Best}
use Rattle.rank_tables.proofs.Below.{rising-chosen}
use Rattle.plain_enumeration.specs.Sets.{is_member, members}
use Rattle.plain_enumeration.proofs.Existence.{stable_exists}
use Rattle.plain_enumeration.proofs.Sets.{sets_suffice}

-- ---- members rise

rising-members : (set n : ℕ) → IsStrictlyIncreasing (members set n)
rising-members set n = rising-chosen (is_member set) n

-- ---- the best list so far

-- The list is stable or empty, and no set below the number has a longer stable one.
pub record IsLongest (lists : Lists) (tried : ℕ) (best : List ℕ) : Type 0 where
  pub kept : (is_weakly_stable lists best ≡ true) ⊎ (best ≡ [])
  pub rising : IsStrictlyIncreasing best
  pub longest : (set : ℕ) → set < tried → is_weakly_stable lists (members set (pair_count lists)) ≡ true → length (members set (pair_count lists)) ≤ length best

-- the next set has no longer stable list
pub longest_still : (lists : Lists) (tried : ℕ) (best : List ℕ) → IsLongest lists tried best →
    (is_weakly_stable lists (members tried (pair_count lists)) ≡ true → length (members tried (pair_count lists)) ≤ length best) → IsLongest lists (tried + 1) best
longest_still lists tried best l h = record {
  kept = l.kept;
  rising = l.rising;
  longest = below_more (λ set. is_weakly_stable lists (members set (pair_count lists)) ≡ true → length (members set (pair_count lists)) ≤ length best) tried l.longest h;
}

-- the next set has one
pub longest_now : (lists : Lists) (tried : ℕ) (best : List ℕ) → IsLongest lists tried best →
    is_weakly_stable lists (members tried (pair_count lists)) ≡ true → length best < length (members tried (pair_count lists)) → IsLongest lists (tried + 1) (members tried (pair_count lists))
longest_now lists tried best l s h = record {
  kept = inl s;
  rising = rising-members tried (pair_count lists);
  longest = below_more (λ set. is_weakly_stable lists (members set (pair_count lists)) ≡ true → length (members set (pair_count lists)) ≤ length (members tried (pair_count lists))) tried
      (λ set k t. let before : length (members set (pair_count lists)) ≤ length best = l.longest set k t in omega arith)
      (λ t. omega arith);
}

no_longer : (m : List ℕ) → length m ≤ 0 → m ≡ []
no_longer [] h = refl
no_longer (x ∷ m) h = absurd (omega arith)

-- with all sets tried, an empty list is stable too, since some list is
pub longest_of_all : (lists : Lists) (best : List ℕ) → IsLongest lists (2 ^ pair_count lists) best → Best lists best
longest_of_all lists best l =
    let largest = sets_suffice lists (length best) l.longest in
    record {
      stable = elim l.kept [
        | inl s ↦ s
        | inr e ↦
            let some = stable_exists lists in
            let short : length some.0 ≤ 0 = subst (λ (n : ℕ). length some.0 ≤ n) (ap length e) (largest some.0 some.1) in
            ap (is_weakly_stable lists) (e ∙ sym (no_longer some.0 short)) ∙ some.1
      ];
      largest = largest;
    }
