-- Every instance has a weakly stable matching.
use Rattle.std.proofs.Common.{◌≡◌, ℕ, ◌<◌, ◌≤◌, Bool, true, false, not, ◌&&◌, List, ◌==◌, nat_lt, count_by, sym, ◌∙◌, inl, inr, subst}
use Rattle.std.proofs.lemmas.Bool.{true≢false, eqb-true, eq-eqb, and_from, and_parts, or_cases, ltb-true, le-leb, not_from_false, not_from_true, false_from_ne_true}
use Rattle.rank_tables.specs.Numbers.{numbers_to, is_in}
use Rattle.rank_tables.specs.Instance.{Lists, pair_count, pair_at, rank_by_resident, rank_by_hospital, capacity_of}
use Rattle.rank_tables.specs.Stability.{is_matching, blocks, is_weakly_stable, resident_wants, hospital_wants, uses_of_resident, uses_of_hospital}
use Rattle.rank_tables.proofs.Numbers.{element, all_at, all_from, is_in-filter, is_in-numbers_to, distinct-numbers_to}
use Rattle.rank_tables.proofs.Membership.{chosen, chosen_distinct, are_pairs}
use Rattle.plain_enumeration.proofs.Counts.{count_among, count_one}
use Rattle.plain_enumeration.proofs.Rejections.{Market, is_choice, one_choice, IsSettled, settled, is_at, within_posts, HasRoom, none_blocks}

-- the pairs of an instance, with their ranks
abbrev market : Lists → Market
market lists = record {
  count = pair_count lists;
  resident = λ p. (pair_at lists p).resident;
  hospital = λ p. (pair_at lists p).hospital;
  rank_by_resident = λ p. rank_by_resident lists p;
  rank_by_hospital = λ p. rank_by_hospital lists p;
  capacity = λ h. capacity_of lists h;
}

abbrev choices : (lists : Lists) → (ℕ → Bool) → List ℕ
choices lists rejected = chosen lists (is_choice (market lists) rejected)

pub chosen_in_range : (lists : Lists) (test : ℕ → Bool) → are_pairs lists (chosen lists test) ≡ true
chosen_in_range lists test =
    all_from _ (chosen lists test) (λ p i.
    sym (is_in-numbers_to (pair_count lists) p)
    ∙ (and_parts (is_in p (numbers_to (pair_count lists))) _ (sym (is_in-filter test p (numbers_to (pair_count lists))) ∙ i)).0)

-- a chosen pair is one of the instance's, and its resident's choice
member : (lists : Lists) (rejected : ℕ → Bool) (p : ℕ) → is_in p (choices lists rejected) ≡ true →
    (is_in p (numbers_to (pair_count lists)) ≡ true) × (is_choice (market lists) rejected p ≡ true)
member lists rejected p i = and_parts (is_in p (numbers_to (pair_count lists))) _ (sym (is_in-filter (is_choice (market lists) rejected) p (numbers_to (pair_count lists))) ∙ i)

member_from : (lists : Lists) (rejected : ℕ → Bool) (p : ℕ) → is_in p (numbers_to (pair_count lists)) ≡ true → is_choice (market lists) rejected p ≡ true →
    is_in p (choices lists rejected) ≡ true
member_from lists rejected p i c = is_in-filter (is_choice (market lists) rejected) p (numbers_to (pair_count lists)) ∙ and_from _ _ i c

residents_once : (lists : Lists) (rejected : ℕ → Bool) (r : ℕ) → uses_of_resident lists (choices lists rejected) r ≤ 1
residents_once lists rejected r =
    subst (λ (n : ℕ). n ≤ 1) (sym (count_among (is_choice (market lists) rejected) (λ q. (pair_at lists q).resident == r) (numbers_to (pair_count lists))))
    (count_one _ (numbers_to (pair_count lists)) (distinct-numbers_to (pair_count lists)) (λ p q i j c d.
    let one = and_parts (is_choice (market lists) rejected p) ((pair_at lists p).resident == r) c in
    let other = and_parts (is_choice (market lists) rejected q) ((pair_at lists q).resident == r) d in
    one_choice (market lists) rejected p q i j one.0 other.0 (eqb-true _ _ one.1 ∙ sym (eqb-true _ _ other.1))))

uses : (lists : Lists) (rejected : ℕ → Bool) (h : ℕ) → uses_of_hospital lists (choices lists rejected) h ≡ count_by (is_at (market lists) rejected h) (numbers_to (pair_count lists))
uses lists rejected h = count_among (is_choice (market lists) rejected) (λ q. (pair_at lists q).hospital == h) (numbers_to (pair_count lists))

hospitals_within : (lists : Lists) (rejected : ℕ → Bool) → IsSettled (market lists) rejected → (h : ℕ) → uses_of_hospital lists (choices lists rejected) h ≤ capacity_of lists h
hospitals_within lists rejected s h = subst (λ (n : ℕ). n ≤ capacity_of lists h) (sym (uses lists rejected h)) (within_posts (market lists) rejected s h)

matching : (lists : Lists) (rejected : ℕ → Bool) → IsSettled (market lists) rejected → is_matching lists (choices lists rejected) ≡ true
matching lists rejected s =
    and_from _ _
    (and_from _ _
    (and_from _ _ (chosen_distinct lists (is_choice (market lists) rejected)) (chosen_in_range lists (is_choice (market lists) rejected)))
    (all_from _ (choices lists rejected) (λ p i. le-leb _ _ (residents_once lists rejected (pair_at lists p).resident))))
    (all_from _ (choices lists rejected) (λ p i. le-leb _ _ (hospitals_within lists rejected s (pair_at lists p).hospital)))

wants : (lists : Lists) (rejected : ℕ → Bool) (p : ℕ) → resident_wants lists (choices lists rejected) p ≡ true →
    (q : ℕ) → is_in q (numbers_to (pair_count lists)) ≡ true → is_choice (market lists) rejected q ≡ true → (pair_at lists q).resident ≡ (pair_at lists p).resident →
    rank_by_resident lists p < rank_by_resident lists q
wants lists rejected p h q i c e =
    elim (or_cases (not ((pair_at lists q).resident == (pair_at lists p).resident)) (nat_lt (rank_by_resident lists p) (rank_by_resident lists q)) (all_at _ (choices lists rejected) q h (member_from lists rejected q i c))) [
      | inl f ↦ absurd (true≢false (sym f ∙ not_from_true _ (eq-eqb _ _ e)))
      | inr f ↦ ltb-true _ _ f
    ]

room : (lists : Lists) (rejected : ℕ → Bool) (p : ℕ) → hospital_wants lists (choices lists rejected) p ≡ true → HasRoom (market lists) rejected p
room lists rejected p h =
    elim (or_cases (nat_lt (uses_of_hospital lists (choices lists rejected) (pair_at lists p).hospital) (capacity_of lists (pair_at lists p).hospital)) _ h) [
      | inl f ↦ inl (subst (λ (n : ℕ). n < capacity_of lists (pair_at lists p).hospital) (uses lists rejected (pair_at lists p).hospital) (ltb-true _ _ f))
      | inr f ↦
          let r = element (λ q. (pair_at lists q).hospital == (pair_at lists p).hospital && nat_lt (rank_by_hospital lists p) (rank_by_hospital lists q)) (choices lists rejected) f in
          let both = and_parts ((pair_at lists r.0).hospital == (pair_at lists p).hospital) (nat_lt (rank_by_hospital lists p) (rank_by_hospital lists r.0)) r.2 in
          let inside = member lists rejected r.0 r.1 in
          inr (r.0, inside.0, inside.1, eqb-true _ _ both.0, ltb-true _ _ both.1)
    ]

unblocked : (lists : Lists) (rejected : ℕ → Bool) → IsSettled (market lists) rejected → (p : ℕ) → is_in p (numbers_to (pair_count lists)) ≡ true → blocks lists (choices lists rejected) p ≡ false
unblocked lists rejected s p i =
    false_from_ne_true _ (λ b.
    let both = and_parts (not (is_in p (choices lists rejected)) && resident_wants lists (choices lists rejected) p) (hospital_wants lists (choices lists rejected) p) b in
    none_blocks (market lists) rejected s p i
    (wants lists rejected p (and_parts (not (is_in p (choices lists rejected))) (resident_wants lists (choices lists rejected) p) both.0).1)
    (room lists rejected p both.1))

pub stable_exists : (lists : Lists) → (m : List ℕ) × (is_weakly_stable lists m ≡ true)
stable_exists lists =
    let end = settled (market lists) in (
      choices lists end.0,
      and_from _ _ (matching lists end.0 end.1) (all_from _ (numbers_to (pair_count lists)) (λ p i. not_from_false _ (unblocked lists end.0 end.1 p i))),
    )
