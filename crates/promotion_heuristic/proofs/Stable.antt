-- The matching with which the steps end is weakly stable.
use Rattle.std.proofs.Common.{◌≡◌, ℕ, ◌<◌, ◌≤◌, Bool, true, false, not, ◌&&◌, ◌==◌, nat_lt, List, None, refl, sym, ap, ◌∙◌, inl, inr, subst, arith}
use Rattle.std.proofs.lemmas.Bool.{true≢false, eqb-true, eq-eqb, and_from, and_parts, or_cases, or_from, le-leb, le-ltb, ltb-true, not_from_true, not_from_false, not-true, cases_lt, false_from_ne_true, or_right}
use Rattle.rank_tables.specs.Numbers.{numbers_to, is_in}
use Rattle.rank_tables.specs.Instance.{Lists, pair_count, pair_at, rank_by_resident, rank_by_hospital}
use Rattle.rank_tables.specs.Stability.{is_matching, resident_wants, hospital_wants, blocks, is_weakly_stable, uses_of_resident}
use Rattle.rank_tables.specs.Tables.{IsPairNo, IsOfResident}
use Rattle.rank_tables.specs.WellFormed.{IsWellFormed}
use Rattle.rank_tables.proofs.Numbers.{element, all_at, all_from, is_in-filter, distinct-numbers_to}
use Rattle.rank_tables.proofs.Membership.{chosen_distinct}
use Rattle.rank_tables.proofs.PairFacts.{pair_at-acceptable}
use Rattle.rank_tables.proofs.PairNumbers.{pair_listed, listed_pair}
use Rattle.promotion_heuristic.specs.declared.standing.Standing.{Standing}
use Rattle.promotion_heuristic.specs.Promotion.{standing_of, holds, held, proposal, promotion, final}
use Rattle.promotion_heuristic.proofs.Counting.{count_by-filter_and, count_one}
use Rattle.promotion_heuristic.proofs.Standings.{none_next, came_to, held-one}
use Rattle.promotion_heuristic.proofs.Proposals.{proposal_none}
use Rattle.promotion_heuristic.proofs.Fair.{IsFilled, IsFair}
use Rattle.promotion_heuristic.proofs.Steps.{final-ended, final-fair}
use Rattle.promotion_heuristic.proofs.Written.{rank-rises}

held-parts : (lists : Lists) (s : List Standing) (p : ℕ) → is_in p (held lists s) ≡ true → IsPairNo lists p × (holds lists s p ≡ true)
held-parts lists s p i =
    let parts = and_parts (is_in p (numbers_to (pair_count lists))) _ (sym (is_in-filter (holds lists s) p (numbers_to (pair_count lists))) ∙ i) in
    (listed_pair lists p parts.0, parts.1)

held-from : (lists : Lists) (s : List Standing) (p : ℕ) → IsPairNo lists p → holds lists s p ≡ true → is_in p (held lists s) ≡ true
held-from lists s p n h = is_in-filter (holds lists s) p (numbers_to (pair_count lists)) ∙ and_from _ _ (pair_listed lists p n) h

-- ---- it is a matching

residents_once : (lists : Lists) (s : List Standing) (r : ℕ) → uses_of_resident lists (held lists s) r ≤ 1
residents_once lists s r =
    subst (λ (n : ℕ). n ≤ 1) (sym (count_by-filter_and (holds lists s) (λ q. (pair_at lists q).resident == r) (numbers_to (pair_count lists))))
    (count_one (λ q. holds lists s q && (pair_at lists q).resident == r) (numbers_to (pair_count lists)) (distinct-numbers_to (pair_count lists)) (λ p q c d.
    let one = and_parts (holds lists s p) ((pair_at lists p).resident == r) c in
    let other = and_parts (holds lists s q) ((pair_at lists q).resident == r) d in
    held-one lists s p q one.0 other.0 (eqb-true _ _ one.1 ∙ sym (eqb-true _ _ other.1))))

matching : (lists : Lists) (s : List Standing) → IsFair lists s → is_matching lists (held lists s) ≡ true
matching lists s f =
    and_from _ _
    (and_from _ _
    (and_from _ _ (chosen_distinct lists (holds lists s))
    (all_from _ (held lists s) (λ p i. let n = (held-parts lists s p i).0 in and_from _ _ (le-leb 1 p n.0) (le-leb p (pair_count lists) n.1))))
    (all_from _ (held lists s) (λ p i. le-leb _ _ (residents_once lists s (pair_at lists p).resident))))
    (all_from _ (held lists s) (λ p i. le-leb _ _ (f.within (pair_at lists p).hospital)))

-- ---- no pair blocks it

-- a resident that wants a pair has come to it
came : (lists : Lists) (s : List Standing) (p : ℕ) (b : Bool) → IsWellFormed lists → IsFair lists s → proposal lists s ≡ None → IsPairNo lists p →
    resident_wants lists (held lists s) p ≡ true → (standing_of s (pair_at lists p).resident).assigned ≡ b → came_to lists s p ≡ true
came lists s p true w f e n wants a =
    let r = (pair_at lists p).resident in
    let q = (standing_of s r).last in
    let own : IsOfResident lists r q = f.own r a in
    let holds_q : holds lists s q ≡ true = and_from _ _ (ap (λ x. (standing_of s x).assigned) own.resident ∙ a) (eq-eqb _ _ (ap (λ x. (standing_of s x).last) own.resident)) in
    let better : rank_by_resident lists p < rank_by_resident lists q =
    elim (or_cases (not ((pair_at lists q).resident == r)) (nat_lt (rank_by_resident lists p) (rank_by_resident lists q)) (all_at _ (held lists s) q wants (held-from lists s q own.number holds_q))) [
      | inl other ↦ absurd (true≢false (sym other ∙ not_from_true _ (eq-eqb _ _ own.resident)))
      | inr less ↦ ltb-true _ _ less
    ] in
    or_right (standing_of s r).promoted _ (le-leb p q (elim (cases_lt q p) [
      | inl less ↦ absurd (let high : rank_by_resident lists q ≤ rank_by_resident lists p = rank-rises lists w q p own.number n own.resident less in omega arith)
      | inr few ↦ few
    ]))
came lists s p false w f e n wants a =
    let r = (pair_at lists p).resident in
    or_right (standing_of s r).promoted _
    (le-leb p _ (none_next lists r (standing_of s r).last (proposal_none lists s e r (pair_at-acceptable lists p n).resident_declared a) p n refl))

-- and a hospital that a resident came to in vain wants no more of it
unwanted : (lists : Lists) (s : List Standing) (p : ℕ) → IsFilled lists s p → hospital_wants lists (held lists s) p ≡ false
unwanted lists s p f = or_from _ _ (le-ltb _ _ f.full) (false_from_ne_true _ (λ any.
    let x : (q : ℕ) × (is_in q (held lists s) ≡ true) × (((pair_at lists q).hospital == (pair_at lists p).hospital && nat_lt (rank_by_hospital lists p) (rank_by_hospital lists q)) ≡ true) =
    element (λ q. (pair_at lists q).hospital == (pair_at lists p).hospital && nat_lt (rank_by_hospital lists p) (rank_by_hospital lists q)) (held lists s) any in
    let parts = and_parts _ _ x.2 in
    let is = held-parts lists s x.0 x.1 in
    let high : rank_by_hospital lists x.0 ≤ rank_by_hospital lists p = f.higher x.0 (record { number = is.0; held = is.1; hospital = eqb-true _ _ parts.0 }) in
    let low : rank_by_hospital lists p < rank_by_hospital lists x.0 = ltb-true _ _ parts.1 in
    omega arith))

none_blocks : (lists : Lists) (s : List Standing) (p : ℕ) → IsWellFormed lists → IsFair lists s → proposal lists s ≡ None → IsPairNo lists p →
    blocks lists (held lists s) p ≡ true → ⊥
none_blocks lists s p w f e n b =
    let outer = and_parts (not (is_in p (held lists s)) && resident_wants lists (held lists s) p) (hospital_wants lists (held lists s) p) b in
    let inner = and_parts (not (is_in p (held lists s))) (resident_wants lists (held lists s) p) outer.0 in
    let free : holds lists s p ≡ false = false_from_ne_true _ (λ h. true≢false (sym (held-from lists s p n h) ∙ not-true _ inner.0)) in
    let filled : IsFilled lists s p = f.refused p n (came lists s p (standing_of s (pair_at lists p).resident).assigned w f e n inner.1 refl) free in
    true≢false (sym outer.1 ∙ unwanted lists s p filled)

pub ended-stable : (lists : Lists) (s : List Standing) → IsWellFormed lists → IsFair lists s → proposal lists s ≡ None → is_weakly_stable lists (held lists s) ≡ true
ended-stable lists s w f e =
    and_from _ _ (matching lists s f)
    (all_from _ (numbers_to (pair_count lists)) (λ p i. not_from_false _ (false_from_ne_true _ (none_blocks lists s p w f e (listed_pair lists p i)))))

pub promotion-stable : (lists : Lists) → IsWellFormed lists → is_weakly_stable lists (promotion lists) ≡ true
promotion-stable lists w = ended-stable lists (final lists) w (final-fair lists) (final-ended lists)
