-- The worst pair of a hospital.
use Rattle.std.proofs.Common.{◌≡◌, ℕ, ◌≤◌, Bool, true, false, not, ◌&&◌, ◌||◌, ◌==◌, nat_lt, List, [], ◌∷◌, find, Some, None, refl, sym, ap, ◌∙◌, inl, inr, subst, arith}
use Rattle.std.specs.List.{list_all}
use Rattle.std.proofs.lemmas.Bool.{true≢false, eqb-true, eq-eqb, and_from, and_parts, or_cases, or_parts, or_left, or_right, not-true, not_from_false, ltb-false, cases_Bool, false_from_ne_true}
use Rattle.std.proofs.lemmas.Bool.Decides.{nat_tests}
use Rattle.rank_tables.specs.Numbers.{numbers_to, is_in}
use Rattle.rank_tables.specs.Instance.{Lists, pair_count, pair_at, rank_by_hospital}
use Rattle.rank_tables.specs.Tables.{IsPairNo}
use Rattle.rank_tables.proofs.Numbers.{is_in-filter, all_at, all_from}
use Rattle.rank_tables.proofs.PairNumbers.{pair_listed, listed_pair}
use Rattle.promotion_heuristic.specs.declared.standing.Standing.{Standing}
use Rattle.promotion_heuristic.specs.Promotion.{is_promoted, holds, held, held_at, is_lower, is_worse, worst}
use Rattle.promotion_heuristic.proofs.Finding.{found, none_found, find-some}
use Rattle.promotion_heuristic.proofs.Standings.{held-one}

-- ---- what is held

pub record IsHeldAt (lists : Lists) (s : List Standing) (h p : ℕ) : Type 0 where
  pub number : IsPairNo lists p
  pub held : holds lists s p ≡ true
  pub hospital : (pair_at lists p).hospital ≡ h

pub held_at-parts : (lists : Lists) (s : List Standing) (h p : ℕ) → is_in p (held_at lists s h) ≡ true → IsHeldAt lists s h p
held_at-parts lists s h p i =
    let outer = and_parts (is_in p (held lists s)) _ (sym (is_in-filter (λ q. (pair_at lists q).hospital == h) p (held lists s)) ∙ i) in
    let inner = and_parts (is_in p (numbers_to (pair_count lists))) _ (sym (is_in-filter (holds lists s) p (numbers_to (pair_count lists))) ∙ outer.0) in
    record { number = listed_pair lists p inner.0; held = inner.1; hospital = eqb-true _ _ outer.1 }

pub held_at-from : (lists : Lists) (s : List Standing) (h p : ℕ) → IsHeldAt lists s h p → is_in p (held_at lists s h) ≡ true
held_at-from lists s h p a =
    is_in-filter (λ q. (pair_at lists q).hospital == h) p (held lists s)
    ∙ and_from _ _ (is_in-filter (holds lists s) p (numbers_to (pair_count lists)) ∙ and_from _ _ (pair_listed lists p a.number) a.held) (eq-eqb _ _ a.hospital)

-- ---- the order

-- for ranks, promotions and residents in place of pairs
abbrev lower : ℕ → Bool → ℕ → Bool → Bool
lower m a n b = nat_lt n m || (m == n && not a && b)

abbrev worse : ℕ → Bool → ℕ → ℕ → Bool → ℕ → Bool
worse m a r n b s = lower m a n b || (not (lower n b m a) && nat_lt s r)

worse-itself : (m : ℕ) (a : Bool) (r : ℕ) → worse m a r m a r ≡ false
worse-itself m true r = grind (arith, nat_tests)
worse-itself m false r = grind (arith, nat_tests)

worse-joins : (l : ℕ) (a : Bool) (r m : ℕ) (b : Bool) (s n : ℕ) (c : Bool) (t : ℕ) → worse l a r m b s ≡ true → worse m b s n c t ≡ true → worse l a r n c t ≡ true
worse-joins l true r m true s n true t h k = grind (arith, nat_tests)
worse-joins l true r m true s n false t h k = grind (arith, nat_tests)
worse-joins l true r m false s n true t h k = grind (arith, nat_tests)
worse-joins l true r m false s n false t h k = grind (arith, nat_tests)
worse-joins l false r m true s n true t h k = grind (arith, nat_tests)
worse-joins l false r m true s n false t h k = grind (arith, nat_tests)
worse-joins l false r m false s n true t h k = grind (arith, nat_tests)
worse-joins l false r m false s n false t h k = grind (arith, nat_tests)

neither-worse : (m : ℕ) (a : Bool) (r n : ℕ) (b : Bool) (s : ℕ) → worse m a r n b s ≡ false → worse n b s m a r ≡ false → r ≡ s
neither-worse m true r n true s h k = grind (arith, nat_tests)
neither-worse m true r n false s h k = grind (arith, nat_tests)
neither-worse m false r n true s h k = grind (arith, nat_tests)
neither-worse m false r n false s h k = grind (arith, nat_tests)

worse-rank : (m : ℕ) (a : Bool) (r n : ℕ) (b : Bool) (s : ℕ) → worse m a r n b s ≡ false → m ≤ n
worse-rank m a r n b s h = ltb-false n m (or_parts (nat_lt n m) _ (or_parts (lower m a n b) _ h).0).0

lower-rank : (m : ℕ) (a : Bool) (n : ℕ) (b : Bool) → lower m a n b ≡ true → n ≤ m
lower-rank m true n b h = grind (arith, nat_tests)
lower-rank m false n b h = grind (arith, nat_tests)

abbrev by_hospital : Lists → ℕ → ℕ
by_hospital lists p = rank_by_hospital lists p

abbrev of : Lists → ℕ → ℕ
of lists p = (pair_at lists p).resident

is_worse-itself : (lists : Lists) (s : List Standing) (p : ℕ) → is_worse lists s p p ≡ false
is_worse-itself lists s p = worse-itself (by_hospital lists p) (is_promoted lists s p) (of lists p)

is_worse-joins : (lists : Lists) (s : List Standing) (p q o : ℕ) → is_worse lists s p q ≡ true → is_worse lists s q o ≡ true → is_worse lists s p o ≡ true
is_worse-joins lists s p q o =
    worse-joins (by_hospital lists p) (is_promoted lists s p) (of lists p) (by_hospital lists q) (is_promoted lists s q) (of lists q)
    (by_hospital lists o) (is_promoted lists s o) (of lists o)

is_worse-neither : (lists : Lists) (s : List Standing) (p q : ℕ) → is_worse lists s p q ≡ false → is_worse lists s q p ≡ false → of lists p ≡ of lists q
is_worse-neither lists s p q = neither-worse (by_hospital lists p) (is_promoted lists s p) (of lists p) (by_hospital lists q) (is_promoted lists s q) (of lists q)

is_worse-rank : (lists : Lists) (s : List Standing) (p q : ℕ) → is_worse lists s p q ≡ false → rank_by_hospital lists p ≤ rank_by_hospital lists q
is_worse-rank lists s p q = worse-rank (by_hospital lists p) (is_promoted lists s p) (of lists p) (by_hospital lists q) (is_promoted lists s q) (of lists q)

-- where a hospital holds one lower than another, it ranks the other at least as high, and else it ranks the one at least as high
pub is_lower-rank : (lists : Lists) (s : List Standing) (p q : ℕ) → is_lower lists s p q ≡ true → rank_by_hospital lists q ≤ rank_by_hospital lists p
is_lower-rank lists s p q h = lower-rank (by_hospital lists p) (is_promoted lists s p) (by_hospital lists q) (is_promoted lists s q) h

pub not_lower-rank : (lists : Lists) (s : List Standing) (p q : ℕ) → is_lower lists s p q ≡ false → rank_by_hospital lists p ≤ rank_by_hospital lists q
not_lower-rank lists s p q h = ltb-false (rank_by_hospital lists q) (rank_by_hospital lists p) (or_parts _ _ h).0

-- ---- the worst one

-- in a list of which some one stands, one is worst
undominated : (lists : Lists) (s : List Standing) (x : ℕ) (xs : List ℕ) → (w : ℕ) × (is_in w (x ∷ xs) ≡ true) × ((q : ℕ) → is_in q (x ∷ xs) ≡ true → is_worse lists s q w ≡ false)
undominated lists s x [] = (
  x,
  or_left _ _ (eq-eqb x x refl),
  λ q i. elim (or_cases _ _ i) [
    | inl e ↦ subst (λ (z : ℕ). is_worse lists s z x ≡ false) (eqb-true x q e) (is_worse-itself lists s x)
    | inr none ↦ absurd (true≢false (sym none))
  ],
)
undominated lists s x (y ∷ ys) =
    let rest : (w : ℕ) × (is_in w (y ∷ ys) ≡ true) × ((q : ℕ) → is_in q (y ∷ ys) ≡ true → is_worse lists s q w ≡ false) = undominated lists s y ys in
    elim (cases_Bool (is_worse lists s x rest.0)) [
      | inl e ↦ (
        x,
        or_left _ _ (eq-eqb x x refl),
        λ q i. elim (or_cases _ _ i) [
          | inl same ↦ subst (λ (z : ℕ). is_worse lists s z x ≡ false) (eqb-true x q same) (is_worse-itself lists s x)
          | inr later ↦ false_from_ne_true _ (λ w. true≢false (sym (is_worse-joins lists s q x rest.0 w e) ∙ rest.2 q later))
        ],
      )
      | inr e ↦ (
        rest.0,
        or_right _ _ rest.1,
        λ q i. elim (or_cases _ _ i) [
          | inl same ↦ subst (λ (z : ℕ). is_worse lists s z rest.0 ≡ false) (eqb-true x q same) e
          | inr later ↦ rest.2 q later
        ],
      )
    ]

-- the test by which the worst one is found
abbrev is_last : Lists → List Standing → List ℕ → ℕ → Bool
is_last lists s xs p = list_all (λ q. not (is_worse lists s q p)) xs

none_worst : (lists : Lists) (s : List Standing) (xs : List ℕ) → find (is_last lists s xs) xs ≡ None → (p : ℕ) → is_in p xs ≡ false
none_worst lists s [] h p = refl
none_worst lists s (x ∷ xs) h p =
    let w = undominated lists s x xs in
    absurd (true≢false (sym (all_from (λ q. not (is_worse lists s q w.0)) (x ∷ xs) (λ q i. not_from_false _ (w.2 q i))) ∙ none_found (is_last lists s (x ∷ xs)) w.0 (x ∷ xs) h w.1))

pub worst-none : (lists : Lists) (s : List Standing) (h : ℕ) → worst lists s h ≡ None → (p : ℕ) → IsHeldAt lists s h p → ⊥
worst-none lists s h e p a = true≢false (sym (held_at-from lists s h p a) ∙ none_worst lists s (held_at lists s h) e p)

pub record IsWorst (lists : Lists) (s : List Standing) (h w : ℕ) : Type 0 where
  pub held : IsHeldAt lists s h w
  pub none_worse : (q : ℕ) → IsHeldAt lists s h q → is_worse lists s q w ≡ false

pub worst-some : (lists : Lists) (s : List Standing) (h w : ℕ) → worst lists s h ≡ Some w → IsWorst lists s h w
worst-some lists s h w e =
    let is = found (is_last lists s (held_at lists s h)) w (held_at lists s h) e in
    record {
      held = held_at-parts lists s h w is.0;
      none_worse = λ q a. not-true _ (all_at (λ q. not (is_worse lists s q w)) (held_at lists s h) q is.1 (held_at-from lists s h q a));
    }

pub worst-rank : (lists : Lists) (s : List Standing) (h w q : ℕ) → IsWorst lists s h w → IsHeldAt lists s h q → rank_by_hospital lists q ≤ rank_by_hospital lists w
worst-rank lists s h w q a b = is_worse-rank lists s q w (a.none_worse q b)

-- one than which none is worse is the worst
pub worst-is : (lists : Lists) (s : List Standing) (h w : ℕ) → IsWorst lists s h w → worst lists s h ≡ Some w
worst-is lists s h w a =
    let passes : is_last lists s (held_at lists s h) w ≡ true =
    all_from (λ q. not (is_worse lists s q w)) (held_at lists s h) (λ q i. not_from_false _ (a.none_worse q (held_at-parts lists s h q i))) in
    let some : (y : ℕ) × (worst lists s h ≡ Some y) = find-some (is_last lists s (held_at lists s h)) w (held_at lists s h) (held_at-from lists s h w a.held) passes in
    let other = worst-some lists s h some.0 some.1 in
    let same : (pair_at lists some.0).resident ≡ (pair_at lists w).resident =
    is_worse-neither lists s some.0 w (a.none_worse some.0 other.held) (other.none_worse w a.held) in
    some.1 ∙ ap Some (held-one lists s some.0 w other.held.held a.held.held same)
