-- No matching of pairs that are left is longer than the ceiling, and all sets that hold exactly the gone pairs have one ceiling.
use Rattle.std.proofs.Common.{◌≡◌, ℕ, ◌≤◌, min, Bool, true, false, not, ◌&&◌, List, ◌==◌, nat_lt, if◌then◌else◌, filter, count_by, length, sym, ap, ap₂, ◌∙◌, subst, arith}
use Rattle.std.specs.List.{list_any}
use Rattle.std.proofs.lemmas.Bool.{and_from, and_parts, ltb-false, not_from_false}
use Rattle.rank_tables.specs.Numbers.{below, is_in, numbers_to}
use Rattle.rank_tables.specs.Instance.{Lists, capacity_of, pair_at, pair_count, rising_pairs_of_hospital, pairs_of_resident}
use Rattle.rank_tables.specs.Stability.{is_matching}
use Rattle.rank_tables.specs.Tables.{IsPairNo}
use Rattle.rank_tables.proofs.Numbers.{all_at, list_any-count, same_bools, sum_by_same}
use Rattle.rank_tables.proofs.PairFacts.{pair_at-acceptable}
use Rattle.stability_model.specs.Gone.{AreGone, Pairs, ceiling, posts_left, residents_left}
use Rattle.stability_model.proofs.Counts.{count_by_le, count_in_filter, sum_by_le}
use Rattle.stability_model.proofs.GoneInNone.{count_matched, hospital_within, pairs_in, resident_within}
use Rattle.stability_model.proofs.SameCounts.{count_same_in}
use Rattle.rank_tables.proofs.PairNumbers.{listed_pair, pair_of_hospital, pair_of_resident}
use Rattle.capacity_bound.specs.Ceiling.{BoundsMatchings, IsCeiling}
use Rattle.capacity_bound.proofs.ByKinds.{length_by_kinds}

-- ---- the bound

one_or_none : (u c : ℕ) (b : Bool) → nat_lt 0 c ≡ b → u ≤ 1 → u ≤ c → u ≤ (if b then 1 else 0)
one_or_none u c true e h k = h
one_or_none u c false e h k = let z : c ≤ 0 = ltb-false 0 c e in omega arith

module _ (lists : Lists) (gone : Pairs) (m : List ℕ) (matches : is_matching lists m ≡ true) (left : (p : ℕ) → is_in p m ≡ true → gone p ≡ false) where
  in_number : (p : ℕ) → is_in p m ≡ true → IsPairNo lists p
  in_number p i = listed_pair lists p (all_at _ m p (pairs_in lists m matches) i)

  -- the pairs of a kind in the matching are pairs of the kind that are left
  uses_left : (kind : ℕ → ℕ) (k : ℕ) → count_by (λ q. kind q == k) m ≤ count_by (λ p. not (gone p)) (filter (λ q. kind q == k) (numbers_to (pair_count lists)))
  uses_left kind k =
      let ns : List ℕ = numbers_to (pair_count lists) in
      subst (λ (n : ℕ). n ≤ count_by (λ p. not (gone p)) (filter (λ q. kind q == k) ns)) (sym (count_matched lists m (λ q. kind q == k) matches))
      (subst (λ (n : ℕ). count_by (λ q. is_in q m && (kind q == k)) ns ≤ n) (sym (count_in_filter (λ p. not (gone p)) (λ q. kind q == k) ns))
      (count_by_le _ _ ns (λ q i e. let two = and_parts (is_in q m) _ e in and_from (kind q == k) _ two.1 (not_from_false _ (left q two.0)))))

  within_residents : length m ≤ residents_left lists gone
  within_residents =
      subst (λ (n : ℕ). n ≤ residents_left lists gone)
      (length_by_kinds (λ q. (pair_at lists q).resident) (length lists.residents) m (λ q i. (pair_at-acceptable lists q (in_number q i)).resident_declared))
      (sum_by_le _ _ (below (length lists.residents)) (λ r i.
      one_or_none _ _ _ (sym (list_any-count (λ p. not (gone p)) (pairs_of_resident lists r))) (resident_within lists m matches r) (uses_left (λ q. (pair_at lists q).resident) r)))

  within_posts : length m ≤ posts_left lists gone
  within_posts =
      subst (λ (n : ℕ). n ≤ posts_left lists gone)
      (length_by_kinds (λ q. (pair_at lists q).hospital) (length lists.hospitals) m (λ q i. (pair_at-acceptable lists q (in_number q i)).hospital_declared))
      (sum_by_le _ _ (below (length lists.hospitals)) (λ k i.
      let a : count_by (λ q. (pair_at lists q).hospital == k) m ≤ capacity_of lists k = hospital_within lists m matches k in
      let b = uses_left (λ q. (pair_at lists q).hospital) k in
      omega arith))

pub ceiling_bounds : (lists : Lists) (gone : Pairs) (n : ℕ) → n ≡ ceiling lists gone → BoundsMatchings lists gone n
ceiling_bounds lists gone n e = record {
  each = λ m matches left.
      let a : length m ≤ residents_left lists gone = within_residents lists gone m matches left in
      let b : length m ≤ posts_left lists gone = within_posts lists gone m matches left in
      omega arith;
}

-- ---- one ceiling

module _ (lists : Lists) (a b : Pairs) (exact_a : AreGone lists a) (exact_b : AreGone lists b) where
  agree : (p : ℕ) → IsPairNo lists p → a p ≡ b p
  agree p i = same_bools (a p) (b p) (λ e. exact_b.all p (exact_a.each p i e)) (λ e. exact_a.all p (exact_b.each p i e))

  left_same : (ps : List ℕ) → ((p : ℕ) → is_in p ps ≡ true → IsPairNo lists p) → count_by (λ p. not (a p)) ps ≡ count_by (λ p. not (b p)) ps
  left_same ps number = count_same_in (λ p. not (a p)) (λ p. not (b p)) ps (λ p i. ap not (agree p (number p i)))

  any_same : (ps : List ℕ) → ((p : ℕ) → is_in p ps ≡ true → IsPairNo lists p) → list_any (λ p. not (a p)) ps ≡ list_any (λ p. not (b p)) ps
  any_same ps number = list_any-count (λ p. not (a p)) ps ∙ ap (nat_lt 0) (left_same ps number) ∙ sym (list_any-count (λ p. not (b p)) ps)

  ceiling_same : ceiling lists a ≡ ceiling lists b
  ceiling_same =
      ap₂ min
      (sum_by_same _ _ (below (length lists.residents)) (λ r. ap (λ (t : Bool). if t then 1 else 0) (any_same (pairs_of_resident lists r) (λ p i. (pair_of_resident lists r p i).0))))
      (sum_by_same _ _ (below (length lists.hospitals)) (λ k. ap (min (capacity_of lists k)) (left_same (rising_pairs_of_hospital lists k) (λ p i. (pair_of_hospital lists k p i).0))))

pub ceiling_exact : (lists : Lists) (gone : Pairs) (n : ℕ) → n ≡ ceiling lists gone → AreGone lists gone → IsCeiling lists n
ceiling_exact lists gone n e exact = record { of_each = λ set other. e ∙ ceiling_same lists gone set exact other }
