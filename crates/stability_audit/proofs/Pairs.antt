-- The numbers of given pairs.
use Rattle.std.proofs.Common.{◌≡◌, ℕ, zero, suc, ◌+◌, ◌<◌, ◌≤◌, true, ◌&&◌, ◌==◌, nat_le, List, [], ◌∷◌, ◌++◌, length, get_or, take, refl, ap, ◌∙◌, arith, length-take}
use Rattle.std.proofs.lemmas.List.{take_more, take_all, length-map, map-append}
use Rattle.std.proofs.lemmas.Bool.{and_parts, or_left, or_right, eq-eqb, leb-true}
use Rattle.hrt_base.specs.declared.numbered.PairNo.{PairNo}
use Rattle.rank_tables.specs.Numbers.{is_in}
use Rattle.rank_tables.specs.Instance.{Lists, pair_count}
use Rattle.rank_tables.specs.Tables.{IsPairNo, numbers_of}
use Rattle.rank_tables.proofs.Numbers.{all_at}
use Rattle.stability_audit.specs.Verdict.{ArePairs}

pub pair_number : (lists : Lists) (m : List ℕ) (p : ℕ) → ArePairs lists m → is_in p m ≡ true → IsPairNo lists p
pair_number lists m p h i =
    let both = and_parts (nat_le 1 p) (nat_le p (pair_count lists)) (all_at (λ p. nat_le 1 p && nat_le p (pair_count lists)) m p h.in_range i) in
    (leb-true 1 p both.0, leb-true p (pair_count lists) both.1)

is_in_place : (pairs : List PairNo) (i : ℕ) (d : PairNo) → i < length pairs → is_in (get_or pairs i d).0 (numbers_of pairs) ≡ true
is_in_place [] i d l = absurd (omega arith)
is_in_place (p ∷ pairs) zero d l = or_left (p.0 == p.0) _ (eq-eqb p.0 p.0 refl)
is_in_place (p ∷ pairs) (suc i) d l = or_right (p.0 == (get_or pairs i d).0) _ (is_in_place pairs i d (omega arith))

pub pair_number_at : (lists : Lists) (pairs : List PairNo) (i : ℕ) (d : PairNo) → ArePairs lists (numbers_of pairs) → i < length pairs → IsPairNo lists (get_or pairs i d).0
pair_number_at lists pairs i d h l = pair_number lists (numbers_of pairs) (get_or pairs i d).0 h (is_in_place pairs i d l)

pub numbers_more : (pairs : List PairNo) (i : ℕ) (d : PairNo) → i < length pairs →
    numbers_of (take (i + 1) pairs) ≡ numbers_of (take i pairs) ++ (get_or pairs i d).0 ∷ []
numbers_more pairs i d l = ap numbers_of (take_more pairs i d l) ∙ map-append (λ (p : PairNo). p.0) (take i pairs) (get_or pairs i d ∷ [])

pub numbers_few : (pairs : List PairNo) (i : ℕ) → length (numbers_of (take i pairs)) ≤ i
numbers_few pairs i = omega (arith, length-map (take i pairs) (λ (p : PairNo). p.0), length-take i pairs)

pub all_taken : (pairs : List PairNo) (i : ℕ) → length pairs ≤ i → numbers_of (take i pairs) ≡ numbers_of pairs
all_taken pairs i l = ap numbers_of (take_all i pairs l)
