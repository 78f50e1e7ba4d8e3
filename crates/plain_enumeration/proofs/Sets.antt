-- Each choice of pairs is a set with a number, so that whoever tries each number tries a list as long as any stable one.
use Rattle.std.proofs.Common.{◌≡◌, ℕ, zero, suc, ◌+◌, ◌-◌, ◌*◌, ◌/◌, ◌%◌, ◌^◌, ◌<◌, ◌≤◌, Bool, true, false, cond, List, [], ◌∷◌, ◌++◌, ◌==◌, nat_le, filter, length, refl, sym, ap, ◌∙◌, ap₂, add-one, append-nil, arith}
use Rattle.std.specs.Int.{bit_at}
use Rattle.std.specs.Int.RustNames.{bit_and}
use Rattle.std.proofs.lemmas.List.Elements.{filter-append}
use Rattle.std.proofs.lemmas.Bool.{and_parts, leb-true, ne_eqb, or_left, or_right, eq-eqb}
use Rattle.std.proofs.lemmas.Nat.Bits.{bit_at_lowest, bit_at-suc, shr_and_one}
use Rattle.std.proofs.Math.Nat.{pow-suc}
use Rattle.rank_tables.specs.Numbers.{numbers_to, is_in}
use Rattle.rank_tables.specs.Instance.{Lists, pair_count}
use Rattle.rank_tables.specs.Stability.{is_weakly_stable}
use Rattle.rank_tables.proofs.Numbers.{is_in-numbers_to}
use Rattle.rank_tables.proofs.Membership.{in_order, in_order_stable, in_order_length, stable_parts}
use Rattle.plain_enumeration.proofs.Counts.{one_if}
use Rattle.plain_enumeration.specs.Sets.{is_member, members}

-- the number of the set of those from 1 to the count that pass a test
number_of : (ℕ → Bool) → ℕ → ℕ
number_of t zero = 0
number_of t (suc n) = number_of (λ p. t (suc p)) n * 2 + one_if (t 1)

one_bit : (b : Bool) → one_if b < 2
one_bit true = omega arith
one_bit false = omega arith

number_below : (t : ℕ → Bool) (n : ℕ) → number_of t n < 2 ^ n
unfolding number_of
number_below t zero = omega arith
number_below t (suc n) =
    let less : number_of (λ p. t (suc p)) n < 2 ^ n = number_below (λ p. t (suc p)) n in
    let bit : one_if (t 1) < 2 = one_bit (t 1) in
    omega (arith, pow-suc 2 n)

low : (n k b : ℕ) → n ≡ k * 2 + b → b < 2 → n % 2 ≡ b
low n k b e h = omega arith

high : (n k b : ℕ) → n ≡ k * 2 + b → b < 2 → n / 2 ≡ k
high n k b e h = omega arith

bit_of : (t : ℕ → Bool) (n i : ℕ) → i < n → bit_at (number_of t n) i ≡ one_if (t (suc i))
unfolding number_of
bit_of t zero i h = absurd (omega arith)
bit_of t (suc n) zero h = bit_at_lowest _ ∙ low _ (number_of (λ p. t (suc p)) n) (one_if (t 1)) refl (one_bit (t 1))
bit_of t (suc n) (suc i) h =
    bit_at-suc _ i
    ∙ ap (λ k. bit_at k i) (high _ (number_of (λ p. t (suc p)) n) (one_if (t 1)) refl (one_bit (t 1)))
    ∙ bit_of (λ p. t (suc p)) n i (omega arith)

is_one : (b : Bool) → (one_if b == 1) ≡ b
is_one true = refl
is_one false = refl

member_of : (t : ℕ → Bool) (n p : ℕ) → 1 ≤ p → p ≤ n → is_member (number_of t n) p ≡ t p
member_of t n zero h k = absurd (omega arith)
member_of t n (suc p) h k =
    let place : suc p - 1 ≡ p = omega arith in
    ap (λ i. bit_at (number_of t n) i == 1) place ∙ ap (λ b. b == 1) (bit_of t n p (omega arith)) ∙ is_one (t (suc p))

-- tests that agree on a list keep the same of it
kept_alike : (p q : ℕ → Bool) (xs : List ℕ) → ((x : ℕ) → is_in x xs ≡ true → p x ≡ q x) → filter p xs ≡ filter q xs
kept_alike p q [] h = refl
kept_alike p q (x ∷ xs) h =
    ap₂ (λ (b : Bool) (ys : List ℕ). cond b (x ∷ ys) ys) (h x (or_left (x == x) _ (eq-eqb x x refl))) (kept_alike p q xs (λ y i. h y (or_right (x == y) _ i)))

-- the members up to one pair more
more : (set n : ℕ) → members set (n + 1) ≡ members set n ++ cond (is_member set (n + 1)) ((n + 1) ∷ []) []
more set n = rw add-one (filter-append (is_member set) (numbers_to n) (suc n ∷ []))

bit_is : (set n b : ℕ) → bit_and (set / 2 ^ n) 1 ≡ b → is_member set (n + 1) ≡ (b == 1)
bit_is set n b e = let place : n + 1 - 1 ≡ n = omega arith in ap (λ i. bit_at set i == 1) place ∙ ap (λ k. k == 1) (sym (shr_and_one set n) ∙ e)

pub members-with : (set n : ℕ) → bit_and (set / 2 ^ n) 1 ≡ 1 → members set (n + 1) ≡ members set n ++ ((n + 1) ∷ [])
members-with set n e = more set n ∙ ap (λ b. members set n ++ cond b ((n + 1) ∷ []) []) (bit_is set n 1 e)

pub members-without : (set n : ℕ) → (bit_and (set / 2 ^ n) 1 ≡ 1 → ⊥) → members set (n + 1) ≡ members set n
members-without set n e =
    more set n ∙ ap (λ b. members set n ++ cond b ((n + 1) ∷ []) []) (bit_is set n _ refl ∙ ne_eqb _ 1 e) ∙ append-nil (members set n)

-- each test has a set with its pairs
pub set_of : (t : ℕ → Bool) (n : ℕ) → (set : ℕ) × (set < 2 ^ n) × (members set n ≡ filter t (numbers_to n))
set_of t n = (
  number_of t n,
  number_below t n,
  kept_alike _ t (numbers_to n) (λ p i.
      let range = and_parts (nat_le 1 p) (nat_le p n) (sym (is_in-numbers_to n p) ∙ i) in
      member_of t n p (leb-true 1 p range.0) (leb-true p n range.1)),
)

-- a length that no stable set exceeds is exceeded by no stable list
pub sets_suffice : (lists : Lists) (most : ℕ) →
    ((set : ℕ) → set < 2 ^ pair_count lists → is_weakly_stable lists (members set (pair_count lists)) ≡ true → length (members set (pair_count lists)) ≤ most) →
    (m : List ℕ) → is_weakly_stable lists m ≡ true → length m ≤ most
sets_suffice lists most h m s =
    let parts = stable_parts lists m s in
    let r : (set : ℕ) × (set < 2 ^ pair_count lists) × (members set (pair_count lists) ≡ in_order lists m) = set_of (λ p. is_in p m) (pair_count lists) in
    let long : length (members r.0 (pair_count lists)) ≤ most =
    h r.0 r.1 (ap (is_weakly_stable lists) r.2 ∙ in_order_stable lists m parts.distinct parts.in_range ∙ s) in
    let same : length (members r.0 (pair_count lists)) ≡ length m = ap length r.2 ∙ in_order_length lists m parts.distinct parts.in_range in
    omega arith
