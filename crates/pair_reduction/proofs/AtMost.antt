-- Rows of at most so many: how many of their variables a quiet set makes true.
use Rattle.std.proofs.Common.{◌≡◌, ℕ, zero, suc, ◌+◌, ◌-◌, ◌≤◌, Bool, true, false, ◌&&◌, ◌==◌, List, if◌then◌else◌, filter, sum_by, count_by, ℤ, pos, negsuc, refl, sym, ap, ◌∙◌, subst, arith}
use Rattle.std.proofs.lemmas.Bool.{and_from, eqb-true, true≢false}
use Rattle.std.proofs.lemmas.List.Sums.{sum_by_push}
use Rattle.pb_rows.specs.Normal.{negative_part}
use Rattle.pb_rows.specs.Rows.{in_normal_form}
use Rattle.pb_rows.specs.Closure.{Keeps, Literals}
use Rattle.pb_rows.proofs.Coefs.{coef_row, lit, minus_sum, open_share, sum_below, sum_below-add, sum_below-le, sum_below-less, sum_below-one, term_in}
use Rattle.rank_tables.specs.Numbers.{is_in, numbers_to}
use Rattle.rank_tables.proofs.Numbers.{is_in-numbers_to}
use Rattle.stability_model.specs.Model.{at_most}
use Rattle.stability_model.proofs.CoefRows.{at_most-row, coefs_over, filtered_within, minus_one}
use Rattle.stability_model.proofs.SameCounts.{count_same_in}
use Rattle.pair_reduction.proofs.Quiet.{enough_open, open_sum, term_held}

-- ---- sums over numbers

pub sum_below-numbers : (n : ℕ) (f : ℕ → ℕ) → sum_below (suc n) f ≡ f 0 + sum_by f (numbers_to n)
sum_below-numbers zero f = omega arith
sum_below-numbers (suc n) f = omega (arith, sum_below-numbers n f, sum_by_push f (numbers_to n) (suc n))

none_at_zero : (n : ℕ) (b : Bool) → (if is_in 0 (numbers_to n) && b then 1 else 0) ≡ ◌+◌ 0 0
none_at_zero n b = rw is_in-numbers_to refl

-- a count over the numbers to n
pub counted_below : (n : ℕ) (t : ℕ → Bool) → sum_below (suc n) (λ v. if is_in v (numbers_to n) && t v then 1 else 0) ≡ count_by t (numbers_to n)
counted_below n t =
    let all : count_by (λ v. is_in v (numbers_to n) && t v) (numbers_to n) ≡ count_by t (numbers_to n) =
    count_same_in (λ v. is_in v (numbers_to n) && t v) t (numbers_to n) (λ v i. ap (λ (b : Bool). b && t v) i) in
    omega (arith, sum_below-numbers n (λ v. if is_in v (numbers_to n) && t v then 1 else 0), none_at_zero n (t 0), all)

-- ---- how many are true

-- a variable of the list that the set makes true
abbrev pub is_taken : Literals → List ℕ → ℕ → Bool
is_taken set ps v = is_in v ps && set (lit false v)

abbrev pub taken_sum : Literals → ℕ → List ℕ → ℕ
taken_sum set n ps = sum_below (suc n) (λ v. if is_taken set ps v then 1 else 0)

no_share : (b : Bool) → (if b then 0 else 0) + 0 ≤ 0
no_share true = omega arith
no_share false = omega arith

one_share : (b : Bool) → (if b then 0 else 1) + (if b then 1 else 0) ≤ 1
one_share true = omega arith
one_share false = omega arith

minus_share : (set : Literals) (v : ℕ) (b : Bool) → open_share set v (if b then negsuc 0 else pos 0) + (if b && set (lit false v) then 1 else 0) ≤ negative_part (if b then negsuc 0 else pos 0)
minus_share set v true = one_share (set (lit false v))
minus_share set v false = no_share (set (lit true v))

module _ (set : Literals) (c n : ℕ) (t : ℕ → Bool) (kept : Keeps set (in_normal_form (at_most c (filter t (numbers_to n))))) where
  ps : List ℕ
  ps = filter t (numbers_to n)

  coefs : ℕ → ℤ
  coefs = coefs_over minus_one (filter t (numbers_to n))

  by_coefs : Keeps set (coef_row (suc n) (coefs_over minus_one (filter t (numbers_to n))) (minus_sum (suc n) (coefs_over minus_one (filter t (numbers_to n))) - c))
  by_coefs = subst (Keeps set) (at_most-row c t n) kept

  shares : open_sum set (suc n) (coefs_over minus_one (filter t (numbers_to n))) + taken_sum set n (filter t (numbers_to n)) ≤ minus_sum (suc n) (coefs_over minus_one (filter t (numbers_to n)))
  shares =
      omega (
        arith,
        sum_below-add (suc n) (λ v. open_share set v (coefs_over minus_one (filter t (numbers_to n)) v)) (λ v. if is_taken set (filter t (numbers_to n)) v then 1 else 0),
        sum_below-le (suc n) (λ v. open_share set v (coefs_over minus_one (filter t (numbers_to n)) v) + (if is_taken set (filter t (numbers_to n)) v then 1 else 0)) (λ v. negative_part (coefs_over minus_one (filter t (numbers_to n)) v))
            (λ v l. minus_share set v (is_in v (filter t (numbers_to n)))),
      )

  -- no more than so many are true
  pub taken_most : taken_sum set n (filter t (numbers_to n)) ≤ c
  taken_most =
      let k = enough_open set (suc n) (coefs_over minus_one (filter t (numbers_to n))) (minus_sum (suc n) (coefs_over minus_one (filter t (numbers_to n))) - c) by_coefs in
      omega (arith, shares)

  -- and where so many are, each other one is false
  pub others_false : (q : ℕ) → is_in q (filter t (numbers_to n)) ≡ true → c ≤ taken_sum set n (filter t (numbers_to n)) → set (lit false q) ≡ false → set (lit true q) ≡ true
  others_false q i full free =
      let l : q ≤ n = filtered_within t n q i in
      term_held set (suc n) (coefs_over minus_one (filter t (numbers_to n))) (minus_sum (suc n) (coefs_over minus_one (filter t (numbers_to n))) - c) q 0 true by_coefs (omega arith)
      (term_in (suc n) (coefs_over minus_one (filter t (numbers_to n))) q 0 true (omega arith) (rw i (0, omega arith, refl))) free (omega (arith, shares))

-- ---- some that are true

unit_le : (a b : Bool) → (a ≡ true → b ≡ true) → 0 + (if a then 1 else 0) ≤ (if b then 1 else 0)
unit_le true true h = omega arith
unit_le true false h = absurd (true≢false (sym (h refl)))
unit_le false b h = omega arith

pub units_le : (a b c : Bool) → (a ≡ true → c ≡ true) → (b ≡ true → c ≡ true) → (a ≡ true → b ≡ true → ⊥) → (if a then 1 else 0) + (if b then 1 else 0) ≤ (if c then 1 else 0)
units_le true true c h k o = absurd (o refl refl)
units_le true false true h k o = omega arith
units_le true false false h k o = absurd (true≢false (sym (h refl)))
units_le false true true h k o = omega arith
units_le false true false h k o = absurd (true≢false (sym (k refl)))
units_le false false c h k o = omega arith

module _ (set : Literals) (n : ℕ) (t : ℕ → Bool) where
  taken_at : (v w : ℕ) → is_in w (filter t (numbers_to n)) ≡ true → set (lit false w) ≡ true → (v == w) ≡ true → is_taken set (filter t (numbers_to n)) v ≡ true
  taken_at v w i h e = subst (λ (z : ℕ). is_taken set (filter t (numbers_to n)) z ≡ true) (sym (eqb-true v w e)) (and_from (is_in w (filter t (numbers_to n))) (set (lit false w)) i h)

  pub taken_one : (w : ℕ) → is_in w (filter t (numbers_to n)) ≡ true → set (lit false w) ≡ true → 1 ≤ taken_sum set n (filter t (numbers_to n))
  taken_one w i h =
      let l : w ≤ n = filtered_within t n w i in
      omega (arith, sum_below-less (suc n) w 1 (λ v. 0) (λ v. if is_taken set (filter t (numbers_to n)) v then 1 else 0) (omega arith) (λ v k. unit_le (v == w) (is_taken set (filter t (numbers_to n)) v) (taken_at v w i h)))

  pub taken_two : (w q : ℕ) → is_in w (filter t (numbers_to n)) ≡ true → set (lit false w) ≡ true → is_in q (filter t (numbers_to n)) ≡ true → set (lit false q) ≡ true → (w ≡ q → ⊥) → 2 ≤ taken_sum set n (filter t (numbers_to n))
  taken_two w q i h j k other =
      let l : w ≤ n = filtered_within t n w i in
      let m : q ≤ n = filtered_within t n q j in
      omega (
        arith,
        sum_below-one (suc n) w 1 (omega arith),
        sum_below-less (suc n) q 1 (λ v. if v == w then 1 else 0) (λ v. if is_taken set (filter t (numbers_to n)) v then 1 else 0) (omega arith)
            (λ v z. units_le (v == w) (v == q) (is_taken set (filter t (numbers_to n)) v) (taken_at v w i h) (taken_at v q j k) (λ e f. other (sym (eqb-true v w e) ∙ eqb-true v q f))),
      )
