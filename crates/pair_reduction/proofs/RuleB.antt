-- Rule B by propagation: where a pair is taken, each resident that its hospital strictly prefers and that has nothing else takes
-- its own pair there, by its offer's row. So many residents and the pair are too many for the hospital's row.
use Rattle.std.proofs.Common.{◌≡◌, ℕ, zero, suc, ◌+◌, ◌<◌, ◌≤◌, Bool, true, false, ◌&&◌, ◌==◌, List, ◌∷◌, nat_lt, if◌then◌else◌, filter, count_by, ℤ, pos, negsuc, Contains, refl, sym, ap, ◌∙◌, subst, inl, inr, arith}
use Rattle.std.proofs.lemmas.Bool.{and_from, and_parts, cases_Bool, eq-eqb, eqb-true, false_from_ne_true, ltb-true, ne_eqb, true≢false}
use Rattle.std.proofs.lemmas.List.Elements.{All-contains, All-tail, All-head}
use Rattle.pb_rows.specs.Terms.{PlainRow}
use Rattle.pb_rows.specs.Normal.{negative_part}
use Rattle.pb_rows.specs.Rows.{in_normal_form, opposite_row}
use Rattle.pb_rows.specs.Closure.{Implies, IsQuiet, Keeps, Literals, none}
use Rattle.pb_rows.proofs.Coefs.{coef_row, lit, minus_sum, open_share, sum_below-add, sum_below-less, sum_below-one, term_in}
use Rattle.rank_tables.specs.Numbers.{is_in, numbers_to}
use Rattle.rank_tables.specs.Instance.{Lists, capacity_of, pair_at, pair_count, rising_pairs_of_hospital, rank_by_hospital}
use Rattle.rank_tables.specs.Tables.{IsPairNo}
use Rattle.rank_tables.proofs.Numbers.{distinct-numbers_to, is_in-filter}
use Rattle.stability_model.specs.Model.{hospital_row}
use Rattle.stability_model.proofs.CoefRows.{coefs_over, over-row}
use Rattle.stability_model.proofs.Counts.{count_in_filter}
use Rattle.rank_tables.proofs.PairNumbers.{is_pair, listed_pair, pair_listed}
use Rattle.derivation.specs.Deletions.{unit_row}
use Rattle.pair_reduction.specs.Offers.{is_lower, offer_coef, offer_row}
use Rattle.pair_reduction.proofs.AtMost.{counted_below, is_taken, taken_most, taken_one, taken_sum, units_le}
use Rattle.pair_reduction.proofs.Quiet.{enough_open, open_sum, opposite_held, term_held}
use Rattle.pair_reduction.proofs.RuleA.{closed_share, some_share, zero_share}

-- ---- the row of an offer

abbrev pub offer_coefs : Lists → ℕ → ℕ → ℤ
offer_coefs lists q = coefs_over (offer_coef lists q) (numbers_to (pair_count lists))

pub offer_row-coefs : (lists : Lists) (q : ℕ) → offer_row lists q ≡ coef_row (suc (pair_count lists)) (offer_coefs lists q) (minus_sum (suc (pair_count lists)) (offer_coefs lists q))
offer_row-coefs lists q =
    over-row (offer_coef lists q) (numbers_to (pair_count lists)) (pair_count lists) (pos 0) (distinct-numbers_to (pair_count lists)) (λ v i. (listed_pair lists v i).1)
    ∙ ap (coef_row (suc (pair_count lists)) (offer_coefs lists q)) (omega arith)

-- ---- a pair that is taken

-- a coefficient of the row, by tests: a pair, q itself, ranked lower
abbrev coef_by : ℕ → Bool → Bool → Bool → ℤ
coef_by c b s l = if b then (if s then pos c else (if l then negsuc 0 else pos 0)) else pos 0

taken_share : (set : Literals) (v : ℕ) → set (lit false v) ≡ true → open_share set v (negsuc 0) + 1 ≤ 1 + 0
taken_share set v e = rw e (omega arith)

lower_share : (set : Literals) (v : ℕ) → open_share set v (negsuc 0) + 0 ≤ 1 + 0
lower_share set v = elim (cases_Bool (set (lit false v))) [
  | inl e ↦ rw e (omega arith)
  | inr e ↦ rw e (omega arith)
]

offer_share : (set : Literals) (v c k : ℕ) (b s l e : Bool) → (s ≡ true → open_share set v (pos c) ≤ k) → (e ≡ true → b ≡ true) → (e ≡ true → s ≡ false) → (e ≡ true → l ≡ true) → (e ≡ true → set (lit false v) ≡ true) →
    open_share set v (coef_by c b s l) + (if e then 1 else 0) ≤ negative_part (coef_by c b s l) + (if s then k else 0)
offer_share set v c k false s l true w x y z t = absurd (true≢false (sym (x refl)))
offer_share set v c k false s l false w x y z t = omega (arith, zero_share set v 0)
offer_share set v c k true true l true w x y z t = absurd (true≢false (y refl))
offer_share set v c k true true l false w x y z t = omega (arith, w refl)
offer_share set v c k true false true true w x y z t = taken_share set v (t refl)
offer_share set v c k true false true false w x y z t = lower_share set v
offer_share set v c k true false false true w x y z t = absurd (true≢false (sym (z refl)))
offer_share set v c k true false false false w x y z t = omega (arith, zero_share set v 0)

module _ (lists : Lists) (set : Literals) (p q : ℕ) (p_is : IsPairNo lists p) (q_is : IsPairNo lists q) (lower : is_lower lists q p ≡ true) (some : 0 < capacity_of lists (pair_at lists q).hospital) (kept : Keeps set (offer_row lists q)) (p_true : set (lit false p) ≡ true) where
  by_coefs : Keeps set (coef_row (suc (pair_count lists)) (offer_coefs lists q) (minus_sum (suc (pair_count lists)) (offer_coefs lists q)))
  by_coefs = subst (Keeps set) (offer_row-coefs lists q) kept

  other : p ≡ q → ⊥
  other e =
      let l : rank_by_hospital lists q < rank_by_hospital lists p = ltb-true (rank_by_hospital lists q) (rank_by_hospital lists p) (and_parts ((pair_at lists p).hospital == (pair_at lists q).hospital) (nat_lt (rank_by_hospital lists q) (rank_by_hospital lists p)) lower).1 in
      let z : rank_by_hospital lists p ≡ rank_by_hospital lists q = ap (rank_by_hospital lists) e in
      omega arith

  at_p : (P : ℕ → Type 0) → P p → (v : ℕ) → (v == p) ≡ true → P v
  at_p P h v e = subst P (sym (eqb-true v p e)) h

  sums : (k : ℕ) → open_share set q (pos (capacity_of lists (pair_at lists q).hospital)) ≤ k →
      open_sum set (suc (pair_count lists)) (offer_coefs lists q) + 1 ≤ minus_sum (suc (pair_count lists)) (offer_coefs lists q) + k
  sums k h =
      omega (
        arith,
        sum_below-one (suc (pair_count lists)) q k (omega (arith, q_is.1)),
        sum_below-add (suc (pair_count lists)) (λ v. negative_part (offer_coefs lists q v)) (λ v. if v == q then k else 0),
        sum_below-less (suc (pair_count lists)) p 1 (λ v. open_share set v (offer_coefs lists q v)) (λ v. negative_part (offer_coefs lists q v) + (if v == q then k else 0)) (omega (arith, p_is.1))
            (λ v l. offer_share set v (capacity_of lists (pair_at lists q).hospital) k (is_pair lists v) (v == q) (is_lower lists q v) (v == p)
            (λ e. subst (λ (z : ℕ). open_share set z (pos (capacity_of lists (pair_at lists q).hospital)) ≤ k) (sym (eqb-true v q e)) h)
            (at_p (λ z. is_pair lists z ≡ true) (pair_listed lists p p_is) v) (at_p (λ z. (z == q) ≡ false) (ne_eqb p q other) v) (at_p (λ z. is_lower lists q z ≡ true) lower v) (at_p (λ z. set (lit false z) ≡ true) p_true v)),
      )

  not_refused : set (lit true q) ≡ false
  not_refused = false_from_ne_true (set (lit true q)) (λ e.
      let enough = enough_open set (suc (pair_count lists)) (offer_coefs lists q) (minus_sum (suc (pair_count lists)) (offer_coefs lists q)) by_coefs in
      omega (arith, sums 0 (closed_share set q (capacity_of lists (pair_at lists q).hospital) 0 e)))

  own_coef : offer_coefs lists q q ≡ pos (capacity_of lists (pair_at lists q).hospital)
  own_coef = rw (pair_listed lists q q_is, eq-eqb q q refl) refl

  -- where a pair is taken that is ranked lower, q is taken
  pub offer_taken : set (lit false q) ≡ true
  offer_taken = by (capacity_of lists (pair_at lists q).hospital) refl some
    where
      by : (c : ℕ) → capacity_of lists (pair_at lists q).hospital ≡ c → 0 < c → set (lit false q) ≡ true
      by zero e h = absurd (omega arith)
      by (suc a) e h =
          term_held set (suc (pair_count lists)) (offer_coefs lists q) (minus_sum (suc (pair_count lists)) (offer_coefs lists q)) q a false by_coefs (omega (arith, q_is.1))
          (term_in (suc (pair_count lists)) (offer_coefs lists q) q a false (omega (arith, q_is.1)) (rw (own_coef ∙ ap pos e) (0, omega arith, refl))) not_refused
          (omega (arith, sums (capacity_of lists (pair_at lists q).hospital) (some_share set q (capacity_of lists (pair_at lists q).hospital))))

-- ---- the rule

module _ (lists : Lists) (p : ℕ) (rows : List PlainRow) (offered : ℕ → Bool) (p_is : IsPairNo lists p) (enough : capacity_of lists (pair_at lists p).hospital ≤ count_by (λ q. nat_lt (rank_by_hospital lists q) (rank_by_hospital lists p) && offered q) (rising_pairs_of_hospital lists (pair_at lists p).hospital)) (offers : (q : ℕ) → IsPairNo lists q → offered q ≡ true → Contains rows (offer_row lists q)) (hospital : Contains rows (in_normal_form (hospital_row lists (pair_at lists p).hospital))) where
  module _ (set : Literals) (quiet : IsQuiet (opposite_row (unit_row p) ∷ rows) none set) where
    kept : (row : PlainRow) → Contains rows row → Keeps set row
    kept row c = All-contains (Keeps set) rows row (All-tail (Keeps set) (opposite_row (unit_row p)) rows quiet.kept) c

    p_true : set (lit false p) ≡ true
    p_true = opposite_held set p (All-head (Keeps set) (opposite_row (unit_row p)) rows quiet.kept)

    abbrev of_p : ℕ → Bool
    of_p v = (pair_at lists v).hospital == (pair_at lists p).hospital

    abbrev better : ℕ → Bool
    better v = nat_lt (rank_by_hospital lists v) (rank_by_hospital lists p) && offered v

    listed : (v : ℕ) → is_pair lists v ≡ true → of_p v ≡ true → is_in v (filter of_p (numbers_to (pair_count lists))) ≡ true
    listed v i e = is_in-filter of_p v (numbers_to (pair_count lists)) ∙ and_from (is_pair lists v) (of_p v) i e

    p_taken : is_taken set (filter of_p (numbers_to (pair_count lists))) p ≡ true
    p_taken = and_from (is_in p (filter of_p (numbers_to (pair_count lists)))) (set (lit false p)) (listed p (pair_listed lists p p_is) (eq-eqb (pair_at lists p).hospital (pair_at lists p).hospital refl)) p_true

    most : taken_sum set (pair_count lists) (filter of_p (numbers_to (pair_count lists))) ≤ capacity_of lists (pair_at lists p).hospital
    most = taken_most set (capacity_of lists (pair_at lists p).hospital) (pair_count lists) of_p (kept (in_normal_form (hospital_row lists (pair_at lists p).hospital)) hospital)

    module _ (some : 0 < capacity_of lists (pair_at lists p).hospital) where
      q_taken : (q : ℕ) → (is_pair lists q && (of_p q && better q)) ≡ true → is_taken set (filter of_p (numbers_to (pair_count lists))) q ≡ true
      q_taken q e =
          let one = and_parts (is_pair lists q) (of_p q && better q) e in
          let two = and_parts (of_p q) (better q) one.1 in
          let three = and_parts (nat_lt (rank_by_hospital lists q) (rank_by_hospital lists p)) (offered q) two.1 in
          let same : (pair_at lists q).hospital ≡ (pair_at lists p).hospital = eqb-true (pair_at lists q).hospital (pair_at lists p).hospital two.0 in
          let q_is : IsPairNo lists q = listed_pair lists q one.0 in
          let posts : 0 < capacity_of lists (pair_at lists q).hospital = rw same some in
          and_from (is_in q (filter of_p (numbers_to (pair_count lists)))) (set (lit false q)) (listed q one.0 two.0)
          (offer_taken lists set p q p_is q_is
          (and_from ((pair_at lists p).hospital == (pair_at lists q).hospital) (nat_lt (rank_by_hospital lists q) (rank_by_hospital lists p)) (eq-eqb (pair_at lists p).hospital (pair_at lists q).hospital (sym same)) three.0)
          posts (kept (offer_row lists q) (offers q q_is three.1)) p_true)

      apart : (v : ℕ) → (is_pair lists v && (of_p v && better v)) ≡ true → (v == p) ≡ true → ⊥
      apart v e f =
          let two = and_parts (of_p v) (better v) (and_parts (is_pair lists v) (of_p v && better v) e).1 in
          let l : rank_by_hospital lists v < rank_by_hospital lists p = ltb-true (rank_by_hospital lists v) (rank_by_hospital lists p) (and_parts (nat_lt (rank_by_hospital lists v) (rank_by_hospital lists p)) (offered v) two.1).0 in
          let z : rank_by_hospital lists v ≡ rank_by_hospital lists p = ap (rank_by_hospital lists) (eqb-true v p f) in
          omega arith

      too_many : ⊥
      too_many =
          omega (
            arith,
            most,
            counted_below (pair_count lists) (λ v. of_p v && better v),
            count_in_filter better of_p (numbers_to (pair_count lists)),
            enough,
            sum_below-less (suc (pair_count lists)) p 1 (λ v. if is_pair lists v && (of_p v && better v) then 1 else 0) (λ v. if is_taken set (filter of_p (numbers_to (pair_count lists))) v then 1 else 0) (omega (arith, p_is.1))
                (λ v l. units_le (is_pair lists v && (of_p v && better v)) (v == p) (is_taken set (filter of_p (numbers_to (pair_count lists))) v) (q_taken v)
                (λ e. subst (λ (z : ℕ). is_taken set (filter of_p (numbers_to (pair_count lists))) z ≡ true) (sym (eqb-true v p e)) p_taken) (apart v)),
          )

    none_quiet : ⊥
    none_quiet = by (capacity_of lists (pair_at lists p).hospital) refl
      where
        by : (c : ℕ) → capacity_of lists (pair_at lists p).hospital ≡ c → ⊥
        by zero e = omega (arith, most, taken_one set (pair_count lists) of_p p (and_parts (is_in p (filter of_p (numbers_to (pair_count lists)))) (set (lit false p)) p_taken).0 p_true)
        by (suc a) e = too_many (omega arith)

  pub rule_b_follows : Implies rows (unit_row p)
  rule_b_follows set quiet = none_quiet set quiet
