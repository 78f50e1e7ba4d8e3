-- The rows of the model by their coefficients.
use Rattle.std.proofs.Common.{◌≡◌, ℕ, zero, suc, ◌-◌, ◌≤◌, Bool, true, false, not, ◌&&◌, ◌||◌, ◌==◌, nat_lt, nat_le, List, [], ◌∷◌, map, filter, if◌then◌else◌, ℤ, pos, neg_ℤ, ◌+ℤ◌, ◌-ℤ◌, refl, sym, ap, ◌∙◌, arith}
use Rattle.std.proofs.lemmas.Int.{ints}
use Rattle.std.proofs.lemmas.Bool.{and_parts, eq-eqb, eqb-true, leb-true, ltb-false, not-true, or_left, or_right}
use Rattle.hrt_base.specs.declared.literal.Term.{Term}
use Rattle.pb_rows.specs.Terms.{positive_part}
use Rattle.pb_rows.specs.Normal.{negative_part, net, normal_form, on_opposites, var_bound}
use Rattle.pb_rows.specs.Rows.{in_normal_form}
use Rattle.pb_rows.proofs.Coefs.{coef_row, coef_terms-same, minus_sum, normal_form-coefs}
use Rattle.rank_tables.specs.Numbers.{is_distinct, is_in, numbers_to}
use Rattle.rank_tables.specs.Instance.{Lists, capacity_of, pair_at, pair_count}
use Rattle.rank_tables.proofs.Numbers.{distinct-filter, distinct-numbers_to, is_in-filter, is_in-numbers_to}
use Rattle.stability_model.specs.Model.{at_most, pair_row, stability_coef, term}

-- ---- a coefficient for each number of a list

abbrev pub over : (ℕ → ℤ) → List ℕ → List Term
over g ps = map (λ q. term (g q) q) ps

abbrev pub coefs_over : (ℕ → ℤ) → List ℕ → ℕ → ℤ
coefs_over g ps v = if is_in v ps then g v else pos 0

zero_first : (z : ℤ) → pos 0 +ℤ z ≡ z
zero_first z = omega (arith, ints)

first_net : (b i : Bool) (z y x : ℤ) → (b ≡ true → (z ≡ x) × (i ≡ false)) → y ≡ (if i then x else pos 0) → (if b then z else pos 0) +ℤ y ≡ (if b || i then x else pos 0)
first_net true i z y x h e =
    let k = h refl in
    let f : y ≡ pos 0 = e ∙ ap (λ (c : Bool). if c then x else pos 0) k.1 in
    let g : z ≡ x = k.0 in
    omega (arith, ints)
first_net false i z y x h e = zero_first y ∙ e

pub over-nets : (g : ℕ → ℤ) (ps : List ℕ) (v : ℕ) → is_distinct ps ≡ true → net v (over g ps) ≡ coefs_over g ps v
over-nets g [] v d = refl
over-nets g (q ∷ ps) v d =
    let parts = and_parts (not (is_in q ps)) (is_distinct ps) d in
    first_net (q == v) (is_in v ps) (g q) (net v (over g ps)) (g v)
    (λ e. let same : q ≡ v = eqb-true q v e in (ap g same, ap (λ w. is_in w ps) (sym same) ∙ not-true (is_in q ps) parts.0))
    (over-nets g ps v parts.1)

pub over-opposites : (g : ℕ → ℤ) (ps : List ℕ) → on_opposites (over g ps) ≡ pos 0
over-opposites g [] = refl
over-opposites g (q ∷ ps) = let r = over-opposites g ps in omega (arith, ints)

pub over-bound : (g : ℕ → ℤ) (ps : List ℕ) (n : ℕ) → ((v : ℕ) → is_in v ps ≡ true → v ≤ n) → var_bound (over g ps) ≤ suc n
over-bound g [] n h = omega arith
over-bound g (q ∷ ps) n h =
    let a : q ≤ n = h q (or_left (q == q) (is_in q ps) (eq-eqb q q refl)) in
    let b = over-bound g ps n (λ v i. h v (or_right (q == v) (is_in v ps) i)) in
    omega arith

pub over-row : (g : ℕ → ℤ) (ps : List ℕ) (n : ℕ) (a : ℤ) → is_distinct ps ≡ true → ((v : ℕ) → is_in v ps ≡ true → v ≤ n) →
    normal_form (over g ps) a ≡ coef_row (suc n) (coefs_over g ps) (positive_part (a +ℤ pos (minus_sum (suc n) (coefs_over g ps))))
over-row g ps n a d h =
    let none = over-opposites g ps in
    let e : a -ℤ on_opposites (over g ps) ≡ a = omega (arith, ints) in
    normal_form-coefs (suc n) (coefs_over g ps) (over g ps) a (over-bound g ps n h) (λ v l. over-nets g ps v d)
    ∙ ap (λ z. coef_row (suc n) (coefs_over g ps) (positive_part (z +ℤ pos (minus_sum (suc n) (coefs_over g ps))))) e

-- ---- over the pairs that pass a test

pub filtered_within : (t : ℕ → Bool) (n v : ℕ) → is_in v (filter t (numbers_to n)) ≡ true → v ≤ n
filtered_within t n v i =
    let here = and_parts (is_in v (numbers_to n)) (t v) (sym (is_in-filter t v (numbers_to n)) ∙ i) in
    leb-true v n (and_parts (nat_le 1 v) (nat_le v n) (sym (is_in-numbers_to n v) ∙ here.0)).1

pub filtered_row : (g : ℕ → ℤ) (t : ℕ → Bool) (n : ℕ) (a : ℤ) →
    normal_form (over g (filter t (numbers_to n))) a ≡ coef_row (suc n) (coefs_over g (filter t (numbers_to n))) (positive_part (a +ℤ pos (minus_sum (suc n) (coefs_over g (filter t (numbers_to n))))))
filtered_row g t n a = over-row g (filter t (numbers_to n)) n a (distinct-filter t (numbers_to n) (distinct-numbers_to n)) (λ v i. filtered_within t n v i)

-- ---- rows of at most so many

abbrev pub minus_one : ℕ → ℤ
minus_one v = neg_ℤ (pos 1)

positive_part-less : (c m : ℕ) → positive_part (neg_ℤ (pos c) +ℤ pos m) ≡ m - c
positive_part-less c m = grind (arith, ints)

pub at_most-row : (c : ℕ) (t : ℕ → Bool) (n : ℕ) → in_normal_form (at_most c (filter t (numbers_to n)))
    ≡ coef_row (suc n) (coefs_over minus_one (filter t (numbers_to n))) (minus_sum (suc n) (coefs_over minus_one (filter t (numbers_to n))) - c)
at_most-row c t n =
    filtered_row minus_one t n (neg_ℤ (pos c))
    ∙ ap (coef_row (suc n) (coefs_over minus_one (filter t (numbers_to n)))) (positive_part-less c (minus_sum (suc n) (coefs_over minus_one (filter t (numbers_to n)))))

-- ---- rows of pairs

-- the coefficients of the row of a pair: 0 on what is no pair
abbrev pub pair_coefs : Lists → ℕ → ℕ → ℤ
pair_coefs lists p v = if is_in v (numbers_to (pair_count lists)) then pos (stability_coef lists p v) else pos 0

present_or_zero : (i b : Bool) (k : ℕ) → nat_lt 0 k ≡ b → (if i && b then pos k else pos 0) ≡ (if i then pos k else pos 0)
present_or_zero true true k e = refl
present_or_zero true false k e = let z : k ≤ 0 = ltb-false 0 k e in ap pos (omega arith)
present_or_zero false b k e = refl

pair_coefs-are : (lists : Lists) (p v : ℕ) → coefs_over (λ q. pos (stability_coef lists p q)) (filter (λ q. nat_lt 0 (stability_coef lists p q)) (numbers_to (pair_count lists))) v ≡ pair_coefs lists p v
pair_coefs-are lists p v =
    ap (λ b. if b then pos (stability_coef lists p v) else pos 0) (is_in-filter (λ q. nat_lt 0 (stability_coef lists p q)) v (numbers_to (pair_count lists)))
    ∙ present_or_zero (is_in v (numbers_to (pair_count lists))) (nat_lt 0 (stability_coef lists p v)) (stability_coef lists p v) refl

not_negative : (b : Bool) (k : ℕ) → negative_part (if b then pos k else pos 0) ≡ 0
not_negative true k = refl
not_negative false k = refl

pub none_negative : (n : ℕ) (s : ℕ → ℤ) → ((v : ℕ) → negative_part (s v) ≡ 0) → minus_sum n s ≡ 0
none_negative zero s h = refl
none_negative (suc n) s h = let r = none_negative n s h in omega (arith, h n)

coef_row-same : (n : ℕ) (s t : ℕ → ℤ) (d : ℕ) → ((v : ℕ) → s v ≡ t v) → coef_row n s d ≡ coef_row n t d
coef_row-same n s t d h = ap (λ us. record { terms = us; degree = d }) (coef_terms-same n s t (λ v l. h v))

pub pair_row-coefs : (lists : Lists) (p : ℕ) → in_normal_form (pair_row lists p) ≡ coef_row (suc (pair_count lists)) (pair_coefs lists p) (capacity_of lists (pair_at lists p).hospital)
pair_row-coefs lists p =
    let g : ℕ → ℤ = λ q. pos (stability_coef lists p q) in
    let ps : List ℕ = filter (λ q. nat_lt 0 (stability_coef lists p q)) (numbers_to (pair_count lists)) in
    let none : minus_sum (suc (pair_count lists)) (coefs_over g ps) ≡ 0 = none_negative (suc (pair_count lists)) (coefs_over g ps) (λ v. not_negative (is_in v ps) (stability_coef lists p v)) in
    filtered_row g (λ q. nat_lt 0 (stability_coef lists p q)) (pair_count lists) (pos (capacity_of lists (pair_at lists p).hospital))
    ∙ ap (λ k. coef_row (suc (pair_count lists)) (coefs_over g ps) (positive_part (pos (capacity_of lists (pair_at lists p).hospital) +ℤ pos k))) none
    ∙ ap (coef_row (suc (pair_count lists)) (coefs_over g ps)) (omega arith)
    ∙ coef_row-same (suc (pair_count lists)) (coefs_over g ps) (pair_coefs lists p) (capacity_of lists (pair_at lists p).hospital) (λ v. pair_coefs-are lists p v)
