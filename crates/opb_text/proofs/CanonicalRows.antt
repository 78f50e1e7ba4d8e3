-- A row as it is spelled, without opposites, means what the row means.
use Rattle.std.proofs.Common.{◌≡◌, ◌∙◌, ℕ, zero, suc, ◌+◌, ◌≤◌, nat_le, Bool, true, false, List, [], ◌∷◌, ◌++◌, map, ℤ, pos, negsuc, neg_ℤ, ◌+ℤ◌, ◌-ℤ◌, int_le, refl, sym, ap, subst, arith, if◌then◌else◌}
use Rattle.std.specs.List.{All}
use Rattle.std.specs.Int.RustNames.{unsigned_abs}
use Rattle.std.proofs.lemmas.Bool.{le-leb}
use Rattle.std.proofs.lemmas.Bool.Decides.{nat_tests}
use Rattle.std.proofs.lemmas.Int.{ints}
use Rattle.std.proofs.lemmas.List.Elements.{All-map}
use Rattle.hrt_base.specs.declared.literal.Term.{Term}
use Rattle.pb_rows.specs.Terms.{IsPositive, IsRisingFrom, PlainRow, Written, coef_sum, positive_part}
use Rattle.pb_rows.specs.Points.{IsCovered, Point, is_true_at, true_sum, value_at}
use Rattle.pb_rows.specs.Normal.{gained, joined, negative_part, net, net_term, normal_form, on_opposites, sizes, var_bound}
use Rattle.pb_rows.specs.Rows.{in_normal_form}
use Rattle.pb_rows.specs.Joined.{put_all, signless_all}
use Rattle.pb_rows.proofs.ByNets.{holds-normal_form, joined_form_is, joined_rising, normal_form-same}
use Rattle.pb_rows.proofs.Covers.{normal_form_over}
use Rattle.pb_rows.proofs.Forms.{put_all_sum_is}
use Rattle.pb_rows.proofs.Signs.{signless_sum}
use Rattle.opb_text.specs.Spelling.{canonical, without_opposite}

-- ---- the value without opposites

-- the sum of the coefficients on opposites
on_negated : List Term → ℕ
on_negated [] = 0
on_negated (t ∷ ts) = (if t.lit.neg then positive_part t.coef else 0) + on_negated ts

value_step : (c : ℤ) (v : ℕ) (neg here : Bool) (p : Point) (value : ℤ) (more sum : ℕ) → IsPositive c → p v ≡ here → value +ℤ pos more ≡ pos sum
    → value_at p (without_opposite (record { coef = c; lit = record { var = v; neg = neg } }) ∷ []) +ℤ value +ℤ pos ((if neg then positive_part c else 0) + more)
    ≡ pos ((if is_true_at p (record { var = v; neg = neg }) then positive_part c else 0) + sum)
value_step (pos n) v true true p value more sum h here e = rw here (omega (arith, ints))
value_step (pos n) v true false p value more sum h here e = rw here (omega (arith, ints))
value_step (pos n) v false true p value more sum h here e = rw here (omega (arith, ints))
value_step (pos n) v false false p value more sum h here e = rw here (omega (arith, ints))
value_step (negsuc n) v neg here p value more sum h is e = absurd h

value_apart : (p : Point) (t : Term) (ts : List Term) → value_at p (t ∷ ts) ≡ value_at p (t ∷ []) +ℤ value_at p ts
value_apart p t ts = omega (arith, ints)

without_value : (p : Point) (low : ℕ) (ts : List Term) → IsRisingFrom low ts → value_at p (map without_opposite ts) +ℤ pos (on_negated ts) ≡ pos (true_sum p ts)
unfolding on_negated
without_value p low [] h = refl
without_value p low (t ∷ ts) h =
    let rest = without_value p (t.lit.var + 1) ts h.2 in
    let step = value_step t.coef t.lit.var t.lit.neg (p t.lit.var) p (value_at p (map without_opposite ts)) (on_negated ts) (true_sum p ts) h.1 refl rest in
    ap (λ (z : ℤ). z +ℤ pos (on_negated (t ∷ ts))) (value_apart p (without_opposite t) (map without_opposite ts)) ∙ step

-- ---- the value of a normal form

negated-append : (ts us : List Term) → on_negated (ts ++ us) ≡ on_negated ts + on_negated us
unfolding on_negated
negated-append [] us = omega arith
negated-append (t ∷ ts) us = omega (arith, negated-append ts us)

net_negated : (v : ℕ) (z : ℤ) → on_negated (net_term v z) ≡ negative_part z
unfolding on_negated
net_negated v (pos zero) = refl
net_negated v (pos (suc a)) = refl
net_negated v (negsuc a) = omega arith

joined_negated : (n : ℕ) (ts : List Term) → on_negated (joined n ts) ≡ gained n ts
unfolding on_negated
joined_negated zero ts = refl
joined_negated (suc v) ts = omega (arith, negated-append (joined v ts) (net_term v (net v ts)), joined_negated v ts, net_negated v (net v ts))

-- a number is known by which are at most it
from_below : (v : ℤ) (t : ℕ) (z : ℤ) → ((a : ℤ) → nat_le (positive_part (a +ℤ z)) t ≡ int_le a v) → v +ℤ z ≡ pos t
from_below v t z h =
    let low : int_le (pos t -ℤ z) v ≡ true =
    sym (h (pos t -ℤ z)) ∙ ap (λ (y : ℤ). nat_le (positive_part y) t) (let e : (pos t -ℤ z) +ℤ z ≡ pos t = omega (arith, ints) in e) ∙ le-leb t t (omega arith) in
    let high : int_le (pos (suc t) -ℤ z) v ≡ false =
    sym (h (pos (suc t) -ℤ z)) ∙ ap (λ (y : ℤ). nat_le (positive_part y) t) (let e : (pos (suc t) -ℤ z) +ℤ z ≡ pos (suc t) = omega (arith, ints) in e) ∙ above t in
    grind (arith, ints)
  where
    above : (t : ℕ) → nat_le (suc t) t ≡ false
    above t = grind (arith, nat_tests)

value_is : (p : Point) (ts : List Term) → value_at p ts +ℤ (pos (gained (var_bound ts) ts) -ℤ on_opposites ts) ≡ pos (true_sum p (joined (var_bound ts) ts))
value_is p ts =
    let g : ℤ = pos (gained (var_bound ts) ts) in
    let t : ℕ = true_sum p (joined (var_bound ts) ts) in
    from_below (value_at p ts) t (g -ℤ on_opposites ts)
    (λ (a : ℤ). ap (λ (y : ℤ). nat_le (positive_part y) t) (regrouped a (on_opposites ts) g) ∙ holds-normal_form p ts a)
  where
    regrouped : (a o g : ℤ) → a +ℤ (g -ℤ o) ≡ (a -ℤ o) +ℤ g
    regrouped a o g = omega (arith, ints)

same_value : (p : Point) (ts : List Term) → on_opposites ts ≡ pos 0 → value_at p (map without_opposite (joined (var_bound ts) ts)) ≡ value_at p ts
same_value p ts none =
    let spelled : List Term = joined (var_bound ts) ts in
    omega (arith, ints, without_value p 0 spelled (joined_rising (var_bound ts) ts), value_is p ts, joined_negated (var_bound ts) ts, none)

-- a row without opposites reads back as itself
pub canonical_same : (row : Written) → on_opposites row.terms ≡ pos 0 → in_normal_form (canonical row) ≡ in_normal_form row
canonical_same row none =
    let right : row.at_least -ℤ on_opposites row.terms ≡ row.at_least = kept row.at_least (on_opposites row.terms) none in
    ap (normal_form (canonical row).terms) right
    ∙ normal_form-same (canonical row).terms row.terms row.at_least (λ p. same_value p row.terms none)
  where
    kept : (z o : ℤ) → o ≡ pos 0 → z -ℤ o ≡ z
    kept z o e = omega (arith, ints)

-- ---- its sizes and its variables

positive_size : (c : ℤ) (neg : Bool) (v : ℕ) → IsPositive c → unsigned_abs (without_opposite (record { coef = c; lit = record { var = v; neg = neg } })).coef ≡ positive_part c
positive_size (pos zero) neg v h = absurd (omega arith)
positive_size (pos (suc n)) true v h = refl
positive_size (pos (suc n)) false v h = refl
positive_size (negsuc n) neg v h = absurd h

without_sizes : (low : ℕ) (ts : List Term) → IsRisingFrom low ts → sizes (map without_opposite ts) ≡ coef_sum ts
without_sizes low [] h = refl
without_sizes low (t ∷ ts) h = omega (arith, positive_size t.coef t.lit.neg t.lit.var h.1, without_sizes (t.lit.var + 1) ts h.2)

joined_sum : (ts : List Term) → coef_sum (joined (var_bound ts) ts) ≤ sizes ts
joined_sum ts =
    let made : put_all [] (signless_all ts) ≡ joined (var_bound ts) ts = ap (λ (r : PlainRow). r.terms) (joined_form_is ts (pos 0)) in
    omega (arith, put_all_sum_is [] (signless_all ts), signless_sum ts, ap coef_sum made)

pub canonical_sizes : (row : Written) → sizes (canonical row).terms ≤ sizes row.terms
canonical_sizes row = omega (arith, without_sizes 0 (joined (var_bound row.terms) row.terms) (joined_rising (var_bound row.terms) row.terms), joined_sum row.terms)

same_var : (t : Term) → (without_opposite t).lit.var ≡ t.lit.var
same_var t = by t.lit.neg
  where
    by : (neg : Bool) → (if neg then record { coef = neg_ℤ t.coef; lit = record { var = t.lit.var; neg = false } } else t).lit.var ≡ t.lit.var
    by true = refl
    by false = refl

without_over : (n : ℕ) (ts : List Term) → All (λ (t : Term). IsCovered n t.lit.var) ts → All (λ (t : Term). IsCovered n t.lit.var) (map without_opposite ts)
without_over n ts h = All-map (λ (t : Term). IsCovered n t.lit.var) without_opposite ts (λ k d l. subst (IsCovered n) (sym (same_var _)) (h k d l))

pub canonical_over : (n : ℕ) (row : Written) → All (λ (t : Term). IsCovered n t.lit.var) row.terms → All (λ (t : Term). IsCovered n t.lit.var) (canonical row).terms
canonical_over n row h = without_over n (in_normal_form row).terms (normal_form_over (IsCovered n) row.terms row.at_least h)
