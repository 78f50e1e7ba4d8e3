-- The normal form: it holds exactly where the row as written does, and the code's way to join terms gives the same row.
use Rattle.std.proofs.Common.{◌≡◌, ℕ, zero, suc, ◌+◌, ◌-◌, ◌<◌, ◌≤◌, Bool, true, false, not, List, [], ◌∷◌, ◌++◌, nat_le, if◌then◌else◌, ℤ, pos, negsuc, ◌+ℤ◌, ◌-ℤ◌, ◌≤ℤ◌, neg_ℤ, int_le, refl, sym, ap, ap₂, ◌∙◌, zero-le, inl, inr, arith}
use Rattle.std.proofs.lemmas.Int.{ints}
use Rattle.std.proofs.lemmas.Bool.{le-leb, cases_eq, cases_lt, eq-eqb, ne_eqb}
use Rattle.hrt_base.specs.declared.literal.Term.{Term}
use Rattle.pb_rows.specs.Terms.{IsPositive, IsRisingFrom, PlainRow, is_over, positive_part}
use Rattle.pb_rows.specs.Points.{Point, true_sum, value_at}
use Rattle.pb_rows.specs.Normal.{gained, joined, negative_part, net, net_term, normal_form, on_opposites, var_bound}
use Rattle.pb_rows.specs.Rows.{HoldsWhere, holds}
use Rattle.pb_rows.specs.Joined.{joined_form, lost_all, put_all, signless_all, turned, turned_sum}
use Rattle.pb_rows.proofs.Order.{determined, put_all_rising}
use Rattle.pb_rows.proofs.Signs.{signless_from, signless_values}
use Rattle.pb_rows.proofs.Values.{put_all_value, true_sum-append}

-- ---- the value, by terms

abbrev signed : Term → ℤ
signed t = if t.lit.neg then neg_ℤ t.coef else t.coef

abbrev plain : Point → List Term → ℤ
plain p [] = pos 0
plain p (t ∷ ts) = (if p t.lit.var then signed t else pos 0) +ℤ plain p ts

split_step : (c : ℤ) (b neg : Bool) (v o r : ℤ) → v ≡ o +ℤ r →
    (if (if neg then not b else b) then c else pos 0) +ℤ v ≡ ((if neg then c else pos 0) +ℤ o) +ℤ ((if b then (if neg then neg_ℤ c else c) else pos 0) +ℤ r)
split_step c true true v o r e = omega (arith, ints)
split_step c true false v o r e = omega (arith, ints)
split_step c false true v o r e = omega (arith, ints)
split_step c false false v o r e = omega (arith, ints)

value_split : (p : Point) (ts : List Term) → value_at p ts ≡ on_opposites ts +ℤ plain p ts
value_split p [] = refl
value_split p (t ∷ ts) = split_step t.coef (p t.lit.var) t.lit.neg _ _ _ (value_split p ts)

-- ---- the same, by variables below n

abbrev plain_below : Point → ℕ → List Term → ℤ
plain_below p zero ts = pos 0
plain_below p (suc v) ts = plain_below p v ts +ℤ (if p v then net v ts else pos 0)

-- one term's part
abbrev part_below : Point → ℕ → Term → ℤ
part_below p zero t = pos 0
part_below p (suc v) t = part_below p v t +ℤ (if p v then (if is_over v t then signed t else pos 0) else pos 0)

zero_step : (b : Bool) (z : ℤ) → z ≡ pos 0 → z +ℤ (if b then pos 0 else pos 0) ≡ pos 0
zero_step true z e = omega (arith, ints)
zero_step false z e = omega (arith, ints)

none_below : (p : Point) (n : ℕ) → plain_below p n [] ≡ pos 0
none_below p zero = refl
none_below p (suc v) = zero_step (p v) _ (none_below p v)

apart_step : (b : Bool) (all one rest s z : ℤ) → all ≡ one +ℤ rest → all +ℤ (if b then (s +ℤ z) else pos 0) ≡ (one +ℤ (if b then s else pos 0)) +ℤ (rest +ℤ (if b then z else pos 0))
apart_step true all one rest s z e = omega (arith, ints)
apart_step false all one rest s z e = omega (arith, ints)

apart : (p : Point) (n : ℕ) (t : Term) (ts : List Term) → plain_below p n (t ∷ ts) ≡ part_below p n t +ℤ plain_below p n ts
apart p zero t ts = refl
apart p (suc v) t ts = apart_step (p v) _ _ _ (if is_over v t then signed t else pos 0) (net v ts) (apart p v t ts)

part_off : (b c : Bool) (z s : ℤ) → z ≡ pos 0 → c ≡ false → z +ℤ (if b then (if c then s else pos 0) else pos 0) ≡ pos 0
part_off true true z s e f = absurd (cc)
part_off false true z s e f = absurd (cc)
part_off true false z s e f = omega (arith, ints)
part_off false false z s e f = omega (arith, ints)

part_none : (p : Point) (n : ℕ) (t : Term) → n ≤ t.lit.var → part_below p n t ≡ pos 0
part_none p zero t h = refl
part_none p (suc v) t h = part_off (p v) (is_over v t) _ (signed t) (part_none p v t (omega arith)) (ne_eqb t.lit.var v (λ e. omega arith))

part_on : (b c : Bool) (z s : ℤ) → z ≡ pos 0 → c ≡ true → z +ℤ (if b then (if c then s else pos 0) else pos 0) ≡ (if b then s else pos 0)
part_on true true z s e f = omega (arith, ints)
part_on false true z s e f = omega (arith, ints)
part_on b false z s e f = absurd (cc)

part_kept : (b c : Bool) (z s w : ℤ) → z ≡ w → c ≡ false → z +ℤ (if b then (if c then s else pos 0) else pos 0) ≡ w
part_kept b true z s w e f = absurd (cc)
part_kept true false z s w e f = omega (arith, ints)
part_kept false false z s w e f = omega (arith, ints)

part_here : (p : Point) (v : ℕ) (t : Term) → t.lit.var ≡ v → part_below p v t ≡ pos 0 → part_below p (suc v) t ≡ (if p t.lit.var then signed t else pos 0)
part_here p v t e z = part_on (p v) (is_over v t) _ (signed t) z (eq-eqb t.lit.var v e) ∙ ap (λ (k : ℕ). if p k then signed t else pos 0) (sym e)

part_all : (p : Point) (n : ℕ) (t : Term) → t.lit.var < n → part_below p n t ≡ (if p t.lit.var then signed t else pos 0)
part_all p zero t h = absurd (omega arith)
part_all p (suc v) t h = elim (cases_eq t.lit.var v) [
  | inl e ↦ part_here p v t e (part_none p v t (omega arith))
  | inr e ↦ part_kept (p v) (is_over v t) _ (signed t) _ (part_all p v t (omega arith)) (ne_eqb t.lit.var v e)
]

by_variables : (p : Point) (n : ℕ) (ts : List Term) → var_bound ts ≤ n → plain p ts ≡ plain_below p n ts
by_variables p n [] h = sym (none_below p n)
by_variables p n (t ∷ ts) h = ap₂ ◌+ℤ◌ (sym (part_all p n t (omega arith))) (by_variables p n ts (omega arith)) ∙ sym (apart p n t ts)

-- ---- the row's terms

term_step : (b : Bool) (v : ℕ) (p : Point) (z : ℤ) → p v ≡ b → pos (true_sum p (net_term v z)) ≡ (if b then z else pos 0) +ℤ pos (negative_part z)
term_step true v p (pos zero) e = refl
term_step false v p (pos zero) e = refl
term_step true v p (pos (suc a)) e = rw e (omega (arith, ints))
term_step false v p (pos (suc a)) e = rw e (omega (arith, ints))
term_step true v p (negsuc a) e = rw e (omega (arith, ints))
term_step false v p (negsuc a) e = rw e (omega (arith, ints))

sum_step : (a b s g h : ℕ) (x z : ℤ) → s ≡ a + b → pos a ≡ x +ℤ pos g → pos b ≡ z +ℤ pos h → pos s ≡ (x +ℤ z) +ℤ pos (g + h)
sum_step a b s g h x z e f k = omega (arith, ints)

joined_sum : (p : Point) (n : ℕ) (ts : List Term) → pos (true_sum p (joined n ts)) ≡ plain_below p n ts +ℤ pos (gained n ts)
joined_sum p zero ts = refl
joined_sum p (suc v) ts =
    sum_step (true_sum p (joined v ts)) (true_sum p (net_term v (net v ts))) _
    (gained v ts) (negative_part (net v ts)) (plain_below p v ts) (if p v then net v ts else pos 0)
    (true_sum-append p (joined v ts) (net_term v (net v ts)))
    (joined_sum p v ts) (term_step (p v) v p (net v ts) refl)

-- ---- the comparison

positive_part_le : (z : ℤ) (t : ℕ) → nat_le (positive_part z) t ≡ int_le z (pos t)
positive_part_le (pos n) t = refl
positive_part_le (negsuc n) t = le-leb 0 t zero-le

same_le : (a b c d : ℤ) → a +ℤ d ≡ c +ℤ b → int_le a b ≡ int_le c d
same_le a b c d e = grind (arith, ints)

compare : (a o r val : ℤ) (s t : ℕ) → pos t ≡ r +ℤ pos s → val ≡ o +ℤ r → nat_le (positive_part ((a -ℤ o) +ℤ pos s)) t ≡ int_le a val
compare a o r val s t e f = positive_part_le ((a -ℤ o) +ℤ pos s) t ∙ same_le ((a -ℤ o) +ℤ pos s) (pos t) a val (omega (arith, ints))

pub holds-normal_form : (p : Point) (terms : List Term) (at_least : ℤ) → holds p (normal_form terms at_least) ≡ int_le at_least (value_at p terms)
holds-normal_form p terms at_least =
    compare at_least (on_opposites terms) (plain p terms) (value_at p terms) (gained (var_bound terms) terms) (true_sum p (joined (var_bound terms) terms))
    (joined_sum p (var_bound terms) terms ∙ ap (λ z. z +ℤ pos (gained (var_bound terms) terms)) (sym (by_variables p (var_bound terms) terms (omega arith))))
    (value_split p terms)

-- `int_le` as a statement
pub holds_where : (terms : List Term) (at_least : ℤ) (r : PlainRow) → r ≡ normal_form terms at_least → HoldsWhere terms at_least r
holds_where terms at_least r e p = rw (e, holds-normal_form p terms at_least) (λ h. grind (arith, ints), λ h. grind (arith, ints))

-- ---- the joined terms rise

-- rising, and below a bound
abbrev IsRisingBelow : ℕ → ℕ → List Term → Type 0
IsRisingBelow low high [] = low ≤ high
IsRisingBelow low high (t ∷ ts) = (low ≤ t.lit.var) × IsPositive t.coef × IsRisingBelow (t.lit.var + 1) high ts

below_rising : (low high : ℕ) (ts : List Term) → IsRisingBelow low high ts → IsRisingFrom low ts
below_rising low high [] r = tt
below_rising low high (t ∷ ts) r = (r.0, r.1, below_rising (t.lit.var + 1) high ts r.2)

below_append : (low mid high : ℕ) (ts us : List Term) → IsRisingBelow low mid ts → IsRisingBelow mid high us → IsRisingBelow low high (ts ++ us)
below_append low mid high [] us r s = below_down low mid high us r s
  where
    below_down : (low mid high : ℕ) (us : List Term) → low ≤ mid → IsRisingBelow mid high us → IsRisingBelow low high us
    below_down low mid high [] h r = omega arith
    below_down low mid high (u ∷ us) h r = (omega (arith, r.0), r.1, r.2)
below_append low mid high (t ∷ ts) us r s = (r.0, r.1, below_append (t.lit.var + 1) mid high ts us r.2 s)

net_term_below : (v : ℕ) (z : ℤ) → IsRisingBelow v (suc v) (net_term v z)
net_term_below v (pos zero) = omega arith
net_term_below v (pos (suc a)) = (omega arith, omega arith, omega arith)
net_term_below v (negsuc a) = (omega arith, omega arith, omega arith)

joined_below : (n : ℕ) (ts : List Term) → IsRisingBelow 0 n (joined n ts)
joined_below zero ts = omega arith
joined_below (suc v) ts = below_append 0 v (suc v) (joined v ts) (net_term v (net v ts)) (joined_below v ts) (net_term_below v (net v ts))

pub joined_rising : (n : ℕ) (ts : List Term) → IsRisingFrom 0 (joined n ts)
joined_rising n ts = below_rising 0 n (joined n ts) (joined_below n ts)

-- ---- the code's form is the same

covered_step : (c : ℤ) (neg : Bool) → pos 0 ≤ℤ ((if neg then c else pos 0) +ℤ pos (turned (record { coef = c; lit = record { var = 0; neg = neg } })))
covered_step (pos n) true = omega (arith, ints)
covered_step (pos n) false = omega (arith, ints)
covered_step (negsuc n) true = omega (arith, ints)
covered_step (negsuc n) false = omega (arith, ints)

-- what the opposites take, the changes of sign give back
covered : (ts : List Term) → pos 0 ≤ℤ (on_opposites ts +ℤ pos (turned_sum ts))
covered [] = omega (arith, ints)
covered (t ∷ ts) = omega (arith, ints, covered_step t.coef t.lit.neg, covered ts)

positive_part_kept : (z : ℤ) → pos 0 ≤ℤ z → pos (positive_part z) ≡ z
positive_part_kept (pos n) h = refl
positive_part_kept (negsuc n) h = absurd (omega (arith, ints))

positive_part_least : (z : ℤ) → z ≤ℤ pos 0 → positive_part z ≡ 0
positive_part_least (pos n) h = omega (arith, ints)
positive_part_least (negsuc n) h = refl

positive_part_less : (z : ℤ) (k : ℕ) → positive_part z - k ≡ positive_part (z -ℤ pos k)
positive_part_less (pos n) k = elim (cases_lt k n) [
  | inl h ↦ let e : pos n -ℤ pos k ≡ pos (n - k) = omega (arith, ints) in sym (ap positive_part e)
  | inr h ↦ let e : positive_part (pos n -ℤ pos k) ≡ 0 = positive_part_least (pos n -ℤ pos k) (omega (arith, ints)) in rw e (omega arith)
]
positive_part_less (negsuc n) k = let e : positive_part (negsuc n -ℤ pos k) ≡ 0 = positive_part_least (negsuc n -ℤ pos k) (omega (arith, ints)) in rw e (omega arith)

pub joined_form_is : (ts : List Term) (at_least : ℤ) → joined_form ts at_least ≡ normal_form ts at_least
joined_form_is ts at_least =
    let all : List Term = signless_all ts in
    let n : ℕ = var_bound ts in
    let m : ℕ = positive_part (on_opposites ts +ℤ pos (turned_sum ts)) in
    let m_is : pos m ≡ on_opposites ts +ℤ pos (turned_sum ts) = positive_part_kept (on_opposites ts +ℤ pos (turned_sum ts)) (covered ts) in
    let same = determined 0 0 (put_all [] all) (joined n ts) (lost_all [] all + gained n ts) m (put_all_rising 0 [] all (signless_from ts) tt) (joined_rising n ts)
    (λ p. omega (arith, ints, put_all_value p [] all, signless_values p ts, joined_sum p n ts, by_variables p n ts (omega arith), value_split p ts, m_is)) in
    let e : (at_least +ℤ pos (turned_sum ts)) -ℤ pos (lost_all [] all) ≡ (at_least -ℤ on_opposites ts) +ℤ pos (gained n ts) = omega (arith, ints, same.1, m_is) in
    ap₂ (λ (us : List Term) (d : ℕ). record { terms = us; degree = d }) same.0 (positive_part_less (at_least +ℤ pos (turned_sum ts)) (lost_all [] all) ∙ ap positive_part e)

-- of a row that the code made
pub made_normal : (r : PlainRow) (ts : List Term) (at_least : ℤ) → r ≡ joined_form ts at_least → r ≡ normal_form ts at_least
made_normal r ts at_least e = e ∙ joined_form_is ts at_least

-- ---- terms that are worth the same at every point

parted : (z : ℤ) → pos (positive_part z) ≡ z +ℤ pos (positive_part (neg_ℤ z))
parted (pos zero) = refl
parted (pos (suc n)) = omega (arith, ints)
parted (negsuc n) = omega (arith, ints)

value_is : (p : Point) (ts : List Term) → value_at p ts +ℤ pos (gained (var_bound ts) ts) ≡ on_opposites ts +ℤ pos (true_sum p (joined (var_bound ts) ts))
value_is p ts = omega (arith, ints, joined_sum p (var_bound ts) ts, by_variables p (var_bound ts) ts (omega arith), value_split p ts)

pub normal_form-same : (ts us : List Term) (at_least : ℤ) → ((p : Point) → value_at p ts ≡ value_at p us) → normal_form ts at_least ≡ normal_form us at_least
normal_form-same ts us at_least h =
    let g : ℕ = gained (var_bound ts) ts in
    let k : ℕ = gained (var_bound us) us in
    let z : ℤ = (on_opposites ts +ℤ pos k) -ℤ (on_opposites us +ℤ pos g) in
    let same = determined 0 0 (joined (var_bound ts) ts) (joined (var_bound us) us) (positive_part z) (positive_part (neg_ℤ z)) (joined_rising (var_bound ts) ts) (joined_rising (var_bound us) us)
    (λ p. omega (arith, ints, value_is p ts, value_is p us, h p, parted z)) in
    let e : (at_least -ℤ on_opposites ts) +ℤ pos g ≡ (at_least -ℤ on_opposites us) +ℤ pos k = omega (arith, ints, same.1, parted z) in
    ap₂ (λ (vs : List Term) (d : ℕ). record { terms = vs; degree = d }) same.0 (ap positive_part e)
