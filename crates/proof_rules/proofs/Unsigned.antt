-- The operations keep coefficients that aren't negative, and such rows where they hold.
use Rattle.std.proofs.Common.{◌≡◌, ◌≤◌, ◌<◌, ℕ, zero, suc, ◌+◌, ◌*◌, min, Bool, true, false, cond, not, List, [], ◌∷◌, ◌++◌, if◌then◌else◌, map, filter, ℤ, pos, negsuc, ◌+ℤ◌, ◌≤ℤ◌, int_le, All, refl, ap, ◌∙◌, zero-le, arith}
use Rattle.std.specs.Int.{div_ceil}
use Rattle.std.proofs.Math.Nat.{div-zero, mod-zero}
use Rattle.std.proofs.lemmas.Int.{ints}
use Rattle.std.proofs.lemmas.Bool.{leb-true, le-leb}
use Rattle.std.proofs.lemmas.List.Elements.{All-weaker}
use Rattle.hrt_base.specs.declared.literal.Term.{Term}
use Rattle.pb_rows.specs.Terms.{IsPositive, IsRisingFrom, PlainRow, capped, divided, is_over, is_present, reweighed, positive_part}
use Rattle.pb_rows.specs.Points.{Point, is_true_at, true_sum, value_at}
use Rattle.pb_rows.specs.Normal.{joined, net, net_term, normal_form, var_bound}
use Rattle.pb_rows.specs.Rows.{add, divide, holds, literal_row}
use Rattle.pb_rows.proofs.ByNets.{holds-normal_form}
use Rattle.pb_rows.proofs.Changes.{divide_holds, saturate_holds, times_holds, weaken_holds}
use Rattle.pb_rows.proofs.Values.{true_sum-append}
use Rattle.proof_rules.specs.Sound.{AreUnsigned, IsUnsigned}
use Rattle.proof_rules.proofs.PolRows.{IsKept}

-- ---- signs

unsigned-append : (ts us : List Term) → AreUnsigned ts → AreUnsigned us → AreUnsigned (ts ++ us)
unsigned-append [] us h k = k
unsigned-append (t ∷ ts) us h k = (h.0, unsigned-append ts us h.1 k)

unsigned-reweighed : (f : ℕ → ℕ) (ts : List Term) → AreUnsigned (map (reweighed f) ts)
unsigned-reweighed f [] = tt
unsigned-reweighed f (t ∷ ts) = (omega (arith, ints), unsigned-reweighed f ts)

kept_step : (b : Bool) (t : Term) (kept : List Term) → pos 0 ≤ℤ t.coef → AreUnsigned kept → AreUnsigned (cond b (t ∷ kept) kept)
kept_step true t kept h k = (h, k)
kept_step false t kept h k = k

unsigned-filter : (keep : Term → Bool) (ts : List Term) → AreUnsigned ts → AreUnsigned (filter keep ts)
unsigned-filter keep [] h = tt
unsigned-filter keep (t ∷ ts) h = kept_step (keep t) t (filter keep ts) h.0 (unsigned-filter keep ts h.1)

unsigned-net : (v : ℕ) (z : ℤ) → AreUnsigned (net_term v z)
unsigned-net v (pos zero) = tt
unsigned-net v (pos (suc n)) = (omega (arith, ints), tt)
unsigned-net v (negsuc n) = (omega (arith, ints), tt)

unsigned-joined : (n : ℕ) (ts : List Term) → AreUnsigned (joined n ts)
unsigned-joined zero ts = tt
unsigned-joined (suc v) ts = unsigned-append (joined v ts) (net_term v (net v ts)) (unsigned-joined v ts) (unsigned-net v (net v ts))

pub unsigned-normal_form : (ts : List Term) (at_least : ℤ) → IsUnsigned (normal_form ts at_least)
unsigned-normal_form ts at_least = unsigned-joined (var_bound ts) ts

positive-unsigned : (z : ℤ) → IsPositive z → pos 0 ≤ℤ z
positive-unsigned (pos n) h = omega (arith, ints)
positive-unsigned (negsuc n) h = absurd h

pub unsigned-rising : (low : ℕ) (ts : List Term) → IsRisingFrom low ts → AreUnsigned ts
unsigned-rising low [] r = tt
unsigned-rising low (t ∷ ts) r = (positive-unsigned t.coef r.1, unsigned-rising (t.lit.var + 1) ts r.2)

pub unsigned-rows : (rows : List PlainRow) → All (λ (row : PlainRow). IsRisingFrom 0 row.terms) rows → All IsUnsigned rows
unsigned-rows rows h = All-weaker (λ (row : PlainRow). IsRisingFrom 0 row.terms) IsUnsigned (λ row r. unsigned-rising 0 row.terms r) rows h

pub unsigned-kept : IsKept IsUnsigned
unsigned-kept = record {
  by_literal = λ l. (omega (arith, ints), tt);
  by_add = λ a b h k. unsigned-normal_form (a.terms ++ b.terms) (pos (a.degree + b.degree));
  by_times = λ k row h. unsigned-reweighed (λ w. w * k) row.terms;
  by_divide = λ k row h. unsigned-reweighed (λ w. div_ceil w k) row.terms;
  by_saturate = λ row h. unsigned-filter is_present (map (capped row.degree) row.terms) (unsigned-reweighed (λ w. min w row.degree) row.terms);
  by_weaken = λ v row h. unsigned-filter (λ t. not (is_over v t)) row.terms h;
}

-- ---- values

weight_is : (z : ℤ) → pos 0 ≤ℤ z → z ≡ pos (positive_part z)
weight_is (pos n) h = refl
weight_is (negsuc n) h = absurd (omega (arith, ints))

value_step : (b : Bool) (c : ℤ) (v : ℤ) (s : ℕ) → c ≡ pos (positive_part c) → v ≡ pos s → (if b then c else pos 0) +ℤ v ≡ pos ((if b then positive_part c else 0) + s)
value_step true c v s e h = omega (arith, ints, e)
value_step false c v s e h = omega (arith, ints)

pub value-unsigned : (p : Point) (ts : List Term) → AreUnsigned ts → value_at p ts ≡ pos (true_sum p ts)
value-unsigned p [] h = refl
value-unsigned p (t ∷ ts) h = value_step (is_true_at p t.lit) t.coef (value_at p ts) (true_sum p ts) (weight_is t.coef h.0) (value-unsigned p ts h.1)

pos_le : (a b : ℕ) → a ≤ b → int_le (pos a) (pos b) ≡ true
pos_le a b h = le-leb a b h

pub add-holds : (p : Point) (a b : PlainRow) → IsUnsigned a → IsUnsigned b → holds p a ≡ true → holds p b ≡ true → holds p (add a b) ≡ true
add-holds p a b u w h k =
    holds-normal_form p (a.terms ++ b.terms) (pos (a.degree + b.degree))
    ∙ ap (int_le (pos (a.degree + b.degree))) (value-unsigned p (a.terms ++ b.terms) (unsigned-append a.terms b.terms u w))
    ∙ pos_le (a.degree + b.degree) (true_sum p (a.terms ++ b.terms)) (omega (arith, leb-true a.degree (true_sum p a.terms) h, leb-true b.degree (true_sum p b.terms) k, true_sum-append p a.terms b.terms))

-- ---- division by 0, which no line spells: what isn't 0 becomes 1

ceil_zero : (n : ℕ) → (div_ceil n 0 ≤ n) × (div_ceil n 0 ≤ 1)
ceil_zero n = (omega (arith, div-zero n, mod-zero n), omega (arith, div-zero n, mod-zero n))

ceil_some : (n : ℕ) → 0 < n → 1 ≤ div_ceil n 0
ceil_some n h = omega (arith, div-zero n, mod-zero n)

some_true : (p : Point) (ts : List Term) → 0 < true_sum p ts → 0 < true_sum p (map (divided 0) ts)
some_true p [] h = absurd (omega arith)
some_true p (t ∷ ts) h = at (is_true_at p t.lit) (positive_part t.coef) (true_sum p ts) _ (some_true p ts) h
  where
    at : (b : Bool) (w s r : ℕ) → (0 < s → 0 < r) → 0 < (if b then w else 0) + s → 0 < (if b then div_ceil w 0 else 0) + r
    at true zero s r more k = omega (arith, more (omega (arith, k)))
    at true (suc w) s r more k = omega (arith, ceil_some (suc w) (omega arith))
    at false w s r more k = omega (arith, more (omega (arith, k)))

by_zero-holds : (p : Point) (row : PlainRow) (d : ℕ) → row.degree ≡ d → holds p row ≡ true → div_ceil d 0 ≤ true_sum p (map (divided 0) row.terms)
by_zero-holds p row zero e h = omega (arith, (ceil_zero 0).0)
by_zero-holds p row (suc d) e h = omega (arith, (ceil_zero (suc d)).1, some_true p row.terms (omega (arith, e, leb-true row.degree (true_sum p row.terms) h)))

divided-holds : (p : Point) (k : ℕ) (row : PlainRow) → holds p row ≡ true → holds p (divide k row) ≡ true
divided-holds p zero row h = le-leb (div_ceil row.degree 0) (true_sum p (map (divided 0) row.terms)) (by_zero-holds p row row.degree refl h)
divided-holds p (suc k) row h = divide_holds p (suc k) row (omega arith) h

-- ---- what is kept at a point

pub record HoldsAt (p : Point) (row : PlainRow) : Type 0 where
  pub holds : holds p row ≡ true
  pub unsigned : IsUnsigned row

pub holds-kept : (p : Point) → IsKept (HoldsAt p)
holds-kept p = record {
  by_literal = λ l. record { holds = le-leb 0 (true_sum p (literal_row l).terms) zero-le; unsigned = unsigned-kept.by_literal l };
  by_add = λ a b h k. record { holds = add-holds p a b h.unsigned k.unsigned h.holds k.holds; unsigned = unsigned-kept.by_add a b h.unsigned k.unsigned };
  by_times = λ k row h. record { holds = times_holds p k row h.holds; unsigned = unsigned-kept.by_times k row h.unsigned };
  by_divide = λ k row h. record { holds = divided-holds p k row h.holds; unsigned = unsigned-kept.by_divide k row h.unsigned };
  by_saturate = λ row h. record { holds = saturate_holds p row h.holds; unsigned = unsigned-kept.by_saturate row h.unsigned };
  by_weaken = λ v row h. record { holds = weaken_holds p v row h.holds; unsigned = unsigned-kept.by_weaken v row h.unsigned };
}
