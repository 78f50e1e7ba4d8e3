-- Rows that are open and rows that aren't, as they are found.
use Rattle.std.proofs.Common.{◌≡◌, ◌&&◌, ◌<◌, ◌+◌, ℕ, Bool, true, false, not, List, length, get_or, refl, sym, ap, arith, inr}
use Rattle.hrt_base.specs.declared.literal.Term.{Term}
use Rattle.pb_rows.specs.Terms.{PlainRow, opposite_lit, positive_part}
use Rattle.pb_rows.specs.Closure.{Literals, nonfalse_sum}
use Rattle.pb_propagate.specs.Entries.{Entry, level_of, set_of, up_to}
use Rattle.pb_propagate.specs.Open.{IsOpen}
use Rattle.pb_propagate.proofs.Levels.{up_to-all}

-- what is false where a literal isn't free though it isn't false
pub free-false : (a b : Bool) → (not a && not b) ≡ false → b ≡ false → a ≡ true
free-false true b h u = refl
free-false false true h u = absurd (cc)
free-false false false h u = absurd (cc)

-- a free literal that exceeds what the sum leaves opens a row
pub open-by : (set : Literals) (r : PlainRow) (sum k : ℕ) (t : Term) → k < length r.terms → t ≡ get_or r.terms k t → sum ≡ nonfalse_sum set r.terms → sum < r.degree + positive_part t.coef
    → (not (set t.lit) && not (set (opposite_lit t.lit))) ≡ true → IsOpen set r
open-by set r sum k t h at is exceeds free =
    inr (t.lit, record { term = t; has = (k, h, sym at); lit = refl; propagates = record { free = free; exceeds = omega (arith, is, exceeds) } })

-- the sum at the last level is that of the whole trail
pub sum-now : (es : List Entry) (ts : List Term) (k : ℕ) → k ≡ level_of es → nonfalse_sum (set_of (up_to k es)) ts ≡ nonfalse_sum (set_of es) ts
sum-now es ts k h = ap (λ (x : List Entry). nonfalse_sum (set_of x) ts) (up_to-all k es (omega (arith, h)))
