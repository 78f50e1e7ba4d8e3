-- What a quiet set of literals holds, by the rows that it keeps.
use Rattle.std.proofs.Common.{◌≡◌, ℕ, suc, ◌+◌, ◌<◌, ◌≤◌, Bool, true, false, [], ◌∷◌, if◌then◌else◌, ℤ, Contains, refl, arith}
use Rattle.std.proofs.lemmas.List.Elements.{All-contains}
use Rattle.hrt_base.specs.declared.literal.Lit.{Lit}
use Rattle.pb_rows.specs.Terms.{PlainRow, opposite_lit, weighing}
use Rattle.pb_rows.specs.Rows.{opposite_row}
use Rattle.pb_rows.specs.Closure.{IsSettled, Keeps, Literals}
use Rattle.pb_rows.proofs.Coefs.{coef_row, coef_terms, lit, nonfalse-coefs, open_share, sum_below}
use Rattle.derivation.specs.Deletions.{unit_row}

-- ---- rows of one literal

abbrev one_of : Lit → PlainRow
one_of l = record { terms = weighing 1 l ∷ []; degree = 1 }

not_false : (b : Bool) → 1 ≤ (if b then 0 else 1) + 0 → b ≡ false
not_false true h = absurd (omega arith)
not_false false h = refl

settled_first : (set : Literals) (l : Lit) → Keeps set (one_of l) → IsSettled set (one_of l) (weighing 1 l)
settled_first set l k = All-contains (IsSettled set (one_of l)) (weighing 1 l ∷ []) (weighing 1 l) k.settled (0, omega arith, refl)

one_share : (b : Bool) → (if b then 0 else 1) + 0 < 1 + 1
one_share true = omega arith
one_share false = omega arith

pub one_held : (set : Literals) (l : Lit) → Keeps set (one_of l) → set l ≡ true
one_held set l k = settled_first set l k (not_false (set (opposite_lit l)) k.unfalsified) (one_share (set (opposite_lit l)))

-- the unit row of a pair holds the literal that it isn't taken, and the row's opposite that it is
pub unit_held : (set : Literals) (p : ℕ) → Keeps set (unit_row p) → set (lit true p) ≡ true
unit_held set p k = one_held set (lit true p) k

pub opposite_held : (set : Literals) (p : ℕ) → Keeps set (opposite_row (unit_row p)) → set (lit false p) ≡ true
opposite_held set p k = one_held set (lit false p) k

-- ---- rows by coefficients

abbrev pub open_sum : Literals → ℕ → (ℕ → ℤ) → ℕ
open_sum set n s = sum_below n (λ v. open_share set v (s v))

pub enough_open : (set : Literals) (n : ℕ) (s : ℕ → ℤ) (d : ℕ) → Keeps set (coef_row n s d) → d ≤ open_sum set n s
enough_open set n s d k = let e = nonfalse-coefs set n s in omega (arith, e, k.unfalsified)

-- a term's literal is in the set where its opposite isn't and the rest isn't enough
pub term_held : (set : Literals) (n : ℕ) (s : ℕ → ℤ) (d v a : ℕ) (neg : Bool) → Keeps set (coef_row n s d) → v < n → Contains (coef_terms n s) (weighing (suc a) (lit neg v)) →
    set (opposite_lit (lit neg v)) ≡ false → open_sum set n s < d + suc a → set (lit neg v) ≡ true
term_held set n s d v a neg k l c free less =
    let e = nonfalse-coefs set n s in
    All-contains (IsSettled set (coef_row n s d)) (coef_terms n s) (weighing (suc a) (lit neg v)) k.settled c free (omega (arith, e))
