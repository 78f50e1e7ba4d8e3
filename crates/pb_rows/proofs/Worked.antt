-- The definitions, computed on rows worked by hand.
use Rattle.std.proofs.Common.{◌≡◌, ℕ, true, false, pos, negsuc, [], ◌∷◌, refl}
use Rattle.hrt_base.specs.declared.literal.Term.{Term}
use Rattle.pb_rows.specs.Normal.{normal_form}
use Rattle.pb_rows.specs.Rows.{add, divide, opposite_row, saturate, times, weaken}
use Rattle.pb_rows.proofs.Changes.{row_of}

abbrev x : ℕ → ℕ → Term
x c v = record { coef = pos c; lit = record { var = v; neg = false } }

abbrev ~x : ℕ → ℕ → Term
~x c v = record { coef = pos c; lit = record { var = v; neg = true } }

abbrev -x : ℕ → ℕ → Term
-x c v = record { coef = negsuc c; lit = record { var = v; neg = false } }

-- 3 x1 + 2 x2 + 1 ~x3 >= 4, divided by 2
divided : divide 2 (row_of (x 3 1 ∷ x 2 2 ∷ ~x 1 3 ∷ []) 4) ≡ row_of (x 2 1 ∷ x 1 2 ∷ ~x 1 3 ∷ []) 2
divided = refl

-- 5 x1 + 1 x2 >= 3
saturated : saturate (row_of (x 5 1 ∷ x 1 2 ∷ []) 3) ≡ row_of (x 3 1 ∷ x 1 2 ∷ []) 3
saturated = refl

-- 3 x1 + 2 x2 >= 4, with x2 weakened
weakened : weaken 2 (row_of (x 3 1 ∷ x 2 2 ∷ []) 4) ≡ row_of (x 3 1 ∷ []) 2
weakened = refl

-- 2 x1 + 1 x2 >= 2 plus 3 ~x1 + 1 x3 >= 2
added : add (row_of (x 2 1 ∷ x 1 2 ∷ []) 2) (row_of (~x 3 1 ∷ x 1 3 ∷ []) 2) ≡ row_of (~x 1 1 ∷ x 1 2 ∷ x 1 3 ∷ []) 2
added = refl

multiplied : times 3 (row_of (x 3 1 ∷ ~x 2 4 ∷ []) 2) ≡ row_of (x 9 1 ∷ ~x 6 4 ∷ []) 6
multiplied = refl

-- x1 + x2 >= 1 is not so exactly where ~x1 + ~x2 >= 2 is
turned : opposite_row (row_of (x 1 1 ∷ x 1 2 ∷ []) 1) ≡ row_of (~x 1 1 ∷ ~x 1 2 ∷ []) 2
turned = refl

-- -1 x1 -1 x2 >= -1 is ~x1 + ~x2 >= 1
at_most_one : normal_form (-x 0 1 ∷ -x 0 2 ∷ []) (negsuc 0) ≡ row_of (~x 1 1 ∷ ~x 1 2 ∷ []) 1
at_most_one = refl

-- 3 x5 - 2 x2 + 4 ~x2 + 7 ~x5 + 0 x1 - 6 x9 + 2 x5 >= 6

joined : normal_form (x 3 5 ∷ -x 1 2 ∷ ~x 4 2 ∷ ~x 7 5 ∷ x 0 1 ∷ -x 5 9 ∷ x 2 5 ∷ []) (pos 6) ≡ row_of (~x 6 2 ∷ ~x 2 5 ∷ ~x 6 9 ∷ []) 9
joined = refl

-- a degree below 0 becomes 0
least : normal_form (x 3 5 ∷ -x 1 2 ∷ ~x 4 2 ∷ ~x 7 5 ∷ x 0 1 ∷ -x 5 9 ∷ x 2 5 ∷ []) (negsuc 20) ≡ row_of (~x 6 2 ∷ ~x 2 5 ∷ ~x 6 9 ∷ []) 0
least = refl
