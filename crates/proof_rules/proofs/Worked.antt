-- A proof worked by hand: three pairs, seven rows, and a largest matching of two.
use Rattle.std.specs.Prelude.{◌≡◌, ℕ, true, false, List, [], ◌∷◌, ◌++◌, ℤ, pos, negsuc, ◌≤ℤ◌, Option, Some, Ok, Err, refl}
use Rattle.std.proofs.Common.{arith, inr}
use Rattle.std.proofs.lemmas.Int.{ints}
use Rattle.hrt_base.specs.declared.literal.Lit.{Lit}
use Rattle.hrt_base.specs.declared.literal.Term.{Term}
use Rattle.pb_rows.specs.Terms.{PlainRow, weighing}
use Rattle.pb_rows.specs.Formula.{Formula}
use Rattle.rank_tables.specs.Instance.{Lists}
use Rattle.stability_model.specs.Model.{formula}
use Rattle.proof_lines.specs.declared.line.PolStep.{PolStep}
use Rattle.proof_lines.specs.declared.line.PolStep.TheVariants.{Id, Add, Times, Weaken}
use Rattle.proof_lines.specs.declared.line.Claim.{Claim}
use Rattle.proof_lines.specs.declared.line.Claim.TheVariants.{Bounds}
use Rattle.proof_lines.specs.declared.line.Line.{Line}
use Rattle.proof_lines.specs.declared.line.Line.TheVariants.{Header, Count, Pol, Soli, Del, Output, Conclusion, End, Comment, Blank, Rup}
use Rattle.proof_lines.specs.Spelling.{row_no}
use Rattle.proof_rules.specs.Refusals.{and_then, Syntax, TooBig, BadId, BadVariable, StackShape, NotFull, NotASolution, WrongCount}
use Rattle.proof_rules.specs.Pol.{pol_row}
use Rattle.proof_rules.specs.States.{State, first_state, with_row, after}
use Rattle.proof_rules.specs.Claims.{HasStronger, at_least_row}
use Rattle.proof_rules.specs.Valid.{Place, Start, Headed, Proving, Closing, Claimed, Done, next_place, Owed, Moves, IsValidProof}

abbrev pub x : ℕ → Lit
x v = record { var = v; neg = false }

abbrev pub not_x : ℕ → Lit
not_x v = record { var = v; neg = true }

abbrev pub w : ℕ → Lit → Term
w c l = weighing c l

abbrev pub minus : ℕ → Term
minus v = record { coef = negsuc 0; lit = x v }

abbrev pub row : List Term → ℕ → PlainRow
row ts d = record { terms = ts; degree = d }

-- resident a: x y / resident b: x / hospital x 1: (a b) / hospital y 1: a
abbrev pub tied : Lists
tied = record {
  residents = record { name = 97 ∷ []; groups = (0 ∷ []) ∷ (1 ∷ []) ∷ [] } ∷ record { name = 98 ∷ []; groups = (0 ∷ []) ∷ [] } ∷ [];
  hospitals = record { name = 120 ∷ []; capacity = 1; groups = (0 ∷ 1 ∷ []) ∷ [] } ∷ record { name = 121 ∷ []; capacity = 1; groups = (0 ∷ []) ∷ [] } ∷ [];
}

-- its model: at most one pair of each resident and hospital, and the rows of the three pairs
abbrev pub worked : Formula
worked = record {
  vars = 3;
  objective = minus 1 ∷ minus 2 ∷ minus 3 ∷ [];
  rows =
      row (w 1 (not_x 1) ∷ w 1 (not_x 2) ∷ []) 1
      ∷ row (w 1 (not_x 3) ∷ []) 0
      ∷ row (w 1 (not_x 1) ∷ w 1 (not_x 3) ∷ []) 1
      ∷ row (w 1 (not_x 2) ∷ []) 0
      ∷ row (w 2 (x 1) ∷ w 1 (x 3) ∷ []) 1
      ∷ row (w 1 (x 1) ∷ w 2 (x 2) ∷ []) 1
      ∷ row (w 1 (x 1) ∷ w 2 (x 3) ∷ []) 1
      ∷ [];
}

pub worked-is : formula tied ≡ worked
worked-is = refl

abbrev pub s0 : State
s0 = first_state worked

-- ~x1 + ~x2 + ~x3 >= 1: at most two pairs
abbrev bound_row : PlainRow
bound_row = row (w 1 (not_x 1) ∷ w 1 (not_x 2) ∷ w 1 (not_x 3) ∷ []) 1

abbrev pub bound : Line
bound = Pol (Id (row_no 1) ∷ Id (row_no 2) ∷ Add ∷ [])

abbrev pub s1 : State
s1 = with_row s0 bound_row

after-bound : after worked s0 bound ≡ Ok s1
after-bound = refl

abbrev pub solution : Line
solution = Soli (not_x 1 ∷ x 2 ∷ x 3 ∷ [])

-- x1 + x2 + x3 >= 3: more than two pairs. The value -2 is logged.
abbrev pub s2 : State
s2 = record (with_row s1 (row (w 1 (x 1) ∷ w 1 (x 2) ∷ w 1 (x 3) ∷ []) 3)) { least = Some (negsuc 1) }

after-solution : after worked s1 solution ≡ Ok s2
after-solution = refl

-- the bound row and the row of the solution add up to 0 >= 1
closing-row : pol_row 3 s2.live (Id (row_no 8) ∷ Id (row_no 9) ∷ Add ∷ []) ≡ Ok (row [] 1)
closing-row = refl

abbrev pub minus_two : Option ℤ
minus_two = Some (negsuc 1)

abbrev pub claim : Claim
claim = Bounds minus_two minus_two

stronger : HasStronger s2 (at_least_row worked (negsuc 1))
stronger = (bound_row, (7, omega arith, refl), refl, omega arith)

same : (z : ℤ) → z ≤ℤ z
same z = omega (arith, ints)

-- a lower bound than the row's own
weaker : HasStronger s2 (at_least_row worked (negsuc 2))
weaker = (bound_row, (7, omega arith, refl), refl, omega arith)

-- a line that owes nothing
pub move : (here : Place) (line : Line) (there : Place) → next_place worked here line ≡ Ok there → Owed worked here line → Moves worked here line there
move here line there e o = record { leads = e; owed = o }

pub header-moves : Moves worked Start Header Headed
header-moves = move Start Header Headed refl tt

pub count-moves : Moves worked Headed (Count 7) (Proving s0)
count-moves = move Headed (Count 7) (Proving s0) refl tt

pub bound-moves : Moves worked (Proving s0) bound (Proving s1)
bound-moves = move (Proving s0) bound (Proving s1) refl tt

pub solution-moves : Moves worked (Proving s1) solution (Proving s2)
solution-moves = move (Proving s1) solution (Proving s2) refl tt

pub output-moves : Moves worked (Proving s2) Output (Closing s2)
output-moves = move (Proving s2) Output (Closing s2) refl tt

pub claim-moves : Moves worked (Closing s2) (Conclusion claim) (Claimed claim)
claim-moves = move (Closing s2) (Conclusion claim) (Claimed claim) refl ((same (negsuc 1), inr stronger), same (negsuc 1))

pub end-moves : Moves worked (Claimed claim) End (Done claim)
end-moves = move (Claimed claim) End (Done claim) refl tt

-- the seven lines, with a comment and a blank line in their places
pub valid : IsValidProof worked (Header ∷ Blank ∷ Count 7 ∷ bound ∷ Comment ∷ solution ∷ Output ∷ Conclusion claim ∷ End ∷ []) claim
valid = (
  Headed,
  header-moves,
  (
    Headed,
    move Headed Blank Headed refl tt,
    (
      Proving s0,
      count-moves,
      (
        Proving s1,
        bound-moves,
        (
          Proving s1,
          move (Proving s1) Comment (Proving s1) refl tt,
          (
            Proving s2,
            solution-moves,
            (Closing s2, output-moves, (Claimed claim, claim-moves, (Done claim, end-moves, refl))),
          ),
        ),
      ),
    ),
  ),
)

-- ---- refusals

no-row_9 : after worked s0 (Pol (Id (row_no 1) ∷ Id (row_no 9) ∷ Add ∷ [])) ≡ Err (BadId 9)
no-row_9 = refl

one-operand : after worked s0 (Pol (Id (row_no 1) ∷ Add ∷ [])) ≡ Err StackShape
one-operand = refl

two-rows : after worked s0 (Pol (Id (row_no 1) ∷ Id (row_no 2) ∷ [])) ≡ Err StackShape
two-rows = refl

-- the variable comes before the operand that is wanting, and a number that is too big before all
no-variable_4 : after worked s0 (Pol (Weaken 4 ∷ [])) ≡ Err (BadVariable 4)
no-variable_4 = refl

big-factor : after worked s0 (Pol (Id (row_no 9) ∷ Times (pos 1329227995784915872903807060280344577) ∷ [])) ≡ Err TooBig
big-factor = refl

-- 2^120 itself is no number that is too big, but three times it is no row that fits
big-row : after worked s0 (Pol (Id (row_no 5) ∷ Times (pos 1329227995784915872903807060280344576) ∷ [])) ≡ Err TooBig
big-row = refl

-- a row whose coefficients sum to 2^120 fits, and with one more it doesn't
abbrev most : List PolStep
most = Id (row_no 2) ∷ Times (pos 1329227995784915872903807060280344576) ∷ []

most-row : after worked s0 (Pol most) ≡ Ok (with_row s0 (row (w 1329227995784915872903807060280344576 (not_x 3) ∷ []) 0))
most-row = refl

one-more : after worked s0 (Pol (most ++ Id (row_no 2) ∷ Add ∷ [])) ≡ Err TooBig
one-more = refl

-- the same of its degree
abbrev none_left : List PolStep
none_left = Id (row_no 8) ∷ Id (row_no 9) ∷ Add ∷ []

most-degree : pol_row 3 s2.live (none_left ++ Times (pos 1329227995784915872903807060280344576) ∷ []) ≡ Ok (row [] 1329227995784915872903807060280344576)
most-degree = refl

one-more-degree : pol_row 3 s2.live (none_left ++ Times (pos 1329227995784915872903807060280344576) ∷ none_left ++ Add ∷ []) ≡ Err TooBig
one-more-degree = refl

-- the numbers of a `rup` row, then its variables in written order, then the sum of its sizes
rup-number : after worked s0 (Rup (record { terms = record { coef = pos 1329227995784915872903807060280344577; lit = x 9 } ∷ []; at_least = pos 0 })) ≡ Err TooBig
rup-number = refl

rup-variable : after worked s0 (Rup (record { terms = record { coef = pos 0; lit = x 9 } ∷ w 1 (x 8) ∷ []; at_least = pos 1329227995784915872903807060280344576 })) ≡ Err (BadVariable 9)
rup-variable = refl

rup-sum : after worked s0 (Rup (record { terms = w 1 (x 1) ∷ []; at_least = negsuc 1329227995784915872903807060280344575 })) ≡ Err TooBig
rup-sum = refl

broken-row_5 : after worked s1 (Soli (not_x 1 ∷ x 2 ∷ not_x 3 ∷ [])) ≡ Err (NotASolution 5)
broken-row_5 = refl

-- deleted rows of the formula are looked at too
still-row_5 : after worked (record s1 { live = [] }) (Soli (not_x 1 ∷ x 2 ∷ not_x 3 ∷ [])) ≡ Err (NotASolution 5)
still-row_5 = refl

two-of_three : after worked s1 (Soli (not_x 1 ∷ x 2 ∷ [])) ≡ Err NotFull
two-of_three = refl

one-twice : after worked s1 (Soli (not_x 1 ∷ x 2 ∷ x 3 ∷ x 3 ∷ [])) ≡ Err NotFull
one-twice = refl

-- the variable comes before the one that is left out
fourth : after worked s1 (Soli (not_x 1 ∷ x 4 ∷ [])) ≡ Err (BadVariable 4)
fourth = refl

deleted-twice : after worked s1 (Del (row_no 3 ∷ row_no 3 ∷ [])) ≡ Err (BadId 3)
deleted-twice = refl

-- a deleted row can't be named, and its number isn't given anew
deleted-row : and_then (after worked s0 (Del (row_no 7 ∷ []))) (λ t. after worked t (Pol (Id (row_no 7) ∷ []))) ≡ Err (BadId 7)
deleted-row = refl

next-number : and_then (after worked s0 (Del (row_no 7 ∷ []))) (λ t. Ok t.next) ≡ Ok 8
next-number = refl

six-rows : next_place worked Headed (Count 6) ≡ Err WrongCount
six-rows = refl

late-comment : next_place worked (Done claim) Comment ≡ Err Syntax
late-comment = refl

early-comment : next_place worked Start Comment ≡ Err Syntax
early-comment = refl

-- a number that is too big, in its place and out of order
big-claim : next_place worked (Closing s2) (Conclusion (Bounds (Some (pos 1329227995784915872903807060280344577)) minus_two)) ≡ Err TooBig
big-claim = refl

misplaced-claim : next_place worked (Proving s2) (Conclusion (Bounds (Some (pos 1329227995784915872903807060280344577)) minus_two)) ≡ Err Syntax
misplaced-claim = refl

misplaced-step : next_place worked (Closing s2) (Pol (Times (pos 1329227995784915872903807060280344577) ∷ [])) ≡ Err Syntax
misplaced-step = refl

-- steps stand between the count and the output line, and each other line once
early-step : next_place worked Headed bound ≡ Err Syntax
early-step = refl

second-count : next_place worked (Proving s0) (Count 7) ≡ Err Syntax
second-count = refl

second-output : next_place worked (Closing s2) Output ≡ Err Syntax
second-output = refl

second-claim : next_place worked (Claimed claim) (Conclusion claim) ≡ Err Syntax
second-claim = refl

early-end : next_place worked (Closing s2) End ≡ Err Syntax
early-end = refl
