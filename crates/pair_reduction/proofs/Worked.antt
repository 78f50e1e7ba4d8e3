-- Both rules and the lines of offers on instances worked by hand.
use Rattle.std.specs.Prelude.{◌≡◌, true, false, [], ◌∷◌, Some, None, pos, refl}
use Rattle.pb_rows.specs.Terms.{PlainRow, weighing}
use Rattle.rank_tables.specs.Instance.{Lists}
use Rattle.proof_lines.specs.declared.line.PolStep.TheVariants.{Id, Times, Add}
use Rattle.proof_lines.specs.Spelling.{row_no}
use Rattle.derivation.specs.Deletions.{Deletions, is_deleted}
use Rattle.pair_reduction.specs.declared.sides.Side.TheVariants.{Resident, Hospital}
use Rattle.pair_reduction.specs.Offers.{offer_row, offer_steps}
use Rattle.pair_reduction.specs.Sides.{is_free, is_passed}

-- ---- resident a: x y / resident b: x / hospital x 1: a b / hospital y 1: a; pairs are 1 a x, 2 a y, 3 b x

abbrev strict : Lists
strict = record {
  residents = record { name = 97 ∷ []; groups = (0 ∷ []) ∷ (1 ∷ []) ∷ [] } ∷ record { name = 98 ∷ []; groups = (0 ∷ []) ∷ [] } ∷ [];
  hospitals = record { name = 120 ∷ []; capacity = 1; groups = (0 ∷ []) ∷ (1 ∷ []) ∷ [] } ∷ record { name = 121 ∷ []; capacity = 1; groups = (0 ∷ []) ∷ [] } ∷ [];
}

abbrev none : Deletions
none = None ∷ None ∷ None ∷ []

-- a ranks nothing as high as x, so b is put out of x
a_x-is_only : is_free Resident strict (is_deleted none) 1 ≡ true
a_x-is_only = refl

a_y-is_not : is_free Resident strict (is_deleted none) 2 ≡ false
a_y-is_not = refl

b_x-passed : is_passed Hospital strict (is_free Resident strict (is_deleted none)) 3 ≡ true
b_x-passed = refl

-- a is sure of x, so it takes nothing that it ranks lower
a_x-is_sure : is_free Hospital strict (is_deleted none) 1 ≡ true
a_x-is_sure = refl

a_y-passed : is_passed Resident strict (is_free Hospital strict (is_deleted none)) 2 ≡ true
a_y-passed = refl

a_x-not_passed : is_passed Resident strict (is_free Hospital strict (is_deleted none)) 1 ≡ false
a_x-not_passed = refl

-- `pol 5 3 +`: the row of the pair and that of x make x1 + ~x3 >= 1
a_x-steps : offer_steps strict none 1 ≡ Id (row_no 5) ∷ Id (row_no 3) ∷ Add ∷ []
a_x-steps = refl

a_x-offer : offer_row strict 1 ≡ record { terms = weighing 1 (record { var = 1; neg = false }) ∷ weighing 1 (record { var = 3; neg = true }) ∷ []; degree = 1 }
a_x-offer = refl

-- ---- the same, but x ties a and b: neither is put out

abbrev tied : Lists
tied = record {
  residents = strict.residents;
  hospitals = record { name = 120 ∷ []; capacity = 1; groups = (0 ∷ 1 ∷ []) ∷ [] } ∷ record { name = 121 ∷ []; capacity = 1; groups = (0 ∷ []) ∷ [] } ∷ [];
}

tied-not_passed : is_passed Hospital tied (is_free Resident tied (is_deleted none)) 3 ≡ false
tied-not_passed = refl

tied-not_sure : is_free Hospital tied (is_deleted none) 1 ≡ false
tied-not_sure = refl

-- ---- resident a: y x / resident b: x / hospital x 1: a b / hospital y 0: a; pairs are 1 a y, 2 a x, 3 b x

abbrev closed : Lists
closed = record {
  residents = record { name = 97 ∷ []; groups = (1 ∷ []) ∷ (0 ∷ []) ∷ [] } ∷ record { name = 98 ∷ []; groups = (0 ∷ []) ∷ [] } ∷ [];
  hospitals = record { name = 120 ∷ []; capacity = 1; groups = (0 ∷ []) ∷ (1 ∷ []) ∷ [] } ∷ record { name = 121 ∷ []; capacity = 0; groups = (0 ∷ []) ∷ [] } ∷ [];
}

-- a hospital without posts is passed by nobody
a_y-closed : is_passed Hospital closed (λ q. false) 1 ≡ true
a_y-closed = refl

-- pair 1 is deleted by row 8: once its unit row is added, a has nothing else
abbrev one : Deletions
one = Some (row_no 8) ∷ None ∷ None ∷ []

a_x-steps_after : offer_steps closed one 2 ≡ Id (row_no 6) ∷ Id (row_no 8) ∷ Times (pos 1) ∷ Add ∷ Id (row_no 3) ∷ Add ∷ []
a_x-steps_after = refl
