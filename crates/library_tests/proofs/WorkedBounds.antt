-- The bound row of instances worked by hand.
use Rattle.std.proofs.Common.{◌≡◌, true, [], ◌∷◌, refl}
use Rattle.std.specs.Prelude.{Some, None}
use Rattle.rank_tables.specs.Instance.{Lists}
use Rattle.stability_model.specs.Gone.{ceiling, posts_left, residents_left}
use Rattle.proof_lines.specs.declared.line.PolStep.TheVariants.{Id, Axiom, Add}
use Rattle.proof_lines.specs.Spelling.{row_no}
use Rattle.derivation.specs.Deletions.{Deletions, is_deleted}
use Rattle.library_tests.specs.Worked.{of_all, tied}
use Rattle.capacity_bound.specs.Steps.{Both, Row, bound_operands, steps_of}
use Rattle.capacity_bound.specs.Bound.{bound_row}

-- ---- by residents: no pair of `tied` is deleted

abbrev none : Deletions
none = None ∷ None ∷ None ∷ []

tied-ceiling : ceiling tied (is_deleted none) ≡ 2
tied-ceiling = refl

tied-operands : bound_operands tied none ≡ Id (row_no 1) ∷ Id (row_no 2) ∷ []
tied-operands = refl

-- ~x1 + ~x2 + ~x3 >= 1
tied-row : bound_row tied none ≡ of_all true 1
tied-row = refl

-- the steps `1 2 +`
tied-steps : steps_of (Both (Row (Id (row_no 1))) (Row (Id (row_no 2)))) ≡ Id (row_no 1) ∷ Id (row_no 2) ∷ Add ∷ []
tied-steps = refl

-- ---- the same with strict lists, where pairs 2 and 3 are deleted by rows 8 and 9

abbrev strict : Lists
strict = record {
  residents = record { name = 97 ∷ []; groups = (0 ∷ []) ∷ (1 ∷ []) ∷ [] } ∷ record { name = 98 ∷ []; groups = (0 ∷ []) ∷ [] } ∷ [];
  hospitals = record { name = 120 ∷ []; capacity = 1; groups = (0 ∷ []) ∷ (1 ∷ []) ∷ [] } ∷ record { name = 121 ∷ []; capacity = 1; groups = (0 ∷ []) ∷ [] } ∷ [];
}

abbrev two : Deletions
two = None ∷ Some (row_no 8) ∷ Some (row_no 9) ∷ []

strict-ceiling : ceiling strict (is_deleted two) ≡ 1
strict-ceiling = refl

-- the second resident has no pair left, and gives the row of its deleted pair
strict-operands : bound_operands strict two ≡ Id (row_no 1) ∷ Id (row_no 9) ∷ []
strict-operands = refl

strict-row : bound_row strict two ≡ of_all true 2
strict-row = refl

-- ---- by hospitals: a: x, b: x, c: x y, with x 1: (a b c) and y 1: c

abbrev crowded : Lists
crowded = record {
  residents = record { name = 97 ∷ []; groups = (0 ∷ []) ∷ [] } ∷ record { name = 98 ∷ []; groups = (0 ∷ []) ∷ [] } ∷ record { name = 99 ∷ []; groups = (0 ∷ []) ∷ (1 ∷ []) ∷ [] } ∷ [];
  hospitals = record { name = 120 ∷ []; capacity = 1; groups = (0 ∷ 1 ∷ 2 ∷ []) ∷ [] } ∷ record { name = 121 ∷ []; capacity = 1; groups = (2 ∷ []) ∷ [] } ∷ [];
}

abbrev nothing : Deletions
nothing = None ∷ None ∷ None ∷ None ∷ []

crowded-residents : residents_left crowded (is_deleted nothing) ≡ 3
crowded-residents = refl

crowded-posts : posts_left crowded (is_deleted nothing) ≡ 2
crowded-posts = refl

-- x has more pairs left than posts, and y hasn't
crowded-operands : bound_operands crowded nothing ≡ Id (row_no 4) ∷ Axiom (record { var = 4; neg = true }) ∷ []
crowded-operands = refl
