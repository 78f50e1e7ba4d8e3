-- Rows, the objective and the header of a model as text.
use Rattle.std.proofs.Common.{◌≡◌, ℕ, [], ◌∷◌, ◌++◌, pos, negsuc, ℤ, true, false, refl}
use Rattle.std.specs.Prelude.{codes}
use Rattle.std.specs.Fmt.{digits}
use Rattle.hrt_base.specs.declared.literal.Term.{Term}
use Rattle.stability_model.specs.Model.{pair_row}
use Rattle.opb_text.specs.Spelling.{canonical, header_line, objective_line, opb_spelling, row_line}
use Rattle.worked_cases.specs.SmallInstances.{no_posts}

plus : ℤ → ℕ → Term
plus c v = record { coef = c; lit = record { var = v; neg = false } }

over_opposite : ℤ → ℕ → Term
over_opposite c v = record { coef = c; lit = record { var = v; neg = true } }

header_is : header_line 3 7 ≡ codes "* #variable= 3 #constraint= 7" ++ 10 ∷ []
unfolding digits
header_is = refl

-- an objective without terms
empty_objective : objective_line [] ≡ codes "min: ;" ++ 10 ∷ []
unfolding digits
empty_objective = refl

objective_is : objective_line (plus (negsuc 0) 1 ∷ plus (negsuc 0) 2 ∷ []) ≡ codes "min: -1 x1 -1 x2 ;" ++ 10 ∷ []
unfolding plus digits
objective_is = refl

-- a hospital of 20 posts with one pair
posts_is : row_line (canonical (record { terms = plus (negsuc 0) 4 ∷ []; at_least = negsuc 19 })) ≡ codes "-1 x4 >= -20 ;" ++ 10 ∷ []
unfolding plus digits
posts_is = refl

-- terms by rising variable, each with its sign, and a right side without one
pair_is : row_line (canonical (record { terms = plus (pos 1) 3 ∷ plus (pos 2) 1 ∷ []; at_least = pos 1 })) ≡ codes "+2 x1 +1 x3 >= 1 ;" ++ 10 ∷ []
unfolding plus digits
pair_is = refl

-- the rows of the pairs of a hospital without posts
first_without_posts : row_line (canonical (pair_row no_posts 1)) ≡ codes "+1 x1 >= 0 ;" ++ 10 ∷ []
unfolding digits
first_without_posts = refl

second_without_posts : row_line (canonical (pair_row no_posts 2)) ≡ codes "+1 x1 +1 x2 >= 0 ;" ++ 10 ∷ []
unfolding digits
second_without_posts = refl

-- one term for each variable, none where the coefficients cancel, and no opposites
joined_is : row_line (canonical (record { terms = over_opposite (pos 2) 1 ∷ plus (pos 3) 1 ∷ over_opposite (pos 4) 2 ∷ plus (pos 5) 3 ∷ plus (negsuc 4) 3 ∷ []; at_least = pos 1 })) ≡ codes "+1 x1 -4 x2 >= -5 ;" ++ 10 ∷ []
unfolding plus over_opposite digits
joined_is = refl

-- a row without terms
bare_is : row_line (canonical (record { terms = []; at_least = pos 0 })) ≡ codes ">= 0 ;" ++ 10 ∷ []
unfolding digits
bare_is = refl

none_is : opb_spelling 0 [] [] ≡ codes "* #variable= 0 #constraint= 0" ++ 10 ∷ codes "min: ;" ++ 10 ∷ []
unfolding digits
none_is = refl
