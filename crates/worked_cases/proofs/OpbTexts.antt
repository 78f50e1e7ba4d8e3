-- Models as text: what they say, and how they are refused.
use Rattle.std.proofs.Common.{◌≡◌, ℕ, [], ◌∷◌, ◌++◌, List, pos, negsuc, ℤ, true, false, Bool, Some, None, refl}
use Rattle.std.specs.Prelude.{codes}
use Rattle.hrt_base.specs.declared.literal.Term.{Term}
use Rattle.pb_rows.specs.Terms.{PlainRow}
use Rattle.pb_rows.specs.Formula.{Formula}
use Rattle.opb_text.specs.declared.refusal.OpbRefusal.TheVariants.{Syntax, TooBig, TooManyVariables}
use Rattle.opb_text.specs.Refusal.{lines_of, refusal}
use Rattle.opb_text.specs.Statements.{formula_said, statements}

term : ℤ → ℕ → Bool → Term
term c v neg = record { coef = c; lit = record { var = v; neg = neg } }

plain_row : List Term → ℕ → PlainRow
plain_row terms degree = record { terms = terms; degree = degree }

formula : ℕ → List Term → List PlainRow → Formula
formula vars objective rows = record { vars = vars; objective = objective; rows = rows }

abbrev in_lines : List (List ℕ) → List ℕ
in_lines [] = []
in_lines (l ∷ ls) = l ++ 10 ∷ in_lines ls

said : List ℕ → Formula
said bytes = formula_said (statements (lines_of bytes))

-- a comment, an objective with a term of coefficient 0 and without blanks before `;`, a row in another order
text : List ℕ
text = in_lines (codes "* #variable= 1" ∷ codes "min: +2 x2 -1 ~x1 0 x5;" ∷ [] ∷ codes "3 x2 -2 x1 >= 1 ;" ∷ [])

text_accepted : refusal text ≡ None
unfolding text
text_accepted = refl

text_says : said text ≡ formula 5 (term (pos 2) 2 false ∷ term (negsuc 0) 1 true ∷ term (pos 0) 5 false ∷ []) (plain_row (term (pos 2) 1 true ∷ term (pos 3) 2 false ∷ []) 3 ∷ [])
unfolding text said term plain_row formula
text_says = refl

-- without an objective it has no terms
nothing_said : said [] ≡ formula 0 [] []
unfolding said formula
nothing_said = refl

-- ---- refused

no_number : refusal (in_lines (codes "* c" ∷ codes "min: x1 x2 ;" ∷ [])) ≡ Some (Syntax 2)
no_number = refl

second_objective : refusal (in_lines (codes "min: ;" ∷ [] ∷ codes "min: ;" ∷ codes "+1" ∷ [])) ≡ Some (Syntax 3)
second_objective = refl

late_objective : refusal (in_lines (codes ">= 0 ;" ∷ codes "min: +1 x100001 ;" ∷ [])) ≡ Some (Syntax 2)
late_objective = refl

-- a carriage return within a line is a byte of a token
return_within : refusal (in_lines ((codes "+1 x1" ++ 13 ∷ codes " >= 1 ;") ∷ [])) ≡ Some (Syntax 1)
return_within = refl

-- the right side counts
one_more : refusal (codes "+1329227995784915872903807060280344576 x1 >= 1 ;") ≡ Some (TooBig 1)
one_more = refl

just_fits : refusal (codes "+1329227995784915872903807060280344576 x1 >= 0 ;") ≡ None
just_fits = refl

half_as_much : refusal (codes "min: +664613997892457936451903530140172288 x1 -1 x2 ;") ≡ Some (TooBig 1)
half_as_much = refl

-- behind the sizes of the same line, and before those of a later one
far_variable : refusal (in_lines (codes "+0 ~x100001 >= 0 ;" ∷ codes "+1 x1 >=" ∷ [])) ≡ Some (TooManyVariables 1)
far_variable = refl

sizes_first : refusal (codes "+1 x100001 >= 1329227995784915872903807060280344576 ;") ≡ Some (TooBig 1)
sizes_first = refl
