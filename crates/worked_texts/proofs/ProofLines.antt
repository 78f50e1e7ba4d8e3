-- Lines and what they read as.
use Rattle.std.proofs.Common.{◌≡◌, ℕ, [], ◌∷◌, ◌++◌, refl, true, false, None, Some, pos, negsuc, Ok, Err}
use Rattle.std.specs.Prelude.{codes}
use Rattle.std.specs.Fmt.{digits}
use Rattle.hrt_base.specs.declared.literal.Lit.{Lit}
use Rattle.proof_lines.specs.declared.line.PolStep.TheVariants.{Id, Axiom, Add, Times, Divide, Saturate, Weaken}
use Rattle.proof_lines.specs.declared.line.Claim.TheVariants.{Bounds, Unsat, Nothing}
use Rattle.proof_lines.specs.declared.line.Line.TheVariants.{Header, Count, Pol, Rup, Soli, Del, Output, Conclusion, End, Comment, Blank}
use Rattle.proof_lines.specs.declared.refusal.LineKind.TheVariants.{Pol as pol_kind, Rup as rup_kind, Conclusion as conclusion_kind}
use Rattle.proof_lines.specs.declared.refusal.LineRefusal.TheVariants.{Syntax, TooBig}
use Rattle.proof_lines.specs.FirstLine.{first_line, is_end_text, judged}
use Rattle.proof_lines.specs.Spelling.{read_line, row_no}
use Rattle.proof_lines.specs.Texts.{line_text}

abbrev x : ℕ → Lit
x v = record { var = v; neg = false }

abbrev not_x : ℕ → Lit
not_x v = record { var = v; neg = true }

-- ---- fixed words

header : read_line (codes "pseudo-Boolean proof version 2.0") ≡ Some Header
header = refl

header_with_blanks : read_line (codes "  pseudo-Boolean   proof version 2.0 " ++ 13 ∷ []) ≡ Some Header
header_with_blanks = refl

other_version : read_line (codes "pseudo-Boolean proof version 1.0") ≡ None
other_version = refl

output_none : read_line (codes "output NONE") ≡ Some Output
output_none = refl

output_more : read_line (codes "output NONE NONE") ≡ None
output_more = refl

end_line : read_line (codes "end pseudo-Boolean proof") ≡ Some End
end_line = refl

end_glued : read_line (codes "end pseudo-Booleanproof") ≡ None
end_glued = refl

end_text : is_end_text (codes " end pseudo-Boolean proof" ++ 13 ∷ []) ≡ true
end_text = refl

end_text_two_returns : is_end_text (codes "end pseudo-Boolean proof" ++ 13 ∷ 13 ∷ []) ≡ false
end_text_two_returns = refl

end_text_short : is_end_text (codes "end pseudo-Boolean") ≡ false
end_text_short = refl

blank : read_line (codes "  ") ≡ Some Blank
blank = refl

blank_return : read_line (13 ∷ []) ≡ Some Blank
blank_return = refl

comment : read_line (codes "*anything ; 7") ≡ Some Comment
comment = refl

no_comment : read_line (codes ";* note") ≡ None
no_comment = refl

header_with_tabs : read_line (9 ∷ codes "pseudo-Boolean proof" ++ 9 ∷ 9 ∷ codes "version 2.0") ≡ Some Header
header_with_tabs = refl

output_other : read_line (codes "output IMPLICIT") ≡ None
output_other = refl

end_more : read_line (codes "end pseudo-Boolean proof now") ≡ None
end_more = refl

blank_none : read_line [] ≡ Some Blank
blank_none = refl

comment_any_bytes : read_line (32 ∷ 42 ∷ 255 ∷ 0 ∷ 13 ∷ 13 ∷ []) ≡ Some Comment
comment_any_bytes = refl

-- ---- carriage returns

one_return : read_line (codes "f 7" ++ 13 ∷ []) ≡ Some (Count 7)
one_return = refl

two_returns : read_line (codes "f 7" ++ 13 ∷ 13 ∷ []) ≡ None
two_returns = refl

return_in_front : read_line (13 ∷ codes "f 7") ≡ None
return_in_front = refl

-- ---- counts and row numbers

count : read_line (codes "f 7") ≡ Some (Count 7)
count = refl

count_zero : read_line (codes "f 0") ≡ Some (Count 0)
count_zero = refl

count_leading_zero : read_line (codes "f 07") ≡ None
count_leading_zero = refl

count_sign : read_line (codes "f +7") ≡ None
count_sign = refl

count_nineteen_digits : read_line (codes "f 1000000000000000000") ≡ None
count_nineteen_digits = refl

deleted : read_line (codes "del id 3 999999999999999999 3") ≡ Some (Del (row_no 3 ∷ row_no 999999999999999999 ∷ row_no 3 ∷ []))
deleted = refl

deleted_none : read_line (codes "del id") ≡ None
deleted_none = refl

deleted_zero : read_line (codes "del id 0") ≡ None
deleted_zero = refl

deleted_word : read_line (codes "del 3") ≡ None
deleted_word = refl

deleted_leading_zero : read_line (codes "del id 1 02") ≡ None
deleted_leading_zero = refl

deleted_sign : read_line (codes "del id +1") ≡ None
deleted_sign = refl

deleted_nineteen_digits : judged (read_line (codes "del id 1000000000000000000")) ≡ Err Syntax
deleted_nineteen_digits = refl

deleted_spec : read_line (codes "del spec 3") ≡ None
deleted_spec = refl

-- ---- steps

steps : read_line (codes "pol 1 2 + x3 ~x4 3 * 007 d s x5 w") ≡ Some (Pol (Id (row_no 1) ∷ Id (row_no 2) ∷ Add ∷ Axiom (x 3) ∷ Axiom (not_x 4) ∷ Times (pos 3) ∷ Divide (pos 7) ∷ Saturate ∷ Weaken 5 ∷ []))
steps = refl

factor_alone : read_line (codes "pol 1 *") ≡ Some (Pol (Times (pos 1) ∷ []))
factor_alone = refl

factor_with_sign : read_line (codes "pol 1 +2 *") ≡ Some (Pol (Id (row_no 1) ∷ Times (pos 2) ∷ []))
factor_with_sign = refl

no_steps : read_line (codes "pol") ≡ None
no_steps = refl

factor_zero : read_line (codes "pol 1 0 *") ≡ None
factor_zero = refl

factor_far_below_zero : judged (read_line (codes "pol 1 -9999999999999999999999999999999999999999 *")) ≡ Err Syntax
factor_far_below_zero = refl

star_first : read_line (codes "pol * 1") ≡ None
star_first = refl

star_behind_a_step : read_line (codes "pol 1 2 + *") ≡ None
star_behind_a_step = refl

number_alone : read_line (codes "pol 01") ≡ None
number_alone = refl

negated_weakened : read_line (codes "pol 1 ~x2 w") ≡ None
negated_weakened = refl

far_variable : read_line (codes "pol x99999999999999999999 w") ≡ Some (Pol (Weaken 4294967295 ∷ []))
far_variable = refl

greatest_factor : judged (read_line (codes "pol 1329227995784915872903807060280344576 *")) ≡ Ok (Pol (Times (pos 1329227995784915872903807060280344576) ∷ []))
greatest_factor = refl

factor_too_big : judged (read_line (codes "pol 1329227995784915872903807060280344577 * 0")) ≡ Err Syntax
factor_too_big = refl

factor_too_big_spelled : judged (read_line (codes "pol 1329227995784915872903807060280344577 * 1")) ≡ Err (TooBig pol_kind)
factor_too_big_spelled = refl

steps_glued : read_line (codes "pol 1 2+") ≡ None
steps_glued = refl

steps_with_tabs : read_line (codes "pol" ++ 9 ∷ codes "1 " ++ 9 ∷ codes "s ") ≡ Some (Pol (Id (row_no 1) ∷ Saturate ∷ []))
steps_with_tabs = refl

steps_semicolon : read_line (codes "pol 1 s ;") ≡ None
steps_semicolon = refl

number_zero : read_line (codes "pol 0") ≡ None
number_zero = refl

number_with_sign : read_line (codes "pol +1") ≡ None
number_with_sign = refl

number_nineteen_digits : judged (read_line (codes "pol 1000000000000000000")) ≡ Err Syntax
number_nineteen_digits = refl

divide_first : read_line (codes "pol d") ≡ None
divide_first = refl

divide_behind_a_step : read_line (codes "pol 1 2 d d") ≡ None
divide_behind_a_step = refl

weaken_first : read_line (codes "pol w 1") ≡ None
weaken_first = refl

weaken_behind_a_step : read_line (codes "pol 1 x2 w w") ≡ None
weaken_behind_a_step = refl

literal_before_a_factor : read_line (codes "pol 1 x2 *") ≡ None
literal_before_a_factor = refl

number_weakened : read_line (codes "pol 1 2 w") ≡ None
number_weakened = refl

factor_minus_zero : read_line (codes "pol 1 -0 d") ≡ None
factor_minus_zero = refl

greatest_variable : read_line (codes "pol 1 x4294967295 w") ≡ Some (Pol (Id (row_no 1) ∷ Weaken 4294967295 ∷ []))
greatest_variable = refl

variable_above_it : read_line (codes "pol ~x4294967296") ≡ Some (Pol (Axiom (not_x 4294967295) ∷ []))
variable_above_it = refl

variable_leading_zero : read_line (codes "pol x01") ≡ None
variable_leading_zero = refl

divisor_too_big : judged (read_line (codes "pol 1 0001329227995784915872903807060280344577 d")) ≡ Err (TooBig pol_kind)
divisor_too_big = refl

-- ---- rows and points

row : read_line (codes "rup +1 x1 -02 ~x2 >= -0;") ≡ Some (Rup (record { terms = record { coef = pos 1; lit = x 1 } ∷ record { coef = negsuc 1; lit = not_x 2 } ∷ []; at_least = pos 0 }))
row = refl

row_without_terms : read_line (codes "rup >= 1 ;") ≡ Some (Rup (record { terms = []; at_least = pos 1 }))
row_without_terms = refl

row_more : read_line (codes "rup >= 1 ; 2") ≡ None
row_more = refl

row_unfinished : read_line (codes "rup 1 x1 >= 1") ≡ None
row_unfinished = refl

row_blank_behind_sign : read_line (codes "rup 1 ~ x1 >= 1 ;") ≡ None
row_blank_behind_sign = refl

row_variable_zero : read_line (codes "rup 1 x0 >= 1 ;") ≡ None
row_variable_zero = refl

row_too_big : judged (read_line (codes "rup 1 x1 >= -1329227995784915872903807060280344577 ;")) ≡ Err (TooBig rup_kind)
row_too_big = refl

point : read_line (codes "soli ~x1 x2 x3") ≡ Some (Soli (not_x 1 ∷ x 2 ∷ x 3 ∷ []))
point = refl

point_of_none : read_line (codes "soli") ≡ Some (Soli [])
point_of_none = refl

point_semicolon : read_line (codes "soli x1 ;") ≡ None
point_semicolon = refl

row_with_zeros : read_line (codes "rup +0 x1 000 x1 >= 007 ;") ≡ Some (Rup (record { terms = record { coef = pos 0; lit = x 1 } ∷ record { coef = pos 0; lit = x 1 } ∷ []; at_least = pos 7 }))
row_with_zeros = refl

row_blank_in_a_number : read_line (codes "rup + 1 x1 >= 1 ;") ≡ None
row_blank_in_a_number = refl

row_of_equality : read_line (codes "rup 1 x1 = 1 ;") ≡ None
row_of_equality = refl

row_too_big_unfinished : judged (read_line (codes "rup 1329227995784915872903807060280344577 x1 >= 1")) ≡ Err Syntax
row_too_big_unfinished = refl

row_greatest : judged (read_line (codes "rup 1329227995784915872903807060280344576 x1 >= -1329227995784915872903807060280344576 ;"))
    ≡ Ok (Rup (record { terms = record { coef = pos 1329227995784915872903807060280344576; lit = x 1 } ∷ []; at_least = negsuc 1329227995784915872903807060280344575 }))
row_greatest = refl

point_leading_zero : read_line (codes "soli x01") ≡ None
point_leading_zero = refl

point_blank_behind_sign : read_line (codes "soli ~ x1") ≡ None
point_blank_behind_sign = refl

point_twice : read_line (codes "soli x1 ~x1") ≡ Some (Soli (x 1 ∷ not_x 1 ∷ []))
point_twice = refl

-- ---- claims

bounds : read_line (codes "conclusion BOUNDS -2 +3") ≡ Some (Conclusion (Bounds (Some (negsuc 1)) (Some (pos 3))))
bounds = refl

bounds_none : read_line (codes "conclusion BOUNDS -INF INF") ≡ Some (Conclusion (Bounds None None))
bounds_none = refl

unsat : read_line (codes "conclusion UNSAT") ≡ Some (Conclusion Unsat)
unsat = refl

no_claim : read_line (codes "conclusion NONE") ≡ Some (Conclusion Nothing)
no_claim = refl

upper_as_lower : read_line (codes "conclusion BOUNDS INF 3") ≡ None
upper_as_lower = refl

upper_with_plus : read_line (codes "conclusion BOUNDS -2 +INF") ≡ None
upper_with_plus = refl

bound_too_big : judged (read_line (codes "conclusion BOUNDS -INF 1329227995784915872903807060280344577")) ≡ Err (TooBig conclusion_kind)
bound_too_big = refl

lower_as_upper : read_line (codes "conclusion BOUNDS -2 -INF") ≡ None
lower_as_upper = refl

bounds_with_zeros : read_line (codes "conclusion BOUNDS -0 +007") ≡ Some (Conclusion (Bounds (Some (pos 0)) (Some (pos 7))))
bounds_with_zeros = refl

lower_above_upper : read_line (codes "conclusion BOUNDS 3 -2") ≡ Some (Conclusion (Bounds (Some (pos 3)) (Some (negsuc 1))))
lower_above_upper = refl

bound_missing : read_line (codes "conclusion BOUNDS 3") ≡ None
bound_missing = refl

bounds_more : read_line (codes "conclusion BOUNDS -2 3 : 8") ≡ None
bounds_more = refl

unsat_more : read_line (codes "conclusion UNSAT : 8") ≡ None
unsat_more = refl

no_sat : read_line (codes "conclusion SAT") ≡ None
no_sat = refl

no_claim_glued : read_line (codes "conclusionNONE") ≡ None
no_claim_glued = refl

-- ---- other rules

other_rule : read_line (codes "red 1 x1 >= 1 ; x1 -> 1") ≡ None
other_rule = refl

one_letter_rule : read_line (codes "p 1 2 +") ≡ None
one_letter_rule = refl

capital_rule : read_line (codes "POL 1 2 +") ≡ None
capital_rule = refl

-- ---- first lines

first_of_two : first_line (codes "f 7" ++ 10 ∷ codes "pol") ≡ Ok (Some (Count 7, 4))
first_of_two = refl

no_feed : first_line (codes "f 7") ≡ Ok None
no_feed = refl

refused : first_line (codes "f 07" ++ 10 ∷ codes "f 7" ++ 10 ∷ []) ≡ Err Syntax
refused = refl

written : line_text (Pol (Id (row_no 1) ∷ Id (row_no 2) ∷ Add ∷ Times (pos 3) ∷ Weaken 5 ∷ [])) ≡ codes "pol 1 2 + 3 * x5 w" ++ 10 ∷ []
unfolding digits
written = refl

written_row : line_text (Rup (record { terms = record { coef = pos 1; lit = not_x 2 } ∷ []; at_least = pos 1 })) ≡ codes "rup +1 ~x2 >= 1 ;" ++ 10 ∷ []
unfolding digits
written_row = refl

-- a negative bound has its sign, another one none
written_bounds : line_text (Conclusion (Bounds (Some (negsuc 1)) (Some (pos 3)))) ≡ codes "conclusion BOUNDS -2 3" ++ 10 ∷ []
unfolding digits
written_bounds = refl
