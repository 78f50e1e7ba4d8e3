-- The worked proof as bytes, cut short, and with one line changed.
use Rattle.std.specs.Prelude.{◌≡◌, ℕ, List, [], ◌∷◌, ◌++◌, map, flat_map, negsuc, ◌≤ℤ◌, Some, None, codes, refl}
use Rattle.std.proofs.Common.{arith, inl, inr}
use Rattle.std.proofs.lemmas.Int.{ints}
use Rattle.pb_rows.specs.Formula.{Formula}
use Rattle.proof_lines.specs.declared.line.PolStep.TheVariants.{Id, Add}
use Rattle.proof_lines.specs.declared.line.Claim.{Claim}
use Rattle.proof_lines.specs.declared.line.Claim.TheVariants.{Bounds}
use Rattle.proof_lines.specs.declared.line.Line.{Line}
use Rattle.proof_lines.specs.declared.line.Line.TheVariants.{Header, Count, Pol, Soli, Output, Conclusion, End, Comment, Blank}
use Rattle.proof_lines.specs.Spelling.{row_no}
use Rattle.proof_rules.specs.Refusals.{Refusal, Syntax, BadId, BoundNotShown, NotASolution, NotFull, StackShape, WrongCount}
use Rattle.proof_rules.specs.Valid.{Place, Start, Headed, Proving, Closing, Claimed, Done, Leads, Moves}
use Rattle.proof_rules.specs.Refused.{Refuses}
use Rattle.proof_rules.specs.Texts.{IsRefusedAt, IsTruncated, IsValidText, Reaches, Reading, Stops, all_lines, whole_lines}
use Rattle.proof_rules.proofs.Worked.{bound, bound-moves, claim, claim-moves, count-moves, end-moves, header-moves, minus_two, not_x, output-moves, s0, s1, s2, solution, solution-moves, valid, worked, x}

-- lines, each with its line feed
abbrev lined : List (List ℕ) → List ℕ
lined texts = flat_map (λ text. text ++ 10 ∷ []) texts

-- ---- a blank line and a note, and no line feed at the end

text : List ℕ
text = lined (codes "pseudo-Boolean proof version 2.0" ∷ codes "" ∷ codes "f 7" ∷ codes "pol 1 2 +" ∷ codes "* note bound 8" ∷ codes "soli ~x1 x2 x3" ∷ codes "output NONE" ∷ codes "conclusion BOUNDS -2 -2" ∷ [])
    ++ codes "end pseudo-Boolean proof"

reading : (f : Formula) (here : Place) (lines : List Line) (there : Place) → Leads f here lines there → Reaches f here (map Some lines) there
reading f here [] there l = l
reading f here (line ∷ lines) there l = (l.0, l.1, reading f l.0 lines there l.2)

worked-valid : IsValidText worked text claim
unfolding text
worked-valid = reading worked Start (Header ∷ Blank ∷ Count 7 ∷ bound ∷ Comment ∷ solution ∷ Output ∷ Conclusion claim ∷ End ∷ []) (Done claim) valid

-- ---- the seven lines

abbrev begins : List (List ℕ)
begins = codes "pseudo-Boolean proof version 2.0" ∷ codes "f 7" ∷ []

abbrev steps : List (List ℕ)
steps = codes "pol 1 2 +" ∷ codes "soli ~x1 x2 x3" ∷ []

seven : List ℕ
seven = lined (begins ++ steps ++ codes "output NONE" ∷ codes "conclusion BOUNDS -2 -2" ∷ codes "end pseudo-Boolean proof" ∷ [])

seven-valid : IsValidText worked seven claim
unfolding seven
seven-valid =
    (Headed, header-moves, (Proving s0, count-moves, (Proving s1, bound-moves, (Proving s2, solution-moves, (Closing s2, output-moves, (Claimed claim, claim-moves, (Done claim, end-moves, refl)))))))

-- ---- cut one byte before the last line feed and the byte before it

short : List ℕ
short = lined (begins ++ steps ++ codes "output NONE" ∷ codes "conclusion BOUNDS -2 -2" ∷ []) ++ codes "end pseudo-Boolean proo"

not_done : (c d : Claim) → Claimed c ≡ Done d → ⊥
not_done c d e = cc

short-reaches : Reaches worked Start (whole_lines short) (Claimed claim)
unfolding short
short-reaches =
    (Headed, header-moves, (Proving s0, count-moves, (Proving s1, bound-moves, (Proving s2, solution-moves, (Closing s2, output-moves, (Claimed claim, claim-moves, refl))))))

-- the bytes that are left have no spelling
short-unread : (there : Place) → Reaches worked Start (all_lines short) there → ⊥
unfolding short
short-unread there r = r.2.2.2.2.2.2

short-truncated : IsTruncated worked short
short-truncated = record { here = Claimed claim; reaches = short-reaches; not_done = not_done claim; not_ended = λ c v. short-unread (Done c) v }

start_not_done : (c : Claim) → Start ≡ Done c → ⊥
start_not_done c e = cc

nothing-truncated : IsTruncated worked []
nothing-truncated = record { here = Start; reaches = refl; not_done = start_not_done; not_ended = start_not_done }

-- ---- one line changed

second : (line : Line) (why : Refusal) (rest : Reading) → Refuses worked Headed line why → Stops worked Start (Some Header ∷ Some line ∷ rest) 1 why
second line why rest r = (Headed, header-moves, r)

third : (line : Line) (why : Refusal) (rest : Reading) → Refuses worked (Proving s0) line why → Stops worked Start (Some Header ∷ Some (Count 7) ∷ Some line ∷ rest) 2 why
third line why rest r = (Headed, header-moves, (Proving s0, count-moves, r))

fourth : (line : Line) (why : Refusal) (rest : Reading) → Refuses worked (Proving s1) line why → Stops worked Start (Some Header ∷ Some (Count 7) ∷ Some bound ∷ Some line ∷ rest) 3 why
fourth line why rest r = (Headed, header-moves, (Proving s0, count-moves, (Proving s1, bound-moves, r)))

no-row_9 : IsRefusedAt worked (lined (begins ++ codes "pol 1 9 +" ∷ codes "nothing" ∷ [])) (record { line = 3; why = BadId 9 })
no-row_9 = (2, refl, inl (third (Pol (Id (row_no 1) ∷ Id (row_no 9) ∷ Add ∷ [])) (BadId 9) (None ∷ []) (inl refl)))

one-operand : IsRefusedAt worked (lined (begins ++ codes "pol 1 +" ∷ [])) (record { line = 3; why = StackShape })
one-operand = (2, refl, inl (third (Pol (Id (row_no 1) ∷ Add ∷ [])) StackShape [] (inl refl)))

broken-row_5 : IsRefusedAt worked (lined (begins ++ codes "pol 1 2 +" ∷ codes "soli ~x1 x2 ~x3" ∷ [])) (record { line = 4; why = NotASolution 5 })
broken-row_5 = (3, refl, inl (fourth (Soli (not_x 1 ∷ x 2 ∷ not_x 3 ∷ [])) (NotASolution 5) [] (inl refl)))

two-of_three : IsRefusedAt worked (lined (begins ++ codes "pol 1 2 +" ∷ codes "soli ~x1 x2" ∷ [])) (record { line = 4; why = NotFull })
two-of_three = (3, refl, inl (fourth (Soli (not_x 1 ∷ x 2 ∷ [])) NotFull [] (inl refl)))

six-rows : IsRefusedAt worked (lined (codes "pseudo-Boolean proof version 2.0" ∷ codes "f 6" ∷ [])) (record { line = 2; why = WrongCount })
six-rows = (1, refl, inl (second (Count 6) WrongCount [] (inl refl)))

past_least : negsuc 0 ≤ℤ negsuc 1 → ⊥
past_least h = omega (arith, ints)

-- at least -1 isn't shown where -2 is logged
pub not-shown : Refuses worked (Closing s2) (Conclusion (Bounds (Some (negsuc 0)) minus_two)) BoundNotShown
not-shown = inr (record { there = Claimed (Bounds (Some (negsuc 0)) minus_two); leads = refl; fails = λ o. past_least o.0.0; why_is = refl })

too-high : IsRefusedAt worked (lined (begins ++ steps ++ codes "output NONE" ∷ codes "conclusion BOUNDS -1 -2" ∷ [])) (record { line = 6; why = BoundNotShown })
too-high = (5, refl, inl (Headed, header-moves, (Proving s0, count-moves, (Proving s1, bound-moves, (Proving s2, solution-moves, (Closing s2, output-moves, not-shown))))))

-- after the end line a comment is refused, with or without a line feed
late : List ℕ
late = lined (begins ++ steps ++ codes "output NONE" ∷ codes "conclusion BOUNDS -2 -2" ∷ codes "end pseudo-Boolean proof" ∷ codes "" ∷ []) ++ codes "* note"

late-comment : IsRefusedAt worked late (record { line = 9; why = Syntax })
unfolding late
late-comment = (
  8,
  refl,
  inr (
    claim,
    (Headed, header-moves, (Proving s0, count-moves, (Proving s1, bound-moves, (Proving s2, solution-moves, (Closing s2, output-moves, (Claimed claim, claim-moves, (Done claim, end-moves, (Done claim, blank, refl)))))))),
    (Headed, header-moves, (Proving s0, count-moves, (Proving s1, bound-moves, (Proving s2, solution-moves, (Closing s2, output-moves, (Claimed claim, claim-moves, (Done claim, end-moves, (Done claim, blank, inl refl)))))))),
  ),
)
  where
    blank : Moves worked (Done claim) Blank (Done claim)
    blank = record { leads = refl; owed = tt }

-- ---- a line without a spelling

unread : IsRefusedAt worked (lined (begins ++ codes "pol 1 2 -" ∷ [])) (record { line = 3; why = Syntax })
unread = (2, refl, inl (Headed, header-moves, (Proving s0, count-moves, refl)))
