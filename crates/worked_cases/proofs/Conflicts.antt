-- What conflict analysis comes to on trails that were worked by hand.
use Rattle.std.proofs.Common.{◌≡◌, ℕ, true, false, [], ◌∷◌, refl, List}
use Rattle.std.specs.Prelude.{Some, None}
use Rattle.hrt_base.specs.declared.literal.Lit.{Lit}
use Rattle.hrt_base.specs.declared.literal.Term.{Term}
use Rattle.pb_rows.specs.Terms.{PlainRow, weighing}
use Rattle.conflict_rows.specs.Trail.{Placed}
use Rattle.conflict_rows.specs.CutRows.{Finished, Contradiction, Passed, cut_end, lowest_open}
use Rattle.conflict_rows.specs.ClauseRows.{last_clause}

-- ---- spelling

abbrev x : ℕ → Lit
x v = record { var = v; neg = false }

abbrev ~x : ℕ → Lit
~x v = record { var = v; neg = true }

abbrev row : List Term → ℕ → PlainRow
row ts d = record { terms = ts; degree = d }

abbrev decided : Lit → ℕ → Placed
decided l level = record { lit = l; level = level; reason = None }

abbrev by : PlainRow → Lit → ℕ → Placed
by r l level = record { lit = l; level = level; reason = Some r }

-- ---- a resident's row, a hospital's, and that a larger matching is wanted

abbrev resident : PlainRow
resident = row (weighing 1 (~x 1) ∷ weighing 1 (~x 2) ∷ weighing 1 (~x 3) ∷ []) 2

abbrev hospital : PlainRow
hospital = row (weighing 1 (~x 1) ∷ weighing 1 (~x 4) ∷ weighing 1 (~x 6) ∷ []) 2

abbrev improvement : PlainRow
improvement = row (weighing 1 (x 1) ∷ weighing 1 (x 2) ∷ weighing 1 (x 3) ∷ weighing 1 (x 4) ∷ weighing 1 (x 5) ∷ weighing 1 (x 6) ∷ []) 3

abbrev one_decision : List Placed
one_decision = by hospital (~x 6) 1 ∷ by hospital (~x 4) 1 ∷ by resident (~x 3) 1 ∷ by resident (~x 2) 1 ∷ decided (x 1) 1 ∷ []

-- ~x1 + x5 >= 2, which is finished at level 0
cuts : cut_end one_decision improvement ≡ Finished (row (weighing 1 (~x 1) ∷ weighing 1 (x 5) ∷ []) 2) 0
cuts = refl

clauses : last_clause one_decision improvement ≡ row (weighing 1 (~x 1) ∷ []) 1
clauses = refl

conflict_is_open_nowhere_below : lowest_open one_decision 1 improvement ≡ Some 1
conflict_is_open_nowhere_below = refl

-- ---- a product that passes the most: the factor is 2 ^ 58 + 1

abbrev pairs : PlainRow
pairs = row (weighing 2 (~x 1) ∷ weighing 1 (~x 2) ∷ weighing 1 (~x 3) ∷ []) 2

abbrev heavy : PlainRow
heavy = row (weighing 288230376151711745 (x 2) ∷ weighing 288230376151711745 (x 3) ∷ []) 288230376151711745

abbrev heavy_trail : List Placed
heavy_trail = by pairs (~x 3) 1 ∷ by pairs (~x 2) 1 ∷ decided (x 1) 1 ∷ []

passes : cut_end heavy_trail heavy ≡ Passed 1152921504606846980
passes = refl

turns : last_clause heavy_trail heavy ≡ row (weighing 1 (~x 1) ∷ []) 1
turns = refl

-- ---- a falsified row propagates too: the last row is falsified at level 0 already, and t is decided

abbrev f1 : PlainRow
f1 = row (weighing 5 (x 2) ∷ weighing 4 (x 3) ∷ weighing 5 (x 4) ∷ []) 6

abbrev f2 : PlainRow
f2 = row (weighing 3 (~x 1) ∷ weighing 2 (x 3) ∷ []) 3

abbrev f3 : PlainRow
f3 = row (weighing 1 (x 1) ∷ weighing 2 (~x 2) ∷ weighing 1 (x 3) ∷ weighing 3 (~x 4) ∷ []) 3

abbrev f4 : PlainRow
f4 = row (weighing 1 (x 1) ∷ weighing 3 (~x 2) ∷ weighing 3 (~x 3) ∷ weighing 3 (~x 4) ∷ []) 5

abbrev f_trail : List Placed
f_trail = by f4 (~x 4) 1 ∷ by f4 (~x 2) 1 ∷ decided (x 3) 1 ∷ by f2 (~x 1) 0 ∷ []

-- 5 x1 + ~x3 >= 2
falsified_propagates : cut_end f_trail f1 ≡ Finished (row (weighing 5 (x 1) ∷ weighing 1 (~x 3) ∷ []) 2) 0
falsified_propagates = refl

-- ---- a contradiction at a level above 0

abbrev g1 : PlainRow
g1 = row (weighing 1 (~x 1) ∷ weighing 1 (x 2) ∷ weighing 1 (x 3) ∷ []) 2

abbrev g2 : PlainRow
g2 = row (weighing 1 (x 1) ∷ weighing 1 (~x 2) ∷ weighing 1 (~x 3) ∷ []) 2

abbrev g_trail : List Placed
g_trail = by g2 (~x 3) 1 ∷ by g2 (~x 2) 1 ∷ decided (~x 1) 1 ∷ []

contradiction : cut_end g_trail g1 ≡ Contradiction (row [] 1)
contradiction = refl

-- ---- the newest false literal of the last row is of a level below the engine's

abbrev h1 : PlainRow
h1 = row (weighing 1 (~x 1) ∷ weighing 1 (x 2) ∷ weighing 1 (x 3) ∷ weighing 1 (x 4) ∷ []) 2

abbrev h2 : PlainRow
h2 = row (weighing 1 (x 1) ∷ weighing 1 (~x 2) ∷ weighing 1 (~x 3) ∷ weighing 1 (x 4) ∷ []) 2

abbrev h_trail : List Placed
h_trail = by h1 (x 3) 2 ∷ by h1 (x 2) 2 ∷ decided (x 1) 2 ∷ decided (~x 4) 1 ∷ []

older : cut_end h_trail h2 ≡ Finished (row (weighing 2 (x 4) ∷ []) 1) 0
older = refl

-- ---- the lowest open level is two below the conflict

abbrev i1 : PlainRow
i1 = row (weighing 1 (x 2) ∷ weighing 1 (x 3) ∷ []) 1

abbrev i2 : PlainRow
i2 = row (weighing 2 (~x 2) ∷ weighing 1 (x 3) ∷ weighing 1 (~x 5) ∷ []) 2

abbrev i_trail : List Placed
i_trail = by i1 (x 2) 2 ∷ decided (~x 3) 2 ∷ decided (~x 5) 1 ∷ []

-- 3 x3 + ~x5 >= 2
far : cut_end i_trail i2 ≡ Finished (row (weighing 3 (x 3) ∷ weighing 1 (~x 5) ∷ []) 2) 0
far = refl

-- ---- a literal that was false before t isn't weakened, though its coefficient is no multiple

abbrev j1 : PlainRow
j1 = row (weighing 3 (~x 1) ∷ weighing 1 (~x 2) ∷ []) 2

abbrev j2 : PlainRow
j2 = row (weighing 2 (x 1) ∷ weighing 3 (x 2) ∷ weighing 3 (~x 3) ∷ []) 5

abbrev j_trail : List Placed
j_trail = by j2 (~x 3) 0 ∷ by j2 (x 2) 0 ∷ by j1 (~x 1) 0 ∷ []

-- x2 >= 2
kept_where_false : cut_end j_trail (row (weighing 1 (x 3) ∷ []) 1) ≡ Contradiction (row (weighing 1 (x 2) ∷ []) 2)
kept_where_false = refl
