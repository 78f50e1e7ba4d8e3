-- The `pol` steps of the rows of an analysis, and the rows that they make.
use Rattle.std.specs.Prelude.{◌≡◌, ◌≤◌, ◌<◌, ◌^◌, ℕ, pos, List, [], ◌∷◌, ◌++◌, map, Some, Ok}
use Rattle.std.specs.List.{AllByRecursion}
use Rattle.hrt_base.specs.declared.numbered.RowNo.{RowNo}
use Rattle.pb_rows.specs.Terms.{PlainRow}
use Rattle.pb_rows.specs.Rows.{Fits, add, divide, saturate, times, weaken_all}
use Rattle.pb_rows.specs.Formula.{NumberedRow, row_of}
use Rattle.proof_lines.specs.declared.line.PolStep.{PolStep}
use Rattle.proof_lines.specs.declared.line.PolStep.TheVariants.{Id, Add, Times, Divide, Saturate, Weaken}
use Rattle.proof_rules.specs.Pol.{pol_row}

-- the top row is weakened by each variable
abbrev pub weakenings : List ℕ → List PolStep
weakenings vars = map (λ v. Weaken v) vars

-- a cut: the row, and the reason weakened, divided by a, multiplied by k and added
abbrev pub cut_steps : RowNo → RowNo → List ℕ → ℕ → ℕ → List PolStep
cut_steps row reason vars a k = Id row ∷ Id reason ∷ (weakenings vars ++ Divide (pos a) ∷ Times (pos k) ∷ Add ∷ [])

-- the falsified row as a clause: weakened, saturated and divided by what is left of its degree
abbrev pub conflict_steps : RowNo → List ℕ → ℕ → List PolStep
conflict_steps row vars d = Id row ∷ (weakenings vars ++ Saturate ∷ Divide (pos d) ∷ [])

-- a resolution: the clause, and the reason as a clause, added and saturated
abbrev pub resolve_steps : RowNo → RowNo → List ℕ → ℕ → List PolStep
resolve_steps row reason vars d = Id row ∷ Id reason ∷ (weakenings vars ++ Saturate ∷ Divide (pos d) ∷ Add ∷ Saturate ∷ [])

-- the number may be a factor or a divisor
pub record IsFactor (n : ℕ) : Type 0 where
  pub some : 0 < n
  pub small : n ≤ 2 ^ 120

-- ---- what the lines make

-- of live rows, by variables up to `known`, where no product is too big
abbrev pub CutTies : Type 0
CutTies =
    (known : ℕ) (live : List NumberedRow) (row reason : RowNo) (c r : PlainRow) (vars : List ℕ) (a k : ℕ) →
    row_of row.0 live ≡ Some c → row_of reason.0 live ≡ Some r → Fits r → AllByRecursion (λ v. v ≤ known) vars → IsFactor a → IsFactor k →
    Fits (times k (divide a (weaken_all vars r))) → Fits (add c (times k (divide a (weaken_all vars r)))) →
    pol_row known live (cut_steps row reason vars a k) ≡ Ok (add c (times k (divide a (weaken_all vars r))))

abbrev pub ConflictTies : Type 0
ConflictTies =
    (known : ℕ) (live : List NumberedRow) (row : RowNo) (c : PlainRow) (vars : List ℕ) (d : ℕ) →
    row_of row.0 live ≡ Some c → Fits c → AllByRecursion (λ v. v ≤ known) vars → IsFactor d →
    pol_row known live (conflict_steps row vars d) ≡ Ok (divide d (saturate (weaken_all vars c)))

abbrev pub ResolveTies : Type 0
ResolveTies =
    (known : ℕ) (live : List NumberedRow) (row reason : RowNo) (c r : PlainRow) (vars : List ℕ) (d : ℕ) →
    row_of row.0 live ≡ Some c → row_of reason.0 live ≡ Some r → Fits r → AllByRecursion (λ v. v ≤ known) vars → IsFactor d →
    Fits (add c (divide d (saturate (weaken_all vars r)))) →
    pol_row known live (resolve_steps row reason vars d) ≡ Ok (saturate (add c (divide d (saturate (weaken_all vars r)))))

abbrev pub LineTies : Type 0
LineTies = CutTies × ConflictTies × ResolveTies
