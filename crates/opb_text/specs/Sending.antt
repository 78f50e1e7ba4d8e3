-- The parts of a model's text.
use Rattle.std.specs.Prelude.{ℕ, zero, suc, List, [], ◌++◌, if◌then◌else◌}
use Rattle.rank_tables.specs.Instance.{Lists}
use Rattle.stability_model.specs.Model.{hospital_has_pair, hospital_row, pair_row, resident_has_pair, resident_row}
use Rattle.opb_text.specs.Spelling.{canonical, row_line}

-- ---- the lines of rows: of a resident, of a hospital and of a pair

-- the line of a resident's row, empty where the resident has no acceptable pair
abbrev pub resident_line : Lists → ℕ → List ℕ
resident_line lists r = if resident_has_pair lists r then row_line (canonical (resident_row lists r)) else []

-- the line of a hospital's row, empty where the hospital has no acceptable pair
abbrev pub hospital_line : Lists → ℕ → List ℕ
hospital_line lists h = if hospital_has_pair lists h then row_line (canonical (hospital_row lists h)) else []

-- the line of the row of pair p
abbrev pub pair_line : Lists → ℕ → List ℕ
pair_line lists p = row_line (canonical (pair_row lists p))

-- a text for each number below n
abbrev pub lines_to : (ℕ → List ℕ) → ℕ → List ℕ
lines_to line zero = []
lines_to line (suc n) = lines_to line n ++ line n

-- the lines of the first n residents, in their order
abbrev pub resident_lines : Lists → ℕ → List ℕ
resident_lines lists n = lines_to (resident_line lists) n

-- the lines of the first n hospitals, in their order
abbrev pub hospital_lines : Lists → ℕ → List ℕ
hospital_lines lists n = lines_to (hospital_line lists) n

-- the lines of pairs 1 to n, in their order
abbrev pub pair_lines : Lists → ℕ → List ℕ
pair_lines lists n = lines_to (λ k. pair_line lists (suc k)) n
