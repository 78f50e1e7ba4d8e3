-- What a search knows of matchings, and what it starts from.
use Rattle.std.specs.Prelude.{◌≡◌, ◌<◌, ◌≤◌, ◌+◌, ◌-◌, ℕ, not, IsTrue, List, [], ◌∷◌, ◌++◌, length, count_by, Some, None}
use Rattle.std.specs.List.{All}
use Rattle.std.specs.List.Sorted.{IsStrictlyIncreasing}
use Rattle.hrt_base.specs.declared.numbered.PairNo.{PairNo}
use Rattle.hrt_base.specs.declared.numbered.RowNo.{RowNo}
use Rattle.pb_rows.specs.Terms.{PlainRow, coef_sum}
use Rattle.pb_rows.specs.Formula.{row_of}
use Rattle.rank_tables.specs.Instance.{Lists, pair_count}
use Rattle.rank_tables.specs.Numbers.{is_distinct, is_in, numbers_to}
use Rattle.rank_tables.specs.Stability.{is_weakly_stable}
use Rattle.rank_tables.specs.Tables.{IsPairNo, numbers_of}
use Rattle.stability_model.specs.Model.{pair_row_no, rows}
use Rattle.proof_rules.specs.Held.{is_held}
use Rattle.derivation.specs.Deletions.{AreUnitRows, Deletions}
use Rattle.derivation.specs.Derived.{Derived}
use Rattle.derivation.specs.Ready.{IsReady}
use Rattle.lazy_stability.specs.Laws.{FirstStayHeld}
use Rattle.matching_log.specs.Logged.{ceiling_row, larger_row, value_of}

-- ---- matchings

-- the largest matching so far: weakly stable, rising, and its value is the least that was logged
pub record IsFound (pairs : List PairNo) (d : Derived) : Type 0 where
  pub numbers : All (λ p. IsPairNo d.lists p.0) pairs
  pub rising : IsStrictlyIncreasing (numbers_of pairs)
  pub stable : IsTrue (is_weakly_stable d.lists (numbers_of pairs))
  pub least : d.state.least ≡ Some (value_of (length pairs))

-- the number is held, and its row is this one
pub record HoldsRow (id : RowNo) (row : PlainRow) (d : Derived) : Type 0 where
  pub held : IsTrue (is_held d.held id.0)
  pub live : row_of id.0 d.state.live ≡ Some row

-- What a search knows while it goes on. The matching is shorter than the ceiling. The rows of residents and hospitals stay held, and the row
-- of the ceiling and one that asks for a larger matching are held. Rows that are made are behind those of the model.
pub record Knows (ceiling : ℕ) (bound : RowNo) (pairs : List PairNo) (d : Derived) : Type 0 where
  pub found : IsFound pairs d
  pub shorter : length pairs < ceiling
  pub first : FirstStayHeld d
  pub top : HoldsRow bound (ceiling_row d.lists ceiling) d
  pub improve : RowNo
  pub larger : HoldsRow improve (larger_row d.lists (length pairs)) d
  pub behind_model : length (rows d.lists) < d.state.next

-- a live row holds nowhere: its coefficients sum to less than its degree
pub record HasContradiction (d : Derived) : Type 0 where
  pub id : RowNo
  pub row : PlainRow
  pub live : row_of id.0 d.state.live ≡ Some row
  pub contradicts : coef_sum row.terms < row.degree

-- how many rows of pairs aren't held, and by how many pairs the matching can still grow
abbrev pub work_left : ℕ → List PairNo → Derived → ℕ
work_left ceiling pairs d = count_by (λ p. not (is_held d.held (pair_row_no d.lists p))) (numbers_to (pair_count d.lists)) + (ceiling - length pairs)

-- ---- the start

-- the numbers of the rows of the deleted pairs
abbrev pub unit_numbers : Deletions → List ℕ
unit_numbers [] = []
unit_numbers (None ∷ more) = unit_numbers more
unit_numbers (Some id ∷ more) = id.0 ∷ unit_numbers more

-- the numbers of the rows with which a search starts: those of residents and hospitals, of the deleted pairs, of the ceiling, and the row that
-- asks for a matching that is larger than the first one
abbrev pub opening_numbers : Lists → Deletions → RowNo → RowNo → List ℕ
opening_numbers lists gone bound improve = numbers_to (pair_row_no lists 0) ++ (unit_numbers gone ++ bound.0 ∷ improve.0 ∷ [])

-- the derivation holds exactly these rows, and has learned none
pub record HoldsOpening (gone : Deletions) (bound improve : RowNo) (d : Derived) : Type 0 where
  pub pairs : length gone ≡ pair_count d.lists
  pub units : AreUnitRows d.state.live gone
  pub distinct : IsTrue (is_distinct (opening_numbers d.lists gone bound improve))
  pub holds : (n : ℕ) → is_held d.held n ≡ is_in n (opening_numbers d.lists gone bound improve)
  pub unlearned : d.held.learn_notes ≡ 0

-- what a search asks for: a first matching that is shorter than the ceiling, and what was derived before it
pub record CanSearch (gone : Deletions) (ceiling : ℕ) (bound improve : RowNo) (first : List PairNo) (d : Derived) : Type 0 where
  pub ready : IsReady d
  pub opening : HoldsOpening gone bound improve d
  pub found : IsFound first d
  pub shorter : length first < ceiling
  pub few : ceiling ≤ pair_count d.lists
  pub first_held : FirstStayHeld d
  pub top : row_of bound.0 d.state.live ≡ Some (ceiling_row d.lists ceiling)
  pub larger : row_of improve.0 d.state.live ≡ Some (larger_row d.lists (length first))
  pub behind_model : length (rows d.lists) < d.state.next
