-- What stands once the pairs are deleted and the bound is derived, and then once the first matching is logged.
use Rattle.std.specs.Prelude.{◌≡◌, ◌<◌, ◌≤◌, ◌^◌, ℕ, IsTrue, List, [], ◌∷◌, ◌++◌, length, Option, Some, None}
use Rattle.std.specs.List.{All}
use Rattle.std.specs.List.Sorted.{IsStrictlyIncreasing}
use Rattle.hrt_base.specs.declared.numbered.PairNo.{PairNo}
use Rattle.hrt_base.specs.declared.numbered.RowNo.{RowNo}
use Rattle.pb_rows.specs.Formula.{row_of}
use Rattle.rank_tables.specs.Instance.{Lists, pair_count}
use Rattle.rank_tables.specs.Numbers.{is_distinct, is_in, numbers_to}
use Rattle.rank_tables.specs.Stability.{is_weakly_stable}
use Rattle.rank_tables.specs.Tables.{IsPairNo, numbers_of}
use Rattle.rank_tables.specs.WellFormed.{most_pairs}
use Rattle.stability_model.specs.Model.{pair_row_no}
use Rattle.proof_rules.specs.Held.{is_held}
use Rattle.derivation.specs.Deletions.{AreUnitRows, Deletions}
use Rattle.derivation.specs.Derived.{Derived}
use Rattle.promotion_heuristic.specs.Promotion.{promotion}
use Rattle.lazy_stability.specs.Laws.{FirstStayHeld}
use Rattle.matching_log.specs.Logged.{larger_row, value_of}
use Rattle.pb_search.specs.Knowing.{unit_numbers}
use Rattle.hrt_solve.specs.declared.starting.Started.{Started}
use Rattle.hrt_solve.specs.Gauged.{AreNumbersOf, IsGauged, IsMost}
use Rattle.hrt_solve.specs.Lawful.{IsLawfulWith}

-- ---- the rows that are held

-- the number of the bound row, if there is one
abbrev pub bound_numbers : Option RowNo → List ℕ
bound_numbers None = []
bound_numbers (Some id) = id.0 ∷ []

-- the numbers of the rows of residents and hospitals, of the deleted pairs, and these
abbrev pub numbers_beside : Lists → Deletions → List ℕ → List ℕ
numbers_beside lists gone more = numbers_to (pair_row_no lists 0) ++ (unit_numbers gone ++ more)

-- exactly the rows of residents and hospitals, of the deleted pairs and these are held, each under a number of its own, and none was learned
pub record HoldsBeside (gone : Deletions) (more : List ℕ) (d : Derived) : Type 0 where
  pub pairs : length gone ≡ pair_count d.lists
  pub units : AreUnitRows d.state.live gone
  pub first : FirstStayHeld d
  pub distinct : IsTrue (is_distinct (numbers_beside d.lists gone more))
  pub holds : (n : ℕ) → is_held d.held n ≡ is_in n (numbers_beside d.lists gone more)
  pub unlearned : d.held.learn_notes ≡ 0

-- ---- the first matching

-- so many pairs, rising, are the promotion's matching
pub record IsPromoted (lists : Lists) (pairs : List PairNo) (size : ℕ) : Type 0 where
  pub numbers : All (λ p. IsPairNo lists p.0) pairs
  pub are : numbers_of pairs ≡ promotion lists
  pub rising : IsStrictlyIncreasing (numbers_of pairs)
  pub stable : IsTrue (is_weakly_stable lists (numbers_of pairs))
  pub size_is : size ≡ length pairs

-- The numbers are the instance's, and the promotion's matching was logged. Its value is the only one, and a row asks for a larger one.
pub record IsStarted (lists : Lists) (s : Started) (d : Derived) : Type 0 where
  pub numbers : AreNumbersOf lists s.gauged.end.deleted s.gauged.end.ceiling
  pub most : IsMost lists s.gauged.end.ceiling
  pub few : s.gauged.end.ceiling ≤ pair_count lists
  pub small : s.gauged.end.ceiling ≤ most_pairs
  pub gauged : IsGauged lists s.gauged.end.ceiling s.gauged.row d
  pub lawful : IsLawfulWith lists s.gauged.row d
  pub holds : HoldsBeside s.gauged.gone (bound_numbers s.gauged.row ++ s.larger.0 ∷ []) d
  pub first : IsPromoted lists s.pairs.items s.size
  pub asks : row_of s.larger.0 d.state.live ≡ Some (larger_row lists s.size)
  pub least : d.state.least ≡ Some (value_of s.size)
  pub next : d.state.next < 10 ^ 18
