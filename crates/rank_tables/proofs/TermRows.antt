-- The rows of an instance's tables are such as the count of terms asks for.
use Rattle.std.proofs.Common.{◌≡◌, ℕ, ◌-◌, ◌≤◌, ◌<◌, List, [], ◌∷◌, ◌==◌, length, map, get_or, sum_by, refl, sym, ap, ◌∙◌, subst, inl, inr, arith}
use Rattle.std.specs.List.{All}
use Rattle.std.proofs.lemmas.Bool.{cases_lt}
use Rattle.std.proofs.lemmas.List.{length-map, get_or_past}
use Rattle.std.proofs.lemmas.List.Elements.{All-nil}
use Rattle.hrt_base.specs.declared.numbered.PairNo.{PairNo}
use Rattle.rank_tables.specs.declared.entry.PairEntry.{PairEntry}
use Rattle.rank_tables.specs.declared.terms.Ranked.{Ranked}
use Rattle.rank_tables.specs.declared.terms.Side.{Side}
use Rattle.rank_tables.specs.declared.terms.Side.TheVariants.{Resident, Hospital}
use Rattle.rank_tables.specs.Numbers.{below, numbers_to}
use Rattle.rank_tables.specs.Instance.{Lists, pair_at, pair_count, pairs_of_resident, pairs_as_listed}
use Rattle.rank_tables.specs.WellFormed.{most_pairs}
use Rattle.rank_tables.specs.Tables.{AreTables, IsPairNo, numbers_of}
use Rattle.rank_tables.specs.Counting.{no_entry, ranked_of, ranked_row, IsEntryNo, IsRising}
use Rattle.rank_tables.proofs.Below.{length-numbers_to}
use Rattle.rank_tables.proofs.OneSided.{sum_same}
use Rattle.rank_tables.proofs.PairFacts.{pairs_of_resident-each, pairs_as_listed-each}
use Rattle.rank_tables.proofs.RankOrder.{IsRising-map, resident_rises, hospital_rises}
use Rattle.rank_tables.proofs.Ranks.{map_agree}
use Rattle.rank_tables.proofs.SamePairs.{filter-le, listed-length}
use Rattle.rank_tables.proofs.TableFacts.{All-numbers_of, count-entries, count-rows, count-cols, entry-of, row-of, col-of}
use Rattle.rank_tables.proofs.TermTotal.{pair_ranked}

-- what is known of one row
pub record Fits (side : Side) (lists : Lists) (entries : List PairEntry) (row : List PairNo) : Type 0 where
  pub numbers : All (IsEntryNo entries) row
  pub rising : IsRising 0 (ranked_row side lists.hospitals entries row)
  pub short : length row ≤ most_pairs

none_fits : (side : Side) (lists : Lists) (entries : List PairEntry) → Fits side lists entries []
none_fits side lists entries = record { numbers = All-nil (IsEntryNo entries); rising = tt; short = omega arith }

map_numbers_of : (f : ℕ → Ranked) (ps : List PairNo) → map (λ (p : PairNo). f p.0) ps ≡ map f (numbers_of ps)
map_numbers_of f [] = refl
map_numbers_of f (p ∷ ps) = ap (λ xs. f p.0 ∷ xs) (map_numbers_of f ps)

-- a row of the tables as a side ranks it
ranked_as : {entries : List PairEntry} {rows cols : List (List PairNo)} {n : ℕ} (side : Side) (lists : Lists) → AreTables lists entries rows cols n →
    (row : List PairNo) → All (λ p. IsPairNo lists p.0) row → ranked_row side lists.hospitals entries row ≡ map (pair_ranked side lists) (numbers_of row)
ranked_as {entries} side lists t row each =
    map_agree (λ (p : PairNo). ranked_of side lists.hospitals (get_or entries (p.0 - 1) no_entry)) (λ (p : PairNo). pair_ranked side lists p.0) row
    (λ k d l. ap (ranked_of side lists.hospitals) (entry-of t (get_or row k d).0 no_entry (each k d l)))
    ∙ map_numbers_of (pair_ranked side lists) row

entry_numbers : {entries : List PairEntry} {rows cols : List (List PairNo)} {n : ℕ} (lists : Lists) → AreTables lists entries rows cols n →
    (row : List PairNo) → All (λ p. IsPairNo lists p.0) row → All (IsEntryNo entries) row
entry_numbers lists t row each = λ k d l. let number = each k d l in (number.0, omega (arith, number.1, count-entries t))

resident_each : {entries : List PairEntry} {rows cols : List (List PairNo)} {n : ℕ} (lists : Lists) → AreTables lists entries rows cols n →
    (r : ℕ) → r < length lists.residents → All (λ p. IsPairNo lists p.0) (get_or rows r [])
resident_each {rows = rows} lists t r l =
    All-numbers_of (IsPairNo lists) (get_or rows r []) (pairs_of_resident lists r) (row-of t r [] l) (λ k d m. (pairs_of_resident-each lists r k d m).number)

hospital_each : {entries : List PairEntry} {rows cols : List (List PairNo)} {n : ℕ} (lists : Lists) → AreTables lists entries rows cols n →
    (h : ℕ) → h < length lists.hospitals → All (λ p. IsPairNo lists p.0) (get_or cols h [])
hospital_each {cols = cols} lists t h l =
    All-numbers_of (IsPairNo lists) (get_or cols h []) (pairs_as_listed lists h) (col-of t h [] l) (λ k d m. (pairs_as_listed-each lists h k d m).number)

pub resident_ranking : {entries : List PairEntry} {rows cols : List (List PairNo)} {n : ℕ} (lists : Lists) → AreTables lists entries rows cols n →
    (r : ℕ) → r < length lists.residents → ranked_row Resident lists.hospitals entries (get_or rows r []) ≡ map (pair_ranked Resident lists) (pairs_of_resident lists r)
resident_ranking {rows = rows} lists t r l =
    ranked_as Resident lists t (get_or rows r []) (resident_each lists t r l) ∙ ap (map (pair_ranked Resident lists)) (row-of t r [] l)

pub hospital_ranking : {entries : List PairEntry} {rows cols : List (List PairNo)} {n : ℕ} (lists : Lists) → AreTables lists entries rows cols n →
    (h : ℕ) → h < length lists.hospitals → ranked_row Hospital lists.hospitals entries (get_or cols h []) ≡ map (pair_ranked Hospital lists) (pairs_as_listed lists h)
hospital_ranking {cols = cols} lists t h l =
    ranked_as Hospital lists t (get_or cols h []) (hospital_each lists t h l) ∙ ap (map (pair_ranked Hospital lists)) (col-of t h [] l)

pub fit_residents : {entries : List PairEntry} {rows cols : List (List PairNo)} {n : ℕ} (lists : Lists) → AreTables lists entries rows cols n →
    (r : ℕ) → Fits Resident lists entries (get_or rows r [])
fit_residents {entries} {rows} lists t r = elim (cases_lt r (length lists.residents)) [
  | inl declared ↦ record {
    numbers = entry_numbers lists t (get_or rows r []) (resident_each lists t r declared);
    rising = subst (IsRising 0) (sym (resident_ranking lists t r declared)) (IsRising-map (pair_ranked Resident lists) 0 (pairs_of_resident lists r) (resident_rises lists t.well_formed r declared));
    short =
        omega (
          arith,
          length-map (get_or rows r []) (λ (p : PairNo). p.0),
          ap length (row-of t r [] declared),
          filter-le (λ p. (pair_at lists p).resident == r) (numbers_to (pair_count lists)),
          length-numbers_to (pair_count lists),
          t.few_pairs,
        );
  }
  | inr past ↦ subst (Fits Resident lists entries) (sym (get_or_past rows r [] (omega (arith, count-rows t)))) (none_fits Resident lists entries)
]

pub fit_hospitals : {entries : List PairEntry} {rows cols : List (List PairNo)} {n : ℕ} (lists : Lists) → AreTables lists entries rows cols n →
    (h : ℕ) → Fits Hospital lists entries (get_or cols h [])
fit_hospitals {entries} {cols = cols} lists t h = elim (cases_lt h (length lists.hospitals)) [
  | inl declared ↦ record {
    numbers = entry_numbers lists t (get_or cols h []) (hospital_each lists t h declared);
    rising = subst (IsRising 0) (sym (hospital_ranking lists t h declared)) (IsRising-map (pair_ranked Hospital lists) 0 (pairs_as_listed lists h) (hospital_rises lists t.well_formed h));
    short =
        omega (
          arith,
          length-map (get_or cols h []) (λ (p : PairNo). p.0),
          ap length (col-of t h [] declared),
          listed-length lists t.well_formed h,
          filter-le (λ p. (pair_at lists p).hospital == h) (numbers_to (pair_count lists)),
          length-numbers_to (pair_count lists),
          t.few_pairs,
        );
  }
  | inr past ↦ subst (Fits Hospital lists entries) (sym (get_or_past cols h [] (omega (arith, count-cols t)))) (none_fits Hospital lists entries)
]

-- sums over the rows, as sums over the pairs that they name
pub residents_sum : {entries : List PairEntry} {rows cols : List (List PairNo)} {n : ℕ} (lists : Lists) → AreTables lists entries rows cols n → (f : List Ranked → ℕ) (m : ℕ) →
    m ≡ length lists.residents → sum_by (λ k. f (ranked_row Resident lists.hospitals entries (get_or rows k []))) (below m)
    ≡ sum_by (λ k. f (map (pair_ranked Resident lists) (pairs_of_resident lists k))) (below (length lists.residents))
residents_sum {entries} {rows} lists t f m e =
    ap (λ k. sum_by (λ k. f (ranked_row Resident lists.hospitals entries (get_or rows k []))) (below k)) e
    ∙ sum_same (λ k. f (ranked_row Resident lists.hospitals entries (get_or rows k []))) (λ k. f (map (pair_ranked Resident lists) (pairs_of_resident lists k))) (length lists.residents)
    (λ k l. ap f (resident_ranking lists t k l))

pub hospitals_sum : {entries : List PairEntry} {rows cols : List (List PairNo)} {n : ℕ} (lists : Lists) → AreTables lists entries rows cols n → (f : List Ranked → ℕ) (m : ℕ) →
    m ≡ length lists.hospitals → sum_by (λ k. f (ranked_row Hospital lists.hospitals entries (get_or cols k []))) (below m)
    ≡ sum_by (λ k. f (map (pair_ranked Hospital lists) (pairs_as_listed lists k))) (below (length lists.hospitals))
hospitals_sum {entries} {cols = cols} lists t f m e =
    ap (λ k. sum_by (λ k. f (ranked_row Hospital lists.hospitals entries (get_or cols k []))) (below k)) e
    ∙ sum_same (λ k. f (ranked_row Hospital lists.hospitals entries (get_or cols k []))) (λ k. f (map (pair_ranked Hospital lists) (pairs_as_listed lists k))) (length lists.hospitals)
    (λ k l. ap f (hospital_ranking lists t k l))
