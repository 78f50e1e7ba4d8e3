-- The rows that are made from the entries are those of the instance.
use Rattle.std.proofs.Common.{◌≡◌, ℕ, ◌<◌, List, [], ◌∷◌, length, map, get_or, refl, sym, ap, ◌∙◌, arith}
use Rattle.std.specs.List.{All}
use Rattle.std.proofs.lemmas.List.{length-map}
use Rattle.std.proofs.lemmas.List.Elements.{All-same, All-map}
use Rattle.hrt_base.specs.declared.numbered.PairNo.{PairNo}
use Rattle.rank_tables.specs.declared.entry.PairEntry.{PairEntry}
use Rattle.rank_tables.specs.declared.marks.Mark.{Mark}
use Rattle.rank_tables.specs.Numbers.{below, numbers_to}
use Rattle.rank_tables.specs.Instance.{Lists, Pair, pairs, pair_count, pair_at, groups_of_hospital, pairs_of_resident, rising_pairs_of_hospital, pairs_as_listed}
use Rattle.rank_tables.specs.WellFormed.{IsWellFormed}
use Rattle.rank_tables.specs.Tables.{numbers_of, entry_of}
use Rattle.rank_tables.specs.Building.{mark_of, numbers_with, marks_with, numbered}
use Rattle.rank_tables.proofs.Below.{numbers_to-within}
use Rattle.rank_tables.proofs.PairFacts.{pair_at-acceptable, rising_pairs_of_hospital-each}
use Rattle.rank_tables.proofs.TableFacts.{row-at}
use Rattle.rank_tables.proofs.TablesMade.{kept_of, entries-made, numbers_with-residents, marks_of_hospital, marks_with-hospitals, listed-made, map_same}

pub record IsDeclared (lists : Lists) (entry : PairEntry) : Type 0 where
  pub resident : entry.resident < length lists.residents
  pub hospital : entry.hospital < length lists.hospitals

-- the entries are of declared residents and hospitals
pub entries-declared : (lists : Lists) (entries : List PairEntry) → entries ≡ map (entry_of lists) (numbers_to (pair_count lists)) → All (IsDeclared lists) entries
entries-declared lists entries e =
    All-same (IsDeclared lists) entries (map (entry_of lists) (numbers_to (pair_count lists))) e
    (All-map (IsDeclared lists) (entry_of lists) (numbers_to (pair_count lists)) (λ k d l.
    let known = pair_at-acceptable lists (get_or (numbers_to (pair_count lists)) k d) (numbers_to-within (pair_count lists) (pair_count lists) (omega arith) k d l) in
    record { resident = known.resident_declared; hospital = known.hospital_declared }))

residents_kept : (lists : Lists) (qs : List Pair) → map (λ (e : PairEntry). e.resident) (map (kept_of lists) qs) ≡ map (λ (q : Pair). q.resident) qs
residents_kept lists [] = refl
residents_kept lists (q ∷ qs) = ap (λ rs. q.resident ∷ rs) (residents_kept lists qs)

hospitals_kept : (lists : Lists) (qs : List Pair) → map (λ (e : PairEntry). e.hospital) (map (kept_of lists) qs) ≡ map (λ (q : Pair). q.hospital) qs
hospitals_kept lists [] = refl
hospitals_kept lists (q ∷ qs) = ap (λ hs. q.hospital ∷ hs) (hospitals_kept lists qs)

residents_of : (lists : Lists) (entries : List PairEntry) → entries ≡ map (entry_of lists) (numbers_to (pair_count lists)) →
    map (λ (e : PairEntry). e.resident) entries ≡ map (λ (q : Pair). q.resident) (pairs lists)
residents_of lists entries e = ap (map (λ (e : PairEntry). e.resident)) (e ∙ sym (entries-made lists)) ∙ residents_kept lists (pairs lists)

hospitals_of : (lists : Lists) (entries : List PairEntry) → entries ≡ map (entry_of lists) (numbers_to (pair_count lists)) →
    map (λ (e : PairEntry). e.hospital) entries ≡ map (λ (q : Pair). q.hospital) (pairs lists)
hospitals_of lists entries e = ap (map (λ (e : PairEntry). e.hospital)) (e ∙ sym (entries-made lists)) ∙ hospitals_kept lists (pairs lists)

-- the numbers of a resident's entries, and the marks of a hospital's
pub numbers-made : (lists : Lists) (entries : List PairEntry) → entries ≡ map (entry_of lists) (numbers_to (pair_count lists)) → (r : ℕ) →
    numbers_with (map (λ (e : PairEntry). e.resident) entries) r ≡ pairs_of_resident lists r
numbers-made lists entries e r = ap (λ values. numbers_with values r) (residents_of lists entries e) ∙ numbers_with-residents lists r

pub marks-made : (lists : Lists) (entries : List PairEntry) → entries ≡ map (entry_of lists) (numbers_to (pair_count lists)) → (h : ℕ) →
    marks_with (map (λ (e : PairEntry). e.resident) entries) (map (λ (e : PairEntry). e.hospital) entries) h ≡ marks_of_hospital lists h
marks-made lists entries e h =
    ap (λ keys. marks_with keys (map (λ (e : PairEntry). e.hospital) entries) h) (residents_of lists entries e)
    ∙ ap (λ values. marks_with (map (λ (q : Pair). q.resident) (pairs lists)) values h) (hospitals_of lists entries e) ∙ marks_with-hospitals lists h

pub marks-declared : (lists : Lists) (h : ℕ) → All (λ (m : Mark). m.number < length lists.residents) (marks_of_hospital lists h)
marks-declared lists h =
    All-map (λ (m : Mark). m.number < length lists.residents) (λ p. mark_of (pair_at lists p).resident p) (rising_pairs_of_hospital lists h)
    (λ k d l. (pair_at-acceptable lists (get_or (rising_pairs_of_hospital lists h) k d) (rising_pairs_of_hospital-each lists h k d l).number).resident_declared)

-- the hospitals' rows of numbers, by their marks
pub columns-made : (lists : Lists) → IsWellFormed lists → (marks : ℕ → List Mark) → ((h : ℕ) → marks h ≡ marks_of_hospital lists h) →
    map (λ h. numbered (groups_of_hospital lists h) (marks h)) (below (length lists.hospitals)) ≡ map (pairs_as_listed lists) (below (length lists.hospitals))
columns-made lists w marks e =
    map_same (λ h. numbered (groups_of_hospital lists h) (marks h)) (pairs_as_listed lists)
    (λ h. ap (numbered (groups_of_hospital lists h)) (e h) ∙ listed-made lists w h) (below (length lists.hospitals))

pub column-length : (lists : Lists) (columns : List (List PairNo)) → map numbers_of columns ≡ map (pairs_as_listed lists) (below (length lists.hospitals)) →
    (h : ℕ) → h < length lists.hospitals → length (get_or columns h []) ≡ length (pairs_as_listed lists h)
column-length lists columns e h l =
    sym (length-map (get_or columns h []) (λ (p : PairNo). p.0)) ∙ ap length (row-at (pairs_as_listed lists) (length lists.hospitals) h columns [] e l)
