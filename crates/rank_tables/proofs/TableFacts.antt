-- What stands in the tables at a place.
use Rattle.std.proofs.Common.{◌≡◌, ℕ, ◌-◌, ◌<◌, List, length, map, get_or, sym, ap, ◌∙◌, subst, arith}
use Rattle.std.specs.List.{All}
use Rattle.std.proofs.lemmas.List.{length-map, get_or-map}
use Rattle.hrt_base.specs.declared.numbered.PairNo.{PairNo}
use Rattle.rank_tables.specs.declared.entry.PairEntry.{PairEntry}
use Rattle.rank_tables.specs.Numbers.{below, numbers_to}
use Rattle.rank_tables.specs.Instance.{Lists, pair_count, pairs_of_resident, pairs_as_listed}
use Rattle.rank_tables.specs.Tables.{AreTables, IsPairNo, numbers_of, entry_of}
use Rattle.rank_tables.proofs.Below.{length-below, length-numbers_to, at_below, at_numbers_to}

pub entries-length : (lists : Lists) (entries : List PairEntry) → entries ≡ map (entry_of lists) (numbers_to (pair_count lists)) →
    length entries ≡ pair_count lists
entries-length lists entries e = ap length e ∙ length-map (numbers_to (pair_count lists)) (entry_of lists) ∙ length-numbers_to (pair_count lists)

pub entry-at : (lists : Lists) (entries : List PairEntry) (p : ℕ) (d : PairEntry) → entries ≡ map (entry_of lists) (numbers_to (pair_count lists)) →
    IsPairNo lists p → get_or entries (p - 1) d ≡ entry_of lists p
entry-at lists entries p d e h =
    ap (λ xs. get_or xs (p - 1) d) e ∙ at_numbers_to (entry_of lists) (pair_count lists) (p - 1) d (omega (arith, h.0, h.1))
    ∙ ap (entry_of lists) (omega (arith, h.0))

-- rows that are, as numbers, what g gives at 0 to n - 1
pub rows-length : (g : ℕ → List ℕ) (n : ℕ) (rows : List (List PairNo)) → map numbers_of rows ≡ map g (below n) → length rows ≡ n
rows-length g n rows e = sym (length-map rows numbers_of) ∙ ap length e ∙ length-map (below n) g ∙ length-below n

pub row-at : (g : ℕ → List ℕ) (n i : ℕ) (rows : List (List PairNo)) (d : List PairNo) → map numbers_of rows ≡ map g (below n) → i < n →
    numbers_of (get_or rows i d) ≡ g i
row-at g n i rows d e h =
    sym (get_or-map numbers_of rows i d (numbers_of d) (omega (arith, rows-length g n rows e)))
    ∙ ap (λ xs. get_or xs i (numbers_of d)) e ∙ at_below g n i (numbers_of d) h

-- what holds of each number holds of each pair number
pub All-numbers_of : (P : ℕ → Type 0) (ps : List PairNo) (ns : List ℕ) → numbers_of ps ≡ ns → All P ns → All (λ p. P p.0) ps
All-numbers_of P ps ns e each k d l =
    let numbers : PairNo → ℕ = λ p. p.0 in
    subst P (get_or-map numbers ps k d d.0 l)
    (subst (All P) (sym e) each k d.0 (omega (arith, length-map ps numbers)))

-- the tables of an instance
pub count-entries : {lists : Lists} {entries : List PairEntry} {rows cols : List (List PairNo)} {n : ℕ} → AreTables lists entries rows cols n →
    length entries ≡ pair_count lists
count-entries {lists} {entries} t = entries-length lists entries t.entries_are

pub entry-of : {lists : Lists} {entries : List PairEntry} {rows cols : List (List PairNo)} {n : ℕ} → AreTables lists entries rows cols n →
    (p : ℕ) (d : PairEntry) → IsPairNo lists p → get_or entries (p - 1) d ≡ entry_of lists p
entry-of {lists} {entries} t p d h = entry-at lists entries p d t.entries_are h

pub count-rows : {lists : Lists} {entries : List PairEntry} {rows cols : List (List PairNo)} {n : ℕ} → AreTables lists entries rows cols n →
    length rows ≡ length lists.residents
count-rows {lists} t = rows-length (pairs_of_resident lists) (length lists.residents) _ t.residents_are

pub count-cols : {lists : Lists} {entries : List PairEntry} {rows cols : List (List PairNo)} {n : ℕ} → AreTables lists entries rows cols n →
    length cols ≡ length lists.hospitals
count-cols {lists} t = rows-length (pairs_as_listed lists) (length lists.hospitals) _ t.hospitals_are

pub row-of : {lists : Lists} {entries : List PairEntry} {rows cols : List (List PairNo)} {n : ℕ} → AreTables lists entries rows cols n →
    (r : ℕ) (d : List PairNo) → r < length lists.residents → numbers_of (get_or rows r d) ≡ pairs_of_resident lists r
row-of {lists} t r d h = row-at (pairs_of_resident lists) (length lists.residents) r _ d t.residents_are h

pub col-of : {lists : Lists} {entries : List PairEntry} {rows cols : List (List PairNo)} {n : ℕ} → AreTables lists entries rows cols n →
    (h : ℕ) (d : List PairNo) → h < length lists.hospitals → numbers_of (get_or cols h d) ≡ pairs_as_listed lists h
col-of {lists} t h d l = row-at (pairs_as_listed lists) (length lists.hospitals) h _ d t.hospitals_are l
