-- The canonical spelling of distinct pairs has no refusal, and spells these pairs.
use Rattle.std.proofs.Common.{◌≡◌, ℕ, zero, suc, ◌+◌, ◌<◌, true, false, not, eqb, All, List, [], ◌∷◌, ◌++◌, length, map, get_or, take, drop, Option, Some, None, refl, sym, ap, ap₂, subst, ◌∙◌, append_assoc, arith}
use Rattle.std.specs.Prelude.{codes, flat_map, is_some}
use Rattle.std.specs.List.{AllByRecursion}
use Rattle.std.proofs.lemmas.Bool.{and_parts, and_from, or_parts, or_from}
use Rattle.std.proofs.lemmas.List.{append-nil, length-map, drop_more}
use Rattle.std.proofs.lemmas.List.Elements.{All-head, All-tail, All-map}
use Rattle.rank_tables.specs.Instance.{Lists, pair_at, pair_no, resident_names, hospital_names}
use Rattle.rank_tables.specs.Names.{is_among}
use Rattle.rank_tables.specs.Numbers.{is_in, is_distinct}
use Rattle.rank_tables.specs.Tables.{IsPairNo, numbers_of}
use Rattle.hrt_base.specs.declared.numbered.PairNo.{PairNo}
use Rattle.rank_tables.specs.WellFormed.{IsWellFormed, names_of_residents, names_of_hospitals}
use Rattle.rank_tables.specs.declared.draft.DraftResident.{DraftResident}
use Rattle.rank_tables.specs.declared.draft.DraftHospital.{DraftHospital}
use Rattle.rank_tables.proofs.PairFacts.{pair_at-acceptable, pair_no-is}
use Rattle.rank_tables.proofs.Unique.{pairs-apart, pair_no-acceptable}
use Rattle.hrt_text.specs.Text.{Token, word, tokens, Row, rows}
use Rattle.hrt_text.proofs.Among.{not_true}
use Rattle.hrt_text.proofs.Words.{IsWord, tokens_word}
use Rattle.hrt_reader.specs.Spelling.{name_at}
use Rattle.hrt_reader.specs.PairsText.{pair, pair_named, pairs_of_rows, pairs_refusal, unknown_in_pair, pair_kind_in, pair_text, pairs_spelling, SpellsPairs}
use Rattle.hrt_reader.proofs.Numbers.{number_name, name_among}
use Rattle.hrt_reader.proofs.PairKinds.{AreFine, kind_pair, pair_in_place, pairs_accepted, both_found, eqb-turned}
use Rattle.hrt_reader.proofs.SpelledItems.{word_at}
use Rattle.hrt_text.proofs.PlainLines.{IsPlain, lines_back, plain_append}
use Rattle.hrt_reader.proofs.SpelledRows.{are_words}
use Rattle.hrt_reader.proofs.WrittenLines.{ended_by_feeds}

-- ---- a pair and its names

some_is : (o : Option ℕ) → is_some o ≡ true → (x : ℕ) × (o ≡ Some x)
some_is None h = absurd cc
some_is (Some x) h = (x, refl)

own_number : (lists : Lists) (p : ℕ) → IsWellFormed lists → IsPairNo lists p → pair_no lists (pair_at lists p).resident (pair_at lists p).hospital ≡ Some p
own_number lists p wf h =
    let r : ℕ = (pair_at lists p).resident in
    let s : ℕ = (pair_at lists p).hospital in
    let a = pair_at-acceptable lists p h in
    let found = some_is (pair_no lists r s) (pair_no-acceptable lists r s ∙ and_from (resident_names lists r s) (hospital_names lists s r) a.names_hospital a.names_resident) in
    let is = pair_no-is lists r s found.0 found.1 in
    found.1 ∙ ap (λ (q : ℕ). Some q) (pairs-apart lists wf found.0 p is.0 h is.1 is.2)

abbrev pub resident_of : Lists → ℕ → List ℕ
resident_of lists p = name_at (names_of_residents lists) (pair_at lists p).resident

abbrev pub hospital_of : Lists → ℕ → List ℕ
hospital_of lists p = name_at (names_of_hospitals lists) (pair_at lists p).hospital

record IsGood (lists : Lists) (p : ℕ) : Type 0 where
  resident : IsWord (resident_of lists p)
  hospital : IsWord (hospital_of lists p)
  known : unknown_in_pair lists (pair (resident_of lists p) (hospital_of lists p)) ≡ false
  number : pair_named lists (resident_of lists p) (hospital_of lists p) ≡ Some p

good_pair : (lists : Lists) (p : ℕ) → IsWellFormed lists → IsPairNo lists p → IsGood lists p
good_pair lists p wf h =
    let rs : List (List ℕ) = names_of_residents lists in
    let hs : List (List ℕ) = names_of_hospitals lists in
    let r : ℕ = (pair_at lists p).resident in
    let s : ℕ = (pair_at lists p).hospital in
    let a = pair_at-acceptable lists p h in
    let lr : r < length rs = omega (arith, length-map lists.residents (λ (x : DraftResident). x.name), a.resident_declared) in
    let ls : s < length hs = omega (arith, length-map lists.hospitals (λ (x : DraftHospital). x.name), a.hospital_declared) in
    record {
      resident = word_at rs r (are_words rs wf.resident_names) lr;
      hospital = word_at hs s (are_words hs wf.hospital_names) ls;
      known = both_found (is_among (name_at rs r) rs) (is_among (name_at hs s) hs) (name_among rs r lr) (name_among hs s ls);
      number = ap₂ (pair_no lists) (number_name rs r wf.residents_apart lr) (number_name hs s wf.hospitals_apart ls) ∙ own_number lists p wf h;
    }

good_pairs : (lists : Lists) (ps : List ℕ) → IsWellFormed lists → All (IsPairNo lists) ps → AllByRecursion (IsGood lists) ps
good_pairs lists [] wf h = tt
good_pairs lists (p ∷ ps) wf h = (good_pair lists p wf (All-head (IsPairNo lists) p ps h), good_pairs lists ps wf (All-tail (IsPairNo lists) p ps h))

-- ---- rows

abbrev pair_row : Lists → ℕ → Row
pair_row lists p = word (codes "pair") ∷ word (resident_of lists p) ∷ word (hospital_of lists p) ∷ []

tokens_pair : (lists : Lists) (p : ℕ) → IsGood lists p → tokens (pair_text lists p) ≡ pair_row lists p
tokens_pair lists p good =
    ap (λ (ts : List Token). word (codes "pair") ∷ ts) (tokens_word (resident_of lists p) (32 ∷ hospital_of lists p) good.resident refl)
    ∙ ap (λ (l : List ℕ). word (codes "pair") ∷ word (resident_of lists p) ∷ tokens l) (sym (append-nil (hospital_of lists p)))
    ∙ ap (λ (ts : List Token). word (codes "pair") ∷ word (resident_of lists p) ∷ ts) (tokens_word (hospital_of lists p) [] good.hospital refl)

plain_pair : (lists : Lists) (p : ℕ) → IsGood lists p → IsPlain (pair_text lists p)
plain_pair lists p good = plain_append (resident_of lists p) (32 ∷ hospital_of lists p) good.resident.plain good.hospital.plain

pairs_tokens : (lists : Lists) (ps : List ℕ) → AllByRecursion (IsGood lists) ps → map tokens (map (pair_text lists) ps) ≡ map (pair_row lists) ps
pairs_tokens lists [] good = refl
pairs_tokens lists (p ∷ ps) good = ap₂ (λ (row : Row) (l : List Row). row ∷ l) (tokens_pair lists p good.0) (pairs_tokens lists ps good.1)

pairs_plain : (lists : Lists) (ps : List ℕ) → AllByRecursion (IsGood lists) ps → AllByRecursion IsPlain (map (pair_text lists) ps)
pairs_plain lists [] good = tt
pairs_plain lists (p ∷ ps) good = (plain_pair lists p good.0, pairs_plain lists ps good.1)

rows_pairs : (lists : Lists) (ps : List ℕ) → AllByRecursion (IsGood lists) ps → rows (pairs_spelling lists ps) ≡ map (pair_row lists) ps
rows_pairs lists ps good =
    ap rows (sym (ended_by_feeds (pair_text lists) ps)) ∙ ap (map tokens) (lines_back (map (pair_text lists) ps) (pairs_plain lists ps good)) ∙ pairs_tokens lists ps good

-- ---- no kind, and the pairs

pairs_said : (lists : Lists) (ps : List ℕ) → AllByRecursion (IsGood lists) ps → pairs_of_rows lists (map (pair_row lists) ps) ≡ ps
pairs_said lists [] good = refl
pairs_said lists (p ∷ ps) good = rw good.0.number (ap (λ (l : List ℕ). p ∷ l) (pairs_said lists ps good.1))

good_taken : (lists : Lists) (ps : List ℕ) (k : ℕ) → AllByRecursion (IsGood lists) ps → AllByRecursion (IsGood lists) (take k ps)
good_taken lists [] zero good = tt
good_taken lists [] (suc k) good = tt
good_taken lists (p ∷ ps) zero good = tt
good_taken lists (p ∷ ps) (suc k) good = (good.0, good_taken lists ps k good.1)

good_at : (lists : Lists) (ps : List ℕ) (k : ℕ) → AllByRecursion (IsGood lists) ps → k < length ps → IsGood lists (get_or ps k 0)
good_at lists [] k good lt = absurd (omega arith)
good_at lists (p ∷ ps) zero good lt = good.0
good_at lists (p ∷ ps) (suc k) good lt = good_at lists ps k good.1 (omega arith)

row_at : (lists : Lists) (ps : List ℕ) (k : ℕ) → k < length ps → get_or (map (pair_row lists) ps) k [] ≡ pair_row lists (get_or ps k 0)
row_at lists [] k lt = absurd (omega arith)
row_at lists (p ∷ ps) zero lt = refl
row_at lists (p ∷ ps) (suc k) lt = row_at lists ps k (omega arith)

rows_taken : (lists : Lists) (ps : List ℕ) (k : ℕ) → take k (map (pair_row lists) ps) ≡ map (pair_row lists) (take k ps)
rows_taken lists [] zero = refl
rows_taken lists [] (suc k) = refl
rows_taken lists (p ∷ ps) zero = refl
rows_taken lists (p ∷ ps) (suc k) = ap (λ (l : List Row). pair_row lists p ∷ l) (rows_taken lists ps k)

other_at : (x : ℕ) (ps : List ℕ) (k : ℕ) → is_in x ps ≡ false → k < length ps → eqb (get_or ps k 0) x ≡ false
other_at x [] k h lt = absurd (omega arith)
other_at x (p ∷ ps) zero h lt = (or_parts (eqb p x) (is_in x ps) h).0
other_at x (p ∷ ps) (suc k) h lt = other_at x ps k (or_parts (eqb p x) (is_in x ps) h).1 (omega arith)

new_at : (ps : List ℕ) (k : ℕ) → is_distinct ps ≡ true → k < length ps → is_in (get_or ps k 0) (take k ps) ≡ false
new_at [] k h lt = absurd (omega arith)
new_at (p ∷ ps) zero h lt = refl
new_at (p ∷ ps) (suc k) h lt =
    let t = and_parts (not (is_in p ps)) (is_distinct ps) h in
    or_from (eqb p (get_or ps k 0)) (is_in (get_or ps k 0) (take k ps)) (eqb-turned p (get_or ps k 0) ∙ other_at p ps k (not_true _ t.0) (omega arith)) (new_at ps k t.1 (omega arith))

fine_at : (lists : Lists) (ps : List ℕ) (k : ℕ) → AllByRecursion (IsGood lists) ps → is_distinct ps ≡ true → k < length ps → pair_kind_in lists (map (pair_row lists) ps) (suc k) ≡ None
fine_at lists ps k good distinct lt =
    let all : List Row = map (pair_row lists) ps in
    let p : ℕ = get_or ps k 0 in
    let within : k < length all = omega (arith, length-map ps (pair_row lists)) in
    let e : drop k all ≡ pair_row lists p ∷ drop (k + 1) all = drop_more all k [] within ∙ ap (λ (row : Row). row ∷ drop (k + 1) all) (row_at lists ps k lt) in
    let before : pairs_of_rows lists (take k all) ≡ take k ps = ap (pairs_of_rows lists) (rows_taken lists ps k) ∙ pairs_said lists (take k ps) (good_taken lists ps k good) in
    let own = good_at lists ps k good lt in
    pair_in_place lists all k (pair_row lists p) (drop (k + 1) all) e
    ∙ kind_pair lists (take k all) (resident_of lists p) (hospital_of lists p) p false own.known own.number (ap (is_in p) before ∙ new_at ps k distinct lt)

pub pairs_spelled_back : (lists : Lists) (ps : List ℕ) → IsWellFormed lists → All (IsPairNo lists) ps → is_distinct ps ≡ true → SpellsPairs lists (pairs_spelling lists ps) ps
pairs_spelled_back lists ps wf range distinct =
    let good = good_pairs lists ps wf range in
    let all : List Row = map (pair_row lists) ps in
    let is : rows (pairs_spelling lists ps) ≡ all = rows_pairs lists ps good in
    let fine : AreFine lists all (length all) = λ (k : ℕ) (lt : k < length all). fine_at lists ps k good distinct (omega (arith, length-map ps (pair_row lists))) in
    record {
      accepted = subst (λ (l : List Row). pairs_refusal lists l ≡ None) (sym is) (pairs_accepted lists all fine);
      says = ap (pairs_of_rows lists) is ∙ pairs_said lists ps good;
    }

-- ---- the pieces that are written

pub pair_pieces : (resident hospital : List ℕ) → codes "pair " ++ (resident ++ 32 ∷ (hospital ++ 10 ∷ [])) ≡ (codes "pair " ++ (resident ++ 32 ∷ hospital)) ++ 10 ∷ []
pair_pieces resident hospital = ap (λ (l : List ℕ). codes "pair " ++ l) (sym (append_assoc resident (32 ∷ hospital) (10 ∷ [])))

abbrev pub line_of : Lists → PairNo → List ℕ
line_of lists p = pair_text lists p.0 ++ 10 ∷ []

pub lines_of : (lists : Lists) (ps : List PairNo) → flat_map (line_of lists) ps ≡ pairs_spelling lists (numbers_of ps)
lines_of lists [] = refl
lines_of lists (p ∷ ps) = ap (λ (l : List ℕ). line_of lists p ++ l) (lines_of lists ps)

pub spelled_back : (lists : Lists) (ps : List PairNo) → All (λ p. IsPairNo lists p.0) ps → is_distinct (numbers_of ps) ≡ true → IsWellFormed lists
    → SpellsPairs lists (pairs_spelling lists (numbers_of ps)) (numbers_of ps)
spelled_back lists ps range distinct wf = pairs_spelled_back lists (numbers_of ps) wf (All-map (IsPairNo lists) (λ (p : PairNo). p.0) ps range) distinct
