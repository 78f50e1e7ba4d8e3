-- The note of a load has a spelling that isn't too long, since an instance has few pairs and its model few rows.
use Rattle.std.proofs.Common.{◌≡◌, ℕ, ◌+◌, ◌*◌, ◌-◌, ◌<◌, ◌≤◌, ◌^◌, true, nat_le, List, [], ◌∷◌, ◌++◌, length, map, refl, arith, length-append}
use Rattle.std.specs.Prelude.{codes, decimal}
use Rattle.std.specs.List.{All, list_all}
use Rattle.std.proofs.lemmas.Bool.{and_from, le-leb}
use Rattle.std.proofs.lemmas.Fmt.{length-decimal-le}
use Rattle.std.proofs.lemmas.List.Elements.{All-cons, All-head, All-nil, All-tail}
use Rattle.std.proofs.lemmas.List.{length-map}
use Rattle.std.proofs.lemmas.List.Elements.{All-filter}
use Rattle.std.proofs.lemmas.List.Sums.{count_by-le-length, length-filter}
use Rattle.hrt_base.specs.declared.numbered.PairNo.{PairNo}
use Rattle.hrt_base.specs.declared.numbered.RowNo.{RowNo}
use Rattle.rank_tables.specs.Numbers.{is_distinct, numbers_to}
use Rattle.rank_tables.specs.Instance.{Lists, pair_count}
use Rattle.rank_tables.specs.Tables.{IsPairNo, numbers_of}
use Rattle.rank_tables.proofs.Below.{length-numbers_to, numbers_to-within}
use Rattle.rank_tables.proofs.ListFacts.{length-distinct}
use Rattle.stability_model.specs.Model.{pair_row_no, pairs_of_point, rows}
use Rattle.stability_model.proofs.Growing.{rows_count}
use Rattle.pb_rows.specs.Points.{Point}
use Rattle.row_text.specs.Tokens.{spaced}
use Rattle.proof_lines.specs.declared.note.Note.TheVariants.{Load}
use Rattle.proof_lines.specs.Spelling.{most_bytes, row_no}
use Rattle.lazy_stability.specs.Loads.{load_note, row_numbers_of}
use Rattle.proof_lines.specs.Texts.{id_text, is_spellable_id, is_spellable_note, is_spellable_variable, is_nonempty_and_all, note_text, variable_text}

-- ---- lengths

spaced-append : (xs ys : List (List ℕ)) → length (spaced (xs ++ ys)) ≡ length (spaced xs) + length (spaced ys)
spaced-append [] ys = omega arith
spaced-append (x ∷ xs) ys =
    let more = spaced-append xs ys in
    omega (arith, more, length-append x (spaced (xs ++ ys)), length-append x (spaced xs))

variables_length : (vs : List ℕ) → All (λ (v : ℕ). (1 ≤ v) × (v ≤ 140000)) vs → length (spaced (map variable_text vs)) ≤ 8 * length vs
variables_length [] h = omega arith
variables_length (v ∷ vs) h =
    let more = variables_length vs (All-tail (λ (x : ℕ). (1 ≤ x) × (x ≤ 140000)) v vs h) in
    let here : (1 ≤ v) × (v ≤ 140000) = All-head (λ (x : ℕ). (1 ≤ x) × (x ≤ 140000)) v vs h in
    omega (arith, more, length-append (variable_text v) (spaced (map variable_text vs)), length-append (codes "x") (decimal v), length-decimal-le 6 v (omega arith) (omega (arith, here.1)) (omega arith))

ids_length : (ids : List RowNo) → All (λ (id : RowNo). (1 ≤ id.0) × (id.0 ≤ 140000)) ids → length (spaced (map id_text ids)) ≤ 7 * length ids
ids_length [] h = omega arith
ids_length (id ∷ ids) h =
    let more = ids_length ids (All-tail (λ (x : RowNo). (1 ≤ x.0) × (x.0 ≤ 140000)) id ids h) in
    let here : (1 ≤ id.0) × (id.0 ≤ 140000) = All-head (λ (x : RowNo). (1 ≤ x.0) × (x.0 ≤ 140000)) id ids h in
    omega (arith, more, length-append (id_text id) (spaced (map id_text ids)), length-decimal-le 6 id.0 (omega arith) (omega (arith, here.1)) (omega arith))

load_short : (trues : List ℕ) (ids : List RowNo) → length trues ≤ 140001 → length ids ≤ 140001 → All (λ (v : ℕ). (1 ≤ v) × (v ≤ 140000)) trues → All (λ (id : RowNo). (1 ≤ id.0) × (id.0 ≤ 140000)) ids → length (note_text (Load trues ids)) ≤ most_bytes
load_short trues ids a b v r =
    let vs : List (List ℕ) = map variable_text trues in
    let is : List (List ℕ) = map id_text ids in
    let behind = spaced-append vs (codes ":" ∷ is) in
    let last = length-append (codes "*" ++ spaced (codes "note" ∷ codes "load" ∷ (vs ++ codes ":" ∷ is))) (10 ∷ []) in
    omega (arith, a, b, variables_length trues v, ids_length ids r, behind, last)

-- ---- spelling

variables_made : (vs : List ℕ) → All (λ (v : ℕ). (1 ≤ v) × (v ≤ 140000)) vs → list_all is_spellable_variable vs ≡ true
variables_made [] h = refl
variables_made (v ∷ vs) h =
    let here = All-head (λ (x : ℕ). (1 ≤ x) × (x ≤ 140000)) v vs h in
    and_from (is_spellable_variable v) (list_all is_spellable_variable vs) (and_from (nat_le 1 v) (nat_le v 4294967295) (le-leb 1 v here.0) (le-leb v 4294967295 (omega (arith, here.1))))
    (variables_made vs (All-tail (λ (x : ℕ). (1 ≤ x) × (x ≤ 140000)) v vs h))

ids_made : (ids : List RowNo) → All (λ (id : RowNo). (1 ≤ id.0) × (id.0 ≤ 140000)) ids → list_all is_spellable_id ids ≡ true
ids_made [] h = refl
ids_made (id ∷ ids) h =
    let here = All-head (λ (x : RowNo). (1 ≤ x.0) × (x.0 ≤ 140000)) id ids h in
    and_from (is_spellable_id id) (list_all is_spellable_id ids) (and_from (nat_le 1 id.0) (nat_le id.0 (10 ^ 18 - 1)) (le-leb 1 id.0 here.0) (le-leb id.0 (10 ^ 18 - 1) (omega (arith, here.1))))
    (ids_made ids (All-tail (λ (x : RowNo). (1 ≤ x.0) × (x.0 ≤ 140000)) id ids h))

some_made : (ids : List RowNo) → 0 < length ids → list_all is_spellable_id ids ≡ true → is_nonempty_and_all is_spellable_id ids ≡ true
some_made [] h e = absurd (omega (arith, h))
some_made (id ∷ ids) h e = e

load_made : (trues : List ℕ) (ids : List RowNo) → 0 < length ids → All (λ (v : ℕ). (1 ≤ v) × (v ≤ 140000)) trues → All (λ (id : RowNo). (1 ≤ id.0) × (id.0 ≤ 140000)) ids → is_spellable_note (Load trues ids) ≡ true
load_made trues ids some v r = and_from (list_all is_spellable_variable trues) (is_nonempty_and_all is_spellable_id ids) (variables_made trues v) (some_made ids some (ids_made ids r))

-- ---- the note of a load

module _ (lists : Lists) (taken : Point) (pairs : List PairNo) (few : length (rows lists) ≤ 140000) (distinct : is_distinct (numbers_of pairs) ≡ true) (known : All (λ (p : PairNo). IsPairNo lists p.0) pairs) where
  few_pairs : pair_count lists ≤ 140000
  few_pairs = omega (arith, few, rows_count lists)

  few_trues : length (pairs_of_point lists taken) ≤ 140001
  few_trues = omega (arith, few_pairs, length-filter taken (numbers_to (pair_count lists)), count_by-le-length taken (numbers_to (pair_count lists)), length-numbers_to (pair_count lists))

  trues_within : All (λ (v : ℕ). (1 ≤ v) × (v ≤ 140000)) (pairs_of_point lists taken)
  trues_within = All-filter taken (λ (v : ℕ). (1 ≤ v) × (v ≤ 140000)) (numbers_to (pair_count lists)) (numbers_to-within (pair_count lists) 140000 few_pairs)

  numbers_below : (ps : List PairNo) → All (λ (p : PairNo). IsPairNo lists p.0) ps → All (λ (n : ℕ). n < pair_count lists + 1) (numbers_of ps)
  numbers_below [] h = All-nil (λ (n : ℕ). n < pair_count lists + 1)
  numbers_below (p ∷ ps) h =
      let P : PairNo → Type 0 = λ q. IsPairNo lists q.0 in
      let here = All-head P p ps h in
      All-cons (λ (n : ℕ). n < pair_count lists + 1) p.0 (numbers_of ps) (omega (arith, here.1)) (numbers_below ps (All-tail P p ps h))

  few_ids : length (row_numbers_of lists pairs) ≤ 140001
  few_ids = omega (arith, few_pairs, length-map pairs (λ (p : PairNo). row_no (pair_row_no lists p.0)), length-map pairs (λ (p : PairNo). p.0), length-distinct (pair_count lists + 1) (numbers_of pairs) (numbers_below pairs known) distinct)

  ids_within : (ps : List PairNo) → All (λ (p : PairNo). IsPairNo lists p.0) ps → All (λ (id : RowNo). (1 ≤ id.0) × (id.0 ≤ 140000)) (row_numbers_of lists ps)
  ids_within [] h = All-nil (λ (id : RowNo). (1 ≤ id.0) × (id.0 ≤ 140000))
  ids_within (p ∷ ps) h =
      let P : PairNo → Type 0 = λ q. IsPairNo lists q.0 in
      let here = All-head P p ps h in
      All-cons (λ (id : RowNo). (1 ≤ id.0) × (id.0 ≤ 140000)) (row_no (pair_row_no lists p.0)) (row_numbers_of lists ps) (omega (arith, here.0), omega (arith, here.1, few, rows_count lists)) (ids_within ps (All-tail P p ps h))

  pub note_short : length (note_text (load_note lists (pairs_of_point lists taken) pairs)) ≤ most_bytes
  note_short = load_short (pairs_of_point lists taken) (row_numbers_of lists pairs) few_trues few_ids trues_within (ids_within pairs known)

  pub note_made : 0 < length (row_numbers_of lists pairs) → is_spellable_note (load_note lists (pairs_of_point lists taken) pairs) ≡ true
  note_made some = load_made (pairs_of_point lists taken) (row_numbers_of lists pairs) some trues_within (ids_within pairs known)
