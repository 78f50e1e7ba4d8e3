-- Lists of rows that grow at their ends, and where a row stands in them.
use Rattle.std.proofs.Common.{◌≡◌, ℕ, zero, suc, ◌+◌, ◌-◌, ◌<◌, ◌≤◌, Bool, true, false, cond, if◌then◌else◌, List, [], ◌∷◌, ◌++◌, length, map, filter, get_or, count_by, Option, Some, subst, inl, inr, refl, sym, ap, ◌∙◌, arith, add-one, append_assoc}
use Rattle.std.specs.Prelude.{slice_get}
use Rattle.std.proofs.lemmas.List.{get_or-append-add, get_or-map, get_or_append_left, get_or_push, length-append, length-map, map-append, map_push}
use Rattle.std.proofs.lemmas.List.Elements.{filter-append}
use Rattle.std.proofs.lemmas.List.Sums.{length-filter, count_by-le-length}
use Rattle.std.proofs.lemmas.Bool.{cases_lt}
use Rattle.std.proofs.lemmas.Option.{slice_get-get_or}
use Rattle.pb_rows.specs.Terms.{PlainRow, Written}
use Rattle.pb_rows.specs.Rows.{in_normal_form}
use Rattle.rank_tables.specs.Numbers.{below, numbers_to}
use Rattle.rank_tables.specs.Instance.{Lists, pair_count}
use Rattle.rank_tables.specs.Tables.{IsPairNo}
use Rattle.stability_model.specs.Model.{IsRow, hospital_rows, pair_row, pair_row_no, resident_rows, rows, written_rows}
use Rattle.stability_model.specs.Making.{IsModelOf}

pub length-below : (n : ℕ) → length (below n) ≡ n
length-below zero = refl
length-below (suc n) = omega (arith, length-append (below n) (n ∷ []), length-below n)

pub length-numbers_to : (n : ℕ) → length (numbers_to n) ≡ n
length-numbers_to zero = refl
length-numbers_to (suc n) = omega (arith, length-append (numbers_to n) (suc n ∷ []), length-numbers_to n)

pub map_below : {A : Type 0} (f : ℕ → A) (k : ℕ) → map f (below (k + 1)) ≡ map f (below k) ++ f k ∷ []
map_below f k = rw add-one (map_push f (below k) k)

-- ---- rows of residents and of hospitals

-- the rows of the first k that have one, after others
abbrev pub rows_to : List Written → (ℕ → Written) → (ℕ → Bool) → ℕ → List PlainRow
rows_to before f has k = map in_normal_form (before ++ map f (filter has (below k)))

one_row : (f : ℕ → Written) (b : Bool) (k : ℕ) → map in_normal_form (map f (cond b (k ∷ []) [])) ≡ (if b then in_normal_form (f k) ∷ [] else [])
one_row f true k = refl
one_row f false k = refl

pub rows_next : (before : List Written) (f : ℕ → Written) (has : ℕ → Bool) (k : ℕ) →
    rows_to before f has (suc k) ≡ rows_to before f has k ++ (if has k then in_normal_form (f k) ∷ [] else [])
rows_next before f has k =
    let last : List ℕ = cond (has k) (k ∷ []) [] in
    let start : List Written = map f (filter has (below k)) in
    ap (λ ns. map in_normal_form (before ++ map f ns)) (filter-append has (below k) (k ∷ []))
    ∙ ap (λ rs. map in_normal_form (before ++ rs)) (map-append f (filter has (below k)) last)
    ∙ ap (map in_normal_form) (sym (append_assoc before start (map f last)))
    ∙ map-append in_normal_form (before ++ start) (map f last)
    ∙ ap (λ (rs : List PlainRow). map in_normal_form (before ++ start) ++ rs) (one_row f (has k) k)

pub rows_more : (before : List Written) (f : ℕ → Written) (has : ℕ → Bool) (k : ℕ) →
    rows_to before f has (k + 1) ≡ rows_to before f has k ++ (if has k then in_normal_form (f k) ∷ [] else [])
rows_more before f has k = rw add-one (rows_next before f has k)

pub rows_counted : (before : List Written) (f : ℕ → Written) (has : ℕ → Bool) (k : ℕ) → length (rows_to before f has k) ≡ length before + count_by has (below k)
rows_counted before f has k =
    length-map (before ++ map f (filter has (below k))) in_normal_form
    ∙ length-append before (map f (filter has (below k)))
    ∙ ap (λ n. length before + n) (length-map (filter has (below k)) f ∙ length-filter has (below k))

pub rows_few : (before : List Written) (f : ℕ → Written) (has : ℕ → Bool) (k : ℕ) → length (rows_to before f has k) ≤ length before + k
rows_few before f has k = omega (arith, rows_counted before f has k, count_by-le-length has (below k), length-below k)

-- ---- rows of pairs

pub rows_count : (lists : Lists) → length (rows lists) ≡ length (resident_rows lists) + length (hospital_rows lists) + pair_count lists
rows_count lists =
    length-map (written_rows lists) in_normal_form
    ∙ length-append (resident_rows lists ++ hospital_rows lists) (map (pair_row lists) (numbers_to (pair_count lists)))
    ∙ omega (arith, length-append (resident_rows lists) (hospital_rows lists), length-map (numbers_to (pair_count lists)) (pair_row lists), length-numbers_to (pair_count lists))

-- ---- where a row stands

pub at_numbers : {A : Type 0} (f : ℕ → A) (n i : ℕ) (d : A) → i < n → get_or (map f (numbers_to n)) i d ≡ f (suc i)
at_numbers f zero i d h = absurd (omega arith)
at_numbers f (suc n) i d h =
    ap (λ xs. get_or xs i d) (map_push f (numbers_to n) (suc n)) ∙ elim (cases_lt i n) [
      | inl less ↦ let within : i < length (map f (numbers_to n)) = omega (arith, length-map (numbers_to n) f, length-numbers_to n) in rw get_or_append_left (at_numbers f n i d less)
      | inr more ↦ get_or_push (map f (numbers_to n)) (f (suc n)) d i (omega (arith, length-map (numbers_to n) f, length-numbers_to n)) ∙ ap f (omega arith)
    ]

pub at_below : {A : Type 0} (f : ℕ → A) (n i : ℕ) (d : A) → i < n → get_or (map f (below n)) i d ≡ f i
at_below f zero i d h = absurd (omega arith)
at_below f (suc n) i d h =
    ap (λ xs. get_or xs i d) (map_push f (below n) n) ∙ elim (cases_lt i n) [
      | inl less ↦ let within : i < length (map f (below n)) = omega (arith, length-map (below n) f, length-below n) in rw get_or_append_left (at_below f n i d less)
      | inr more ↦ get_or_push (map f (below n)) (f n) d i (omega (arith, length-map (below n) f, length-below n)) ∙ ap f (omega arith)
    ]

pub at_slice : {A : Type 0} (f : ℕ → A) (n p : ℕ) → 1 ≤ p → p ≤ n → slice_get (map f (numbers_to n)) (p - 1) ≡ Some (f p)
at_slice f n p h k =
    slice_get-get_or (map f (numbers_to n)) (p - 1) (f p) (omega (arith, length-map (numbers_to n) f, length-numbers_to n))
    ∙ ap Some (at_numbers f n (p - 1) (f p) (omega arith) ∙ ap f (omega arith))

pub is_pair_row : (lists : Lists) (p : ℕ) → IsPairNo lists p → IsRow lists (pair_row_no lists p) (pair_row lists p)
is_pair_row lists p h =
    let before : List Written = resident_rows lists ++ hospital_rows lists in
    let ps : List Written = map (pair_row lists) (numbers_to (pair_count lists)) in
    let d : PlainRow = in_normal_form (pair_row lists p) in
    let place : pair_row_no lists p - 1 ≡ length (map in_normal_form before) + (p - 1) =
    omega (arith, length-map before in_normal_form, length-append (resident_rows lists) (hospital_rows lists), h.0) in
    slice_get-get_or (rows lists) (pair_row_no lists p - 1) d (omega (arith, rows_count lists, h.0, h.1))
    ∙ ap Some
    (ap (λ k. get_or (rows lists) k d) place
    ∙ ap (λ (rs : List PlainRow). get_or rs (length (map in_normal_form before) + (p - 1)) d) (map-append in_normal_form before ps)
    ∙ get_or-append-add (map in_normal_form before) (map in_normal_form ps) (p - 1) d
    ∙ get_or-map in_normal_form ps (p - 1) (pair_row lists p) d (omega (arith, length-map (numbers_to (pair_count lists)) (pair_row lists), length-numbers_to (pair_count lists), h.0, h.1))
    ∙ ap in_normal_form (at_numbers (pair_row lists) (pair_count lists) (p - 1) (pair_row lists p) (omega (arith, h.0, h.1)) ∙ ap (pair_row lists) (omega (arith, h.0))))

-- ---- what a model keeps

pub pair_row_few : (lists : Lists) (made : List PlainRow) (rs hs : List (Option ℕ)) (before p : ℕ) → IsModelOf lists made rs hs before → IsPairNo lists p → before + p ≤ 140000
pair_row_few lists made rs hs before p m h = omega (arith, m.before_is, m.few, ap length m.rows_are, rows_count lists, h.1)

pub is_row_of : (lists : Lists) (made : List PlainRow) (rs hs : List (Option ℕ)) (before p : ℕ) → IsModelOf lists made rs hs before → IsPairNo lists p → IsRow lists (before + p) (pair_row lists p)
is_row_of lists made rs hs before p m h = subst (λ (n : ℕ). IsRow lists (n + p) (pair_row lists p)) (sym m.before_is) (is_pair_row lists p h)

pub number_at : (f : ℕ → Option ℕ) (n k : ℕ) (numbers : List (Option ℕ)) (d : Option ℕ) → numbers ≡ map f (below n) → k < n → (k < length numbers) × (get_or numbers k d ≡ f k)
number_at f n k numbers d e h = (
  omega (arith, ap length e, length-map (below n) f, length-below n),
  ap (λ xs. get_or xs k d) e ∙ at_below f n k d h,
)
