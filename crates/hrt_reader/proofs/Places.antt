-- Lines at their places in a text: the least line with a kind, from what each line has.
use Rattle.std.proofs.Common.{◌≡◌, ℕ, suc, zero, ◌+◌, ◌-◌, ◌<◌, ◌≤◌, max, Bool, true, false, not, ◌&&◌, cond, eqb, List, [], ◌∷◌, ◌++◌, length, map, take, drop, get_or, Option, Some, None, refl, sym, ap, subst, ◌∙◌, arith, inl, inr, below_more}
use Rattle.std.specs.Prelude.{is_none, slice_get, option_map, unwrap_or}
use Rattle.std.specs.List.{onto_first}
use Rattle.std.proofs.lemmas.Bool.{and_parts, and_left, and_right, not_from_true, cases_lt, ne_eqb}
use Rattle.std.proofs.lemmas.List.{take-append-drop, length-drop, drop_more, take_all, drop_all}
use Rattle.std.proofs.lemmas.List.Folds.{list_all-append}
use Rattle.hrt_text.specs.Text.{Row, parts, without_return, tokens, rows}
use Rattle.hrt_text.specs.Grammar.{is_blank}
use Rattle.hrt_reader.specs.Refusal.{all_blank, is_headed, is_finished, is_open, Refusal, kind_in, first_line, refusal_but_6}
use Rattle.hrt_reader.specs.Stages.{kind_early, kind_there}
use Rattle.hrt_reader.proofs.NoKind.{headed_not_blank}

abbrev pub at : ℕ → ℕ → Option Refusal
at k n = Some (record { line = k; kind = n })

-- ---- the first line of a list of lines

pub no_line_before : (f : ℕ → Option ℕ) (start i count n : ℕ) → i < count → ((k : ℕ) → k < i → f (start + k) ≡ None) → f (start + i) ≡ Some n → first_line f start count ≡ at (start + i) n
no_line_before f start i zero n lt none here = absurd (omega arith)
no_line_before f start zero (suc count) n lt none here =
    let e : start + 0 ≡ start = omega arith in
    let here' : f start ≡ Some n = subst (λ (k : ℕ). f k ≡ Some n) e here in
    rw here' (ap (λ (k : ℕ). at k n) (sym e))
no_line_before f start (suc i) (suc count) n lt none here =
    let e : start + 0 ≡ start = omega arith in
    let first : f start ≡ None = subst (λ (k : ℕ). f k ≡ None) e (none 0 (omega arith)) in
    let e1 : start + suc i ≡ (start + 1) + i = omega arith in
    let later = no_line_before f (start + 1) i count n (omega arith)
    (λ (k : ℕ) (h : k < i). let e2 : start + suc k ≡ (start + 1) + k = omega arith in subst (λ (j : ℕ). f j ≡ None) e2 (none (suc k) (omega arith)))
    (subst (λ (j : ℕ). f j ≡ Some n) e1 here) in
    rw first (later ∙ ap (λ (k : ℕ). at k n) (sym e1))

pub no_line_at_all : (f : ℕ → Option ℕ) (start count : ℕ) → ((k : ℕ) → k < count → f (start + k) ≡ None) → first_line f start count ≡ None
no_line_at_all f start zero none = refl
no_line_at_all f start (suc count) none =
    let e : start + 0 ≡ start = omega arith in
    let first : f start ≡ None = subst (λ (k : ℕ). f k ≡ None) e (none 0 (omega arith)) in
    let later = no_line_at_all f (start + 1) count
    (λ (k : ℕ) (h : k < count). let e2 : start + suc k ≡ (start + 1) + k = omega arith in subst (λ (j : ℕ). f j ≡ None) e2 (none (suc k) (omega arith))) in
    rw first later

-- ---- a line at its place

pub get_at : (all : List Row) (i : ℕ) (row : Row) (after : List Row) → drop i all ≡ row ∷ after → slice_get all i ≡ Some row
get_at [] zero row after e = absurd cc
get_at [] (suc i) row after e = absurd cc
get_at (r ∷ all) zero row after e = let same : r ≡ row = cc in ap (λ (x : Row). Some x) same
get_at (r ∷ all) (suc i) row after e = get_at all i row after e

pub drop_at : (all : List Row) (i : ℕ) (row : Row) (after : List Row) → drop i all ≡ row ∷ after → drop (suc i) all ≡ after
drop_at [] zero row after e = absurd cc
drop_at [] (suc i) row after e = absurd cc
drop_at (r ∷ all) zero row after e = let same : all ≡ after = cc in same
drop_at (r ∷ all) (suc i) row after e = drop_at all i row after e

pub take_at : (all : List Row) (i : ℕ) (row : Row) (after : List Row) → drop i all ≡ row ∷ after → take (suc i) all ≡ take i all ++ row ∷ []
take_at [] zero row after e = absurd cc
take_at [] (suc i) row after e = absurd cc
take_at (r ∷ all) zero row after e = let same : r ≡ row = cc in ap (λ (x : Row). x ∷ []) same
take_at (r ∷ all) (suc i) row after e = ap (λ (l : List Row). r ∷ l) (take_at all i row after e)

pub within_at : (all : List Row) (i : ℕ) (row : Row) (after : List Row) → drop i all ≡ row ∷ after → length all ≡ i + 1 + length after
within_at [] zero row after e = absurd cc
within_at [] (suc i) row after e = absurd cc
within_at (r ∷ all) zero row after e = let same : all ≡ after = cc in omega (arith, ap length same)
within_at (r ∷ all) (suc i) row after e = omega (arith, within_at all i row after e)

pub in_place : (all : List Row) (i : ℕ) (row : Row) (after : List Row) → all_blank all ≡ false → drop i all ≡ row ∷ after → kind_in all (suc i) ≡ kind_there (take i all) row after
unfolding kind_there
in_place all i row after some e = rw (some, get_at all i row after e, drop_at all i row after e) refl

-- the early kind of a line at its place
abbrev pub early_at : List Row → ℕ → Option ℕ
early_at all i = unwrap_or (option_map (λ row. kind_early (take i all) row (drop (suc i) all)) (slice_get all i)) None

pub early_place : (all : List Row) (i : ℕ) (row : Row) (after : List Row) → drop i all ≡ row ∷ after → early_at all i ≡ kind_early (take i all) row after
early_place all i row after e = rw (get_at all i row after e, drop_at all i row after e) refl

there_early : (before : List Row) (row : Row) (after : List Row) → (is_none (slice_get after 0) && is_open (before ++ row ∷ [])) ≡ false → kind_there before row after ≡ kind_early before row after
unfolding kind_there kind_early
there_early before row after none = rw none refl

-- where no early kind stands and the end is missing, 9 stands
abbrev pick : Bool → ℕ → Option ℕ → Option ℕ
pick b n later = cond b (Some n) later

nine_left : (b1 b2 b3 b4 b5 b7 b8 b10 b11 b12 o : Bool) → o ≡ true
    → pick b1 1 (pick b2 2 (pick b3 3 (pick b4 4 (pick b5 5 (pick b7 7 (pick b8 8 (pick b10 10 (pick b11 11 (pick b12 12 None))))))))) ≡ None
    → pick b1 1 (pick b2 2 (pick b3 3 (pick b4 4 (pick b5 5 (pick b7 7 (pick b8 8 (pick o 9 (pick b10 10 (pick b11 11 (pick b12 12 None)))))))))) ≡ Some 9
nine_left true b2 b3 b4 b5 b7 b8 b10 b11 b12 o h e = absurd cc
nine_left false true b3 b4 b5 b7 b8 b10 b11 b12 o h e = absurd cc
nine_left false false true b4 b5 b7 b8 b10 b11 b12 o h e = absurd cc
nine_left false false false true b5 b7 b8 b10 b11 b12 o h e = absurd cc
nine_left false false false false true b7 b8 b10 b11 b12 o h e = absurd cc
nine_left false false false false false true b8 b10 b11 b12 o h e = absurd cc
nine_left false false false false false false true b10 b11 b12 o h e = absurd cc
nine_left false false false false false false false b10 b11 b12 o h e = rw h refl

there_nine : (before : List Row) (row : Row) (after : List Row) → (is_none (slice_get after 0) && is_open (before ++ row ∷ [])) ≡ true → kind_early before row after ≡ None → kind_there before row after ≡ Some 9
unfolding kind_there kind_early
there_nine before row after h e = nine_left _ _ _ _ _ _ _ _ _ _ _ h e

-- no early kind stands in the first n lines
abbrev pub IsClean : List Row → ℕ → Type 0
IsClean all n = (k : ℕ) → k < n → early_at all k ≡ None

none_after : (after : List Row) → 0 < length after → is_none (slice_get after 0) ≡ false
none_after [] h = absurd (omega arith)
none_after (row ∷ after) h = refl

-- a clean line that another follows has no kind but 6
clean_line : (all : List Row) (n k : ℕ) → all_blank all ≡ false → IsClean all n → k < n → k + 1 < length all → kind_in all (suc k) ≡ None
clean_line all n k some clean lt more =
    let row : Row = get_or all k [] in
    let e : drop k all ≡ row ∷ drop (k + 1) all = drop_more all k [] (omega arith) in
    let follows : is_none (slice_get (drop (k + 1) all) 0) ≡ false = none_after (drop (k + 1) all) (omega (arith, length-drop (k + 1) all)) in
    in_place all k row (drop (k + 1) all) some e
    ∙ there_early (take k all) row (drop (k + 1) all) (and_left (is_none (slice_get (drop (k + 1) all) 0)) (is_open (take k all ++ row ∷ [])) follows)
    ∙ sym (early_place all k row (drop (k + 1) all) e) ∙ clean k lt

pub max_one : (n : ℕ) → 0 < n → max 1 n ≡ n
max_one n h = omega arith

pub some_filled : (all : List Row) (i : ℕ) (row : Row) (after : List Row) → drop i all ≡ row ∷ after → is_blank row ≡ false → all_blank all ≡ false
some_filled all i row after e filled =
    let whole : all ≡ take i all ++ row ∷ after = sym (take-append-drop i all) ∙ ap (λ (l : List Row). take i all ++ l) e in
    ap all_blank whole ∙ list_all-append is_blank (take i all) (row ∷ after) ∙ and_right (all_blank (take i all)) (is_blank row && all_blank after) (and_left (is_blank row) (all_blank after) filled)

-- ---- what the first pass answers

pub refused_at : (all : List Row) (i n : ℕ) (row : Row) (after : List Row) → drop i all ≡ row ∷ after → is_blank row ≡ false → IsClean all i → kind_there (take i all) row after ≡ Some n → refusal_but_6 all ≡ at (i + 1) n
refused_at all i n row after e filled clean found =
    let some : all_blank all ≡ false = some_filled all i row after e filled in
    let len : length all ≡ i + 1 + length after = within_at all i row after e in
    let count : max 1 (length all) ≡ length all = max_one (length all) (omega arith) in
    let before : (k : ℕ) → k < i → kind_in all (1 + k) ≡ None =
    λ (k : ℕ) (h : k < i). let s : 1 + k ≡ suc k = omega arith in subst (λ (j : ℕ). kind_in all j ≡ None) (sym s) (clean_line all i k some clean h (omega arith)) in
    let s : 1 + i ≡ suc i = omega arith in
    let here : kind_in all (1 + i) ≡ Some n = subst (λ (j : ℕ). kind_in all j ≡ Some n) (sym s) (in_place all i row after some e ∙ found) in
    let t : 1 + i ≡ i + 1 = omega arith in
    ap (first_line (kind_in all) 1) count ∙ no_line_before (kind_in all) 1 i (length all) n (omega arith) before here ∙ ap (λ (k : ℕ). at k n) t

headed_some : (all : List Row) → is_headed all ≡ true → 0 < length all
headed_some [] h = absurd cc
headed_some (row ∷ all) h = omega arith

-- the last line
last_line : (all : List Row) (k : ℕ) → k + 1 ≡ length all → drop k all ≡ get_or all k [] ∷ []
last_line all k e =
    let gone : drop (k + 1) all ≡ [] = drop_all (k + 1) all (omega arith) in
    drop_more all k [] (omega arith) ∙ ap (λ (l : List Row). get_or all k [] ∷ l) gone

last_whole : (all : List Row) (k : ℕ) → k + 1 ≡ length all → take k all ++ get_or all k [] ∷ [] ≡ all
last_whole all k e = ap (λ (l : List Row). take k all ++ l) (sym (last_line all k e)) ∙ take-append-drop k all

pub accepted_all : (all : List Row) → is_headed all ≡ true → is_finished all ≡ true → IsClean all (length all) → refusal_but_6 all ≡ None
accepted_all all headed finished clean =
    let some : all_blank all ≡ false = headed_not_blank all headed in
    let count : max 1 (length all) ≡ length all = max_one (length all) (headed_some all headed) in
    let closed : is_open all ≡ false = and_right (is_headed all) (not (is_finished all)) (not_from_true _ finished) in
    let each : (k : ℕ) → k < length all → kind_in all (1 + k) ≡ None =
    λ (k : ℕ) (h : k < length all).
    let s : 1 + k ≡ suc k = omega arith in
    subst (λ (j : ℕ). kind_in all j ≡ None) (sym s)
    (elim (cases_lt (k + 1) (length all)) [
      | inl more ↦ clean_line all (length all) k some clean h more
      | inr le ↦
          let end : k + 1 ≡ length all = omega arith in
          let e : drop k all ≡ get_or all k [] ∷ [] = last_line all k end in
          in_place all k (get_or all k []) [] some e
          ∙ there_early (take k all) (get_or all k []) [] (ap is_open (last_whole all k end) ∙ closed)
          ∙ sym (early_place all k (get_or all k []) [] e) ∙ clean k h
    ]) in
    ap (first_line (kind_in all) 1) count ∙ no_line_at_all (kind_in all) 1 (length all) each

pub no_end : (all : List Row) → is_open all ≡ true → IsClean all (length all) → refusal_but_6 all ≡ at (length all) 9
no_end all open-is clean =
    let headed : is_headed all ≡ true = (and_parts (is_headed all) (not (is_finished all)) open-is).0 in
    let some : all_blank all ≡ false = headed_not_blank all headed in
    let positive : 0 < length all = headed_some all headed in
    let count : max 1 (length all) ≡ length all = max_one (length all) positive in
    let k : ℕ = length all - 1 in
    let end : k + 1 ≡ length all = omega arith in
    let e : drop k all ≡ get_or all k [] ∷ [] = last_line all k end in
    let early : kind_early (take k all) (get_or all k []) [] ≡ None = sym (early_place all k (get_or all k []) [] e) ∙ clean k (omega arith) in
    let found : kind_in all (suc k) ≡ Some 9 = in_place all k (get_or all k []) [] some e ∙ there_nine (take k all) (get_or all k []) [] (ap is_open (last_whole all k end) ∙ open-is) early in
    let before : (j : ℕ) → j < k → kind_in all (1 + j) ≡ None =
    λ (j : ℕ) (h : j < k). let s : 1 + j ≡ suc j = omega arith in subst (λ (i : ℕ). kind_in all i ≡ None) (sym s) (clean_line all (length all) j some clean (omega arith) (omega arith)) in
    let s : 1 + k ≡ suc k = omega arith in
    let here : kind_in all (1 + k) ≡ Some 9 = subst (λ (i : ℕ). kind_in all i ≡ Some 9) (sym s) found in
    let t : 1 + k ≡ length all = omega arith in
    ap (first_line (kind_in all) 1) count ∙ no_line_before (kind_in all) 1 k (length all) 9 (omega arith) before here ∙ ap (λ (i : ℕ). at i 9) t

pub no_header : (all : List Row) → all_blank all ≡ true → refusal_but_6 all ≡ at 1 1
no_header all blank =
    let count : max 1 (length all) ≡ suc (max 1 (length all) - 1) = omega arith in
    let found : kind_in all 1 ≡ Some 1 = rw blank refl in
    ap (first_line (kind_in all) 1) count ∙ rw found refl

-- ---- one more line, and the last

pub drop_next : (all : List Row) (i : ℕ) (row : Row) (after : List Row) → drop i all ≡ row ∷ after → drop (i + 1) all ≡ after
drop_next all i row after e = let s : i + 1 ≡ suc i = omega arith in ap (λ (k : ℕ). drop k all) s ∙ drop_at all i row after e

pub take_next : (all : List Row) (i : ℕ) (row : Row) (after : List Row) → drop i all ≡ row ∷ after → take (i + 1) all ≡ take i all ++ row ∷ []
take_next all i row after e = let s : i + 1 ≡ suc i = omega arith in ap (λ (k : ℕ). take k all) s ∙ take_at all i row after e

pub clean_next : (all : List Row) (i : ℕ) (row : Row) (after : List Row) → drop i all ≡ row ∷ after → IsClean all i → kind_early (take i all) row after ≡ None → IsClean all (i + 1)
clean_next all i row after e clean early = below_more (λ (k : ℕ). early_at all k ≡ None) i clean (early_place all i row after e ∙ early)

pub all_read : (all : List Row) (i : ℕ) → drop i all ≡ [] → i ≤ length all → i ≡ length all
all_read all i e le = omega (arith, length-drop i all, ap length e)

pub all_taken : (all : List Row) → take (length all) all ≡ all
all_taken all = take_all (length all) all (omega arith)

some_line : (b : ℕ) (t : Bool) (parts-after : List (List ℕ)) → is_none (slice_get (map tokens (map without_return (cond t ([] ∷ parts-after) (onto_first b parts-after)))) 0) ≡ false
some_line b true ls = refl
some_line b false [] = refl
some_line b false (l ∷ ls) = refl

pub last_is : (text : List ℕ) → eqb (length text) 0 ≡ is_none (slice_get (rows text) 0)
last_is [] = refl
last_is (b ∷ text) =
    let some : eqb (length (b ∷ text)) 0 ≡ false = ne_eqb (length (b ∷ text)) 0 (λ (e : length (b ∷ text) ≡ 0). omega arith) in
    some ∙ sym (some_line b (eqb b 10) (parts text))
