-- What no refusal but for kind 6 says of each declaration.
use Rattle.std.proofs.Common.{◌≡◌, ℕ, suc, zero, ◌+◌, ◌<◌, ◌≤◌, max, Bool, true, false, not, ◌&&◌, ◌⊎◌, cond, List, [], ◌∷◌, ◌++◌, length, take, drop, get_or, Option, Some, None, refl, sym, ap, subst, ◌∙◌, arith, inl, inr}
use Rattle.std.specs.Prelude.{is_none, slice_get}
use Rattle.std.proofs.lemmas.Bool.{and_from, and_right, cases_Bool, not_from_false}
use Rattle.std.proofs.lemmas.List.{take-append-drop, drop_more}
use Rattle.hrt_text.specs.Text.{Row}
use Rattle.hrt_text.specs.Grammar.{Form, other, form_of, is_blank, is_header}
use Rattle.hrt_reader.specs.Refusal.{all_blank, is_headed, is_finished, is_open, bad_line, bad_name, bad_capacity, bad_tie, declared_twice, named_twice, unknown_name, has_kind, Refusal, kind_in, line_or, first_line, refusal_but_6}
use Rattle.hrt_reader.specs.Stages.{kind_there, kind_by_form}
use Rattle.hrt_reader.proofs.Places.{get_at, drop_at, take_next, within_at, no_header, max_one, in_place}
use Rattle.hrt_reader.specs.Survey.{IsFine}
use Rattle.hrt_reader.proofs.LineSteps.{headed_push, headed_new, blank_push, header_form, there_open, with_nine}

-- ---- each line, from the whole

line_parts : (k : ℕ) (o : Option ℕ) (later : Option Refusal) → line_or k o later ≡ None → (o ≡ None) × (later ≡ None)
line_parts k None later e = (refl, e)
line_parts k (Some n) later e = absurd cc

pub lines_none : (f : ℕ → Option ℕ) (start count : ℕ) → first_line f start count ≡ None → (k : ℕ) → k < count → f (start + k) ≡ None
lines_none f start zero e k lt = absurd (omega arith)
lines_none f start (suc count) e zero lt =
    let p = line_parts start (f start) (first_line f (start + 1) count) e in
    let s : start + 0 ≡ start = omega arith in
    subst (λ (j : ℕ). f j ≡ None) (sym s) p.0
lines_none f start (suc count) e (suc k) lt =
    let p = line_parts start (f start) (first_line f (start + 1) count) e in
    let s : start + suc k ≡ (start + 1) + k = omega arith in
    subst (λ (j : ℕ). f j ≡ None) (sym s) (lines_none f (start + 1) count p.1 k (omega arith))

none_some : (r : Refusal) (o : Option Refusal) → o ≡ Some r → o ≡ None → ⊥
none_some r o e h = cc

pub some_row : (all : List Row) → refusal_but_6 all ≡ None → all_blank all ≡ false
some_row all h =
    elim (cases_Bool (all_blank all)) [
      | inl blank ↦ absurd (none_some _ _ (no_header all blank) h)
      | inr some ↦ some
    ]

pub line_none : (all : List Row) (i : ℕ) (row : Row) (after : List Row) → refusal_but_6 all ≡ None → drop i all ≡ row ∷ after → kind_there (take i all) row after ≡ None
line_none all i row after h e =
    let len : length all ≡ i + 1 + length after = within_at all i row after e in
    let count : max 1 (length all) ≡ length all = max_one (length all) (omega arith) in
    let s : 1 + i ≡ suc i = omega arith in
    let here : kind_in all (1 + i) ≡ None = lines_none (kind_in all) 1 (length all) (ap (first_line (kind_in all) 1) (sym count) ∙ h) i (omega arith) in
    sym (in_place all i row after (some_row all h) e) ∙ subst (λ (j : ℕ). kind_in all j ≡ None) s here

-- ---- the kinds in a line, from its least

abbrev pick : Bool → ℕ → Option ℕ → Option ℕ
pick b n later = cond b (Some n) later

pub pick_parts : (b : Bool) (n : ℕ) (later : Option ℕ) → pick b n later ≡ None → (b ≡ false) × (later ≡ None)
pick_parts true n later e = absurd cc
pick_parts false n later e = (refl, e)

pub no_one : (before : List Row) (row : Row) (after : List Row) → kind_there before row after ≡ None → (all_blank before && not (is_blank row) && not (is_header row)) ≡ false
unfolding kind_there
no_one before row after e = (pick_parts _ 1 _ e).0

pub no_nine : (before : List Row) (row : Row) (after : List Row) → kind_there before row after ≡ None → (is_none (slice_get after 0) && is_open (before ++ row ∷ [])) ≡ false
unfolding kind_there
no_nine before row after e =
    let p1 = pick_parts _ 1 _ e in let p2 = pick_parts _ 2 _ p1.1 in let p3 = pick_parts _ 3 _ p2.1 in let p4 = pick_parts _ 4 _ p3.1 in
    let p5 = pick_parts _ 5 _ p4.1 in let p7 = pick_parts _ 7 _ p5.1 in let p8 = pick_parts _ 8 _ p7.1 in
    (pick_parts _ 9 _ p8.1).0

pub no_ten : (before : List Row) (row : Row) (after : List Row) → kind_there before row after ≡ None → (is_headed before && is_finished before && not (is_blank row)) ≡ false
unfolding kind_there
no_ten before row after e =
    let p1 = pick_parts _ 1 _ e in let p2 = pick_parts _ 2 _ p1.1 in let p3 = pick_parts _ 3 _ p2.1 in let p4 = pick_parts _ 4 _ p3.1 in
    let p5 = pick_parts _ 5 _ p4.1 in let p7 = pick_parts _ 7 _ p5.1 in let p8 = pick_parts _ 8 _ p7.1 in let p9 = pick_parts _ 9 _ p8.1 in
    (pick_parts _ 10 _ p9.1).0

pub only_header : (blank empty header : Bool) → blank ≡ true → empty ≡ false → (blank && not empty && not header) ≡ false → header ≡ true
only_header blank empty true b e h = refl
only_header true false false b e h = absurd cc
only_header true true false b e h = absurd cc
only_header false empty false b e h = absurd cc

only_unfinished : (headed finished empty : Bool) → headed ≡ true → empty ≡ false → (headed && finished && not empty) ≡ false → finished ≡ false
only_unfinished headed false empty b e h = refl
only_unfinished true true false b e h = absurd cc
only_unfinished true true true b e h = absurd cc
only_unfinished false true empty b e h = absurd cc

true_false : (b : Bool) → b ≡ true → b ≡ false → ⊥
true_false b e h = cc

-- ---- before each line the text is blank, or has its header

pub before_line : (all : List Row) → refusal_but_6 all ≡ None → (i : ℕ) → i ≤ length all → (all_blank (take i all) ≡ true) ⊎ (is_headed (take i all) ≡ true)
before_line all h zero le = inl refl
before_line all h (suc i) le =
    let row : Row = get_or all i [] in
    let after : List Row = drop (i + 1) all in
    let e : drop i all ≡ row ∷ after = drop_more all i [] (omega arith) in
    let s : i + 1 ≡ suc i = omega arith in
    let next : take (suc i) all ≡ take i all ++ row ∷ [] = ap (λ (k : ℕ). take k all) (sym s) ∙ take_next all i row after e in
    elim (before_line all h i (omega arith)) [
      | inr headed ↦ inr (ap is_headed next ∙ headed_push (take i all) row headed)
      | inl blank ↦
          elim (cases_Bool (is_blank row)) [
            | inl empty ↦ inl (ap all_blank next ∙ blank_push (take i all) row ∙ and_from (all_blank (take i all)) (is_blank row) blank empty)
            | inr filled ↦
                let header : is_header row ≡ true = only_header (all_blank (take i all)) (is_blank row) (is_header row) blank filled (no_one (take i all) row after (line_none all i row after h e)) in
                inr (ap is_headed next ∙ headed_new (take i all) row blank filled ∙ header)
          ]
    ]

pub declared_open : (all : List Row) (i : ℕ) (row : Row) (after : List Row) → refusal_but_6 all ≡ None → drop i all ≡ row ∷ after → is_blank row ≡ false → is_header row ≡ false → is_open (take i all) ≡ true
declared_open all i row after h e filled plain =
    let none = line_none all i row after h e in
    let len : length all ≡ i + 1 + length after = within_at all i row after e in
    elim (before_line all h i (omega arith)) [
      | inl blank ↦ absurd (true_false (is_header row) (only_header (all_blank (take i all)) (is_blank row) (is_header row) blank filled (no_one (take i all) row after none)) plain)
      | inr headed ↦ and_from (is_headed (take i all)) (not (is_finished (take i all))) headed (not_from_false _ (only_unfinished (is_headed (take i all)) (is_finished (take i all)) (is_blank row) headed filled (no_ten (take i all) row after none)))
    ]

-- ---- the kinds of a declaration

nine_none : (o : Bool) (x : Option ℕ) → with_nine o x ≡ None → x ≡ None
nine_none o None e = refl
nine_none o (Some k) e = absurd cc

fine_from : (before : List Row) (form : Form) (all : List Row) → kind_by_form before form all ≡ None → IsFine form
fine_from before form all e =
    let p2 = pick_parts (bad_line form) 2 _ e in
    let p3 = pick_parts (bad_name form) 3 _ p2.1 in
    let p4 = pick_parts (bad_capacity form) 4 _ p3.1 in
    let p5 = pick_parts (declared_twice before form) 5 _ p4.1 in
    let p7 = pick_parts (named_twice form) 7 _ p5.1 in
    let p8 = pick_parts (bad_tie form) 8 _ p7.1 in
    record { names = p3.0; posts = p4.0; ties = p8.0 }

fine_other : IsFine other
fine_other = record { names = refl; posts = refl; ties = refl }

pub by_form_open : (all : List Row) (i : ℕ) (row : Row) (after : List Row) → refusal_but_6 all ≡ None → drop i all ≡ row ∷ after → is_open (take i all) ≡ true → is_blank row ≡ false
    → kind_by_form (take i all) (form_of row) (take i all ++ row ∷ after) ≡ None
by_form_open all i row after h e opened filled = nine_none _ _ (sym (there_open (take i all) row after opened filled) ∙ line_none all i row after h e)

pub by_form_at : (all : List Row) (i : ℕ) (row : Row) (after : List Row) → refusal_but_6 all ≡ None → drop i all ≡ row ∷ after → is_blank row ≡ false → is_header row ≡ false
    → kind_by_form (take i all) (form_of row) (take i all ++ row ∷ after) ≡ None
by_form_at all i row after h e filled plain = by_form_open all i row after h e (declared_open all i row after h e filled plain) filled

blank_is : (row : Row) → is_blank row ≡ true → [] ≡ row
blank_is [] h = refl
blank_is (t ∷ row) h = absurd cc

pub fine_at : (all : List Row) (i : ℕ) (row : Row) (after : List Row) → refusal_but_6 all ≡ None → drop i all ≡ row ∷ after → IsFine (form_of row)
fine_at all i row after h e =
    elim (cases_Bool (is_blank row)) [
      | inl empty ↦ subst (λ (r : Row). IsFine (form_of r)) (blank_is row empty) fine_other
      | inr filled ↦
          elim (cases_Bool (is_header row)) [
            | inl header ↦ subst IsFine (sym (header_form row header)) fine_other
            | inr plain ↦
                fine_from (take i all) (form_of row) (take i all ++ row ∷ after) (by_form_at all i row after h e filled plain)
          ]
    ]

-- ---- kind 6

not_known : (a b x : Bool) → x ≡ false → (a && b && x) ≡ x
not_known a b x h = and_right (a && b) x h ∙ sym h

pub six_at : (all : List Row) (i : ℕ) (row : Row) (after : List Row) → refusal_but_6 all ≡ None → drop i all ≡ row ∷ after → has_kind all (suc i) 6 ≡ unknown_name all (form_of row)
six_at all i row after h e =
    let whole : take i all ++ row ∷ after ≡ all = ap (λ (l : List Row). take i all ++ l) (sym e) ∙ take-append-drop i all in
    let here : has_kind all (suc i) 6 ≡ (is_open (take i all) && not (is_blank row) && unknown_name (take i all ++ row ∷ after) (form_of row)) =
    rw (some_row all h, get_at all i row after e, drop_at all i row after e) refl in
    here ∙ ap (λ (l : List Row). is_open (take i all) && not (is_blank row) && unknown_name l (form_of row)) whole ∙
    elim (cases_Bool (is_blank row)) [
      | inl empty ↦ not_known (is_open (take i all)) (not (is_blank row)) (unknown_name all (form_of row)) (ap (λ (r : Row). unknown_name all (form_of r)) (sym (blank_is row empty)))
      | inr filled ↦
          elim (cases_Bool (is_header row)) [
            | inl header ↦ not_known (is_open (take i all)) (not (is_blank row)) (unknown_name all (form_of row)) (ap (unknown_name all) (header_form row header))
            | inr plain ↦
                let opened : is_open (take i all) ≡ true = declared_open all i row after h e filled plain in
                ap (λ (b : Bool). b && not (is_blank row) && unknown_name all (form_of row)) opened ∙ ap (λ (b : Bool). not b && unknown_name all (form_of row)) filled
          ]
    ]
