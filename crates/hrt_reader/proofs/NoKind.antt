-- Texts in which no kind stands.
use Rattle.std.proofs.Common.{◌≡◌, ℕ, zero, suc, ◌+◌, ◌≤◌, max, Bool, true, false, not, ◌&&◌, cond, eqb, List, [], ◌∷◌, ◌++◌, length, take, drop, Option, Some, None, refl, sym, ap, subst, ◌∙◌, append_assoc, arith}
use Rattle.std.specs.Prelude.{bytes_eq, find, slice_get, unwrap_or, option_map, is_none}
use Rattle.std.specs.List.{list_all}
use Rattle.std.proofs.lemmas.Bool.{and_parts, and_left, and_right, or_parts, or_from, not_from_true, cond-false}
use Rattle.std.proofs.lemmas.Bool.Decides.{nat_tests}
use Rattle.std.proofs.lemmas.List.{append-nil}
use Rattle.hrt_text.specs.Text.{Token, Row}
use Rattle.rank_tables.specs.Names.{is_name, is_among, are_apart}
use Rattle.hrt_text.specs.Grammar.{is_capacity, words, groups_of, Form, resident, hospital, finish, form_of, is_blank, is_header}
use Rattle.hrt_reader.specs.Refusal.{residents_of, hospitals_of, declared_residents, declared_hospitals, all_blank, is_headed, is_finished, is_open, stands_by_form, stands, has_kind, Refusal, kind_in, unknown_in, first_line, or_else, refusal}
use Rattle.hrt_text.proofs.Among.{bytes_eq-turned, not_true}

-- ---- no kind anywhere is no refusal

find_none : (p : ℕ → Bool) → ((n : ℕ) → p n ≡ false) → (xs : List ℕ) → find p xs ≡ None
find_none p h [] = refl
find_none p h (x ∷ xs) = rw (h x) (find_none p h xs)

no_line : (f : ℕ → Option ℕ) → ((k : ℕ) → f k ≡ None) → (k count : ℕ) → first_line f k count ≡ None
no_line f h k zero = refl
no_line f h k (suc count) = rw (h k) (no_line f h (k + 1) count)

pub accepted_from : (rows : List Row) → ((k n : ℕ) → has_kind rows k n ≡ false) → refusal rows ≡ None
accepted_from rows h =
    let a : first_line (kind_in rows) 1 (max 1 (length rows)) ≡ None = no_line (kind_in rows) (λ (k : ℕ). find_none (has_kind rows k) (h k) (1 ∷ 2 ∷ 3 ∷ 4 ∷ 5 ∷ 7 ∷ 8 ∷ 9 ∷ 10 ∷ 11 ∷ 12 ∷ [])) 1 (max 1 (length rows)) in
    let b : first_line (unknown_in rows) 1 (length rows) ≡ None = no_line (unknown_in rows) (λ (k : ℕ). cond-false (has_kind rows k 6) (Some 6) None (h k 6)) 1 (length rows) in
    ap (λ (o : Option Refusal). or_else o (first_line (unknown_in rows) 1 (length rows))) a ∙ b

-- no kind stands in the lines that follow these
abbrev pub NoneFrom : List Row → List Row → Type 0
NoneFrom before [] = Unit {0}
NoneFrom before (row ∷ after) = ((n : ℕ) → stands n before row after ≡ false) × NoneFrom (before ++ row ∷ []) after

none_at : (before rest : List Row) → NoneFrom before rest → (i n : ℕ) → unwrap_or (option_map (λ row. stands n (before ++ take i rest) row (drop (suc i) rest)) (slice_get rest i)) false ≡ false
none_at before [] h i n = refl
none_at before (row ∷ rest) h zero n = subst (λ (b : List Row). stands n b row rest ≡ false) (sym (append-nil before)) (h.0 n)
none_at before (row ∷ rest) h (suc i) n =
    subst (λ (b : List Row). unwrap_or (option_map (λ (r : Row). stands n b r (drop (suc i) rest)) (slice_get rest i)) false ≡ false)
    (append_assoc before (row ∷ []) (take i rest)) (none_at (before ++ row ∷ []) rest h.1 i n)

pub no_kind : (rows : List Row) → all_blank rows ≡ false → NoneFrom [] rows → (k n : ℕ) → has_kind rows k n ≡ false
no_kind rows some h zero n = refl
no_kind rows some h (suc i) n = cond-false (all_blank rows) (eqb i 0 && eqb n 1) _ some ∙ none_at [] rows h i n

-- ---- a line after the header and before the end

pub cond_same : {X : Type 0} (b : Bool) (x y z : X) → x ≡ z → y ≡ z → cond b x y ≡ z
cond_same true x y z h k = h
cond_same false x y z h k = k

pub headed_not_blank : (before : List Row) → is_headed before ≡ true → all_blank before ≡ false
headed_not_blank [] h = absurd cc
headed_not_blank ([] ∷ before) h = headed_not_blank before h
headed_not_blank ((t ∷ row) ∷ before) h = refl

pub none_stands : (n : ℕ) (before : List Row) (row : Row) (after : List Row) → is_none (slice_get after 0) ≡ false → is_headed before ≡ true → is_finished before ≡ false
    → stands_by_form n before (form_of row) (before ++ row ∷ after) ≡ false → stands n before row after ≡ false
none_stands n before row after more headed unfinished h =
    cond_same (eqb n 1) _ _ false (and_left (all_blank before && not (is_blank row)) (not (is_header row)) (and_left (all_blank before) (not (is_blank row)) (headed_not_blank before headed)))
    (cond_same (eqb n 9) _ _ false (and_left (is_none (slice_get after 0)) (is_open (before ++ row ∷ [])) more)
    (cond_same (eqb n 10) _ _ false (and_left (is_headed before && is_finished before) (not (is_blank row)) (and_right (is_headed before) (is_finished before) unfinished))
    (and_right (is_open before && not (is_blank row)) _ h)))

-- ---- a name is not declared before its line

among_mid : (x n : List ℕ) (xs ys : List (List ℕ)) → is_among x (xs ++ n ∷ ys) ≡ false → bytes_eq x n ≡ false
among_mid x n [] ys h = (or_parts (bytes_eq x n) (is_among x ys) h).0
among_mid x n (m ∷ xs) ys h = among_mid x n xs ys (or_parts (bytes_eq x m) (is_among x (xs ++ n ∷ ys)) h).1

pub apart : (xs : List (List ℕ)) (n : List ℕ) (ys : List (List ℕ)) → are_apart (xs ++ n ∷ ys) ≡ true → is_among n xs ≡ false
apart [] n ys h = refl
apart (x ∷ xs) n ys h =
    let t = and_parts (not (is_among x (xs ++ n ∷ ys))) (are_apart (xs ++ n ∷ ys)) h in
    let new : is_among x (xs ++ n ∷ ys) ≡ false = not_true (is_among x (xs ++ n ∷ ys)) t.0 in
    or_from (bytes_eq n x) (is_among n xs) (bytes_eq-turned x n (among_mid x n xs ys new)) (apart xs n ys t.1)

pub few_from : (m n : ℕ) → m + suc n ≤ 20000 → eqb m 20000 ≡ false
few_from m n h = grind (arith, nat_tests)

-- ---- the kinds of a line by its form, one after the other

abbrev pub NoneByForm : List Row → Form → List Row → Type 0
NoneByForm before form all = (n : ℕ) → stands_by_form n before form all ≡ false

-- a list without a kind: its words are names, known and apart, and it is groups
pub record IsFineList (names : List (List ℕ)) (items : List Token) : Type 0 where
  pub named : list_all is_name (words items) ≡ true
  pub known : list_all (λ w. is_among w names) (words items) ≡ true
  pub once : are_apart (words items) ≡ true
  pub groups : is_none (groups_of items) ≡ false

both_true : (a b : Bool) → a ≡ true → b ≡ true → not (a && b) ≡ false
both_true true b h k = not_from_true b k
both_true false b h k = absurd cc

pub resident_none : (name : List ℕ) (items : List Token) (before all : List Row) → is_name name ≡ true → IsFineList (declared_hospitals all) items
    → is_among name (declared_residents before) ≡ false → eqb (length (residents_of before)) 20000 ≡ false → NoneByForm before (resident name items) all
resident_none name items before all named list new few n =
    cond_same (eqb n 2) _ _ false refl
    (cond_same (eqb n 3) _ _ false (both_true (is_name name) (list_all is_name (words items)) named list.named)
    (cond_same (eqb n 4) _ _ false refl
    (cond_same (eqb n 5) _ _ false new
    (cond_same (eqb n 6) _ _ false (not_from_true _ list.known)
    (cond_same (eqb n 7) _ _ false (not_from_true _ list.once)
    (cond_same (eqb n 8) _ _ false list.groups
    (cond_same (eqb n 11) _ _ false few
    (cond_same (eqb n 12) _ _ false refl refl))))))))

pub hospital_none : (name posts : List ℕ) (items : List Token) (before all : List Row) → is_name name ≡ true → is_capacity posts ≡ true → IsFineList (declared_residents all) items
    → is_among name (declared_hospitals before) ≡ false → eqb (length (hospitals_of before)) 20000 ≡ false → NoneByForm before (hospital name posts items) all
hospital_none name posts items before all named capacity list new few n =
    cond_same (eqb n 2) _ _ false refl
    (cond_same (eqb n 3) _ _ false (both_true (is_name name) (list_all is_name (words items)) named list.named)
    (cond_same (eqb n 4) _ _ false (not_from_true (is_capacity posts) capacity)
    (cond_same (eqb n 5) _ _ false new
    (cond_same (eqb n 6) _ _ false (not_from_true _ list.known)
    (cond_same (eqb n 7) _ _ false (not_from_true _ list.once)
    (cond_same (eqb n 8) _ _ false list.groups
    (cond_same (eqb n 11) _ _ false refl
    (cond_same (eqb n 12) _ _ false few refl))))))))

pub finish_none : (before all : List Row) → NoneByForm before finish all
finish_none before all n =
    cond_same (eqb n 2) _ _ false refl (cond_same (eqb n 3) _ _ false refl (cond_same (eqb n 4) _ _ false refl (cond_same (eqb n 5) _ _ false refl
    (cond_same (eqb n 6) _ _ false refl (cond_same (eqb n 7) _ _ false refl (cond_same (eqb n 8) _ _ false refl (cond_same (eqb n 11) _ _ false refl (cond_same (eqb n 12) _ _ false refl refl))))))))
