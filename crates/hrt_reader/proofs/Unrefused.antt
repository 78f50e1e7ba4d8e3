-- In a text that is a spelling no kind stands.
use Rattle.std.proofs.Common.{◌≡◌, ℕ, suc, ◌+◌, ◌≤◌, Bool, true, false, not, ◌&&◌, ◌||◌, eqb, List, [], ◌∷◌, ◌++◌, length, map, refl, sym, ap, subst, ◌∙◌, append_assoc, arith, inl, inr}
use Rattle.std.specs.Prelude.{is_none, slice_get, bytes_eq, flat_map}
use Rattle.std.specs.List.{list_all}
use Rattle.std.proofs.lemmas.Bool.{and_parts, and_from, and_left, and_right, or_from, or_cases, not_from_true}
use Rattle.std.proofs.lemmas.List.{length-append, length-map}
use Rattle.std.proofs.lemmas.Slice.Eq.{bytes_eq-Decides}
use Rattle.hrt_text.specs.Text.{Row, rows}
use Rattle.hrt_text.specs.Grammar.{is_capacity, is_header, form_of, words}
use Rattle.rank_tables.specs.Instance.{Lists}
use Rattle.rank_tables.specs.Names.{is_name, is_among, are_apart}
use Rattle.hrt_reader.specs.Accepted.{Item, Declaration, of_resident, of_hospital, Spells, header_line, end_line, filled, hospitals_in, is_lawful, is_list_of, item_names, line_of, lines_of, residents_in}
use Rattle.hrt_reader.specs.Refusal.{ResidentLine, HospitalLine, ReadsAs, all_blank, is_finish, is_finished, is_headed, is_open, declared_hospitals, hospitals_of, declared_residents, residents_of, stands}
use Rattle.rank_tables.specs.WellFormed.{IsWellFormed}
use Rattle.hrt_reader.proofs.AcceptedLists.{accepted_well_formed}
use Rattle.hrt_reader.proofs.FilledLines.{declared_residents_more, declared_hospitals_more, residents_more, hospitals_more, declared_residents_are, declared_hospitals_are, same_lists}
use Rattle.hrt_reader.proofs.ItemTokens.{items_tokens, words_items, groups_items}
use Rattle.hrt_reader.proofs.LineSteps.{blank_push, finished_push, headed_new, headed_push}
use Rattle.hrt_reader.proofs.NoKind.{IsFineList, NoneByForm, NoneFrom, accepted_from, apart, cond_same, few_from, finish_none, headed_not_blank, hospital_none, no_kind, none_stands, resident_none}

-- ---- lines that are left

no_lines : {X : Type 0} (x : Row) (lines : List Row) → [] ≡ x ∷ lines → X
no_lines x lines e = absurd cc

some_after : (after : List Row) (x : Row) (lines : List Row) → filled after ≡ x ∷ lines → is_none (slice_get after 0) ≡ false
some_after [] x lines e = absurd cc
some_after (row ∷ after) x lines e = refl

-- the lines of declarations and the end are one or more
abbrev first_left : List Declaration → Row
first_left [] = end_line
first_left (d ∷ declarations) = line_of d

abbrev later_left : List Declaration → List Row
later_left [] = []
later_left (d ∷ declarations) = map line_of declarations ++ end_line ∷ []

left_are : (declarations : List Declaration) → map line_of declarations ++ end_line ∷ [] ≡ first_left declarations ∷ later_left declarations
left_are [] = refl
left_are (d ∷ declarations) = refl

some_left : (after : List Row) (declarations : List Declaration) → filled after ≡ map line_of declarations ++ end_line ∷ [] → is_none (slice_get after 0) ≡ false
some_left after declarations e = some_after after (first_left declarations) (later_left declarations) (e ∙ left_are declarations)

first_same : (x y : Row) (xs ys : List Row) → x ∷ xs ≡ y ∷ ys → (x ≡ y) × (xs ≡ ys)
first_same x y xs ys e = (cc, cc)

-- ---- blank lines

blank_none : (before after : List Row) → (is_none (slice_get after 0) && is_open (before ++ [] ∷ [])) ≡ false → (n : ℕ) → stands n before [] after ≡ false
blank_none before after h n =
    cond_same (eqb n 1) _ _ false (and_left (all_blank before && false) true (and_right (all_blank before) false refl))
    (cond_same (eqb n 9) _ _ false h
    (cond_same (eqb n 10) _ _ false (and_right (is_headed before && is_finished before) false refl)
    (and_left (is_open before && false) _ (and_right (is_open before) false refl))))

closed : (before : List Row) → is_finished before ≡ true → is_open before ≡ false
closed before h = and_right (is_headed before) (not (is_finished before)) (not_from_true _ h)

finished_more : (before : List Row) (row : Row) → is_finished before ≡ true → is_finished (before ++ row ∷ []) ≡ true
finished_more before row h = finished_push before row ∙ ap (λ (b : Bool). b || is_finish (form_of row)) h

-- blank lines after the end
ended_none : (before rest : List Row) → is_finished before ≡ true → filled rest ≡ [] → NoneFrom before rest
ended_none before [] finished e = tt
ended_none before ([] ∷ after) finished e =
    let next : is_finished (before ++ [] ∷ []) ≡ true = finished_more before [] finished in
    (blank_none before after (and_right (is_none (slice_get after 0)) (is_open (before ++ [] ∷ [])) (closed (before ++ [] ∷ []) next)), ended_none (before ++ [] ∷ []) after next e)
ended_none before ((t ∷ row) ∷ after) finished e = absurd cc

-- ---- declarations

-- what is declared once, and not too often
record IsDeclaredOnce (all : List Row) : Type 0 where
  residents_apart : are_apart (declared_residents all) ≡ true
  hospitals_apart : are_apart (declared_hospitals all) ≡ true
  few_residents : length (residents_of all) ≤ 20000
  few_hospitals : length (hospitals_of all) ≤ 20000
  residents_named : list_all is_name (declared_residents all) ≡ true
  hospitals_named : list_all is_name (declared_hospitals all) ≡ true

among_name : (w : List ℕ) (names : List (List ℕ)) → list_all is_name names ≡ true → is_among w names ≡ true → is_name w ≡ true
among_name w [] named h = absurd cc
among_name w (n ∷ names) named h =
    let t = and_parts (is_name n) (list_all is_name names) named in
    elim (or_cases (bytes_eq w n) (is_among w names) h) [
      | inl same ↦ ap is_name ((bytes_eq-Decides w n).0 same) ∙ t.0
      | inr later ↦ among_name w names t.1 later
    ]

all_names : (ws names : List (List ℕ)) → list_all is_name names ≡ true → list_all (λ w. is_among w names) ws ≡ true → list_all is_name ws ≡ true
all_names [] names named h = refl
all_names (w ∷ ws) names named h =
    let t = and_parts (is_among w names) (list_all (λ (v : List ℕ). is_among v names) ws) h in
    and_from (is_name w) (list_all is_name ws) (among_name w names named t.0) (all_names ws names named t.1)

fine_list : (names : List (List ℕ)) (items : List Item) → list_all is_name names ≡ true → is_list_of names items ≡ true → IsFineList names (items_tokens items)
fine_list names items named h =
    let t = and_parts (list_all (λ (w : List ℕ). is_among w names) (flat_map item_names items)) (are_apart (flat_map item_names items)) h in
    let same : words (items_tokens items) ≡ flat_map item_names items = words_items items in
    record {
      named = ap (list_all is_name) same ∙ all_names (flat_map item_names items) names named t.0;
      known = ap (list_all (λ (w : List ℕ). is_among w names)) same ∙ t.0;
      once = ap are_apart same ∙ t.1;
      groups = ap is_none (groups_items items);
    }

declaration_none : (all before after : List Row) (d : Declaration) → IsDeclaredOnce all → before ++ line_of d ∷ after ≡ all → is_lawful (declared_residents all) (declared_hospitals all) d ≡ true
    → NoneByForm before (form_of (line_of d)) (before ++ line_of d ∷ after)
declaration_none all before after (of_resident name items) once whole lawful =
    let row : Row = line_of (of_resident name items) in
    let t = and_parts (is_name name) (is_list_of (declared_hospitals all) items) lawful in
    let names : declared_residents all ≡ declared_residents before ++ name ∷ declared_residents after = ap (λ (l : List Row). declared_residents l) (sym whole) ∙ declared_residents_more before (row ∷ after) in
    let l : ResidentLine = record { name = name; items = items_tokens items } in
    let lines : residents_of all ≡ residents_of before ++ l ∷ residents_of after = ap (λ (k : List Row). residents_of k) (sym whole) ∙ residents_more before (row ∷ after) in
    let count : length (residents_of before) + suc (length (residents_of after)) ≤ 20000 = omega (arith, ap length lines, length-append (residents_of before) (l ∷ residents_of after), once.few_residents) in
    resident_none name (items_tokens items) before (before ++ row ∷ after) t.0
    (subst (λ (k : List Row). IsFineList (declared_hospitals k) (items_tokens items)) (sym whole) (fine_list (declared_hospitals all) items once.hospitals_named t.1))
    (apart (declared_residents before) name (declared_residents after) (ap are_apart (sym names) ∙ once.residents_apart)) (few_from (length (residents_of before)) (length (residents_of after)) count)
declaration_none all before after (of_hospital name posts items) once whole lawful =
    let row : Row = line_of (of_hospital name posts items) in
    let t = and_parts (is_name name && is_capacity posts) (is_list_of (declared_residents all) items) lawful in
    let u = and_parts (is_name name) (is_capacity posts) t.0 in
    let names : declared_hospitals all ≡ declared_hospitals before ++ name ∷ declared_hospitals after = ap (λ (l : List Row). declared_hospitals l) (sym whole) ∙ declared_hospitals_more before (row ∷ after) in
    let l : HospitalLine = record { name = name; capacity = posts; items = items_tokens items } in
    let lines : hospitals_of all ≡ hospitals_of before ++ l ∷ hospitals_of after = ap (λ (k : List Row). hospitals_of k) (sym whole) ∙ hospitals_more before (row ∷ after) in
    let count : length (hospitals_of before) + suc (length (hospitals_of after)) ≤ 20000 = omega (arith, ap length lines, length-append (hospitals_of before) (l ∷ hospitals_of after), once.few_hospitals) in
    hospital_none name posts (items_tokens items) before (before ++ row ∷ after) u.0 u.1
    (subst (λ (k : List Row). IsFineList (declared_residents k) (items_tokens items)) (sym whole) (fine_list (declared_residents all) items once.residents_named t.1))
    (apart (declared_hospitals before) name (declared_hospitals after) (ap are_apart (sym names) ∙ once.hospitals_apart)) (few_from (length (hospitals_of before)) (length (hospitals_of after)) count)

declaration_goes_on : (d : Declaration) → is_finish (form_of (line_of d)) ≡ false
declaration_goes_on (of_resident name items) = refl
declaration_goes_on (of_hospital name posts items) = refl

unfinished_more : (before : List Row) (row : Row) → is_finished before ≡ false → is_finish (form_of row) ≡ false → is_finished (before ++ row ∷ []) ≡ false
unfinished_more before row h goes_on = finished_push before row ∙ or_from (is_finished before) (is_finish (form_of row)) h goes_on

end_none : (before after : List Row) → is_headed before ≡ true → is_finished before ≡ false → (n : ℕ) → stands n before end_line after ≡ false
end_none before after headed unfinished n =
    let ended : is_finished (before ++ end_line ∷ []) ≡ true = finished_push before end_line ∙ ap (λ (b : Bool). b || true) unfinished in
    cond_same (eqb n 1) _ _ false (and_left (all_blank before && not false) (not (is_header end_line)) (and_left (all_blank before) (not false) (headed_not_blank before headed)))
    (cond_same (eqb n 9) _ _ false (and_right (is_none (slice_get after 0)) (is_open (before ++ end_line ∷ [])) (closed (before ++ end_line ∷ []) ended))
    (cond_same (eqb n 10) _ _ false (and_left (is_headed before && is_finished before) (not false) (and_right (is_headed before) (is_finished before) unfinished))
    (and_right (is_open before && not false) _ (finish_none before (before ++ end_line ∷ after) n))))

-- what is left, after the header: declarations and the end
open_none : (all before rest : List Row) (declarations : List Declaration) → IsDeclaredOnce all → before ++ rest ≡ all → is_headed before ≡ true → is_finished before ≡ false
    → filled rest ≡ map line_of declarations ++ end_line ∷ [] → list_all (is_lawful (declared_residents all) (declared_hospitals all)) declarations ≡ true → NoneFrom before rest
open_none all before [] declarations once whole headed unfinished e lawful = no_lines (first_left declarations) (later_left declarations) (e ∙ left_are declarations)
open_none all before ([] ∷ after) declarations once whole headed unfinished e lawful = (
  blank_none before after (and_left (is_none (slice_get after 0)) (is_open (before ++ [] ∷ [])) (some_left after declarations e)),
  open_none all (before ++ [] ∷ []) after declarations once (append_assoc before ([] ∷ []) after ∙ whole) (headed_push before [] headed) (unfinished_more before [] unfinished refl) e lawful,
)
open_none all before ((t ∷ row) ∷ after) [] once whole headed unfinished e lawful =
    let p = first_same (t ∷ row) end_line (filled after) [] e in
    subst (λ (r : Row). NoneFrom before (r ∷ after)) (sym p.0)
    (end_none before after headed unfinished, ended_none (before ++ end_line ∷ []) after (finished_push before end_line ∙ ap (λ (b : Bool). b || true) unfinished) p.1)
open_none all before ((t ∷ row) ∷ after) (d ∷ declarations) once whole headed unfinished e lawful =
    let p = first_same (t ∷ row) (line_of d) (filled after) (map line_of declarations ++ end_line ∷ []) e in
    let l = and_parts (is_lawful (declared_residents all) (declared_hospitals all) d) (list_all (is_lawful (declared_residents all) (declared_hospitals all)) declarations) lawful in
    let here : before ++ line_of d ∷ after ≡ all = ap (λ (r : Row). before ++ r ∷ after) (sym p.0) ∙ whole in
    subst (λ (r : Row). NoneFrom before (r ∷ after)) (sym p.0) (
      (λ (n : ℕ). none_stands n before (line_of d) after (some_left after declarations p.1) headed unfinished (declaration_none all before after d once here l.0 n)),
      open_none all (before ++ line_of d ∷ []) after declarations once (append_assoc before (line_of d ∷ []) after ∙ here) (headed_push before (line_of d) headed)
          (unfinished_more before (line_of d) unfinished (declaration_goes_on d)) p.1 l.1,
    )

-- ---- the header

blank_unheaded : (before : List Row) → all_blank before ≡ true → is_headed before ≡ false
blank_unheaded [] h = refl
blank_unheaded ([] ∷ before) h = blank_unheaded before h
blank_unheaded ((t ∷ row) ∷ before) h = absurd cc

pub blank_unfinished : (before : List Row) → all_blank before ≡ true → is_finished before ≡ false
blank_unfinished [] h = refl
blank_unfinished ([] ∷ before) h = blank_unfinished before h
blank_unfinished ((t ∷ row) ∷ before) h = absurd cc

header_none : (before after : List Row) → all_blank before ≡ true → is_none (slice_get after 0) ≡ false → (n : ℕ) → stands n before header_line after ≡ false
header_none before after blank more n =
    cond_same (eqb n 1) _ _ false (and_right (all_blank before && not false) (not (is_header header_line)) refl)
    (cond_same (eqb n 9) _ _ false (and_left (is_none (slice_get after 0)) (is_open (before ++ header_line ∷ [])) more)
    (cond_same (eqb n 10) _ _ false (and_left (is_headed before && is_finished before) (not false) (and_left (is_headed before) (is_finished before) (blank_unheaded before blank)))
    (and_left (is_open before && not false) _ (and_left (is_open before) (not false) (and_left (is_headed before) (not (is_finished before)) (blank_unheaded before blank))))))

start_none : (all before rest : List Row) (declarations : List Declaration) → IsDeclaredOnce all → before ++ rest ≡ all → all_blank before ≡ true
    → filled rest ≡ lines_of declarations → list_all (is_lawful (declared_residents all) (declared_hospitals all)) declarations ≡ true → NoneFrom before rest
start_none all before [] declarations once whole blank e lawful = no_lines header_line (map line_of declarations ++ end_line ∷ []) e
start_none all before ([] ∷ after) declarations once whole blank e lawful = (
  blank_none before after (and_left (is_none (slice_get after 0)) (is_open (before ++ [] ∷ [])) (some_after after header_line (map line_of declarations ++ end_line ∷ []) e)),
  start_none all (before ++ [] ∷ []) after declarations once (append_assoc before ([] ∷ []) after ∙ whole)
      (blank_push before [] ∙ and_from (all_blank before) true blank refl) e lawful,
)
start_none all before ((t ∷ row) ∷ after) declarations once whole blank e lawful =
    let p = first_same (t ∷ row) header_line (filled after) (map line_of declarations ++ end_line ∷ []) e in
    let here : before ++ header_line ∷ after ≡ all = ap (λ (r : Row). before ++ r ∷ after) (sym p.0) ∙ whole in
    subst (λ (r : Row). NoneFrom before (r ∷ after)) (sym p.0) (
      header_none before after blank (some_left after declarations p.1),
      open_none all (before ++ header_line ∷ []) after declarations once (append_assoc before (header_line ∷ []) after ∙ here) (headed_new before header_line blank refl)
          (unfinished_more before header_line (blank_unfinished before blank) refl) p.1 lawful,
    )

-- ---- the law

some_filled : (lines : List Row) (x : Row) (xs : List Row) → filled lines ≡ x ∷ xs → all_blank lines ≡ false
some_filled [] x xs e = absurd cc
some_filled ([] ∷ lines) x xs e = some_filled lines x xs e
some_filled ((t ∷ row) ∷ lines) x xs e = refl

lawful_residents : (residents hospitals : List (List ℕ)) (declarations : List Declaration) → list_all (is_lawful residents hospitals) declarations ≡ true → list_all is_name (residents_in declarations) ≡ true
lawful_residents residents hospitals [] h = refl
lawful_residents residents hospitals (of_resident name items ∷ declarations) h =
    let t = and_parts (is_lawful residents hospitals (of_resident name items)) (list_all (is_lawful residents hospitals) declarations) h in
    and_from (is_name name) (list_all is_name (residents_in declarations)) (and_parts (is_name name) (is_list_of hospitals items) t.0).0 (lawful_residents residents hospitals declarations t.1)
lawful_residents residents hospitals (of_hospital name posts items ∷ declarations) h =
    let t = and_parts (is_lawful residents hospitals (of_hospital name posts items)) (list_all (is_lawful residents hospitals) declarations) h in
    lawful_residents residents hospitals declarations t.1

lawful_hospitals : (residents hospitals : List (List ℕ)) (declarations : List Declaration) → list_all (is_lawful residents hospitals) declarations ≡ true → list_all is_name (hospitals_in declarations) ≡ true
lawful_hospitals residents hospitals [] h = refl
lawful_hospitals residents hospitals (of_resident name items ∷ declarations) h =
    let t = and_parts (is_lawful residents hospitals (of_resident name items)) (list_all (is_lawful residents hospitals) declarations) h in
    lawful_hospitals residents hospitals declarations t.1
lawful_hospitals residents hospitals (of_hospital name posts items ∷ declarations) h =
    let t = and_parts (is_lawful residents hospitals (of_hospital name posts items)) (list_all (is_lawful residents hospitals) declarations) h in
    let u = and_parts (is_name name && is_capacity posts) (is_list_of residents items) t.0 in
    and_from (is_name name) (list_all is_name (hospitals_in declarations)) (and_parts (is_name name) (is_capacity posts) u.0).0 (lawful_hospitals residents hospitals declarations t.1)

pub reads_as : (bytes : List ℕ) (lists : Lists) → Spells bytes lists → ReadsAs bytes lists
reads_as bytes lists s =
    let all : List Row = rows bytes in
    let rn : declared_residents all ≡ residents_in s.declarations = declared_residents_are all s.declarations s.spelled in
    let hn : declared_hospitals all ≡ hospitals_in s.declarations = declared_hospitals_are all s.declarations s.spelled in
    let rc : length (declared_residents all) ≡ length (residents_of all) = length-map (residents_of all) (λ (l : ResidentLine). l.name) in
    let hc : length (declared_hospitals all) ≡ length (hospitals_of all) = length-map (hospitals_of all) (λ (l : HospitalLine). l.name) in
    let m = s.make_instance in
    let once : IsDeclaredOnce all = record {
      residents_apart = ap are_apart rn ∙ m.residents_apart;
      hospitals_apart = ap are_apart hn ∙ m.hospitals_apart;
      few_residents = omega (arith, rc, ap length rn, m.few_residents);
      few_hospitals = omega (arith, hc, ap length hn, m.few_hospitals);
      residents_named = ap (list_all is_name) rn ∙ lawful_residents (residents_in s.declarations) (hospitals_in s.declarations) s.declarations m.lawful;
      hospitals_named = ap (list_all is_name) hn ∙ lawful_hospitals (residents_in s.declarations) (hospitals_in s.declarations) s.declarations m.lawful;
    } in
    let lawful : list_all (is_lawful (declared_residents all) (declared_hospitals all)) s.declarations ≡ true =
    ap (λ (names : List (List ℕ)). list_all (is_lawful names (declared_hospitals all)) s.declarations) rn
    ∙ ap (λ (names : List (List ℕ)). list_all (is_lawful (residents_in s.declarations) names) s.declarations) hn ∙ m.lawful in
    record {
      accepted = accepted_from all (no_kind all (some_filled all header_line (map line_of s.declarations ++ end_line ∷ []) s.spelled)
          (start_none all [] all s.declarations once refl refl s.spelled lawful));
      says = same_lists all s.declarations s.spelled ∙ s.lists_are;
    }

pub spelled_well_formed : (bytes : List ℕ) (lists : Lists) → Spells bytes lists → IsWellFormed lists
spelled_well_formed bytes lists spelled =
    let reads : ReadsAs bytes lists = reads_as bytes lists spelled in
    subst IsWellFormed reads.says (accepted_well_formed (rows bytes) reads.accepted)
