-- A text without a refusal is a spelling of what its lines declare.
use Rattle.std.proofs.Common.{◌≡◌, ℕ, ◌+◌, Bool, true, false, not, ◌&&◌, List, [], ◌∷◌, ◌++◌, length, map, take, drop, None, refl, sym, ap, subst, ◌∙◌, arith}
use Rattle.std.specs.Prelude.{codes, is_none, slice_get, flat_map}
use Rattle.std.specs.List.{list_all}
use Rattle.std.proofs.lemmas.Bool.{and_parts, and_from, not_from_false, or_from, or_right}
use Rattle.std.proofs.lemmas.List.{append-nil, take-append-drop, take_all, length-map}
use Rattle.hrt_text.specs.Text.{Row, Token, colon, word, rows}
use Rattle.hrt_text.specs.Grammar.{Form, resident, hospital, finish, other, form_of, is_blank, is_capacity, is_header, words}
use Rattle.rank_tables.specs.Instance.{Lists}
use Rattle.rank_tables.specs.Names.{is_name, is_among, are_apart}
use Rattle.hrt_reader.specs.Accepted.{Declaration, Item, of_resident, of_hospital, Spells, header_line, end_line, filled, hospitals_in, is_lawful, is_list_of, item_names, line_of, lines_of, residents_in}
use Rattle.hrt_reader.specs.Refusal.{ResidentLine, HospitalLine, ReadsAs, all_blank, first_line, declared_hospitals, hospitals_of, is_finish, is_finished, is_headed, is_open, lists_of_rows, refusal, refusal_but_6, declared_residents, residents_of, unknown_in}
use Rattle.hrt_reader.proofs.Accepted.{line_none, no_nine, no_one, no_ten, only_header, some_row}
use Rattle.hrt_reader.proofs.AcceptedLists.{Absent, GoodHospitals, GoodResidents, absent_open, false_not, good_hospitals_to, good_residents_to, or_parts_none}
use Rattle.hrt_reader.proofs.FilledLines.{declared_hospitals_are, declared_residents_are, same_lists}
use Rattle.hrt_reader.proofs.ItemTokens.{items_from, items_tokens, words_items}
use Rattle.hrt_reader.proofs.LineSteps.{blank_push, finished_push, headed_new, headed_push, open_push}
use Rattle.hrt_reader.proofs.Places.{drop_next, take_next}
use Rattle.hrt_reader.proofs.Shapes.{HasShape, header_shape, shape}
use Rattle.hrt_reader.proofs.Unrefused.{blank_unfinished}

-- ---- tests that are known

true_first : (x : Bool) → (x && true) ≡ false → x ≡ false
true_first true h = absurd cc
true_first false h = refl

nothing_open : (x o : Bool) → o ≡ true → (x && o) ≡ false → x ≡ false
nothing_open x true h k = true_first x k
nothing_open x false h k = absurd cc

only_blank : (headed finished : Bool) → headed ≡ true → finished ≡ true → (headed && finished && true) ≡ false → true ≡ false
only_blank true true h k e = e
only_blank false finished h k e = absurd cc
only_blank true false h k e = absurd cc

no_more : {X : Type 0} → true ≡ false → X
no_more e = absurd cc

whole_before : (all : List Row) (i : ℕ) → drop i all ≡ [] → take i all ≡ all
whole_before all i e = sym (append-nil (take i all)) ∙ ap (λ (l : List Row). take i all ++ l) (sym e) ∙ take-append-drop i all

-- ---- after the end

ended_blank : (all : List Row) → refusal_but_6 all ≡ None → (rest : List Row) (i : ℕ) → drop i all ≡ rest → is_headed (take i all) ≡ true → is_finished (take i all) ≡ true → filled rest ≡ []
ended_blank all h [] i e headed finished = refl
ended_blank all h ([] ∷ after) i e headed finished =
    let next : take (i + 1) all ≡ take i all ++ [] ∷ [] = take_next all i [] after e in
    ended_blank all h after (i + 1) (drop_next all i [] after e) (ap is_headed next ∙ headed_push (take i all) [] headed)
    (ap (λ (l : List Row). is_finished l) next ∙ finished_push (take i all) [] ∙ rw finished refl)
ended_blank all h ((t ∷ row) ∷ after) i e headed finished =
    no_more (only_blank (is_headed (take i all)) (is_finished (take i all)) headed finished (no_ten (take i all) (t ∷ row) after (line_none all i (t ∷ row) after h e)))

-- ---- declarations

-- the filled ones of these lines are declarations that are lawful in the whole text, and the end
record AreDeclared (all rest : List Row) : Type 0 where
  declarations : List Declaration
  spelled : filled rest ≡ map line_of declarations ++ end_line ∷ []
  lawful : list_all (is_lawful (declared_residents all) (declared_hospitals all)) declarations ≡ true

filled_more : (row : Row) (after : List Row) → is_blank row ≡ false → filled (row ∷ after) ≡ row ∷ filled after
filled_more [] after h = absurd cc
filled_more (t ∷ row) after h = refl

lists_known : (names : List (List ℕ)) (items : List Item) (tokens : List Token) → items_tokens items ≡ tokens → list_all (λ w. is_among w names) (words tokens) ≡ true → are_apart (words tokens) ≡ true → is_list_of names items ≡ true
lists_known names items tokens e known once =
    let same : flat_map item_names items ≡ words tokens = sym (words_items items) ∙ ap words e in
    and_from (list_all (λ (w : List ℕ). is_among w names) (flat_map item_names items)) (are_apart (flat_map item_names items))
    (ap (list_all (λ (w : List ℕ). is_among w names)) same ∙ known) (ap are_apart same ∙ once)

declared_by : (all before after : List Row) (row : Row) (form : Form) → is_blank row ≡ false → HasShape row form → Absent before all form
    → (is_finish form ≡ false → AreDeclared all after) → (is_finish form ≡ true → filled after ≡ []) → AreDeclared all (row ∷ after)
declared_by all before after row other some has absent later ended = no_more absent.line
declared_by all before after row finish some has absent later ended = record {
  declarations = [];
  spelled = filled_more row after some ∙ ap (λ (r : Row). r ∷ filled after) has ∙ ap (λ (l : List Row). end_line ∷ l) (ended refl);
  lawful = refl;
}
declared_by all before after row (resident name items) some has absent later ended =
    let next : AreDeclared all after = later refl in
    let p = items_from _ items absent.ties in
    let d : Declaration = of_resident name p.0 in
    let line : row ≡ line_of d = has ∙ ap (λ (l : List Token). word (codes "resident") ∷ word name ∷ colon ∷ l) (sym p.1) in
    let named = (and_parts (is_name name) (list_all is_name (words items)) (false_not _ absent.names)).0 in
    record {
      declarations = d ∷ next.declarations;
      spelled = filled_more row after some ∙ ap (λ (r : Row). r ∷ filled after) line ∙ ap (λ (l : List Row). line_of d ∷ l) next.spelled;
      lawful = and_from (is_lawful (declared_residents all) (declared_hospitals all) d) (list_all (is_lawful (declared_residents all) (declared_hospitals all)) next.declarations)
          (and_from (is_name name) (is_list_of (declared_hospitals all) p.0) named (lists_known (declared_hospitals all) p.0 items p.1 (false_not _ absent.known) (false_not _ absent.once))) next.lawful;
    }
declared_by all before after row (hospital name posts items) some has absent later ended =
    let next : AreDeclared all after = later refl in
    let p = items_from _ items absent.ties in
    let d : Declaration = of_hospital name posts p.0 in
    let line : row ≡ line_of d = has ∙ ap (λ (l : List Token). word (codes "hospital") ∷ word name ∷ word posts ∷ colon ∷ l) (sym p.1) in
    let named = (and_parts (is_name name) (list_all is_name (words items)) (false_not _ absent.names)).0 in
    record {
      declarations = d ∷ next.declarations;
      spelled = filled_more row after some ∙ ap (λ (r : Row). r ∷ filled after) line ∙ ap (λ (l : List Row). line_of d ∷ l) next.spelled;
      lawful = and_from (is_lawful (declared_residents all) (declared_hospitals all) d) (list_all (is_lawful (declared_residents all) (declared_hospitals all)) next.declarations)
          (and_from (is_name name && is_capacity posts) (is_list_of (declared_residents all) p.0) (and_from (is_name name) (is_capacity posts) named (false_not _ absent.posts))
          (lists_known (declared_residents all) p.0 items p.1 (false_not _ absent.known) (false_not _ absent.once))) next.lawful;
    }

-- from a place after the header and before the end
open_declared : (all : List Row) → refusal all ≡ None → refusal_but_6 all ≡ None → (rest : List Row) (i : ℕ) → drop i all ≡ rest → is_open (take i all) ≡ true → is_none (slice_get rest 0) ≡ false → AreDeclared all rest
open_declared all h k [] i e opened more = absurd cc
open_declared all h k ([] ∷ after) i e opened more =
    let next : take (i + 1) all ≡ take i all ++ [] ∷ [] = take_next all i [] after e in
    let goes_on : is_open (take i all ++ [] ∷ []) ≡ true = open_push (take i all) [] opened refl in
    let nine = no_nine (take i all) [] after (line_none all i [] after k e) in
    let later : AreDeclared all after = open_declared all h k after (i + 1) (drop_next all i [] after e) (ap (λ (l : List Row). is_open l) next ∙ goes_on) (nothing_open (is_none (slice_get after 0)) (is_open (take i all ++ [] ∷ [])) goes_on nine) in
    record { declarations = later.declarations; spelled = later.spelled; lawful = later.lawful }
open_declared all h k ((t ∷ row) ∷ after) i e opened more =
    let line : Row = t ∷ row in
    let next : take (i + 1) all ≡ take i all ++ line ∷ [] = take_next all i line after e in
    let nine = no_nine (take i all) line after (line_none all i line after k e) in
    let parts = and_parts (is_headed (take i all)) (not (is_finished (take i all))) opened in
    let later : is_finish (form_of line) ≡ false → AreDeclared all after =
    λ (f : is_finish (form_of line) ≡ false).
    let goes_on : is_open (take i all ++ line ∷ []) ≡ true = open_push (take i all) line opened f in
    open_declared all h k after (i + 1) (drop_next all i line after e) (ap (λ (l : List Row). is_open l) next ∙ goes_on) (nothing_open (is_none (slice_get after 0)) (is_open (take i all ++ line ∷ [])) goes_on nine) in
    let ended : is_finish (form_of line) ≡ true → filled after ≡ [] =
    λ (f : is_finish (form_of line) ≡ true).
    ended_blank all k after (i + 1) (drop_next all i line after e) (ap is_headed next ∙ headed_push (take i all) line parts.0)
    (ap (λ (l : List Row). is_finished l) next ∙ finished_push (take i all) line ∙ or_right (is_finished (take i all)) (is_finish (form_of line)) f) in
    declared_by all (take i all) after line (form_of line) refl (shape line) (absent_open all i line after h e opened refl) later ended

-- ---- the header

record IsHeaded (all rest : List Row) : Type 0 where
  declarations : List Declaration
  spelled : filled rest ≡ lines_of declarations
  lawful : list_all (is_lawful (declared_residents all) (declared_hospitals all)) declarations ≡ true

start_headed : (all : List Row) → refusal all ≡ None → refusal_but_6 all ≡ None → (rest : List Row) (i : ℕ) → drop i all ≡ rest → all_blank (take i all) ≡ true → IsHeaded all rest
start_headed all h k [] i e blank = no_more (sym (ap all_blank (sym (whole_before all i e)) ∙ blank) ∙ some_row all k)
start_headed all h k ([] ∷ after) i e blank =
    let next : take (i + 1) all ≡ take i all ++ [] ∷ [] = take_next all i [] after e in
    let later : IsHeaded all after = start_headed all h k after (i + 1) (drop_next all i [] after e) (ap all_blank next ∙ blank_push (take i all) [] ∙ and_from (all_blank (take i all)) true blank refl) in
    record { declarations = later.declarations; spelled = later.spelled; lawful = later.lawful }
start_headed all h k ((t ∷ row) ∷ after) i e blank =
    let line : Row = t ∷ row in
    let none = line_none all i line after k e in
    let header : is_header line ≡ true = only_header (all_blank (take i all)) (is_blank line) (is_header line) blank refl (no_one (take i all) line after none) in
    let is : line ≡ header_line = header_shape line header in
    let next : take (i + 1) all ≡ take i all ++ line ∷ [] = take_next all i line after e in
    let unfinished : is_finished (take i all ++ line ∷ []) ≡ false =
    finished_push (take i all) line ∙ or_from (is_finished (take i all)) (is_finish (form_of line)) (blank_unfinished (take i all) blank) (ap (λ (r : Row). is_finish (form_of r)) is) in
    let goes_on : is_open (take i all ++ line ∷ []) ≡ true =
    and_from (is_headed (take i all ++ line ∷ [])) (not (is_finished (take i all ++ line ∷ []))) (headed_new (take i all) line blank refl ∙ header) (not_from_false _ unfinished) in
    let more : is_none (slice_get after 0) ≡ false = nothing_open (is_none (slice_get after 0)) (is_open (take i all ++ line ∷ [])) goes_on (no_nine (take i all) line after none) in
    let later : AreDeclared all after = open_declared all h k after (i + 1) (drop_next all i line after e) (ap (λ (l : List Row). is_open l) next ∙ goes_on) more in
    record {
      declarations = later.declarations;
      spelled = ap (λ (r : Row). r ∷ filled after) is ∙ ap (λ (l : List Row). header_line ∷ l) later.spelled;
      lawful = later.lawful;
    }

-- ---- the law

spelled_as : (bytes : List ℕ) → refusal (rows bytes) ≡ None → Spells bytes (lists_of_rows (rows bytes))
spelled_as bytes h =
    let all : List Row = rows bytes in
    let k : refusal_but_6 all ≡ None = (or_parts_none (refusal_but_6 all) (first_line (unknown_in all) 1 (length all)) h).0 in
    let found : IsHeaded all all = start_headed all h k all 0 refl refl in
    let ds : List Declaration = found.declarations in
    let rn : declared_residents all ≡ residents_in ds = declared_residents_are all ds found.spelled in
    let hn : declared_hospitals all ≡ hospitals_in ds = declared_hospitals_are all ds found.spelled in
    let rc : length (declared_residents all) ≡ length (residents_of all) = length-map (residents_of all) (λ (l : ResidentLine). l.name) in
    let hc : length (declared_hospitals all) ≡ length (hospitals_of all) = length-map (hospitals_of all) (λ (l : HospitalLine). l.name) in
    let whole : take (length all) all ≡ all = take_all (length all) all (omega arith) in
    let r = subst (λ (l : List Row). GoodResidents (declared_hospitals all) (residents_of l)) whole (good_residents_to all h (length all) (omega arith)) in
    let g = subst (λ (l : List Row). GoodHospitals (declared_residents all) (hospitals_of l)) whole (good_hospitals_to all h (length all) (omega arith)) in
    record {
      declarations = ds;
      spelled = found.spelled;
      make_instance = record {
        lawful = ap (λ (names : List (List ℕ)). list_all (is_lawful names (hospitals_in ds)) ds) (sym rn) ∙ ap (λ (names : List (List ℕ)). list_all (is_lawful (declared_residents all) names) ds) (sym hn) ∙ found.lawful;
        residents_apart = ap are_apart (sym rn) ∙ r.apart;
        hospitals_apart = ap are_apart (sym hn) ∙ g.apart;
        few_residents = omega (arith, rc, ap length rn, r.few);
        few_hospitals = omega (arith, hc, ap length hn, g.few);
      };
      lists_are = sym (same_lists all ds found.spelled);
    }

pub spells_from : (bytes : List ℕ) (lists : Lists) → ReadsAs bytes lists → Spells bytes lists
spells_from bytes lists reads = subst (λ (l : Lists). Spells bytes l) reads.says (spelled_as bytes reads.accepted)
