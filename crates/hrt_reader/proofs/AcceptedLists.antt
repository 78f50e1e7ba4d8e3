-- What a text without a refusal says is well-formed.
use Rattle.std.proofs.Common.{◌≡◌, ℕ, suc, zero, ◌+◌, ◌<◌, ◌≤◌, Bool, true, false, not, ◌&&◌, cond, eqb, leb, List, [], ◌∷◌, ◌++◌, length, map, take, drop, get_or, Option, Some, None, refl, sym, ap, subst, ◌∙◌, arith}
use Rattle.std.specs.List.{list_all}
use Rattle.std.proofs.lemmas.Bool.{and_parts, and_from, false_from_ne_true}
use Rattle.std.proofs.lemmas.Bool.Decides.{nat_tests}
use Rattle.std.proofs.lemmas.List.{append-nil, map-append, length-append, length-map, drop_more, take_all}
use Rattle.std.proofs.lemmas.List.Elements.{filter_map-append}
use Rattle.std.proofs.lemmas.List.Folds.{list_all-append, list_all-map}
use Rattle.hrt_text.specs.Text.{Token, Row}
use Rattle.rank_tables.specs.declared.draft.DraftResident.{DraftResident}
use Rattle.rank_tables.specs.declared.draft.DraftHospital.{DraftHospital}
use Rattle.std.specs.Str.Parse.{digits_value}
use Rattle.hrt_text.specs.Grammar.{Form, resident, hospital, finish, other, form_of, is_blank, is_header, is_capacity, words}
use Rattle.rank_tables.specs.Names.{is_name, is_among, are_apart}
use Rattle.rank_tables.specs.WellFormed.{most_capacity}
use Rattle.hrt_reader.specs.Refusal.{ResidentLine, HospitalLine, is_open, resident_by, hospital_by, residents_of, hospitals_of, declared_residents, declared_hospitals, bad_line, bad_name, bad_capacity, bad_tie, declared_twice, named_twice, unknown_name, too_many_residents, too_many_hospitals, has_kind, Refusal, unknown_in, first_line, or_else, groups_in, resident_in, hospital_in, lists_of_rows, refusal, refusal_but_6}
use Rattle.rank_tables.specs.WellFormed.{is_list, names_of_residents, names_of_hospitals, IsWellFormed}
use Rattle.hrt_reader.specs.Stages.{kind_by_form}
use Rattle.hrt_reader.proofs.Places.{take_next, within_at}
use Rattle.hrt_reader.proofs.LineSteps.{header_form}
use Rattle.hrt_text.proofs.OpenGroup.{distinct_push}
use Rattle.hrt_reader.proofs.Accepted.{lines_none, pick_parts, by_form_open, declared_open, six_at}
use Rattle.hrt_reader.proofs.WellFormed.{list_from}

pub false_not : (b : Bool) → not b ≡ false → b ≡ true
false_not true h = refl
false_not false h = absurd cc

-- ---- lists that grow line by line

pub record GoodResidents (hs : List (List ℕ)) (lines : List ResidentLine) : Type 0 where
  pub named : list_all (λ l. is_name l.name) lines ≡ true
  pub listed : list_all (λ l. is_list (length hs) (groups_in hs l.items)) lines ≡ true
  pub apart : are_apart (map (λ l. l.name) lines) ≡ true
  pub few : length lines ≤ 20000

pub record GoodHospitals (rs : List (List ℕ)) (lines : List HospitalLine) : Type 0 where
  pub named : list_all (λ l. is_name l.name) lines ≡ true
  pub posts : list_all (λ l. leb (digits_value 10 l.capacity) most_capacity) lines ≡ true
  pub listed : list_all (λ l. is_list (length rs) (groups_in rs l.items)) lines ≡ true
  pub apart : are_apart (map (λ l. l.name) lines) ≡ true
  pub few : length lines ≤ 20000

all_push : {X : Type 0} (p : X → Bool) (xs : List X) (x : X) → list_all p xs ≡ true → p x ≡ true → list_all p (xs ++ x ∷ []) ≡ true
all_push p xs x h k = list_all-append p xs (x ∷ []) ∙ and_from (list_all p xs) (p x && true) h (and_from (p x) true k refl)

room : {X : Type 0} (xs : List X) (x : X) → length xs ≤ 20000 → eqb (length xs) 20000 ≡ false → length (xs ++ x ∷ []) ≤ 20000
room xs x h e = let n = length-append xs (x ∷ []) in grind (arith, nat_tests, length-append xs (x ∷ []))

push_resident : (hs : List (List ℕ)) (lines : List ResidentLine) (l : ResidentLine) → GoodResidents hs lines → is_name l.name ≡ true → is_list (length hs) (groups_in hs l.items) ≡ true
    → is_among l.name (map (λ k. k.name) lines) ≡ false → eqb (length lines) 20000 ≡ false → GoodResidents hs (lines ++ l ∷ [])
push_resident hs lines l good named listed new few = record {
  named = all_push (λ (k : ResidentLine). is_name k.name) lines l good.named named;
  listed = all_push (λ (k : ResidentLine). is_list (length hs) (groups_in hs k.items)) lines l good.listed listed;
  apart = ap are_apart (map-append (λ (k : ResidentLine). k.name) lines (l ∷ [])) ∙ distinct_push (map (λ (k : ResidentLine). k.name) lines) l.name good.apart new;
  few = room lines l good.few few;
}

push_hospital : (rs : List (List ℕ)) (lines : List HospitalLine) (l : HospitalLine) → GoodHospitals rs lines → is_name l.name ≡ true → leb (digits_value 10 l.capacity) most_capacity ≡ true → is_list (length rs) (groups_in rs l.items) ≡ true
    → is_among l.name (map (λ k. k.name) lines) ≡ false → eqb (length lines) 20000 ≡ false → GoodHospitals rs (lines ++ l ∷ [])
push_hospital rs lines l good named posts listed new few = record {
  named = all_push (λ (k : HospitalLine). is_name k.name) lines l good.named named;
  posts = all_push (λ (k : HospitalLine). leb (digits_value 10 k.capacity) most_capacity) lines l good.posts posts;
  listed = all_push (λ (k : HospitalLine). is_list (length rs) (groups_in rs k.items)) lines l good.listed listed;
  apart = ap are_apart (map-append (λ (k : HospitalLine). k.name) lines (l ∷ [])) ∙ distinct_push (map (λ (k : HospitalLine). k.name) lines) l.name good.apart new;
  few = room lines l good.few few;
}

-- ---- the kinds that are absent at a declaration

pub record Absent (before all : List Row) (form : Form) : Type 0 where
  pub line : bad_line form ≡ false
  pub names : bad_name form ≡ false
  pub posts : bad_capacity form ≡ false
  pub twice : declared_twice before form ≡ false
  pub once : named_twice form ≡ false
  pub ties : bad_tie form ≡ false
  pub few_residents : too_many_residents before form ≡ false
  pub few_hospitals : too_many_hospitals before form ≡ false
  pub known : unknown_name all form ≡ false

absent_from : (before : List Row) (form : Form) (whole all : List Row) → kind_by_form before form whole ≡ None → unknown_name all form ≡ false → Absent before all form
absent_from before form whole all e known =
    let p2 = pick_parts (bad_line form) 2 _ e in
    let p3 = pick_parts (bad_name form) 3 _ p2.1 in
    let p4 = pick_parts (bad_capacity form) 4 _ p3.1 in
    let p5 = pick_parts (declared_twice before form) 5 _ p4.1 in
    let p7 = pick_parts (named_twice form) 7 _ p5.1 in
    let p8 = pick_parts (bad_tie form) 8 _ p7.1 in
    let p11 = pick_parts (too_many_residents before form) 11 _ p8.1 in
    let p12 = pick_parts (too_many_hospitals before form) 12 _ p11.1 in
    record { line = p2.0; names = p3.0; posts = p4.0; twice = p5.0; once = p7.0; ties = p8.0; few_residents = p11.0; few_hospitals = p12.0; known = known }

pub or_parts_none : (o p : Option Refusal) → or_else o p ≡ None → (o ≡ None) × (p ≡ None)
or_parts_none None p e = (refl, e)
or_parts_none (Some r) p e = absurd cc

abbrev six_if : Bool → Option ℕ
six_if b = cond b (Some 6) None

six_none : (b : Bool) → six_if b ≡ None → b ≡ false
six_none false e = refl
six_none true e = absurd cc

pub absent_open : (all : List Row) (i : ℕ) (row : Row) (after : List Row) → refusal all ≡ None → drop i all ≡ row ∷ after → is_open (take i all) ≡ true → is_blank row ≡ false → Absent (take i all) all (form_of row)
absent_open all i row after h e opened filled =
    let p = or_parts_none (refusal_but_6 all) (first_line (unknown_in all) 1 (length all)) h in
    let s : 1 + i ≡ suc i = omega arith in
    let lt : i < length all = omega (arith, within_at all i row after e) in
    let six : unknown_in all (suc i) ≡ None = subst (λ (k : ℕ). unknown_in all k ≡ None) s (lines_none (unknown_in all) 1 (length all) p.1 i lt) in
    let known : unknown_name all (form_of row) ≡ false = sym (six_at all i row after p.0 e) ∙ six_none (has_kind all (suc i) 6) six in
    absent_from (take i all) (form_of row) (take i all ++ row ∷ after) all (by_form_open all i row after p.0 e opened filled) known

absent_at : (all : List Row) (i : ℕ) (row : Row) (after : List Row) → refusal all ≡ None → drop i all ≡ row ∷ after → is_blank row ≡ false → is_header row ≡ false → Absent (take i all) all (form_of row)
absent_at all i row after h e filled plain =
    let p = or_parts_none (refusal_but_6 all) (first_line (unknown_in all) 1 (length all)) h in
    absent_open all i row after h e (declared_open all i row after p.0 e filled plain) filled

-- ---- line by line

filled : (row : Row) (form : Form) → form ≡ form_of row → (form ≡ other → ⊥) → is_blank row ≡ false
filled [] form e declared = absurd (declared e)
filled (t ∷ row) form e declared = refl

declared_filled : (row : Row) (form : Form) → form ≡ form_of row → (form ≡ other → ⊥) → (is_blank row ≡ false) × (is_header row ≡ false)
declared_filled row form e declared = (filled row form e declared, false_from_ne_true (is_header row) (λ (h : is_header row ≡ true). declared (e ∙ header_form row h)))

resident_other : {name : List ℕ} {items : List Token} → resident name items ≡ other → ⊥
resident_other e = cc

hospital_other : {name capacity : List ℕ} {items : List Token} → hospital name capacity items ≡ other → ⊥
hospital_other e = cc

resident_by_form : (all : List Row) (before : List Row) (row : Row) (form : Form) → form ≡ form_of row → ((form ≡ other → ⊥) → Absent before all form) → GoodResidents (declared_hospitals all) (residents_of before) → GoodResidents (declared_hospitals all) (residents_of before ++ residents_of (row ∷ []))
resident_by_form all before row (resident name items) e absent good =
    let a = absent resident_other in
    let l : ResidentLine = record { name = name; items = items } in
    let one : residents_of (row ∷ []) ≡ l ∷ [] = rw (← e) refl in
    let named : is_name name ≡ true = (and_parts (is_name name) (list_all is_name (words items)) (false_not _ a.names)).0 in
    let listed : is_list (length (declared_hospitals all)) (groups_in (declared_hospitals all) items) ≡ true = list_from (declared_hospitals all) items a.ties (false_not _ a.known) (false_not _ a.once) in
    subst (λ (ls : List ResidentLine). GoodResidents (declared_hospitals all) (residents_of before ++ ls)) (sym one) (push_resident (declared_hospitals all) (residents_of before) l good named listed a.twice a.few_residents)
resident_by_form all before row (hospital name capacity items) e absent good =
    let none : residents_of (row ∷ []) ≡ [] = rw (← e) refl in
    subst (λ (ls : List ResidentLine). GoodResidents (declared_hospitals all) (residents_of before ++ ls)) (sym none) (subst (GoodResidents (declared_hospitals all)) (sym (append-nil (residents_of before))) good)
resident_by_form all before row finish e absent good =
    let none : residents_of (row ∷ []) ≡ [] = rw (← e) refl in
    subst (λ (ls : List ResidentLine). GoodResidents (declared_hospitals all) (residents_of before ++ ls)) (sym none) (subst (GoodResidents (declared_hospitals all)) (sym (append-nil (residents_of before))) good)
resident_by_form all before row other e absent good =
    let none : residents_of (row ∷ []) ≡ [] = rw (← e) refl in
    subst (λ (ls : List ResidentLine). GoodResidents (declared_hospitals all) (residents_of before ++ ls)) (sym none) (subst (GoodResidents (declared_hospitals all)) (sym (append-nil (residents_of before))) good)

posts_of : (w : List ℕ) → is_capacity w ≡ true → leb (digits_value 10 w) most_capacity ≡ true
posts_of w h = (and_parts _ (leb (digits_value 10 w) most_capacity) h).1

hospital_by_form : (all : List Row) (before : List Row) (row : Row) (form : Form) → form ≡ form_of row → ((form ≡ other → ⊥) → Absent before all form) → GoodHospitals (declared_residents all) (hospitals_of before) → GoodHospitals (declared_residents all) (hospitals_of before ++ hospitals_of (row ∷ []))
hospital_by_form all before row (hospital name capacity items) e absent good =
    let a = absent hospital_other in
    let l : HospitalLine = record { name = name; capacity = capacity; items = items } in
    let one : hospitals_of (row ∷ []) ≡ l ∷ [] = rw (← e) refl in
    let named : is_name name ≡ true = (and_parts (is_name name) (list_all is_name (words items)) (false_not _ a.names)).0 in
    let listed : is_list (length (declared_residents all)) (groups_in (declared_residents all) items) ≡ true = list_from (declared_residents all) items a.ties (false_not _ a.known) (false_not _ a.once) in
    subst (λ (ls : List HospitalLine). GoodHospitals (declared_residents all) (hospitals_of before ++ ls)) (sym one) (push_hospital (declared_residents all) (hospitals_of before) l good named (posts_of capacity (false_not _ a.posts)) listed a.twice a.few_hospitals)
hospital_by_form all before row (resident name items) e absent good =
    let none : hospitals_of (row ∷ []) ≡ [] = rw (← e) refl in
    subst (λ (ls : List HospitalLine). GoodHospitals (declared_residents all) (hospitals_of before ++ ls)) (sym none) (subst (GoodHospitals (declared_residents all)) (sym (append-nil (hospitals_of before))) good)
hospital_by_form all before row finish e absent good =
    let none : hospitals_of (row ∷ []) ≡ [] = rw (← e) refl in
    subst (λ (ls : List HospitalLine). GoodHospitals (declared_residents all) (hospitals_of before ++ ls)) (sym none) (subst (GoodHospitals (declared_residents all)) (sym (append-nil (hospitals_of before))) good)
hospital_by_form all before row other e absent good =
    let none : hospitals_of (row ∷ []) ≡ [] = rw (← e) refl in
    subst (λ (ls : List HospitalLine). GoodHospitals (declared_residents all) (hospitals_of before ++ ls)) (sym none) (subst (GoodHospitals (declared_residents all)) (sym (append-nil (hospitals_of before))) good)

resident_step : (all : List Row) (before : List Row) (row : Row) (form : Form) → form ≡ form_of row → ((form ≡ other → ⊥) → Absent before all form) → GoodResidents (declared_hospitals all) (residents_of before) → GoodResidents (declared_hospitals all) (residents_of (before ++ row ∷ []))
resident_step all before row form e absent good = subst (GoodResidents (declared_hospitals all)) (sym (filter_map-append (λ (r : Row). resident_by (form_of r)) before (row ∷ []))) (resident_by_form all before row form e absent good)

hospital_step : (all : List Row) (before : List Row) (row : Row) (form : Form) → form ≡ form_of row → ((form ≡ other → ⊥) → Absent before all form) → GoodHospitals (declared_residents all) (hospitals_of before) → GoodHospitals (declared_residents all) (hospitals_of (before ++ row ∷ []))
hospital_step all before row form e absent good = subst (GoodHospitals (declared_residents all)) (sym (filter_map-append (λ (r : Row). hospital_by (form_of r)) before (row ∷ []))) (hospital_by_form all before row form e absent good)

next_is : (all : List Row) (i : ℕ) (row : Row) (after : List Row) → drop i all ≡ row ∷ after → take (suc i) all ≡ take i all ++ row ∷ []
next_is all i row after e = let s : suc i ≡ i + 1 = omega arith in ap (λ (k : ℕ). take k all) s ∙ take_next all i row after e

absent_for : (all : List Row) (i : ℕ) → refusal all ≡ None → i < length all → (form_of (get_or all i []) ≡ other → ⊥) → Absent (take i all) all (form_of (get_or all i []))
absent_for all i h lt declared =
    let row : Row = get_or all i [] in
    let f = declared_filled row (form_of row) refl declared in
    absent_at all i row (drop (i + 1) all) h (drop_more all i [] lt) f.0 f.1

pub good_residents_to : (all : List Row) → refusal all ≡ None → (i : ℕ) → i ≤ length all → GoodResidents (declared_hospitals all) (residents_of (take i all))
good_residents_to all h zero le = record { named = refl; listed = refl; apart = refl; few = omega arith }
good_residents_to all h (suc i) le =
    let row : Row = get_or all i [] in
    let e : drop i all ≡ row ∷ drop (i + 1) all = drop_more all i [] (omega arith) in
    subst (λ (l : List Row). GoodResidents (declared_hospitals all) (residents_of l)) (sym (next_is all i row (drop (i + 1) all) e))
    (resident_step all (take i all) row (form_of row) refl (absent_for all i h (omega arith)) (good_residents_to all h i (omega arith)))

pub good_hospitals_to : (all : List Row) → refusal all ≡ None → (i : ℕ) → i ≤ length all → GoodHospitals (declared_residents all) (hospitals_of (take i all))
good_hospitals_to all h zero le = record { named = refl; posts = refl; listed = refl; apart = refl; few = omega arith }
good_hospitals_to all h (suc i) le =
    let row : Row = get_or all i [] in
    let e : drop i all ≡ row ∷ drop (i + 1) all = drop_more all i [] (omega arith) in
    subst (λ (l : List Row). GoodHospitals (declared_residents all) (hospitals_of l)) (sym (next_is all i row (drop (i + 1) all) e))
    (hospital_step all (take i all) row (form_of row) refl (absent_for all i h (omega arith)) (good_hospitals_to all h i (omega arith)))

-- ---- the law

names_in : (hs : List (List ℕ)) (lines : List ResidentLine) → map (λ (r : DraftResident). r.name) (map (resident_in hs) lines) ≡ map (λ (l : ResidentLine). l.name) lines
names_in hs [] = refl
names_in hs (l ∷ lines) = ap (λ (ns : List (List ℕ)). l.name ∷ ns) (names_in hs lines)

hospital_names_in : (rs : List (List ℕ)) (lines : List HospitalLine) → map (λ (h : DraftHospital). h.name) (map (hospital_in rs) lines) ≡ map (λ (l : HospitalLine). l.name) lines
hospital_names_in rs [] = refl
hospital_names_in rs (l ∷ lines) = ap (λ (ns : List (List ℕ)). l.name ∷ ns) (hospital_names_in rs lines)

pub accepted_well_formed : (all : List Row) → refusal all ≡ None → IsWellFormed (lists_of_rows all)
accepted_well_formed all h =
    let whole : take (length all) all ≡ all = take_all (length all) all (omega arith) in
    let r : GoodResidents (declared_hospitals all) (residents_of all) = subst (λ (l : List Row). GoodResidents (declared_hospitals all) (residents_of l)) whole (good_residents_to all h (length all) (omega arith)) in
    let k : GoodHospitals (declared_residents all) (hospitals_of all) = subst (λ (l : List Row). GoodHospitals (declared_residents all) (hospitals_of l)) whole (good_hospitals_to all h (length all) (omega arith)) in
    let rn : names_of_residents (lists_of_rows all) ≡ declared_residents all = names_in (declared_hospitals all) (residents_of all) in
    let hn : names_of_hospitals (lists_of_rows all) ≡ declared_hospitals all = hospital_names_in (declared_residents all) (hospitals_of all) in
    let rc : length (lists_of_rows all).residents ≡ length (residents_of all) = length-map (residents_of all) (resident_in (declared_hospitals all)) in
    let hc : length (lists_of_rows all).hospitals ≡ length (hospitals_of all) = length-map (hospitals_of all) (hospital_in (declared_residents all)) in
    let rc2 : length (declared_residents all) ≡ length (lists_of_rows all).residents = length-map (residents_of all) (λ (l : ResidentLine). l.name) ∙ sym rc in
    let hc2 : length (declared_hospitals all) ≡ length (lists_of_rows all).hospitals = length-map (hospitals_of all) (λ (l : HospitalLine). l.name) ∙ sym hc in
    record {
      few_residents = omega (arith, rc, r.few);
      few_hospitals = omega (arith, hc, k.few);
      resident_names = ap (list_all is_name) rn ∙ list_all-map is_name (λ (l : ResidentLine). l.name) (residents_of all) ∙ r.named;
      hospital_names = ap (list_all is_name) hn ∙ list_all-map is_name (λ (l : HospitalLine). l.name) (hospitals_of all) ∙ k.named;
      residents_apart = ap are_apart rn ∙ r.apart;
      hospitals_apart = ap are_apart hn ∙ k.apart;
      capacities = list_all-map (λ (h : DraftHospital). leb h.capacity most_capacity) (hospital_in (declared_residents all)) (hospitals_of all) ∙ k.posts;
      resident_lists = list_all-map (λ (x : DraftResident). is_list (length (lists_of_rows all).hospitals) x.groups) (resident_in (declared_hospitals all)) (residents_of all)
          ∙ ap (λ (n : ℕ). list_all (λ (l : ResidentLine). is_list n (groups_in (declared_hospitals all) l.items)) (residents_of all)) (sym hc2) ∙ r.listed;
      hospital_lists = list_all-map (λ (x : DraftHospital). is_list (length (lists_of_rows all).residents) x.groups) (hospital_in (declared_residents all)) (hospitals_of all)
          ∙ ap (λ (n : ℕ). list_all (λ (l : HospitalLine). is_list n (groups_in (declared_residents all) l.items)) (hospitals_of all)) (sym rc2) ∙ k.listed;
    }
