-- The canonical spelling, as its pieces one after the other; the numbers in the lists are numbers of names.
use Rattle.std.proofs.Common.{◌≡◌, ℕ, zero, suc, ◌-◌, ◌<◌, ◌≤◌, true, ltb, List, [], ◌∷◌, ◌++◌, length, map, get_or, take, drop, Option, Some, refl, sym, ap, ◌∙◌, append_assoc, arith, IsTrue}
use Rattle.std.specs.Prelude.{flat_map, decimal, codes, slice_get, unwrap_or, option_map}
use Rattle.std.specs.List.{concat, list_all, join_with_byte}
use Rattle.std.proofs.lemmas.Bool.{and_parts, ltb-true}
use Rattle.std.proofs.lemmas.List.{append-nil, length-map, take_all}
use Rattle.std.proofs.lemmas.List.Concat.{flat_map-append}
use Rattle.std.proofs.lemmas.List.Folds.{list_all-append}
use Rattle.rank_tables.specs.Instance.{Lists, groups_of_resident, groups_of_hospital, capacity_of}
use Rattle.rank_tables.specs.WellFormed.{names_of_residents, names_of_hospitals, is_group, is_list, IsWellFormed}
use Rattle.rank_tables.specs.Numbers.{is_distinct}
use Rattle.rank_tables.specs.declared.draft.DraftResident.{DraftResident}
use Rattle.rank_tables.specs.declared.draft.DraftHospital.{DraftHospital}
use Rattle.hrt_reader.specs.Spelling.{name_at, group_text, items_text, resident_text, hospital_text, spelling}
use Rattle.hrt_reader.specs.Written.{is_number, spaced, line_of_resident, line_of_hospital}

-- ---- groups

spaced_join : (names : List (List ℕ)) (x : ℕ) (xs : List ℕ) → join_with_byte 32 (map (name_at names) (x ∷ xs)) ≡ name_at names x ++ flat_map (spaced names) xs
spaced_join names x [] = sym (append-nil (name_at names x))
spaced_join names x (y ∷ ys) = ap (λ (l : List ℕ). name_at names x ++ 32 ∷ l) (spaced_join names y ys)

pub group_tied : (names : List (List ℕ)) (x : ℕ) (others : List ℕ) → 0 < length others
    → codes " (" ++ (name_at names x ++ (flat_map (spaced names) others ++ codes ")")) ≡ group_text names (x ∷ others)
group_tied names x [] some = absurd (omega arith)
group_tied names x (y ∷ ys) some =
    ap (λ (l : List ℕ). 32 ∷ 40 ∷ l) (sym (append_assoc (name_at names x) (flat_map (spaced names) (y ∷ ys)) (41 ∷ [])) ∙ ap (λ (l : List ℕ). l ++ 41 ∷ []) (sym (spaced_join names x (y ∷ ys))))

pub group_of_several : (names : List (List ℕ)) (group : List ℕ) → 2 ≤ length group
    → codes " (" ++ (name_at names (get_or group 0 0) ++ (flat_map (spaced names) (take (length group - 1) (drop 1 group)) ++ codes ")")) ≡ group_text names group
group_of_several names [] some = absurd (omega arith)
group_of_several names (x ∷ others) some =
    let all : take (length (x ∷ others) - 1) others ≡ others = take_all (length (x ∷ others) - 1) others (omega arith) in
    ap (λ (l : List ℕ). codes " (" ++ (name_at names x ++ (flat_map (spaced names) l ++ codes ")"))) all ∙ group_tied names x others (omega arith)

-- ---- elements

pub number_at : (names : List (List ℕ)) (xs : List ℕ) (i : ℕ) → IsTrue (list_all (is_number names) xs) → i < length xs → get_or xs i 0 < length names
number_at names [] i h lt = absurd (omega arith)
number_at names (x ∷ xs) zero h lt = ltb-true _ _ (and_parts (is_number names x) (list_all (is_number names) xs) h).0
number_at names (x ∷ xs) (suc i) h lt = number_at names xs i (and_parts (is_number names x) (list_all (is_number names) xs) h).1 (omega arith)

pub group_at : (names : List (List ℕ)) (groups : List (List ℕ)) (k : ℕ) → IsTrue (list_all (is_number names) (concat groups)) → k < length groups → IsTrue (list_all (is_number names) (get_or groups k []))
group_at names [] k h lt = absurd (omega arith)
group_at names (g ∷ groups) zero h lt = (and_parts (list_all (is_number names) g) (list_all (is_number names) (concat groups)) (sym (list_all-append (is_number names) g (concat groups)) ∙ h)).0
group_at names (g ∷ groups) (suc k) h lt = group_at names groups k (and_parts (list_all (is_number names) g) (list_all (is_number names) (concat groups)) (sym (list_all-append (is_number names) g (concat groups)) ∙ h)).1 (omega arith)

-- ---- lists of an instance

numbers_of_list : (names : List (List ℕ)) (count : ℕ) (groups : List (List ℕ)) → count ≡ length names → is_list count groups ≡ true → list_all (is_number names) (concat groups) ≡ true
numbers_of_list names count groups same h =
    let t = and_parts (list_all is_group groups) (list_all (λ (x : ℕ). ltb x count) (concat groups)) (and_parts _ (is_distinct (concat groups)) h).0 in
    ap (λ (n : ℕ). list_all (λ (x : ℕ). ltb x n) (concat groups)) (sym same) ∙ t.1

resident_groups_at : (count : ℕ) (rs : List DraftResident) (r : ℕ) → list_all (λ x. is_list count x.groups) rs ≡ true → r < length rs → is_list count (unwrap_or (option_map (λ resident. resident.groups) (slice_get rs r)) []) ≡ true
resident_groups_at count [] r h lt = absurd (omega arith)
resident_groups_at count (x ∷ rs) zero h lt = (and_parts (is_list count x.groups) (list_all (λ (y : DraftResident). is_list count y.groups) rs) h).0
resident_groups_at count (x ∷ rs) (suc r) h lt = resident_groups_at count rs r (and_parts (is_list count x.groups) (list_all (λ (y : DraftResident). is_list count y.groups) rs) h).1 (omega arith)

hospital_groups_at : (count : ℕ) (hs : List DraftHospital) (h : ℕ) → list_all (λ x. is_list count x.groups) hs ≡ true → h < length hs → is_list count (unwrap_or (option_map (λ hospital. hospital.groups) (slice_get hs h)) []) ≡ true
hospital_groups_at count [] h e lt = absurd (omega arith)
hospital_groups_at count (x ∷ hs) zero e lt = (and_parts (is_list count x.groups) (list_all (λ (y : DraftHospital). is_list count y.groups) hs) e).0
hospital_groups_at count (x ∷ hs) (suc h) e lt = hospital_groups_at count hs h (and_parts (is_list count x.groups) (list_all (λ (y : DraftHospital). is_list count y.groups) hs) e).1 (omega arith)

pub resident_numbers : (lists : Lists) (r : ℕ) → IsWellFormed lists → r < length lists.residents → IsTrue (list_all (is_number (names_of_hospitals lists)) (concat (groups_of_resident lists r)))
resident_numbers lists r wf lt =
    numbers_of_list (names_of_hospitals lists) (length lists.hospitals) (groups_of_resident lists r) (sym (length-map lists.hospitals (λ (h : DraftHospital). h.name)))
    (resident_groups_at (length lists.hospitals) lists.residents r wf.resident_lists lt)

pub hospital_numbers : (lists : Lists) (h : ℕ) → IsWellFormed lists → h < length lists.hospitals → IsTrue (list_all (is_number (names_of_residents lists)) (concat (groups_of_hospital lists h)))
hospital_numbers lists h wf lt =
    numbers_of_list (names_of_residents lists) (length lists.residents) (groups_of_hospital lists h) (sym (length-map lists.residents (λ (r : DraftResident). r.name)))
    (hospital_groups_at (length lists.residents) lists.hospitals h wf.hospital_lists lt)

-- ---- lines

abbrev pub no_resident : DraftResident
no_resident = record { name = []; groups = [] }

abbrev pub no_hospital : DraftHospital
no_hospital = record { name = []; capacity = 0; groups = [] }

abbrev pub line_for : List (List ℕ) → DraftResident → List ℕ
line_for names r = resident_text names r ++ 10 ∷ []

abbrev pub hospital_line_for : List (List ℕ) → DraftHospital → List ℕ
hospital_line_for names h = hospital_text names h ++ 10 ∷ []

resident_at : (rs : List DraftResident) (r : ℕ) → r < length rs → slice_get rs r ≡ Some (get_or rs r no_resident)
resident_at [] r lt = absurd (omega arith)
resident_at (x ∷ rs) zero lt = refl
resident_at (x ∷ rs) (suc r) lt = resident_at rs r (omega arith)

hospital_at : (hs : List DraftHospital) (h : ℕ) → h < length hs → slice_get hs h ≡ Some (get_or hs h no_hospital)
hospital_at [] h lt = absurd (omega arith)
hospital_at (x ∷ hs) zero lt = refl
hospital_at (x ∷ hs) (suc h) lt = hospital_at hs h (omega arith)

resident_name_at : (rs : List DraftResident) (r : ℕ) → r < length rs → name_at (map (λ x. x.name) rs) r ≡ (get_or rs r no_resident).name
resident_name_at [] r lt = absurd (omega arith)
resident_name_at (x ∷ rs) zero lt = refl
resident_name_at (x ∷ rs) (suc r) lt = resident_name_at rs r (omega arith)

hospital_name_at : (hs : List DraftHospital) (h : ℕ) → h < length hs → name_at (map (λ x. x.name) hs) h ≡ (get_or hs h no_hospital).name
hospital_name_at [] h lt = absurd (omega arith)
hospital_name_at (x ∷ hs) zero lt = refl
hospital_name_at (x ∷ hs) (suc h) lt = hospital_name_at hs h (omega arith)

-- the pieces of a line
resident_pieces : (name items : List ℕ) → codes "resident " ++ (name ++ 58 ∷ (items ++ 10 ∷ [])) ≡ (codes "resident" ++ 32 ∷ (name ++ 58 ∷ items)) ++ 10 ∷ []
resident_pieces name items = ap (λ (l : List ℕ). codes "resident " ++ l) (sym (append_assoc name (58 ∷ items) (10 ∷ [])))

hospital_pieces : (name posts items : List ℕ) → codes "hospital " ++ (name ++ 32 ∷ (posts ++ 58 ∷ (items ++ 10 ∷ []))) ≡ (codes "hospital" ++ 32 ∷ (name ++ 32 ∷ (posts ++ 58 ∷ items))) ++ 10 ∷ []
hospital_pieces name posts items =
    ap (λ (l : List ℕ). codes "hospital " ++ (name ++ 32 ∷ l)) (sym (append_assoc posts (58 ∷ items) (10 ∷ [])))
    ∙ ap (λ (l : List ℕ). codes "hospital " ++ l) (sym (append_assoc name (32 ∷ (posts ++ 58 ∷ items)) (10 ∷ [])))

pub resident_line : (lists : Lists) (r : ℕ) → r < length lists.residents → line_of_resident lists r ≡ line_for (names_of_hospitals lists) (get_or lists.residents r no_resident)
resident_line lists r lt =
    let x : DraftResident = get_or lists.residents r no_resident in
    let hs : List (List ℕ) = names_of_hospitals lists in
    let groups : groups_of_resident lists r ≡ x.groups = ap (λ (o : Option DraftResident). unwrap_or (option_map (λ (y : DraftResident). y.groups) o) []) (resident_at lists.residents r lt) in
    ap (λ (n : List ℕ). codes "resident " ++ (n ++ 58 ∷ (items_text hs (groups_of_resident lists r) ++ 10 ∷ []))) (resident_name_at lists.residents r lt)
    ∙ ap (λ (g : List (List ℕ)). codes "resident " ++ (x.name ++ 58 ∷ (items_text hs g ++ 10 ∷ []))) groups
    ∙ resident_pieces x.name (items_text hs x.groups)

pub hospital_line : (lists : Lists) (h : ℕ) → h < length lists.hospitals → line_of_hospital lists h ≡ hospital_line_for (names_of_residents lists) (get_or lists.hospitals h no_hospital)
hospital_line lists h lt =
    let x : DraftHospital = get_or lists.hospitals h no_hospital in
    let rs : List (List ℕ) = names_of_residents lists in
    let groups : groups_of_hospital lists h ≡ x.groups = ap (λ (o : Option DraftHospital). unwrap_or (option_map (λ (y : DraftHospital). y.groups) o) []) (hospital_at lists.hospitals h lt) in
    let posts : capacity_of lists h ≡ x.capacity = ap (λ (o : Option DraftHospital). unwrap_or (option_map (λ (y : DraftHospital). y.capacity) o) 0) (hospital_at lists.hospitals h lt) in
    ap (λ (n : List ℕ). codes "hospital " ++ (n ++ 32 ∷ (decimal (capacity_of lists h) ++ 58 ∷ (items_text rs (groups_of_hospital lists h) ++ 10 ∷ [])))) (hospital_name_at lists.hospitals h lt)
    ∙ ap (λ (n : ℕ). codes "hospital " ++ (x.name ++ 32 ∷ (decimal n ++ 58 ∷ (items_text rs (groups_of_hospital lists h) ++ 10 ∷ [])))) posts
    ∙ ap (λ (g : List (List ℕ)). codes "hospital " ++ (x.name ++ 32 ∷ (decimal x.capacity ++ 58 ∷ (items_text rs g ++ 10 ∷ [])))) groups
    ∙ hospital_pieces x.name (decimal x.capacity) (items_text rs x.groups)

-- ---- the whole

pub ended_by_feeds : {A : Type 0} (f : A → List ℕ) (xs : List A) → flat_map (λ line. line ++ 10 ∷ []) (map f xs) ≡ flat_map (λ x. f x ++ 10 ∷ []) xs
ended_by_feeds f [] = refl
ended_by_feeds f (x ∷ xs) = ap (λ (l : List ℕ). (f x ++ 10 ∷ []) ++ l) (ended_by_feeds f xs)

pub spelling_pieces : (lists : Lists)
    → codes "hrt 1\n" ++ (flat_map (line_for (names_of_hospitals lists)) lists.residents ++ (flat_map (hospital_line_for (names_of_residents lists)) lists.hospitals ++ codes "end\n")) ≡ spelling lists
spelling_pieces lists =
    let feed : List ℕ → List ℕ = λ line. line ++ 10 ∷ [] in
    let rs : List (List ℕ) = map (resident_text (names_of_hospitals lists)) lists.residents in
    let hs : List (List ℕ) = map (hospital_text (names_of_residents lists)) lists.hospitals in
    let second : flat_map feed (hs ++ codes "end" ∷ []) ≡ flat_map (hospital_line_for (names_of_residents lists)) lists.hospitals ++ codes "end\n" =
    flat_map-append feed hs (codes "end" ∷ []) ∙ ap (λ (l : List ℕ). l ++ codes "end\n") (ended_by_feeds (hospital_text (names_of_residents lists)) lists.hospitals) in
    let first : flat_map feed (rs ++ (hs ++ codes "end" ∷ [])) ≡ flat_map (line_for (names_of_hospitals lists)) lists.residents ++ (flat_map (hospital_line_for (names_of_residents lists)) lists.hospitals ++ codes "end\n") =
    flat_map-append feed rs (hs ++ codes "end" ∷ []) ∙ ap (λ (l : List ℕ). l ++ flat_map feed (hs ++ codes "end" ∷ [])) (ended_by_feeds (resident_text (names_of_hospitals lists)) lists.residents)
    ∙ ap (λ (l : List ℕ). flat_map (line_for (names_of_hospitals lists)) lists.residents ++ l) second in
    ap (λ (l : List ℕ). codes "hrt 1\n" ++ l) (sym first)

-- ---- the front of a line, and what follows

pub front_of_resident : (name rest : List ℕ) → (codes "resident " ++ (name ++ 58 ∷ [])) ++ rest ≡ codes "resident " ++ (name ++ 58 ∷ rest)
front_of_resident name rest = ap (λ (l : List ℕ). codes "resident " ++ l) (append_assoc name (58 ∷ []) rest)

pub front_of_hospital : (name posts rest : List ℕ) → (codes "hospital " ++ (name ++ (32 ∷ (posts ++ 58 ∷ [])))) ++ rest ≡ codes "hospital " ++ (name ++ 32 ∷ (posts ++ 58 ∷ rest))
front_of_hospital name posts rest =
    ap (λ (l : List ℕ). codes "hospital " ++ l) (append_assoc name (32 ∷ (posts ++ 58 ∷ [])) rest ∙ ap (λ (l : List ℕ). name ++ 32 ∷ l) (append_assoc posts (58 ∷ []) rest))
