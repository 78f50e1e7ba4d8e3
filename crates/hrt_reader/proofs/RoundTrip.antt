-- The canonical spelling of well-formed lists spells these lists.
use Rattle.std.proofs.Common.{◌≡◌, ℕ, true, ◌&&◌, List, [], ◌∷◌, ◌++◌, length, map, refl, sym, ap, ◌∙◌, append_assoc, arith}
use Rattle.std.specs.Prelude.{decimal, filter_map, codes}
use Rattle.std.specs.List.{list_all, concat, AllByRecursion}
use Rattle.std.proofs.lemmas.Bool.{and_from}
use Rattle.std.proofs.lemmas.List.{append-nil, map-append, length-map}
use Rattle.std.proofs.lemmas.List.Elements.{filter_map-append}
use Rattle.std.proofs.lemmas.List.Folds.{list_all-append}
use Rattle.hrt_text.specs.Text.{Token, Row, colon, word}
use Rattle.std.specs.Str.Parse.{digits_value}
use Rattle.hrt_text.specs.Grammar.{is_capacity}
use Rattle.rank_tables.specs.Instance.{Lists}
use Rattle.rank_tables.specs.declared.draft.DraftResident.{DraftResident}
use Rattle.rank_tables.specs.declared.draft.DraftHospital.{DraftHospital}
use Rattle.rank_tables.specs.Names.{is_name, is_among, are_apart}
use Rattle.rank_tables.specs.WellFormed.{names_of_residents, names_of_hospitals, IsWellFormed}
use Rattle.hrt_reader.specs.Accepted.{Declaration, of_resident, of_hospital, Spells, filled, groups_by, hospital_beside, hospital_name, hospitals_in, is_lawful, is_list_of, line_of, lines_of, lists_declared, number_in, resident_beside, resident_name, residents_in}
use Rattle.hrt_reader.specs.Spelling.{spelling}
use Rattle.hrt_text.proofs.Words.{value_back, capacity_back}
use Rattle.hrt_reader.proofs.Numbers.{groups_names, names_distinct, names_known}
use Rattle.hrt_reader.proofs.SpelledItems.{item_of, items_spelled, names_items, names_joined}
use Rattle.hrt_reader.proofs.SpelledRows.{IsGood, GoodResident, GoodHospital, residents_good, hospitals_good, finish_row, header_row, resident_row, hospital_row, spelled_rows, rows_spelled}

-- ---- lists as declarations

abbrev declared_resident : List (List ℕ) → DraftResident → Declaration
declared_resident hospitals r = of_resident r.name (map (item_of hospitals) r.groups)

abbrev declared_hospital : List (List ℕ) → DraftHospital → Declaration
declared_hospital residents h = of_hospital h.name (decimal h.capacity) (map (item_of residents) h.groups)

abbrev declarations_of : Lists → List Declaration
declarations_of lists = map (declared_resident (names_of_hospitals lists)) lists.residents ++ map (declared_hospital (names_of_residents lists)) lists.hospitals

-- ---- their lines

residents_filled : (names : List (List ℕ)) (rs : List DraftResident) (rest : List Row) → filled (map (resident_row names) rs ++ rest) ≡ map (resident_row names) rs ++ filled rest
residents_filled names [] rest = refl
residents_filled names (r ∷ rs) rest = ap (λ (l : List Row). resident_row names r ∷ l) (residents_filled names rs rest)

hospitals_filled : (names : List (List ℕ)) (hs : List DraftHospital) (rest : List Row) → filled (map (hospital_row names) hs ++ rest) ≡ map (hospital_row names) hs ++ filled rest
hospitals_filled names [] rest = refl
hospitals_filled names (h ∷ hs) rest = ap (λ (l : List Row). hospital_row names h ∷ l) (hospitals_filled names hs rest)

resident_lines : (names : List (List ℕ)) (rs : List DraftResident) → AllByRecursion (GoodResident names) rs → map (resident_row names) rs ≡ map line_of (map (declared_resident names) rs)
resident_lines names [] good = refl
resident_lines names (r ∷ rs) good =
    ap (λ (ts : List Token). (word (codes "resident") ∷ word r.name ∷ colon ∷ ts) ∷ map (resident_row names) rs) (items_spelled names r.groups good.0.some)
    ∙ ap (λ (l : List Row). line_of (declared_resident names r) ∷ l) (resident_lines names rs good.1)

hospital_lines : (names : List (List ℕ)) (hs : List DraftHospital) → AllByRecursion (GoodHospital names) hs → map (hospital_row names) hs ≡ map line_of (map (declared_hospital names) hs)
hospital_lines names [] good = refl
hospital_lines names (h ∷ hs) good =
    ap (λ (ts : List Token). (word (codes "hospital") ∷ word h.name ∷ word (decimal h.capacity) ∷ colon ∷ ts) ∷ map (hospital_row names) hs) (items_spelled names h.groups good.0.line.some)
    ∙ ap (λ (l : List Row). line_of (declared_hospital names h) ∷ l) (hospital_lines names hs good.1)

filled_lines : (lists : Lists) → IsWellFormed lists → filled (spelled_rows lists) ≡ lines_of (declarations_of lists)
filled_lines lists wf =
    let hs : List (List ℕ) = names_of_hospitals lists in
    let rs : List (List ℕ) = names_of_residents lists in
    let front : List Row = map (resident_row hs) lists.residents in
    let later : List Row = map (hospital_row rs) lists.hospitals in
    let ds : List Row = map line_of (map (declared_resident hs) lists.residents) in
    let es : List Row = map line_of (map (declared_hospital rs) lists.hospitals) in
    let same : front ++ (later ++ finish_row ∷ []) ≡ map line_of (declarations_of lists) ++ finish_row ∷ [] =
    ap (λ (l : List Row). l ++ (later ++ finish_row ∷ [])) (resident_lines hs lists.residents (residents_good lists wf))
    ∙ ap (λ (l : List Row). ds ++ (l ++ finish_row ∷ [])) (hospital_lines rs lists.hospitals (hospitals_good lists wf))
    ∙ sym (append_assoc ds es (finish_row ∷ []))
    ∙ ap (λ (l : List Row). l ++ finish_row ∷ []) (sym (map-append line_of (map (declared_resident hs) lists.residents) (map (declared_hospital rs) lists.hospitals))) in
    ap (λ (l : List Row). header_row ∷ l)
    (residents_filled hs lists.residents (later ++ finish_row ∷ []) ∙ ap (λ (l : List Row). front ++ l) (hospitals_filled rs lists.hospitals (finish_row ∷ [])) ∙ same)

-- ---- what they declare

residents_name : (names : List (List ℕ)) (rs : List DraftResident) → residents_in (map (declared_resident names) rs) ≡ map (λ r. r.name) rs
residents_name names [] = refl
residents_name names (r ∷ rs) = ap (λ (l : List (List ℕ)). r.name ∷ l) (residents_name names rs)

residents_none : (names : List (List ℕ)) (hs : List DraftHospital) → residents_in (map (declared_hospital names) hs) ≡ []
residents_none names [] = refl
residents_none names (h ∷ hs) = residents_none names hs

hospitals_name : (names : List (List ℕ)) (hs : List DraftHospital) → hospitals_in (map (declared_hospital names) hs) ≡ map (λ h. h.name) hs
hospitals_name names [] = refl
hospitals_name names (h ∷ hs) = ap (λ (l : List (List ℕ)). h.name ∷ l) (hospitals_name names hs)

hospitals_none : (names : List (List ℕ)) (rs : List DraftResident) → hospitals_in (map (declared_resident names) rs) ≡ []
hospitals_none names [] = refl
hospitals_none names (r ∷ rs) = hospitals_none names rs

residents_same : (lists : Lists) → residents_in (declarations_of lists) ≡ names_of_residents lists
residents_same lists =
    let hs : List (List ℕ) = names_of_hospitals lists in
    let rs : List (List ℕ) = names_of_residents lists in
    filter_map-append resident_name (map (declared_resident hs) lists.residents) (map (declared_hospital rs) lists.hospitals)
    ∙ ap (λ (l : List (List ℕ)). residents_in (map (declared_resident hs) lists.residents) ++ l) (residents_none rs lists.hospitals)
    ∙ append-nil (residents_in (map (declared_resident hs) lists.residents)) ∙ residents_name hs lists.residents

hospitals_same : (lists : Lists) → hospitals_in (declarations_of lists) ≡ names_of_hospitals lists
hospitals_same lists =
    let hs : List (List ℕ) = names_of_hospitals lists in
    let rs : List (List ℕ) = names_of_residents lists in
    filter_map-append hospital_name (map (declared_resident hs) lists.residents) (map (declared_hospital rs) lists.hospitals)
    ∙ ap (λ (l : List (List ℕ)). l ++ hospitals_in (map (declared_hospital rs) lists.hospitals)) (hospitals_none hs lists.residents)
    ∙ hospitals_name rs lists.hospitals

-- ---- they are lawful

good_list : (names : List (List ℕ)) (name : List ℕ) (groups : List (List ℕ)) → IsGood names name groups → are_apart names ≡ true → is_list_of names (map (item_of names) groups) ≡ true
good_list names name groups good once =
    let same = names_joined names groups good.some in
    and_from _ _ (ap (list_all (λ (w : List ℕ). is_among w names)) same ∙ names_known names (concat groups) good.within)
    (ap are_apart same ∙ names_distinct names (concat groups) once good.within good.once)

lawful_residents : (others names : List (List ℕ)) (rs : List DraftResident) → AllByRecursion (GoodResident names) rs → are_apart names ≡ true → list_all (is_lawful others names) (map (declared_resident names) rs) ≡ true
lawful_residents others names [] good once = refl
lawful_residents others names (r ∷ rs) good once =
    and_from (is_lawful others names (declared_resident names r)) (list_all (is_lawful others names) (map (declared_resident names) rs))
    (and_from (is_name r.name) (is_list_of names (map (item_of names) r.groups)) good.0.named (good_list names r.name r.groups good.0 once)) (lawful_residents others names rs good.1 once)

lawful_hospitals : (names others : List (List ℕ)) (hs : List DraftHospital) → AllByRecursion (GoodHospital names) hs → are_apart names ≡ true → list_all (is_lawful names others) (map (declared_hospital names) hs) ≡ true
lawful_hospitals names others [] good once = refl
lawful_hospitals names others (h ∷ hs) good once =
    and_from (is_lawful names others (declared_hospital names h)) (list_all (is_lawful names others) (map (declared_hospital names) hs))
    (and_from (is_name h.name && is_capacity (decimal h.capacity)) (is_list_of names (map (item_of names) h.groups)) (and_from (is_name h.name) (is_capacity (decimal h.capacity)) good.0.line.named (capacity_back h.capacity good.0.posts))
    (good_list names h.name h.groups good.0.line once)) (lawful_hospitals names others hs good.1 once)

lawful_lists : (lists : Lists) → IsWellFormed lists → list_all (is_lawful (names_of_residents lists) (names_of_hospitals lists)) (declarations_of lists) ≡ true
lawful_lists lists wf =
    let hs : List (List ℕ) = names_of_hospitals lists in
    let rs : List (List ℕ) = names_of_residents lists in
    list_all-append (is_lawful rs hs) (map (declared_resident hs) lists.residents) (map (declared_hospital rs) lists.hospitals)
    ∙ and_from _ _ (lawful_residents rs hs lists.residents (residents_good lists wf) wf.hospitals_apart) (lawful_hospitals rs hs lists.hospitals (hospitals_good lists wf) wf.residents_apart)

-- ---- they are the lists

groups_said : (names : List (List ℕ)) (groups : List (List ℕ)) (name : List ℕ) → IsGood names name groups → are_apart names ≡ true → groups_by names (map (item_of names) groups) ≡ groups
groups_said names groups name good once = ap (map (map (number_in names))) (names_items names groups good.some) ∙ groups_names names groups once good.within

residents_said : (names : List (List ℕ)) (rs : List DraftResident) → AllByRecursion (GoodResident names) rs → are_apart names ≡ true → filter_map (resident_beside names) (map (declared_resident names) rs) ≡ rs
residents_said names [] good once = refl
residents_said names (r ∷ rs) good once =
    let with_groups : List (List ℕ) → DraftResident = λ (g : List (List ℕ)). record { name = r.name; groups = g } in
    ap (λ (g : List (List ℕ)). with_groups g ∷ filter_map (resident_beside names) (map (declared_resident names) rs)) (groups_said names r.groups r.name good.0 once)
    ∙ ap (λ (l : List DraftResident). r ∷ l) (residents_said names rs good.1 once)

hospitals_said : (names : List (List ℕ)) (hs : List DraftHospital) → AllByRecursion (GoodHospital names) hs → are_apart names ≡ true → filter_map (hospital_beside names) (map (declared_hospital names) hs) ≡ hs
hospitals_said names [] good once = refl
hospitals_said names (h ∷ hs) good once =
    let with_groups : List (List ℕ) → DraftHospital = λ (g : List (List ℕ)). record { name = h.name; capacity = digits_value 10 (decimal h.capacity); groups = g } in
    let with_posts : ℕ → DraftHospital = λ (c : ℕ). record { name = h.name; capacity = c; groups = h.groups } in
    let later : List DraftHospital = filter_map (hospital_beside names) (map (declared_hospital names) hs) in
    ap (λ (g : List (List ℕ)). with_groups g ∷ later) (groups_said names h.groups h.name good.0.line once)
    ∙ ap (λ (c : ℕ). with_posts c ∷ later) (value_back h.capacity good.0.posts)
    ∙ ap (λ (l : List DraftHospital). h ∷ l) (hospitals_said names hs good.1 once)

no_residents : (names others : List (List ℕ)) (hs : List DraftHospital) → filter_map (resident_beside names) (map (declared_hospital others) hs) ≡ []
no_residents names others [] = refl
no_residents names others (h ∷ hs) = no_residents names others hs

no_hospitals : (names others : List (List ℕ)) (rs : List DraftResident) → filter_map (hospital_beside names) (map (declared_resident others) rs) ≡ []
no_hospitals names others [] = refl
no_hospitals names others (r ∷ rs) = no_hospitals names others rs

abbrev both : List DraftResident → List DraftHospital → Lists
both residents hospitals = record { residents = residents; hospitals = hospitals }

lists_said : (lists : Lists) → IsWellFormed lists → lists_declared (declarations_of lists) ≡ lists
lists_said lists wf =
    let hs : List (List ℕ) = names_of_hospitals lists in
    let rs : List (List ℕ) = names_of_residents lists in
    let front : List Declaration = map (declared_resident hs) lists.residents in
    let later : List Declaration = map (declared_hospital rs) lists.hospitals in
    let ds : List Declaration = declarations_of lists in
    let r : filter_map (resident_beside (hospitals_in ds)) ds ≡ lists.residents =
    ap (λ (names : List (List ℕ)). filter_map (resident_beside names) ds) (hospitals_same lists) ∙ filter_map-append (resident_beside hs) front later
    ∙ ap (λ (l : List DraftResident). filter_map (resident_beside hs) front ++ l) (no_residents hs rs lists.hospitals) ∙ append-nil (filter_map (resident_beside hs) front)
    ∙ residents_said hs lists.residents (residents_good lists wf) wf.hospitals_apart in
    let h : filter_map (hospital_beside (residents_in ds)) ds ≡ lists.hospitals =
    ap (λ (names : List (List ℕ)). filter_map (hospital_beside names) ds) (residents_same lists) ∙ filter_map-append (hospital_beside rs) front later
    ∙ ap (λ (l : List DraftHospital). l ++ filter_map (hospital_beside rs) later) (no_hospitals rs hs lists.residents)
    ∙ hospitals_said rs lists.hospitals (hospitals_good lists wf) wf.residents_apart in
    ap (λ (l : List DraftResident). both l (filter_map (hospital_beside (residents_in ds)) ds)) r ∙ ap (both lists.residents) h

-- ---- the law

pub spelled_back : (lists : Lists) → IsWellFormed lists → Spells (spelling lists) lists
spelled_back lists wf =
    let rn : residents_in (declarations_of lists) ≡ names_of_residents lists = residents_same lists in
    let hn : hospitals_in (declarations_of lists) ≡ names_of_hospitals lists = hospitals_same lists in
    let rc : length (names_of_residents lists) ≡ length lists.residents = length-map lists.residents (λ (r : DraftResident). r.name) in
    let hc : length (names_of_hospitals lists) ≡ length lists.hospitals = length-map lists.hospitals (λ (h : DraftHospital). h.name) in
    record {
      declarations = declarations_of lists;
      spelled = ap filled (rows_spelled lists wf) ∙ filled_lines lists wf;
      make_instance = record {
        lawful = ap (λ (names : List (List ℕ)). list_all (is_lawful names (hospitals_in (declarations_of lists))) (declarations_of lists)) rn
            ∙ ap (λ (names : List (List ℕ)). list_all (is_lawful (names_of_residents lists) names) (declarations_of lists)) hn ∙ lawful_lists lists wf;
        residents_apart = ap are_apart rn ∙ wf.residents_apart;
        hospitals_apart = ap are_apart hn ∙ wf.hospitals_apart;
        few_residents = omega (arith, ap length rn, rc, wf.few_residents);
        few_hospitals = omega (arith, ap length hn, hc, wf.few_hospitals);
      };
      lists_are = lists_said lists wf;
    }
