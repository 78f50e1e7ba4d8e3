-- What lines declare, from those that aren't blank.
use Rattle.std.proofs.Common.{◌≡◌, ℕ, List, [], ◌∷◌, ◌++◌, map, Option, Some, None, refl, sym, ap, ◌∙◌}
use Rattle.std.specs.Prelude.{filter_map, unwrap_or}
use Rattle.std.proofs.lemmas.List.{map-append}
use Rattle.std.proofs.lemmas.List.Elements.{filter_map-append}
use Rattle.hrt_text.specs.Text.{Row}
use Rattle.std.specs.Str.Parse.{digits_value}
use Rattle.hrt_text.specs.Grammar.{Group, form_of}
use Rattle.rank_tables.specs.Instance.{Lists}
use Rattle.rank_tables.specs.declared.draft.DraftResident.{DraftResident}
use Rattle.rank_tables.specs.declared.draft.DraftHospital.{DraftHospital}
use Rattle.hrt_reader.specs.Accepted.{Item, Declaration, of_resident, of_hospital, end_line, filled, groups_by, hospital_beside, hospitals_in, line_of, lines_of, lists_declared, number_in, resident_beside, residents_in}
use Rattle.hrt_reader.specs.Refusal.{ResidentLine, HospitalLine, resident_by, hospital_by, residents_of, hospitals_of, declared_residents, declared_hospitals, groups_in, resident_in, hospital_in, lists_of_rows}
use Rattle.hrt_reader.proofs.ItemTokens.{items_tokens, groups_items}

abbrev pub resident_line : Declaration → Option ResidentLine
resident_line (of_resident name items) = Some (record { name = name; items = items_tokens items })
resident_line (of_hospital name posts items) = None

abbrev pub hospital_line : Declaration → Option HospitalLine
hospital_line (of_resident name items) = None
hospital_line (of_hospital name posts items) = Some (record { name = name; capacity = posts; items = items_tokens items })

-- ---- one line after others

pub residents_more : (before after : List Row) → residents_of (before ++ after) ≡ residents_of before ++ residents_of after
residents_more before after = filter_map-append (λ (row : Row). resident_by (form_of row)) before after

pub hospitals_more : (before after : List Row) → hospitals_of (before ++ after) ≡ hospitals_of before ++ hospitals_of after
hospitals_more before after = filter_map-append (λ (row : Row). hospital_by (form_of row)) before after

pub declared_residents_more : (before after : List Row) → declared_residents (before ++ after) ≡ declared_residents before ++ declared_residents after
declared_residents_more before after = ap (map (λ (l : ResidentLine). l.name)) (residents_more before after) ∙ map-append (λ (l : ResidentLine). l.name) (residents_of before) (residents_of after)

pub declared_hospitals_more : (before after : List Row) → declared_hospitals (before ++ after) ≡ declared_hospitals before ++ declared_hospitals after
declared_hospitals_more before after = ap (map (λ (l : HospitalLine). l.name)) (hospitals_more before after) ∙ map-append (λ (l : HospitalLine). l.name) (hospitals_of before) (hospitals_of after)

-- ---- blank lines declare nothing

residents_filled : (lines : List Row) → residents_of lines ≡ residents_of (filled lines)
residents_filled [] = refl
residents_filled ([] ∷ lines) = residents_filled lines
residents_filled ((t ∷ row) ∷ lines) =
    residents_more ((t ∷ row) ∷ []) lines ∙ ap (λ (l : List ResidentLine). residents_of ((t ∷ row) ∷ []) ++ l) (residents_filled lines) ∙ sym (residents_more ((t ∷ row) ∷ []) (filled lines))

hospitals_filled : (lines : List Row) → hospitals_of lines ≡ hospitals_of (filled lines)
hospitals_filled [] = refl
hospitals_filled ([] ∷ lines) = hospitals_filled lines
hospitals_filled ((t ∷ row) ∷ lines) =
    hospitals_more ((t ∷ row) ∷ []) lines ∙ ap (λ (l : List HospitalLine). hospitals_of ((t ∷ row) ∷ []) ++ l) (hospitals_filled lines) ∙ sym (hospitals_more ((t ∷ row) ∷ []) (filled lines))

-- ---- the lines of declarations

residents_lines : (declarations : List Declaration) → residents_of (map line_of declarations ++ end_line ∷ []) ≡ filter_map resident_line declarations
residents_lines [] = refl
residents_lines (of_resident name items ∷ declarations) =
    let l : ResidentLine = record { name = name; items = items_tokens items } in
    ap (λ (ls : List ResidentLine). l ∷ ls) (residents_lines declarations)
residents_lines (of_hospital name posts items ∷ declarations) = residents_lines declarations

hospitals_lines : (declarations : List Declaration) → hospitals_of (map line_of declarations ++ end_line ∷ []) ≡ filter_map hospital_line declarations
hospitals_lines [] = refl
hospitals_lines (of_resident name items ∷ declarations) = hospitals_lines declarations
hospitals_lines (of_hospital name posts items ∷ declarations) =
    let l : HospitalLine = record { name = name; capacity = posts; items = items_tokens items } in
    ap (λ (ls : List HospitalLine). l ∷ ls) (hospitals_lines declarations)

named_residents : (declarations : List Declaration) → map (λ (l : ResidentLine). l.name) (filter_map resident_line declarations) ≡ residents_in declarations
named_residents [] = refl
named_residents (of_resident name items ∷ declarations) = ap (λ (l : List (List ℕ)). name ∷ l) (named_residents declarations)
named_residents (of_hospital name posts items ∷ declarations) = named_residents declarations

named_hospitals : (declarations : List Declaration) → map (λ (l : HospitalLine). l.name) (filter_map hospital_line declarations) ≡ hospitals_in declarations
named_hospitals [] = refl
named_hospitals (of_resident name items ∷ declarations) = named_hospitals declarations
named_hospitals (of_hospital name posts items ∷ declarations) = ap (λ (l : List (List ℕ)). name ∷ l) (named_hospitals declarations)

-- ---- of a text whose filled lines are those of declarations

pub residents_are : (lines : List Row) (declarations : List Declaration) → filled lines ≡ lines_of declarations → residents_of lines ≡ filter_map resident_line declarations
residents_are lines declarations e = residents_filled lines ∙ ap (λ (l : List Row). residents_of l) e ∙ residents_lines declarations

pub hospitals_are : (lines : List Row) (declarations : List Declaration) → filled lines ≡ lines_of declarations → hospitals_of lines ≡ filter_map hospital_line declarations
hospitals_are lines declarations e = hospitals_filled lines ∙ ap (λ (l : List Row). hospitals_of l) e ∙ hospitals_lines declarations

pub declared_residents_are : (lines : List Row) (declarations : List Declaration) → filled lines ≡ lines_of declarations → declared_residents lines ≡ residents_in declarations
declared_residents_are lines declarations e = ap (map (λ (l : ResidentLine). l.name)) (residents_are lines declarations e) ∙ named_residents declarations

pub declared_hospitals_are : (lines : List Row) (declarations : List Declaration) → filled lines ≡ lines_of declarations → declared_hospitals lines ≡ hospitals_in declarations
declared_hospitals_are lines declarations e = ap (map (λ (l : HospitalLine). l.name)) (hospitals_are lines declarations e) ∙ named_hospitals declarations

-- ---- their lists

groups_same : (names : List (List ℕ)) (items : List Item) → groups_in names (items_tokens items) ≡ groups_by names items
groups_same names items = ap (λ (o : Option (List Group)). map (map (number_in names)) (unwrap_or o [])) (groups_items items)

same_residents : (names : List (List ℕ)) (declarations : List Declaration) → map (resident_in names) (filter_map resident_line declarations) ≡ filter_map (resident_beside names) declarations
same_residents names [] = refl
same_residents names (of_resident name items ∷ declarations) =
    let with_groups : List (List ℕ) → DraftResident = λ (g : List (List ℕ)). record { name = name; groups = g } in
    ap (λ (g : List (List ℕ)). with_groups g ∷ map (resident_in names) (filter_map resident_line declarations)) (groups_same names items)
    ∙ ap (λ (l : List DraftResident). with_groups (groups_by names items) ∷ l) (same_residents names declarations)
same_residents names (of_hospital name posts items ∷ declarations) = same_residents names declarations

same_hospitals : (names : List (List ℕ)) (declarations : List Declaration) → map (hospital_in names) (filter_map hospital_line declarations) ≡ filter_map (hospital_beside names) declarations
same_hospitals names [] = refl
same_hospitals names (of_resident name items ∷ declarations) = same_hospitals names declarations
same_hospitals names (of_hospital name posts items ∷ declarations) =
    let with_groups : List (List ℕ) → DraftHospital = λ (g : List (List ℕ)). record { name = name; capacity = digits_value 10 posts; groups = g } in
    ap (λ (g : List (List ℕ)). with_groups g ∷ map (hospital_in names) (filter_map hospital_line declarations)) (groups_same names items)
    ∙ ap (λ (l : List DraftHospital). with_groups (groups_by names items) ∷ l) (same_hospitals names declarations)

abbrev both : List DraftResident → List DraftHospital → Lists
both residents hospitals = record { residents = residents; hospitals = hospitals }

pub same_lists : (lines : List Row) (declarations : List Declaration) → filled lines ≡ lines_of declarations → lists_of_rows lines ≡ lists_declared declarations
same_lists lines declarations e =
    let r : map (resident_in (declared_hospitals lines)) (residents_of lines) ≡ filter_map (resident_beside (hospitals_in declarations)) declarations =
    ap (λ (names : List (List ℕ)). map (resident_in names) (residents_of lines)) (declared_hospitals_are lines declarations e)
    ∙ ap (map (resident_in (hospitals_in declarations))) (residents_are lines declarations e) ∙ same_residents (hospitals_in declarations) declarations in
    let h : map (hospital_in (declared_residents lines)) (hospitals_of lines) ≡ filter_map (hospital_beside (residents_in declarations)) declarations =
    ap (λ (names : List (List ℕ)). map (hospital_in names) (hospitals_of lines)) (declared_residents_are lines declarations e)
    ∙ ap (map (hospital_in (residents_in declarations))) (hospitals_are lines declarations e) ∙ same_hospitals (residents_in declarations) declarations in
    ap (λ (l : List DraftResident). both l (map (hospital_in (declared_residents lines)) (hospitals_of lines))) r
    ∙ ap (both (filter_map (resident_beside (hospitals_in declarations)) declarations)) h
