-- The lines and the tokens of a canonical spelling.
use Rattle.std.proofs.Common.{◌≡◌, ℕ, ◌≤◌, true, ◌&&◌, leb, List, [], ◌∷◌, ◌++◌, length, map, refl, sym, ap, subst, ◌∙◌}
use Rattle.std.specs.Prelude.{codes, decimal}
use Rattle.std.specs.List.{list_all, join_with_byte, concat, AllByRecursion}
use Rattle.std.proofs.lemmas.Bool.{and_parts, ltb-true, leb-true}
use Rattle.std.proofs.lemmas.List.{map-append, length-map}
use Rattle.std.proofs.lemmas.List.Folds.{list_all-append}
use Rattle.hrt_text.specs.Text.{Token, colon, word, tokens, Row, rows}
use Rattle.rank_tables.specs.Instance.{Lists}
use Rattle.rank_tables.specs.declared.draft.DraftResident.{DraftResident}
use Rattle.rank_tables.specs.declared.draft.DraftHospital.{DraftHospital}
use Rattle.rank_tables.specs.Names.{is_name}
use Rattle.rank_tables.specs.WellFormed.{most_capacity}
use Rattle.hrt_reader.specs.Spelling.{name_at, group_text, items_text, resident_text, hospital_text, spelled_lines, spelling}
use Rattle.rank_tables.specs.WellFormed.{names_of_residents, names_of_hospitals, is_group, is_list, IsWellFormed}
use Rattle.rank_tables.specs.Numbers.{is_distinct}
use Rattle.hrt_text.proofs.PlainLines.{IsPlain, lines_back, plain_append}
use Rattle.hrt_text.proofs.Words.{IsWord, IsWord-from_name, IsWord-decimal, tokens_word}
use Rattle.hrt_reader.proofs.SpelledItems.{below, word_at, items_tokens, tokens_items}

-- ---- lines

plain_joined : (ns : List (List ℕ)) → AllByRecursion IsWord ns → IsPlain (join_with_byte 32 ns)
plain_joined [] h = refl
plain_joined (w ∷ []) h = h.0.plain
plain_joined (w ∷ v ∷ ns) h = plain_append w (32 ∷ join_with_byte 32 (v ∷ ns)) h.0.plain (plain_joined (v ∷ ns) h.1)

names_words : (names : List (List ℕ)) (g : List ℕ) → AllByRecursion IsWord names → list_all (below names) g ≡ true → AllByRecursion IsWord (map (name_at names) g)
names_words names [] h e = tt
names_words names (x ∷ g) h e =
    let t = and_parts (below names x) (list_all (below names) g) e in
    (word_at names x h (ltb-true _ _ t.0), names_words names g h t.1)

plain_group : (names : List (List ℕ)) (g : List ℕ) → AllByRecursion IsWord names → list_all (below names) g ≡ true → IsPlain (group_text names g)
plain_group names [] h e = refl
plain_group names (k ∷ []) h e = (names_words names (k ∷ []) h e).0.plain
plain_group names (k ∷ l ∷ g) h e = plain_append (join_with_byte 32 (map (name_at names) (k ∷ l ∷ g))) (41 ∷ []) (plain_joined (map (name_at names) (k ∷ l ∷ g)) (names_words names (k ∷ l ∷ g) h e)) refl

plain_items : (names : List (List ℕ)) (groups : List (List ℕ)) → AllByRecursion IsWord names → list_all (below names) (concat groups) ≡ true → IsPlain (items_text names groups)
plain_items names [] h e = refl
plain_items names (g ∷ groups) h e =
    let b = and_parts (list_all (below names) g) (list_all (below names) (concat groups)) (sym (list_all-append (below names) g (concat groups)) ∙ e) in
    plain_append (group_text names g) (items_text names groups) (plain_group names g h b.0) (plain_items names groups h b.1)

-- ---- what well-formed lists give for each line

pub record IsGood (names : List (List ℕ)) (name : List ℕ) (groups : List (List ℕ)) : Type 0 where
  pub named : is_name name ≡ true
  pub some : list_all is_group groups ≡ true
  pub within : list_all (below names) (concat groups) ≡ true
  pub once : is_distinct (concat groups) ≡ true

good_from : (names : List (List ℕ)) (name : List ℕ) (groups : List (List ℕ)) → is_name name ≡ true → is_list (length names) groups ≡ true → IsGood names name groups
good_from names name groups h e =
    let a = and_parts (list_all is_group groups && list_all (below names) (concat groups)) (is_distinct (concat groups)) e in
    let b = and_parts (list_all is_group groups) (list_all (below names) (concat groups)) a.0 in
    record { named = h; some = b.0; within = b.1; once = a.1 }

abbrev pub GoodResident : List (List ℕ) → DraftResident → Type 0
GoodResident names r = IsGood names r.name r.groups

pub record GoodHospital (names : List (List ℕ)) (h : DraftHospital) : Type 0 where
  pub line : IsGood names h.name h.groups
  pub posts : h.capacity ≤ 20000

good_residents : (names : List (List ℕ)) (rs : List DraftResident) → list_all is_name (map (λ r. r.name) rs) ≡ true → list_all (λ r. is_list (length names) r.groups) rs ≡ true → AllByRecursion (GoodResident names) rs
good_residents names [] h e = tt
good_residents names (r ∷ rs) h e =
    let a = and_parts (is_name r.name) (list_all is_name (map (λ (r : DraftResident). r.name) rs)) h in
    let b = and_parts (is_list (length names) r.groups) (list_all (λ (r : DraftResident). is_list (length names) r.groups) rs) e in
    (good_from names r.name r.groups a.0 b.0, good_residents names rs a.1 b.1)

good_hospitals : (names : List (List ℕ)) (hs : List DraftHospital) → list_all is_name (map (λ h. h.name) hs) ≡ true → list_all (λ h. is_list (length names) h.groups) hs ≡ true → list_all (λ h. leb h.capacity most_capacity) hs ≡ true → AllByRecursion (GoodHospital names) hs
good_hospitals names [] h e c = tt
good_hospitals names (x ∷ hs) h e c =
    let a = and_parts (is_name x.name) (list_all is_name (map (λ (h : DraftHospital). h.name) hs)) h in
    let b = and_parts (is_list (length names) x.groups) (list_all (λ (h : DraftHospital). is_list (length names) h.groups) hs) e in
    let d = and_parts (leb x.capacity most_capacity) (list_all (λ (h : DraftHospital). leb h.capacity most_capacity) hs) c in
    (record { line = good_from names x.name x.groups a.0 b.0; posts = leb-true _ _ d.0 }, good_hospitals names hs a.1 b.1 d.1)

pub are_words : (names : List (List ℕ)) → list_all is_name names ≡ true → AllByRecursion IsWord names
are_words [] h = tt
are_words (n ∷ names) h =
    let t = and_parts (is_name n) (list_all is_name names) h in
    (IsWord-from_name n t.0, are_words names t.1)

pub residents_good : (lists : Lists) → IsWellFormed lists → AllByRecursion (GoodResident (names_of_hospitals lists)) lists.residents
residents_good lists wf =
    let count : length (names_of_hospitals lists) ≡ length lists.hospitals = length-map lists.hospitals (λ (h : DraftHospital). h.name) in
    good_residents (names_of_hospitals lists) lists.residents wf.resident_names
    (subst (λ (n : ℕ). list_all (λ (r : DraftResident). is_list n r.groups) lists.residents ≡ true) (sym count) wf.resident_lists)

pub hospitals_good : (lists : Lists) → IsWellFormed lists → AllByRecursion (GoodHospital (names_of_residents lists)) lists.hospitals
hospitals_good lists wf =
    let count : length (names_of_residents lists) ≡ length lists.residents = length-map lists.residents (λ (r : DraftResident). r.name) in
    good_hospitals (names_of_residents lists) lists.hospitals wf.hospital_names
    (subst (λ (n : ℕ). list_all (λ (h : DraftHospital). is_list n h.groups) lists.hospitals ≡ true) (sym count) wf.hospital_lists) wf.capacities

-- ---- rows

abbrev pub header_row : Row
header_row = word (codes "hrt") ∷ word (codes "1") ∷ []

abbrev pub finish_row : Row
finish_row = word (codes "end") ∷ []

abbrev pub resident_row : List (List ℕ) → DraftResident → Row
resident_row names r = word (codes "resident") ∷ word r.name ∷ colon ∷ items_tokens names r.groups

abbrev pub hospital_row : List (List ℕ) → DraftHospital → Row
hospital_row names h = word (codes "hospital") ∷ word h.name ∷ word (decimal h.capacity) ∷ colon ∷ items_tokens names h.groups

tokens_resident : (names : List (List ℕ)) (r : DraftResident) → AllByRecursion IsWord names → GoodResident names r → tokens (resident_text names r) ≡ resident_row names r
tokens_resident names r h good =
    ap (λ (ts : List Token). word (codes "resident") ∷ ts) (tokens_word r.name (58 ∷ items_text names r.groups) (IsWord-from_name r.name good.named) refl)
    ∙ ap (λ (ts : List Token). word (codes "resident") ∷ word r.name ∷ colon ∷ ts) (tokens_items names r.groups h good.some good.within)

tokens_hospital : (names : List (List ℕ)) (x : DraftHospital) → AllByRecursion IsWord names → GoodHospital names x → tokens (hospital_text names x) ≡ hospital_row names x
tokens_hospital names x h good =
    ap (λ (ts : List Token). word (codes "hospital") ∷ ts) (tokens_word x.name (32 ∷ (decimal x.capacity ++ 58 ∷ items_text names x.groups)) (IsWord-from_name x.name good.line.named) refl)
    ∙ ap (λ (ts : List Token). word (codes "hospital") ∷ word x.name ∷ ts) (tokens_word (decimal x.capacity) (58 ∷ items_text names x.groups) (IsWord-decimal x.capacity good.posts) refl)
    ∙ ap (λ (ts : List Token). word (codes "hospital") ∷ word x.name ∷ word (decimal x.capacity) ∷ colon ∷ ts) (tokens_items names x.groups h good.line.some good.line.within)

plain_resident : (names : List (List ℕ)) (r : DraftResident) → AllByRecursion IsWord names → GoodResident names r → IsPlain (resident_text names r)
plain_resident names r h good = plain_append r.name (58 ∷ items_text names r.groups) (IsWord-from_name r.name good.named).plain (plain_items names r.groups h good.within)

plain_hospital : (names : List (List ℕ)) (x : DraftHospital) → AllByRecursion IsWord names → GoodHospital names x → IsPlain (hospital_text names x)
plain_hospital names x h good =
    plain_append x.name (32 ∷ (decimal x.capacity ++ 58 ∷ items_text names x.groups)) (IsWord-from_name x.name good.line.named).plain
    (plain_append (decimal x.capacity) (58 ∷ items_text names x.groups) (IsWord-decimal x.capacity good.posts).plain (plain_items names x.groups h good.line.within))

abbrev pub spelled_rows : Lists → List Row
spelled_rows lists = header_row ∷ (map (resident_row (names_of_hospitals lists)) lists.residents ++ (map (hospital_row (names_of_residents lists)) lists.hospitals ++ finish_row ∷ []))

residents_tokens : (names : List (List ℕ)) (rs : List DraftResident) → AllByRecursion IsWord names → AllByRecursion (GoodResident names) rs → map tokens (map (resident_text names) rs) ≡ map (resident_row names) rs
residents_tokens names [] h good = refl
residents_tokens names (r ∷ rs) h good =
    ap (λ (row : Row). row ∷ map tokens (map (resident_text names) rs)) (tokens_resident names r h good.0) ∙ ap (λ (l : List Row). resident_row names r ∷ l) (residents_tokens names rs h good.1)

hospitals_tokens : (names : List (List ℕ)) (hs : List DraftHospital) → AllByRecursion IsWord names → AllByRecursion (GoodHospital names) hs → map tokens (map (hospital_text names) hs) ≡ map (hospital_row names) hs
hospitals_tokens names [] h good = refl
hospitals_tokens names (x ∷ hs) h good =
    ap (λ (row : Row). row ∷ map tokens (map (hospital_text names) hs)) (tokens_hospital names x h good.0) ∙ ap (λ (l : List Row). hospital_row names x ∷ l) (hospitals_tokens names hs h good.1)

plain_all : {X : Type 0} (f : X → List ℕ) (P : X → Type 0) → ((x : X) → P x → IsPlain (f x)) → (xs : List X) (ls : List (List ℕ)) → AllByRecursion P xs → AllByRecursion IsPlain ls → AllByRecursion IsPlain (map f xs ++ ls)
plain_all f P h [] ls all rest = rest
plain_all f P h (x ∷ xs) ls all rest = (h x all.0, plain_all f P h xs ls all.1 rest)

pub rows_spelled : (lists : Lists) → IsWellFormed lists → rows (spelling lists) ≡ spelled_rows lists
rows_spelled lists wf =
    let hs : List (List ℕ) = names_of_hospitals lists in
    let rs : List (List ℕ) = names_of_residents lists in
    let hw : AllByRecursion IsWord hs = are_words hs wf.hospital_names in
    let rw' : AllByRecursion IsWord rs = are_words rs wf.resident_names in
    let rg = residents_good lists wf in
    let hg = hospitals_good lists wf in
    let end_plain : AllByRecursion IsPlain (codes "end" ∷ []) = (refl, tt) in
    let hospitals_plain = plain_all (hospital_text rs) (GoodHospital rs) (λ x g. plain_hospital rs x rw' g) lists.hospitals (codes "end" ∷ []) hg end_plain in
    let residents_plain = plain_all (resident_text hs) (GoodResident hs) (λ r g. plain_resident hs r hw g) lists.residents (map (hospital_text rs) lists.hospitals ++ codes "end" ∷ []) rg hospitals_plain in
    ap (map tokens) (lines_back (spelled_lines lists) (refl, residents_plain))
    ∙ ap (λ (l : List Row). header_row ∷ l)
    (map-append tokens (map (resident_text hs) lists.residents) (map (hospital_text rs) lists.hospitals ++ codes "end" ∷ [])
    ∙ ap (λ (l : List Row). l ++ map tokens (map (hospital_text rs) lists.hospitals ++ codes "end" ∷ [])) (residents_tokens hs lists.residents hw rg)
    ∙ ap (λ (l : List Row). map (resident_row hs) lists.residents ++ l)
    (map-append tokens (map (hospital_text rs) lists.hospitals) (codes "end" ∷ []) ∙ ap (λ (l : List Row). l ++ finish_row ∷ []) (hospitals_tokens rs lists.hospitals rw' hg)))
