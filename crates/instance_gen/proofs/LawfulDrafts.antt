-- The draft of a recipe is one that an instance may be built from.
use Rattle.std.proofs.Common.{◌≡◌, ◌+◌, ◌-◌, ◌*◌, ◌/◌, ◌%◌, ◌<◌, ◌≤◌, ◌++◌, ◌&&◌, ◌||◌, ℕ, zero, suc, Bool, true, false, List, [], ◌∷◌, length, length-append, map, take, drop, refl, sym, ap, ◌∙◌, arith, nat_lt, nat_le}
use Rattle.std.specs.Prelude.{bytes_eq, decimal}
use Rattle.std.specs.List.{list_all}
use Rattle.std.proofs.lemmas.Bool.{and_from, false_from_ne_true, le-leb, le-ltb, ltb-true, or_from}
use Rattle.std.proofs.lemmas.Fmt.{decimal_injective}
use Rattle.std.proofs.lemmas.List.{map-append}
use Rattle.std.proofs.lemmas.List.Folds.{list_all-append, list_any-append}
use Rattle.std.proofs.lemmas.Nat.{mul-le}
use Rattle.std.proofs.lemmas.Slice.Eq.{bytes_eq-Decides}
use Rattle.std.proofs.Math.Nat.{div-mul-le_self, mod-eq-sub-div-mul}
use Rattle.rand_pcg.specs.Lcg.{Lcg}
use Rattle.rank_tables.specs.declared.draft.DraftResident.{DraftResident}
use Rattle.rank_tables.specs.declared.draft.DraftHospital.{DraftHospital}
use Rattle.rank_tables.specs.Instance.{resident_names}
use Rattle.rank_tables.specs.Names.{are_apart, is_among, is_name, is_name_byte}
use Rattle.rank_tables.specs.Numbers.{below, is_distinct}
use Rattle.rank_tables.specs.WellFormed.{IsWellFormed, is_list, most_capacity}
use Rattle.rank_tables.proofs.Below.{length-below}
use Rattle.rank_tables.proofs.Numbers.{distinct-filter, distinct_push as number_push, is_in-below}
use Rattle.hrt_text.proofs.OpenGroup.{distinct_push}
use Rattle.instance_gen.specs.declared.recipe.Recipe.{Recipe}
use Rattle.instance_gen.specs.Draws.{seeded, shuffled}
use Rattle.instance_gen.specs.Drafts.{IsRecipe, choosers, draft_of, hospital, hospital_list, hospitals_drawn, posts, resident, resident_list, residents_drawn}
use Rattle.instance_gen.proofs.Choosing.{filter_all, is_below}
use Rattle.instance_gen.proofs.Counts.{length_drawn}
use Rattle.instance_gen.proofs.Moved.{all_front, all_moved, distinct_front, distinct_moved}
use Rattle.instance_gen.proofs.NumberNames.{number_name}
use Rattle.instance_gen.proofs.Shuffles.{shuffle_moves}
use Rattle.instance_gen.proofs.Tied.{list_tied}

-- ---- names

-- a letter, and the number of a place, from 1 on
abbrev named : ℕ → ℕ → List ℕ
named letter i = letter ∷ decimal (i + 1)

good_names : (letter n : ℕ) → is_name_byte letter ≡ true → n ≤ 20000 → list_all is_name (map (named letter) (below n)) ≡ true
good_names letter zero b h = refl
good_names letter (suc n) b h =
    ap (list_all is_name) (map-append (named letter) (below n) (n ∷ [])) ∙ list_all-append is_name (map (named letter) (below n)) (named letter n ∷ [])
    ∙ and_from (list_all is_name (map (named letter) (below n))) (is_name (named letter n) && true) (good_names letter n b (omega (arith, h)))
    (and_from (is_name (named letter n)) true (number_name letter (n + 1) b (omega (arith, h))) refl)

other_name : (letter n k : ℕ) → k < n → n ≤ 20000 → bytes_eq (named letter n) (named letter k) ≡ false
other_name letter n k h small =
    false_from_ne_true (bytes_eq (named letter n) (named letter k)) (λ e.
    let same : decimal (n + 1) ≡ decimal (k + 1) = ap (drop 1) ((bytes_eq-Decides (named letter n) (named letter k)).0 e) in
    let numbers : n + 1 ≡ k + 1 = decimal_injective (n + 1) (k + 1) (omega (arith, small)) (omega (arith, h, small)) same in
    absurd (omega (arith, numbers, h)))

new_name : (letter n k : ℕ) → k ≤ n → n ≤ 20000 → is_among (named letter n) (map (named letter) (below k)) ≡ false
new_name letter n zero h small = refl
new_name letter n (suc k) h small =
    ap (is_among (named letter n)) (map-append (named letter) (below k) (k ∷ [])) ∙ list_any-append (bytes_eq (named letter n)) (map (named letter) (below k)) (named letter k ∷ [])
    ∙ or_from (is_among (named letter n) (map (named letter) (below k))) (bytes_eq (named letter n) (named letter k) || false) (new_name letter n k (omega (arith, h)) small)
    (or_from (bytes_eq (named letter n) (named letter k)) false (other_name letter n k (omega (arith, h)) small) refl)

names_apart : (letter n : ℕ) → n ≤ 20000 → are_apart (map (named letter) (below n)) ≡ true
names_apart letter zero h = refl
names_apart letter (suc n) h =
    ap are_apart (map-append (named letter) (below n) (n ∷ []))
    ∙ distinct_push (map (named letter) (below n)) (named letter n) (names_apart letter n (omega (arith, h))) (new_name letter n n (omega arith) (omega (arith, h)))

-- ---- lists

distinct_below : (n : ℕ) → is_distinct (below n) ≡ true
distinct_below zero = refl
distinct_below (suc n) = number_push (below n) n (distinct_below n) (is_in-below n n ∙ le-ltb n n (omega arith))

resident_lawful : (r : Recipe) (g : Lcg) → IsRecipe r → is_list r.hospitals (resident_list r g).value ≡ true
resident_lawful r g ok =
    let order = shuffled r.choices 0 (below r.hospitals) g in
    let moved = shuffle_moves r.choices 0 (below r.hospitals) g (omega (arith, length-below r.hospitals, ok.choices)) in
    list_tied r.hospitals r.resident_ties (take r.choices order.value) order.rest
    (all_front (λ x. nat_lt x r.hospitals) r.choices order.value (all_moved (λ x. nat_lt x r.hospitals) (below r.hospitals) order.value moved (is_below r.hospitals r.hospitals (omega arith))))
    (distinct_front r.choices order.value (distinct_moved (below r.hospitals) order.value moved (distinct_below r.hospitals)))

hospital_lawful : (r : Recipe) (residents : List DraftResident) (h : ℕ) (g : Lcg) → is_list (length residents) (hospital_list r (choosers residents h) g).value ≡ true
hospital_lawful r residents h g =
    let chosen = choosers residents h in
    let chose : ℕ → Bool = λ i. resident_names (record { residents = residents; hospitals = [] }) i h in
    let n = length residents in
    let order = shuffled (length chosen - 1) 0 chosen g in
    let moved = shuffle_moves (length chosen - 1) 0 chosen g (omega arith) in
    list_tied n r.hospital_ties order.value order.rest
    (all_moved (λ x. nat_lt x n) chosen order.value moved (filter_all (λ x. nat_lt x n) chose (below n) (is_below n n (omega arith))))
    (distinct_moved chosen order.value moved (distinct-filter chose (below n) (distinct_below n)))

-- ---- residents

names_of_drawn : (r : Recipe) (n : ℕ) (g : Lcg) → map (λ (a : DraftResident). a.name) (residents_drawn r n g).value ≡ map (named 114) (below n)
names_of_drawn r zero g = refl
names_of_drawn r (suc n) g =
    let before = residents_drawn r n g in
    map-append (λ (a : DraftResident). a.name) before.value (resident n (resident_list r before.rest).value ∷ [])
    ∙ ap (λ (l : List (List ℕ)). l ++ named 114 n ∷ []) (names_of_drawn r n g) ∙ sym (map-append (named 114) (below n) (n ∷ []))

lists_of_drawn : (r : Recipe) (n : ℕ) (g : Lcg) → IsRecipe r → list_all (λ a. is_list r.hospitals a.groups) (residents_drawn r n g).value ≡ true
lists_of_drawn r zero g ok = refl
lists_of_drawn r (suc n) g ok =
    let before = residents_drawn r n g in
    let groups = (resident_list r before.rest).value in
    list_all-append (λ a. is_list r.hospitals a.groups) before.value (resident n groups ∷ [])
    ∙ and_from (list_all (λ a. is_list r.hospitals a.groups) before.value) (is_list r.hospitals groups && true) (lists_of_drawn r n g ok)
    (and_from (is_list r.hospitals groups) true (resident_lawful r before.rest ok) refl)

-- ---- hospitals

length_hospitals : (r : Recipe) (residents : List DraftResident) (n : ℕ) (g : Lcg) → length (hospitals_drawn r residents n g).value ≡ n
length_hospitals r residents zero g = refl
length_hospitals r residents (suc n) g =
    let before = hospitals_drawn r residents n g in
    let rest : length before.value ≡ n = length_hospitals r residents n g in
    omega (arith, length-append before.value (hospital r n (hospital_list r (choosers residents n) before.rest).value ∷ []), rest)

names_of_hospitals : (r : Recipe) (residents : List DraftResident) (n : ℕ) (g : Lcg) → map (λ (a : DraftHospital). a.name) (hospitals_drawn r residents n g).value ≡ map (named 104) (below n)
names_of_hospitals r residents zero g = refl
names_of_hospitals r residents (suc n) g =
    let before = hospitals_drawn r residents n g in
    map-append (λ (a : DraftHospital). a.name) before.value (hospital r n (hospital_list r (choosers residents n) before.rest).value ∷ [])
    ∙ ap (λ (l : List (List ℕ)). l ++ named 104 n ∷ []) (names_of_hospitals r residents n g) ∙ sym (map-append (named 104) (below n) (n ∷ []))

lists_of_hospitals : (r : Recipe) (residents : List DraftResident) (n : ℕ) (g : Lcg) → list_all (λ a. is_list (length residents) a.groups) (hospitals_drawn r residents n g).value ≡ true
lists_of_hospitals r residents zero g = refl
lists_of_hospitals r residents (suc n) g =
    let before = hospitals_drawn r residents n g in
    let groups = (hospital_list r (choosers residents n) before.rest).value in
    list_all-append (λ a. is_list (length residents) a.groups) before.value (hospital r n groups ∷ [])
    ∙ and_from (list_all (λ a. is_list (length residents) a.groups) before.value) (is_list (length residents) groups && true) (lists_of_hospitals r residents n g)
    (and_from (is_list (length residents) groups) true (hospital_lawful r residents n before.rest) refl)

few_posts : (r : Recipe) (h : ℕ) → IsRecipe r → posts r h ≤ most_capacity
few_posts r h ok = by (nat_lt h (r.seats % r.hospitals)) refl
  where
    each : r.seats / r.hospitals * 1 ≤ r.seats / r.hospitals * r.hospitals
    each = mul-le (r.seats / r.hospitals) 1 (r.seats / r.hospitals) r.hospitals (omega arith) ok.some

    by : (b : Bool) → nat_lt h (r.seats % r.hospitals) ≡ b → posts r h ≤ most_capacity
    by true e =
        let some : h < r.seats % r.hospitals = ltb-true h (r.seats % r.hospitals) e in
        rw e (omega (arith, each, some, mod-eq-sub-div-mul r.seats r.hospitals, ok.seats))
    by false e = rw e (omega (arith, each, div-mul-le_self r.seats r.hospitals, ok.seats))

capacities_drawn : (r : Recipe) (residents : List DraftResident) (n : ℕ) (g : Lcg) → IsRecipe r → list_all (λ h. nat_le h.capacity most_capacity) (hospitals_drawn r residents n g).value ≡ true
capacities_drawn r residents zero g ok = refl
capacities_drawn r residents (suc n) g ok =
    let before = hospitals_drawn r residents n g in
    let groups = (hospital_list r (choosers residents n) before.rest).value in
    list_all-append (λ h. nat_le h.capacity most_capacity) before.value (hospital r n groups ∷ [])
    ∙ and_from (list_all (λ h. nat_le h.capacity most_capacity) before.value) (nat_le (posts r n) most_capacity && true) (capacities_drawn r residents n g ok)
    (and_from (nat_le (posts r n) most_capacity) true (le-leb (posts r n) most_capacity (few_posts r n ok)) refl)

-- ---- the draft

lawful_from : (r : Recipe) (g : Lcg) → IsRecipe r
    → IsWellFormed (record { residents = (residents_drawn r r.residents g).value; hospitals = (hospitals_drawn r (residents_drawn r r.residents g).value r.hospitals (residents_drawn r r.residents g).rest).value })
lawful_from r g ok =
    let drawn = residents_drawn r r.residents g in
    let residents = drawn.value in
    let hospitals = (hospitals_drawn r residents r.hospitals drawn.rest).value in
    let many : length residents ≡ r.residents = length_drawn r r.residents g in
    let more : length hospitals ≡ r.hospitals = length_hospitals r residents r.hospitals drawn.rest in
    record {
      few_residents = omega (arith, many, ok.residents);
      few_hospitals = omega (arith, more, ok.hospitals);
      resident_names = ap (list_all is_name) (names_of_drawn r r.residents g) ∙ good_names 114 r.residents refl ok.residents;
      hospital_names = ap (list_all is_name) (names_of_hospitals r residents r.hospitals drawn.rest) ∙ good_names 104 r.hospitals refl ok.hospitals;
      residents_apart = ap are_apart (names_of_drawn r r.residents g) ∙ names_apart 114 r.residents ok.residents;
      hospitals_apart = ap are_apart (names_of_hospitals r residents r.hospitals drawn.rest) ∙ names_apart 104 r.hospitals ok.hospitals;
      capacities = capacities_drawn r residents r.hospitals drawn.rest ok;
      resident_lists = ap (λ (n : ℕ). list_all (λ (a : DraftResident). is_list n a.groups) residents) more ∙ lists_of_drawn r r.residents g ok;
      hospital_lists = lists_of_hospitals r residents r.hospitals drawn.rest;
    }

pub lawful : (r : Recipe) → IsRecipe r → IsWellFormed (draft_of r)
lawful r ok = lawful_from r (seeded r.number) ok
