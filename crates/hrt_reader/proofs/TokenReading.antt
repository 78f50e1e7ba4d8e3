-- Groups read token by token are the groups of the items, by the numbers of their names.
use Rattle.std.proofs.Common.{◌≡◌, ℕ, ◌+◌, ◌<◌, ◌≤◌, true, false, ltb, List, [], ◌∷◌, ◌++◌, length, map, Option, Some, None, refl, sym, ap, subst, ◌∙◌, append_assoc, arith, inl, inr}
use Rattle.std.specs.Prelude.{option_map, is_none, unwrap_or, bytes_eq, position}
use Rattle.std.specs.List.{list_all}
use Rattle.std.proofs.lemmas.List.{append-nil, map-append, length-append}
use Rattle.std.proofs.lemmas.Bool.{cases_Bool, cases_lt, or_left, or_right, or_from, lt-ltb, le-ltb, cond-true, cond-false}
use Rattle.rank_tables.specs.Groups.{tied_to, tied_on}
use Rattle.hrt_text.specs.declared.items.Place.{Place}
use Rattle.hrt_text.specs.declared.items.Place.TheVariants.{Outside, Opened, Inside}
use Rattle.hrt_text.specs.Text.{Token, colon, opening, closing, word}
use Rattle.hrt_text.specs.Grammar.{Group, groups_from, groups_of, words}
use Rattle.rank_tables.specs.Names.{is_among}
use Rattle.hrt_reader.specs.Accepted.{number_in}
use Rattle.hrt_reader.specs.Refusal.{groups_in}
use Rattle.hrt_reader.specs.Numbered.{next_place, with_number, after_token, is_known}

abbrev pub reads : List (List ℕ) → List (List ℕ) → Place → List Token → List (List ℕ)
reads names done place [] = done
reads names done place (t ∷ items) = reads names (after_token names done place t) (next_place place t) items

tied_to_last : (d h : List ℕ) (ds : List (List ℕ)) (y : ℕ) → tied_to d (ds ++ h ∷ []) y ≡ d ∷ (ds ++ (h ++ y ∷ []) ∷ [])
tied_to_last d h [] y = refl
tied_to_last d h (e ∷ ds) y = ap (λ (l : List (List ℕ)). d ∷ l) (tied_to_last e h ds y)

tied_on_last : (done : List (List ℕ)) (h : List ℕ) (y : ℕ) → tied_on (done ++ h ∷ []) y ≡ done ++ (h ++ y ∷ []) ∷ []
tied_on_last [] h y = refl
tied_on_last (d ∷ done) h y = tied_to_last d h done y

abbrev place_of : Option Group → Place
place_of None = Outside
place_of (Some []) = Opened
place_of (Some (n ∷ g)) = Inside

abbrev with_open : List (List ℕ) → List (List ℕ) → Option Group → List (List ℕ)
with_open names done None = done
with_open names done (Some []) = done
with_open names done (Some (n ∷ g)) = done ++ map (number_in names) (n ∷ g) ∷ []

pub option_some : (g : Group) (o : Option (List Group)) (gs : List Group) → option_map (λ groups. g ∷ groups) o ≡ Some gs → (rest : List Group) × (o ≡ Some rest) × (g ∷ rest ≡ gs)
option_some g None gs e = absurd cc
option_some g (Some rest) gs e = (rest, refl, cc)

pub some_is : (a b : List Group) → Some a ≡ Some b → a ≡ b
some_is a b e = cc

reads_state : (names done : List (List ℕ)) (state : Option Group) (items : List Token) (gs : List Group) → groups_from state items ≡ Some gs
    → reads names (with_open names done state) (place_of state) items ≡ done ++ map (map (number_in names)) gs
reads_state names done None [] gs e = subst (λ (l : List Group). done ≡ done ++ map (map (number_in names)) l) (some_is [] gs e) (sym (append-nil done))
reads_state names done (Some g) [] gs e = absurd cc
reads_state names done None (colon ∷ items) gs e = absurd cc
reads_state names done (Some g) (colon ∷ items) gs e = absurd cc
reads_state names done None (opening ∷ items) gs e = reads_state names done (Some []) items gs e
reads_state names done (Some g) (opening ∷ items) gs e = absurd cc
reads_state names done None (closing ∷ items) gs e = absurd cc
reads_state names done (Some []) (closing ∷ items) gs e = absurd cc
reads_state names done (Some (n ∷ g)) (closing ∷ items) gs e =
    let o = option_some (n ∷ g) (groups_from None items) gs e in
    let one : List (List ℕ) = done ++ map (number_in names) (n ∷ g) ∷ [] in
    reads_state names one None items o.0 o.1
    ∙ append_assoc done (map (number_in names) (n ∷ g) ∷ []) (map (map (number_in names)) o.0)
    ∙ ap (λ (l : List Group). done ++ map (map (number_in names)) l) o.2
reads_state names done None (word w ∷ items) gs e =
    let o = option_some (w ∷ []) (groups_from None items) gs e in
    let one : List (List ℕ) = done ++ (number_in names w ∷ []) ∷ [] in
    reads_state names one None items o.0 o.1
    ∙ append_assoc done ((number_in names w ∷ []) ∷ []) (map (map (number_in names)) o.0)
    ∙ ap (λ (l : List Group). done ++ map (map (number_in names)) l) o.2
reads_state names done (Some []) (word w ∷ items) gs e = reads_state names done (Some (w ∷ [])) items gs e
reads_state names done (Some (n ∷ g)) (word w ∷ items) gs e =
    let h : List ℕ = map (number_in names) (n ∷ g) in
    let more : tied_on (done ++ h ∷ []) (number_in names w) ≡ done ++ map (number_in names) (n ∷ (g ++ w ∷ [])) ∷ [] =
    tied_on_last done h (number_in names w) ∙ ap (λ (l : List ℕ). done ++ (number_in names n ∷ l) ∷ []) (sym (map-append (number_in names) g (w ∷ []))) in
    ap (λ (l : List (List ℕ)). reads names l Inside items) more ∙ reads_state names done (Some (n ∷ (g ++ w ∷ []))) items gs e

pub some_from : (o : Option (List Group)) → is_none o ≡ false → o ≡ Some (unwrap_or o [])
some_from None h = absurd cc
some_from (Some gs) h = refl

pub reads_groups : (names : List (List ℕ)) (items : List Token) → is_none (groups_of items) ≡ false → reads names [] Outside items ≡ groups_in names items
reads_groups names items h = reads_state names [] None items (unwrap_or (groups_of items) []) (some_from (groups_of items) h)

-- the groups have one where a word stands inside

length-tied_to : (g : List ℕ) (groups : List (List ℕ)) (x : ℕ) → length (tied_to g groups x) ≡ length groups + 1
length-tied_to g [] x = refl
length-tied_to g (h ∷ groups) x = omega (arith, length-tied_to h groups x)

some_tied : (groups : List (List ℕ)) (x : ℕ) → 0 < length groups → 0 < length (tied_on groups x)
some_tied [] x h = absurd (omega arith)
some_tied (g ∷ groups) x h = omega (arith, length-tied_to g groups x)

with_number_some : (groups : List (List ℕ)) (place : Place) (x : ℕ) → (place ≡ Inside → 0 < length groups) → 0 < length (with_number groups place x)
with_number_some groups Outside x h = omega (arith, length-append groups ((x ∷ []) ∷ []))
with_number_some groups Opened x h = omega (arith, length-append groups ((x ∷ []) ∷ []))
with_number_some groups Inside x h = some_tied groups x (h refl)

pub some_kept : (names groups : List (List ℕ)) (place : Place) (t : Token) → (place ≡ Inside → 0 < length groups) → next_place place t ≡ Inside → 0 < length (after_token names groups place t)
some_kept names groups place (word w) h e = with_number_some groups place (number_in names w) h
some_kept names groups place colon h e = h e
some_kept names groups place opening h e = absurd cc
some_kept names groups place closing h e = absurd cc

-- what `number_of` answers

number_is : (m n : ℕ) → Some m ≡ Some n → m ≡ n
number_is m n e = cc

some_none : (n : ℕ) → Some n ≡ None → ⊥
some_none n e = cc

first_among : (w : List ℕ) (names : List (List ℕ)) → number_in names w < length names → is_among w names ≡ true
first_among w [] h = absurd (omega arith)
first_among w (n ∷ names) h =
    elim (cases_Bool (bytes_eq w n)) [
      | inl same ↦ or_left (bytes_eq w n) (is_among w names) same
      | inr other ↦
          let later : number_in names w + 1 ≡ number_in (n ∷ names) w = rw other (omega arith) in
          or_right (bytes_eq w n) (is_among w names) (first_among w names (omega arith))
    ]

none_among : (w : List ℕ) (names : List (List ℕ)) → length names ≤ number_in names w → is_among w names ≡ false
none_among w [] h = refl
none_among w (n ∷ names) h =
    elim (cases_Bool (bytes_eq w n)) [
      | inl same ↦ let first : number_in (n ∷ names) w ≡ 0 = rw same refl in absurd (omega arith)
      | inr other ↦
          let later : number_in names w + 1 ≡ number_in (n ∷ names) w = rw other (omega arith) in
          or_from (bytes_eq w n) (is_among w names) other (none_among w names (omega arith))
    ]

pub found_number : (w : List ℕ) (names : List (List ℕ)) (n : ℕ) → position (bytes_eq w) names ≡ Some n → (is_among w names ≡ true) × (n ≡ number_in names w) × (n < length names)
found_number w names n e =
    elim (cases_lt (number_in names w) (length names)) [
      | inl lt ↦
          let yes' : ltb (number_in names w) (length names) ≡ true = lt-ltb _ _ lt in
          let is : number_in names w ≡ n = number_is _ _ (sym (cond-true (ltb (number_in names w) (length names)) (Some (number_in names w)) None yes') ∙ e) in
          (first_among w names lt, sym is, omega arith)
      | inr le ↦
          let no' : ltb (number_in names w) (length names) ≡ false = le-ltb _ _ le in
          absurd (some_none n (sym e ∙ cond-false (ltb (number_in names w) (length names)) (Some (number_in names w)) None no'))
    ]

pub found_none : (w : List ℕ) (names : List (List ℕ)) → position (bytes_eq w) names ≡ None → is_among w names ≡ false
found_none w names e =
    elim (cases_lt (number_in names w) (length names)) [
      | inl lt ↦
          let yes' : ltb (number_in names w) (length names) ≡ true = lt-ltb _ _ lt in
          absurd (some_none (number_in names w) (sym (cond-true (ltb (number_in names w) (length names)) (Some (number_in names w)) None yes') ∙ e))
      | inr le ↦ none_among w names le
    ]

pub known_step : (names : List (List ℕ)) (t : Token) (items : List Token) → is_known names t ≡ true → list_all (λ w. is_among w names) (words (t ∷ items)) ≡ list_all (λ w. is_among w names) (words items)
known_step names (word w) items h = rw h refl
known_step names colon items h = refl
known_step names opening items h = refl
known_step names closing items h = refl
