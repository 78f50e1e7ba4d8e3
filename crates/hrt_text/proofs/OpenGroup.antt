-- Whether items are groups depends on the open group only by its having a name. Words that come one after the other.
use Rattle.std.proofs.Common.{◌≡◌, ℕ, Bool, true, false, not, ◌||◌, inl, inr, List, [], ◌∷◌, ◌++◌, Option, Some, None, refl, sym, ◌∙◌}
use Rattle.std.specs.Prelude.{is_none, option_map, bytes_eq}
use Rattle.std.proofs.lemmas.Bool.{and_left, and_right, and_parts, and_from, or_right, or_left, or_cases, or_parts, or_from, not_from_true, not_from_false}
use Rattle.std.proofs.lemmas.List.Folds.{list_any-append}
use Rattle.std.proofs.lemmas.Slice.Eq.{bytes_eq-Decides}
use Rattle.hrt_text.proofs.Among.{not_true, bytes_eq-turned}
use Rattle.hrt_text.specs.Text.{Token, colon, opening, closing, word}
use Rattle.hrt_text.specs.Grammar.{Group, groups_from}
use Rattle.rank_tables.specs.Names.{is_among, are_apart}

none_map : {A B : Type 0} (f : A → B) (o : Option A) → is_none (option_map f o) ≡ is_none o
none_map f None = refl
none_map f (Some x) = refl

pub any_group : (m n : List ℕ) (g h : Group) (items : List Token) → is_none (groups_from (Some (m ∷ g)) items) ≡ is_none (groups_from (Some (n ∷ h)) items)
any_group m n g h [] = refl
any_group m n g h (colon ∷ items) = refl
any_group m n g h (opening ∷ items) = refl
any_group m n g h (closing ∷ items) = none_map (λ (groups : List Group). (m ∷ g) ∷ groups) (groups_from None items) ∙ sym (none_map (λ (groups : List Group). (n ∷ h) ∷ groups) (groups_from None items))
any_group m n g h (word w ∷ items) = any_group m n (g ++ w ∷ []) (h ++ w ∷ []) items

-- a name that stands among those before it

among_here : (n name : List ℕ) (names more : List (List ℕ)) → bytes_eq n name ≡ true → is_among n (names ++ name ∷ more) ≡ true
among_here n name [] more h = or_left (bytes_eq n name) (is_among n more) h
among_here n name (m ∷ names) more h = or_right (bytes_eq n m) (is_among n (names ++ name ∷ more)) (among_here n name names more h)

same_turned : (a b : List ℕ) → bytes_eq a b ≡ true → bytes_eq b a ≡ true
same_turned a b h = (bytes_eq-Decides b a).1 (sym ((bytes_eq-Decides a b).0 h))

pub stands_twice : (names : List (List ℕ)) (name : List ℕ) (more : List (List ℕ)) → is_among name names ≡ true → are_apart (names ++ name ∷ more) ≡ false
stands_twice [] name more h = absurd cc
stands_twice (n ∷ names) name more h =
    elim (or_cases (bytes_eq name n) (is_among name names) h) [
      | inl same ↦ and_left (not (is_among n (names ++ name ∷ more))) (are_apart (names ++ name ∷ more)) (not_from_true _ (among_here n name names more (same_turned name n same)))
      | inr later ↦ and_right (not (is_among n (names ++ name ∷ more))) (are_apart (names ++ name ∷ more)) (stands_twice names name more later)
    ]

-- one more name that is none of them
pub distinct_push : (names : List (List ℕ)) (name : List ℕ) → are_apart names ≡ true → is_among name names ≡ false → are_apart (names ++ name ∷ []) ≡ true
distinct_push [] name h new = refl
distinct_push (n ∷ names) name h new =
    let t = and_parts (not (is_among n names)) (are_apart names) h in
    let o = or_parts (bytes_eq name n) (is_among name names) new in
    let none : is_among n (names ++ name ∷ []) ≡ false =
    list_any-append (bytes_eq n) names (name ∷ []) ∙ or_from (is_among n names) (bytes_eq n name || false) (not_true (is_among n names) t.0) (or_from (bytes_eq n name) false (bytes_eq-turned name n o.0) refl) in
    and_from (not (is_among n (names ++ name ∷ []))) (are_apart (names ++ name ∷ [])) (not_from_false _ none) (distinct_push names name t.1 o.1)

-- what `declare` answers, and what it says of the names
pub among_from : (fresh among : Bool) → fresh ≡ false → fresh ≡ not among → among ≡ true
among_from fresh true h e = refl
among_from fresh false h e = absurd cc

pub not_among_from : (fresh among : Bool) → fresh ≡ true → fresh ≡ not among → among ≡ false
not_among_from fresh false h e = refl
not_among_from fresh true h e = absurd cc
