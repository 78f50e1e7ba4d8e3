-- The tokens of items are groups, and groups are the tokens of items.
use Rattle.std.proofs.Common.{◌≡◌, ℕ, false, List, [], ◌∷◌, ◌++◌, map, Option, Some, None, refl, sym, ap, ◌∙◌, append_assoc}
use Rattle.std.specs.Prelude.{flat_map, option_map, is_none}
use Rattle.std.proofs.lemmas.List.{append-nil}
use Rattle.std.proofs.lemmas.List.Elements.{filter_map-append}
use Rattle.hrt_text.specs.Text.{Token, colon, opening, closing, word}
use Rattle.hrt_text.specs.Grammar.{word_of, words, Group, groups_from, groups_of}
use Rattle.hrt_reader.specs.Accepted.{Item, single, tie, item_tokens, item_names}

abbrev pub items_tokens : List Item → List Token
items_tokens items = flat_map item_tokens items

-- ---- words

pub words_words : (names : List (List ℕ)) → words (map word names) ≡ names
words_words [] = refl
words_words (n ∷ names) = ap (λ (l : List (List ℕ)). n ∷ l) (words_words names)

words_tied : (others : List (List ℕ)) (after : List Token) → words ((map word others ++ closing ∷ []) ++ after) ≡ others ++ words after
words_tied others after =
    ap words (append_assoc (map word others) (closing ∷ []) after)
    ∙ filter_map-append word_of (map word others) (closing ∷ after)
    ∙ ap (λ (l : List (List ℕ)). l ++ words after) (words_words others)

pub words_items : (items : List Item) → words (items_tokens items) ≡ flat_map item_names items
words_items [] = refl
words_items (single name ∷ items) = ap (λ (l : List (List ℕ)). name ∷ l) (words_items items)
words_items (tie first others ∷ items) =
    ap (λ (l : List (List ℕ)). first ∷ l) (words_tied others (items_tokens items) ∙ ap (λ (l : List (List ℕ)). others ++ l) (words_items items))

-- ---- groups

abbrev with_group : Group → Option (List Group) → Option (List Group)
with_group g o = option_map (λ groups. g ∷ groups) o

open_group : (first : List ℕ) (front names : Group) (after : List Token) → groups_from (Some (first ∷ front)) (map word names ++ closing ∷ after) ≡ with_group (first ∷ (front ++ names)) (groups_from None after)
open_group first front [] after = ap (λ (l : Group). with_group (first ∷ l) (groups_from None after)) (sym (append-nil front))
open_group first front (n ∷ names) after =
    open_group first (front ++ n ∷ []) names after ∙ ap (λ (l : Group). with_group (first ∷ l) (groups_from None after)) (append_assoc front (n ∷ []) names)

pub groups_items : (items : List Item) → groups_of (items_tokens items) ≡ Some (map item_names items)
groups_items [] = refl
groups_items (single name ∷ items) = ap (with_group (name ∷ [])) (groups_items items)
groups_items (tie first others ∷ items) =
    ap (groups_from (Some (first ∷ []))) (append_assoc (map word others) (closing ∷ []) (items_tokens items))
    ∙ open_group first [] others (items_tokens items) ∙ ap (with_group (first ∷ others)) (groups_items items)

-- ---- items from groups

-- the tokens that follow in this state are those of items, behind what is left of the tie that is open
abbrev pub FollowsAsItems : Option Group → List Token → Type 0
FollowsAsItems None tokens = (items : List Item) × (items_tokens items ≡ tokens)
FollowsAsItems (Some []) tokens = (first : List ℕ) × (others : List (List ℕ)) × (items : List Item) × (word first ∷ (map word others ++ closing ∷ items_tokens items) ≡ tokens)
FollowsAsItems (Some (n ∷ group)) tokens = (others : List (List ℕ)) × (items : List Item) × (map word others ++ closing ∷ items_tokens items ≡ tokens)

some_map : {A B : Type 0} (f : A → B) (o : Option A) → is_none (option_map f o) ≡ is_none o
some_map f None = refl
some_map f (Some x) = refl

pub items_from : (state : Option Group) (tokens : List Token) → is_none (groups_from state tokens) ≡ false → FollowsAsItems state tokens
items_from None [] h = ([], refl)
items_from (Some []) [] h = absurd cc
items_from (Some (n ∷ group)) [] h = absurd cc
items_from None (colon ∷ tokens) h = absurd cc
items_from (Some []) (colon ∷ tokens) h = absurd cc
items_from (Some (n ∷ group)) (colon ∷ tokens) h = absurd cc
items_from None (opening ∷ tokens) h =
    let p = items_from (Some []) tokens h in
    (tie p.0 p.1 ∷ p.2, ap (λ (l : List Token). opening ∷ word p.0 ∷ l) (append_assoc (map word p.1) (closing ∷ []) (items_tokens p.2)) ∙ ap (λ (l : List Token). opening ∷ l) p.3)
items_from (Some []) (opening ∷ tokens) h = absurd cc
items_from (Some (n ∷ group)) (opening ∷ tokens) h = absurd cc
items_from None (closing ∷ tokens) h = absurd cc
items_from (Some []) (closing ∷ tokens) h = absurd cc
items_from (Some (n ∷ group)) (closing ∷ tokens) h =
    let p = items_from None tokens (sym (some_map (λ (groups : List Group). (n ∷ group) ∷ groups) (groups_from None tokens)) ∙ h) in
    ([], p.0, ap (λ (l : List Token). closing ∷ l) p.1)
items_from None (word w ∷ tokens) h =
    let p = items_from None tokens (sym (some_map (λ (groups : List Group). (w ∷ []) ∷ groups) (groups_from None tokens)) ∙ h) in
    (single w ∷ p.0, ap (λ (l : List Token). word w ∷ l) p.1)
items_from (Some []) (word w ∷ tokens) h =
    let p = items_from (Some (w ∷ [])) tokens h in
    (w, p.0, p.1, ap (λ (l : List Token). word w ∷ l) p.2)
items_from (Some (n ∷ group)) (word w ∷ tokens) h =
    let p = items_from (Some (n ∷ (group ++ w ∷ []))) tokens h in
    (w ∷ p.0, p.1, ap (λ (l : List Token). word w ∷ l) p.2)
