-- The items of a spelled line: their tokens, and the items that they are.
use Rattle.std.proofs.Common.{◌≡◌, ℕ, zero, suc, ◌<◌, Bool, true, ltb, List, [], ◌∷◌, ◌++◌, length, map, refl, sym, ap, ◌∙◌, append_assoc, arith}
use Rattle.std.specs.Prelude.{flat_map}
use Rattle.std.specs.List.{list_all, join_with_byte, concat, AllByRecursion}
use Rattle.std.proofs.lemmas.Bool.{and_parts, ltb-true}
use Rattle.std.proofs.lemmas.List.{map-append}
use Rattle.std.proofs.lemmas.List.Folds.{list_all-append}
use Rattle.hrt_text.specs.Text.{Token, opening, closing, word, tokens}
use Rattle.hrt_reader.specs.Accepted.{Item, single, tie, item_names, item_tokens}
use Rattle.hrt_reader.specs.Spelling.{name_at, group_text, items_text}
use Rattle.rank_tables.specs.WellFormed.{is_group}
use Rattle.hrt_text.proofs.Words.{IsWord, Ends, tokens_word, tokens_joined}

abbrev pub group_tokens : List (List ℕ) → List ℕ → List Token
group_tokens names [] = []
group_tokens names (x ∷ []) = word (name_at names x) ∷ []
group_tokens names (x ∷ y ∷ g) = opening ∷ (map word (map (name_at names) (x ∷ y ∷ g)) ++ closing ∷ [])

abbrev pub items_tokens : List (List ℕ) → List (List ℕ) → List Token
items_tokens names groups = flat_map (group_tokens names) groups

abbrev pub below : List (List ℕ) → ℕ → Bool
below names x = ltb x (length names)

pub word_at : (names : List (List ℕ)) (x : ℕ) → AllByRecursion IsWord names → x < length names → IsWord (name_at names x)
word_at [] x h lt = absurd (omega arith)
word_at (n ∷ names) zero h lt = h.0
word_at (n ∷ names) (suc x) h lt = word_at names x h.1 (omega arith)

names_words : (names : List (List ℕ)) (g : List ℕ) → AllByRecursion IsWord names → list_all (below names) g ≡ true → AllByRecursion IsWord (map (name_at names) g)
names_words names [] h e = tt
names_words names (x ∷ g) h e =
    let t = and_parts (below names x) (list_all (below names) g) e in
    (word_at names x h (ltb-true _ _ t.0), names_words names g h t.1)

tokens_group : (names : List (List ℕ)) (g x : List ℕ) → AllByRecursion IsWord names → is_group g ≡ true → list_all (below names) g ≡ true → Ends x → tokens (group_text names g ++ x) ≡ group_tokens names g ++ tokens x
tokens_group names [] x h some e ends = absurd cc
tokens_group names (k ∷ []) x h some e ends = tokens_word (name_at names k) x (names_words names (k ∷ []) h e).0 ends
tokens_group names (k ∷ l ∷ g) x h some e ends =
    let ns : List (List ℕ) = map (name_at names) (k ∷ l ∷ g) in
    ap (λ (b : List ℕ). opening ∷ tokens b) (append_assoc (join_with_byte 32 ns) (41 ∷ []) x)
    ∙ ap (λ (ts : List Token). opening ∷ ts) (tokens_joined ns (41 ∷ x) (names_words names (k ∷ l ∷ g) h e) (omega arith) refl ∙ sym (append_assoc (map word ns) (closing ∷ []) (tokens x)))

pub items_end : (names : List (List ℕ)) (groups : List (List ℕ)) → list_all is_group groups ≡ true → Ends (items_text names groups)
items_end names [] e = refl
items_end names ([] ∷ groups) e = absurd cc
items_end names ((k ∷ []) ∷ groups) e = refl
items_end names ((k ∷ l ∷ g) ∷ groups) e = refl

pub tokens_items : (names : List (List ℕ)) (groups : List (List ℕ)) → AllByRecursion IsWord names → list_all is_group groups ≡ true → list_all (below names) (concat groups) ≡ true → tokens (items_text names groups) ≡ items_tokens names groups
tokens_items names [] h some e = refl
tokens_items names (g ∷ groups) h some e =
    let s = and_parts (is_group g) (list_all is_group groups) some in
    let b = and_parts (list_all (below names) g) (list_all (below names) (concat groups)) (sym (list_all-append (below names) g (concat groups)) ∙ e) in
    tokens_group names g (items_text names groups) h s.0 b.0 (items_end names groups s.1)
    ∙ ap (λ (ts : List Token). group_tokens names g ++ ts) (tokens_items names groups h s.1 b.1)

-- ---- as items

-- the item of a group
abbrev pub item_of : List (List ℕ) → List ℕ → Item
item_of names [] = single []
item_of names (x ∷ []) = single (name_at names x)
item_of names (x ∷ y ∷ group) = tie (name_at names x) (map (name_at names) (y ∷ group))

pub items_spelled : (names : List (List ℕ)) (groups : List (List ℕ)) → list_all is_group groups ≡ true → items_tokens names groups ≡ flat_map item_tokens (map (item_of names) groups)
items_spelled names [] some = refl
items_spelled names ([] ∷ groups) some = absurd cc
items_spelled names ((x ∷ []) ∷ groups) some = ap (λ (ts : List Token). word (name_at names x) ∷ ts) (items_spelled names groups some)
items_spelled names ((x ∷ y ∷ g) ∷ groups) some = ap (λ (ts : List Token). group_tokens names (x ∷ y ∷ g) ++ ts) (items_spelled names groups some)

pub names_items : (names : List (List ℕ)) (groups : List (List ℕ)) → list_all is_group groups ≡ true → map item_names (map (item_of names) groups) ≡ map (map (name_at names)) groups
names_items names [] some = refl
names_items names ([] ∷ groups) some = absurd cc
names_items names ((x ∷ []) ∷ groups) some = ap (λ (l : List (List (List ℕ))). (name_at names x ∷ []) ∷ l) (names_items names groups some)
names_items names ((x ∷ y ∷ g) ∷ groups) some = ap (λ (l : List (List (List ℕ))). map (name_at names) (x ∷ y ∷ g) ∷ l) (names_items names groups some)

pub names_joined : (names : List (List ℕ)) (groups : List (List ℕ)) → list_all is_group groups ≡ true → flat_map item_names (map (item_of names) groups) ≡ map (name_at names) (concat groups)
names_joined names [] some = refl
names_joined names ([] ∷ groups) some = absurd cc
names_joined names ((x ∷ []) ∷ groups) some = ap (λ (l : List (List ℕ)). name_at names x ∷ l) (names_joined names groups some)
names_joined names ((x ∷ y ∷ g) ∷ groups) some =
    ap (λ (l : List (List ℕ)). map (name_at names) (x ∷ y ∷ g) ++ l) (names_joined names groups some) ∙ sym (map-append (name_at names) (x ∷ y ∷ g) (concat groups))
