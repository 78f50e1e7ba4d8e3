-- The groups that a list without a kind gives are a list of numbers: none empty, all below the count, none twice.
use Rattle.std.proofs.Common.{◌≡◌, ℕ, ◌+◌, ◌<◌, Bool, true, false, not, ◌||◌, eqb, ltb, List, [], ◌∷◌, ◌++◌, length, map, Option, Some, None, refl, sym, ap, ◌∙◌, append_assoc, arith, inl, inr}
use Rattle.std.specs.Prelude.{is_none, unwrap_or, bytes_eq}
use Rattle.std.specs.List.{list_all, concat}
use Rattle.std.proofs.lemmas.Bool.{and_parts, and_from, or_parts, or_from, not_from_false, lt-ltb, eqb-true, cases_Bool, false_from_ne_true}
use Rattle.std.proofs.lemmas.List.{map-append}
use Rattle.std.proofs.lemmas.Slice.Eq.{bytes_eq-Decides}
use Rattle.hrt_text.specs.Text.{Token, colon, opening, closing, word}
use Rattle.hrt_text.specs.Grammar.{Group, groups_from, groups_of, words}
use Rattle.rank_tables.specs.Names.{is_among, are_apart}
use Rattle.hrt_reader.specs.Accepted.{number_in}
use Rattle.hrt_reader.specs.Refusal.{groups_in}
use Rattle.rank_tables.specs.Numbers.{is_in, is_distinct}
use Rattle.rank_tables.specs.WellFormed.{is_group, is_list}
use Rattle.hrt_text.proofs.Among.{not_true}
use Rattle.hrt_reader.proofs.TokenReading.{some_from, option_some, some_is}

-- the names of groups, one after the other
abbrev joined : List Group → List (List ℕ)
joined [] = []
joined (g ∷ gs) = g ++ joined gs

abbrev of_open : Option Group → List (List ℕ)
of_open None = []
of_open (Some g) = g

words_are : (state : Option Group) (items : List Token) (gs : List Group) → groups_from state items ≡ Some gs → joined gs ≡ of_open state ++ words items
words_are None [] gs e = ap joined (sym (some_is [] gs e))
words_are (Some g) [] gs e = absurd cc
words_are None (colon ∷ items) gs e = absurd cc
words_are (Some g) (colon ∷ items) gs e = absurd cc
words_are None (opening ∷ items) gs e = words_are (Some []) items gs e
words_are (Some g) (opening ∷ items) gs e = absurd cc
words_are None (closing ∷ items) gs e = absurd cc
words_are (Some []) (closing ∷ items) gs e = absurd cc
words_are (Some (n ∷ g)) (closing ∷ items) gs e =
    let o = option_some (n ∷ g) (groups_from None items) gs e in
    ap joined (sym o.2) ∙ ap (λ (l : List (List ℕ)). (n ∷ g) ++ l) (words_are None items o.0 o.1)
words_are None (word w ∷ items) gs e =
    let o = option_some (w ∷ []) (groups_from None items) gs e in
    ap joined (sym o.2) ∙ ap (λ (l : List (List ℕ)). w ∷ l) (words_are None items o.0 o.1)
words_are (Some []) (word w ∷ items) gs e = words_are (Some (w ∷ [])) items gs e
words_are (Some (n ∷ g)) (word w ∷ items) gs e = words_are (Some (n ∷ (g ++ w ∷ []))) items gs e ∙ ap (λ (l : List (List ℕ)). n ∷ l) (append_assoc g (w ∷ []) (words items))

-- no group is empty, by numbers
some_each : (names : List (List ℕ)) (state : Option Group) (items : List Token) (gs : List Group) → groups_from state items ≡ Some gs → list_all is_group (map (map (number_in names)) gs) ≡ true
some_each names None [] gs e = ap (λ (l : List Group). list_all is_group (map (map (number_in names)) l)) (sym (some_is [] gs e))
some_each names (Some g) [] gs e = absurd cc
some_each names None (colon ∷ items) gs e = absurd cc
some_each names (Some g) (colon ∷ items) gs e = absurd cc
some_each names None (opening ∷ items) gs e = some_each names (Some []) items gs e
some_each names (Some g) (opening ∷ items) gs e = absurd cc
some_each names None (closing ∷ items) gs e = absurd cc
some_each names (Some []) (closing ∷ items) gs e = absurd cc
some_each names (Some (n ∷ g)) (closing ∷ items) gs e =
    let o = option_some (n ∷ g) (groups_from None items) gs e in
    ap (λ (l : List Group). list_all is_group (map (map (number_in names)) l)) (sym o.2) ∙ some_each names None items o.0 o.1
some_each names None (word w ∷ items) gs e =
    let o = option_some (w ∷ []) (groups_from None items) gs e in
    ap (λ (l : List Group). list_all is_group (map (map (number_in names)) l)) (sym o.2) ∙ some_each names None items o.0 o.1
some_each names (Some []) (word w ∷ items) gs e = some_each names (Some (w ∷ [])) items gs e
some_each names (Some (n ∷ g)) (word w ∷ items) gs e = some_each names (Some (n ∷ (g ++ w ∷ []))) items gs e

concat_joined : (names : List (List ℕ)) (gs : List Group) → concat (map (map (number_in names)) gs) ≡ map (number_in names) (joined gs)
concat_joined names [] = refl
concat_joined names (g ∷ gs) = ap (λ (l : List ℕ). map (number_in names) g ++ l) (concat_joined names gs) ∙ sym (map-append (number_in names) g (joined gs))

-- ---- numbers of known names

rest_true : (a b : Bool) → a ≡ false → (a || b) ≡ true → b ≡ true
rest_true false b e h = h
rest_true true b e h = absurd cc

clash : (b : Bool) → b ≡ true → b ≡ false → ⊥
clash b e h = cc

number_below : (names : List (List ℕ)) (w : List ℕ) → is_among w names ≡ true → number_in names w < length names
number_below [] w h = absurd cc
number_below (n ∷ names) w h =
    elim (cases_Bool (bytes_eq w n)) [
      | inl same ↦ let first : number_in (n ∷ names) w ≡ 0 = rw same refl in omega arith
      | inr other ↦
          let later : number_in (n ∷ names) w ≡ 1 + number_in names w = rw other refl in
          let below : number_in names w < length names = number_below names w (rest_true _ _ other h) in
          omega arith
    ]

below_all : (names ws : List (List ℕ)) → list_all (λ w. is_among w names) ws ≡ true → list_all (λ x. ltb x (length names)) (map (number_in names) ws) ≡ true
below_all names [] h = refl
below_all names (w ∷ ws) h =
    let t = and_parts (is_among w names) (list_all (λ (v : List ℕ). is_among v names) ws) h in
    and_from _ _ (lt-ltb _ _ (number_below names w t.0)) (below_all names ws t.1)

-- one number, one name
number_names : (names : List (List ℕ)) (v w : List ℕ) → is_among v names ≡ true → is_among w names ≡ true → number_in names v ≡ number_in names w → v ≡ w
number_names [] v w hv hw e = absurd cc
number_names (n ∷ names) v w hv hw e =
    elim (cases_Bool (bytes_eq v n)) [
      | inl sv ↦ elim (cases_Bool (bytes_eq w n)) [
        | inl sw ↦ (bytes_eq-Decides v n).0 sv ∙ sym ((bytes_eq-Decides w n).0 sw)
        | inr ow ↦ let a : number_in (n ∷ names) v ≡ 0 = rw sv refl in let b : number_in (n ∷ names) w ≡ 1 + number_in names w = rw ow refl in absurd (omega arith)
      ]
      | inr ov ↦ elim (cases_Bool (bytes_eq w n)) [
        | inl sw ↦ let a : number_in (n ∷ names) v ≡ 1 + number_in names v = rw ov refl in let b : number_in (n ∷ names) w ≡ 0 = rw sw refl in absurd (omega arith)
        | inr ow ↦
            let a : number_in (n ∷ names) v ≡ 1 + number_in names v = rw ov refl in
            let b : number_in (n ∷ names) w ≡ 1 + number_in names w = rw ow refl in
            number_names names v w (rest_true _ _ ov hv) (rest_true _ _ ow hw) (omega arith)
      ]
    ]

not_in : (names : List (List ℕ)) (w : List ℕ) (ws : List (List ℕ)) → is_among w names ≡ true → list_all (λ v. is_among v names) ws ≡ true → is_among w ws ≡ false → is_in (number_in names w) (map (number_in names) ws) ≡ false
not_in names w [] h k new = refl
not_in names w (v ∷ ws) h k new =
    let t = and_parts (is_among v names) (list_all (λ (u : List ℕ). is_among u names) ws) k in
    let o = or_parts (bytes_eq w v) (is_among w ws) new in
    or_from _ _ (false_from_ne_true (eqb (number_in names v) (number_in names w)) (λ (e : eqb (number_in names v) (number_in names w) ≡ true).
    let same : w ≡ v = number_names names w v h t.0 (sym (eqb-true _ _ e)) in
    let yes' : bytes_eq w v ≡ true = (bytes_eq-Decides w v).1 same in clash _ yes' o.0))
    (not_in names w ws h t.1 o.1)

once_all : (names ws : List (List ℕ)) → list_all (λ w. is_among w names) ws ≡ true → are_apart ws ≡ true → is_distinct (map (number_in names) ws) ≡ true
once_all names [] h d = refl
once_all names (w ∷ ws) h d =
    let t = and_parts (is_among w names) (list_all (λ (v : List ℕ). is_among v names) ws) h in
    let u = and_parts (not (is_among w ws)) (are_apart ws) d in
    and_from _ _ (not_from_false _ (not_in names w ws t.0 t.1 (not_true _ u.0))) (once_all names ws t.1 u.1)

pub list_from : (names : List (List ℕ)) (items : List Token) → is_none (groups_of items) ≡ false → list_all (λ w. is_among w names) (words items) ≡ true → are_apart (words items) ≡ true → is_list (length names) (groups_in names items) ≡ true
list_from names items fit known once =
    let gs : List Group = unwrap_or (groups_of items) [] in
    let e : groups_from None items ≡ Some gs = some_from (groups_of items) fit in
    let numbers : concat (groups_in names items) ≡ map (number_in names) (words items) = concat_joined names gs ∙ ap (map (number_in names)) (words_are None items gs e) in
    and_from _ _
    (and_from _ _ (some_each names None items gs e) (ap (list_all (λ (x : ℕ). ltb x (length names))) numbers ∙ below_all names (words items) known))
    (ap is_distinct numbers ∙ once_all names (words items) known once)
