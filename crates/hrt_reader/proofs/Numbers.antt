-- Names and their numbers: each is found from the other, where the names are distinct.
use Rattle.std.proofs.Common.{◌≡◌, ℕ, zero, suc, ◌<◌, Bool, true, false, not, eqb, List, [], ◌∷◌, length, map, refl, sym, ap, ◌∙◌, arith}
use Rattle.std.specs.Prelude.{bytes_eq}
use Rattle.std.specs.List.{list_all, concat}
use Rattle.std.proofs.lemmas.Bool.{and_parts, and_from, or_parts, or_right, ltb-true}
use Rattle.std.proofs.lemmas.Bool.Decides.{Decides-eqb, same_from_decides}
use Rattle.std.proofs.lemmas.Slice.Eq.{bytes_eq-Decides}
use Rattle.std.proofs.lemmas.List.Folds.{list_all-append}
use Rattle.rank_tables.specs.Names.{is_among, are_apart}
use Rattle.hrt_reader.specs.Accepted.{number_in}
use Rattle.hrt_reader.specs.Spelling.{name_at}
use Rattle.rank_tables.specs.Numbers.{is_in, is_distinct}
use Rattle.hrt_text.proofs.Among.{not_true, bytes_eq-same, bytes_eq-turned}
use Rattle.hrt_reader.proofs.SpelledItems.{below}

not_among : (name : List ℕ) (names : List (List ℕ)) (x : ℕ) → is_among name names ≡ false → x < length names → bytes_eq name (name_at names x) ≡ false
not_among name [] x h lt = absurd (omega arith)
not_among name (n ∷ names) zero h lt = (or_parts (bytes_eq name n) (is_among name names) h).0
not_among name (n ∷ names) (suc x) h lt = not_among name names x (or_parts (bytes_eq name n) (is_among name names) h).1 (omega arith)

pub number_name : (names : List (List ℕ)) (x : ℕ) → are_apart names ≡ true → x < length names → number_in names (name_at names x) ≡ x
number_name [] x h lt = absurd (omega arith)
number_name (n ∷ names) zero h lt = rw (bytes_eq-same n) refl
number_name (n ∷ names) (suc x) h lt =
    let t = and_parts (not (is_among n names)) (are_apart names) h in
    let other : bytes_eq (name_at names x) n ≡ false = bytes_eq-turned n (name_at names x) (not_among n names x (not_true (is_among n names) t.0) (omega arith)) in
    let back : number_in names (name_at names x) ≡ x = number_name names x t.1 (omega arith) in
    rw other (omega arith)

pub same_name : (names : List (List ℕ)) (x y : ℕ) → are_apart names ≡ true → x < length names → y < length names → bytes_eq (name_at names x) (name_at names y) ≡ eqb y x
same_name names x y h lx ly =
    same_from_decides (bytes_eq (name_at names x) (name_at names y)) (eqb y x) (
      (λ (e : bytes_eq (name_at names x) (name_at names y) ≡ true).
          let same = (bytes_eq-Decides (name_at names x) (name_at names y)).0 e in
          sym (number_name names y h ly) ∙ sym (ap (number_in names) same) ∙ number_name names x h lx),
      (λ (e : y ≡ x). (bytes_eq-Decides (name_at names x) (name_at names y)).1 (sym (ap (name_at names) e))),
    )
    (Decides-eqb y x)

same_in : (names : List (List ℕ)) (x : ℕ) (g : List ℕ) → are_apart names ≡ true → x < length names → list_all (below names) g ≡ true → is_among (name_at names x) (map (name_at names) g) ≡ is_in x g
same_in names x [] h lx e = refl
same_in names x (y ∷ g) h lx e =
    let t = and_parts (below names y) (list_all (below names) g) e in
    rw (same_name names x y h lx (ltb-true _ _ t.0), same_in names x g h lx t.1) refl

pub names_distinct : (names : List (List ℕ)) (g : List ℕ) → are_apart names ≡ true → list_all (below names) g ≡ true → is_distinct g ≡ true → are_apart (map (name_at names) g) ≡ true
names_distinct names [] h e u = refl
names_distinct names (x ∷ g) h e u =
    let t = and_parts (below names x) (list_all (below names) g) e in
    let v = and_parts (not (is_in x g)) (is_distinct g) u in
    and_from (not (is_among (name_at names x) (map (name_at names) g))) (are_apart (map (name_at names) g))
    (ap not (same_in names x g h (ltb-true _ _ t.0) t.1) ∙ v.0)
    (names_distinct names g h t.1 v.1)

-- each name stands among the names
pub name_among : (names : List (List ℕ)) (x : ℕ) → x < length names → is_among (name_at names x) names ≡ true
name_among [] x lt = absurd (omega arith)
name_among (n ∷ names) zero lt = rw (bytes_eq-same n) refl
name_among (n ∷ names) (suc x) lt = or_right (bytes_eq (name_at names x) n) (is_among (name_at names x) names) (name_among names x (omega arith))

pub names_known : (names : List (List ℕ)) (g : List ℕ) → list_all (below names) g ≡ true → list_all (λ w. is_among w names) (map (name_at names) g) ≡ true
names_known names [] e = refl
names_known names (x ∷ g) e =
    let t = and_parts (below names x) (list_all (below names) g) e in
    and_from (is_among (name_at names x) names) (list_all (λ w. is_among w names) (map (name_at names) g)) (name_among names x (ltb-true _ _ t.0)) (names_known names g t.1)

pub name_is : (p : List ℕ → Bool) (names : List (List ℕ)) (x : ℕ) → list_all p names ≡ true → x < length names → p (name_at names x) ≡ true
name_is p [] x h lt = absurd (omega arith)
name_is p (n ∷ names) zero h lt = (and_parts (p n) (list_all p names) h).0
name_is p (n ∷ names) (suc x) h lt = name_is p names x (and_parts (p n) (list_all p names) h).1 (omega arith)

pub names_are : (p : List ℕ → Bool) (names : List (List ℕ)) (g : List ℕ) → list_all p names ≡ true → list_all (below names) g ≡ true → list_all p (map (name_at names) g) ≡ true
names_are p names [] h e = refl
names_are p names (x ∷ g) h e =
    let t = and_parts (below names x) (list_all (below names) g) e in
    and_from (p (name_at names x)) (list_all p (map (name_at names) g)) (name_is p names x h (ltb-true _ _ t.0)) (names_are p names g h t.1)

-- numbers of names

numbers_names : (names : List (List ℕ)) (g : List ℕ) → are_apart names ≡ true → list_all (below names) g ≡ true → map (number_in names) (map (name_at names) g) ≡ g
numbers_names names [] h e = refl
numbers_names names (x ∷ g) h e =
    let t = and_parts (below names x) (list_all (below names) g) e in
    ap (λ (y : ℕ). y ∷ map (number_in names) (map (name_at names) g)) (number_name names x h (ltb-true _ _ t.0)) ∙ ap (λ (l : List ℕ). x ∷ l) (numbers_names names g h t.1)

pub groups_names : (names : List (List ℕ)) (groups : List (List ℕ)) → are_apart names ≡ true → list_all (below names) (concat groups) ≡ true → map (map (number_in names)) (map (map (name_at names)) groups) ≡ groups
groups_names names [] h e = refl
groups_names names (g ∷ groups) h e =
    let b = and_parts (list_all (below names) g) (list_all (below names) (concat groups)) (sym (list_all-append (below names) g (concat groups)) ∙ e) in
    ap (λ (l : List ℕ). l ∷ map (map (number_in names)) (map (map (name_at names)) groups)) (numbers_names names g h b.0) ∙ ap (λ (l : List (List ℕ)). g ∷ l) (groups_names names groups h b.1)
