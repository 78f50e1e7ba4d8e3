-- Lists that are read item by item.
use Rattle.std.proofs.Common.{◌≡◌, Bool, true, false, ◌&&◌, List, [], ◌∷◌, ◌++◌, Option, Some, None, refl, sym, ap, ◌∙◌, append_assoc, if◌then◌else◌}
use Rattle.std.specs.Prelude.{is_some, option_map}
use Rattle.std.specs.List.{list_all}
use Rattle.std.proofs.lemmas.List.{append-nil}
use Rattle.std.proofs.lemmas.List.Folds.{list_all-append}
use Rattle.row_text.specs.declared.readings.Reading.TheVariants.{Unspelled, TooBig}
use Rattle.row_text.specs.Numbers.{both}
use Rattle.row_text.specs.Readings.{reading}

abbrev pub behind : {A : Type 0} → List A → List A → List A
behind front xs = front ++ xs

abbrev pub before : {A : Type 0} → A → List A → List A
before x xs = x ∷ xs

pub none_yet : {A : Type 0} (o : Option (List A)) → o ≡ option_map (behind []) o
none_yet None = refl
none_yet (Some xs) = refl

pub one_more : {A : Type 0} (front : List A) (x : A) (o : Option (List A)) → option_map (behind front) (both before (Some x) o) ≡ option_map (behind (front ++ x ∷ [])) o
one_more front x None = refl
one_more front x (Some xs) = ap Some (sym (append_assoc front (x ∷ []) xs))

pub all_read : {A : Type 0} (front : List A) → option_map (behind front) (Some []) ≡ Some front
all_read front = ap Some (append-nil front)

pub some_both : {A B C : Type 0} (join : A → B → C) (x : A) (o : Option B) → is_some (both join (Some x) o) ≡ is_some o
some_both join x None = refl
some_both join x (Some y) = refl

-- ---- small items

pub all_push : {A : Type 0} (small : A → Bool) (front : List A) (x : A) → list_all small front ≡ true → small x ≡ true → list_all small (front ++ x ∷ []) ≡ true
all_push small front x all one =
    let here : list_all small (x ∷ []) ≡ true = rw one refl in
    list_all-append small front (x ∷ []) ∙ rw (all, here) refl

big_among : {A : Type 0} (small : A → Bool) (front : List A) (x : A) (xs : List A) → small x ≡ false → list_all small (front ++ x ∷ xs) ≡ false
big_among small [] x xs big = ap (λ (b : Bool). b && list_all small xs) big
big_among small (y ∷ front) x xs big = elim (small y) as (λ b. b && list_all small (front ++ x ∷ xs) ≡ false) [ true ↦ big_among small front x xs big | false ↦ refl ]

-- one item that isn't small
pub big_list : {A : Type 0} (small : A → Bool) (front : List A) (x : A) (o : Option (List A)) → small x ≡ false
    → reading (list_all small) (option_map (behind front) (both before (Some x) o)) ≡ (if is_some o then TooBig else Unspelled)
big_list small front x None big = refl
big_list small front x (Some xs) big = rw (big_among small front x xs big) refl
