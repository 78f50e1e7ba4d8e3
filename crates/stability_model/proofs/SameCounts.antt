-- Two tests that answer alike in a list count alike in it.
use Rattle.std.proofs.Common.{◌≡◌, ℕ, Bool, true, List, [], ◌∷◌, ◌+◌, ◌==◌, if◌then◌else◌, count_by, refl, sym, ap, ap₂, ◌∙◌}
use Rattle.std.proofs.lemmas.Bool.{eq-eqb, or_left, or_right}
use Rattle.std.proofs.lemmas.List.Sums.{sum_by-cons}
use Rattle.rank_tables.specs.Numbers.{is_in}

here : (x : ℕ) (xs : List ℕ) → is_in x (x ∷ xs) ≡ true
here x xs = or_left (x == x) _ (eq-eqb x x refl)

pub count_same_in : (s t : ℕ → Bool) (xs : List ℕ) → ((x : ℕ) → is_in x xs ≡ true → s x ≡ t x) → count_by s xs ≡ count_by t xs
count_same_in s t [] h = refl
count_same_in s t (x ∷ xs) h =
    sum_by-cons (λ x. if s x then 1 else 0) x xs
    ∙ ap₂ ◌+◌ (ap (λ (b : Bool). if b then 1 else 0) (h x (here x xs))) (count_same_in s t xs (λ y i. h y (or_right (x == y) _ i)))
    ∙ sym (sum_by-cons (λ x. if t x then 1 else 0) x xs)
