-- Namings that aren't answered.
use Rattle.std.proofs.Common.{◌≡◌, ℕ, zero, suc, ◌+◌, ◌-◌, ◌<◌, ◌≤◌, Bool, true, false, cond, not, ◌&&◌, List, [], ◌∷◌, length, Option, Some, None, is_some, sum_by, count_by, refl, sym, ap, ◌∙◌, arith, add-one, inl, inr, length-append}
use Rattle.std.specs.List.{concat, filter, filter_map, flat_map, All, cons_option}
use Rattle.std.proofs.lemmas.List.{length-map}
use Rattle.std.proofs.lemmas.List.Sums.{sum_by_push, sum_by-cons}
use Rattle.std.proofs.lemmas.List.Elements.{All-head, All-tail}
use Rattle.std.proofs.lemmas.Bool.{cases_Bool, and_parts}
use Rattle.rank_tables.specs.Numbers.{below}
use Rattle.rank_tables.specs.Instance.{Lists, Pair, groups_of_resident, groups_of_hospital, resident_names, hospital_names, pairs_from, pair_count, pair_no, pairs_as_listed, one_sided}
use Rattle.rank_tables.proofs.PairFacts.{All-is_in}
use Rattle.rank_tables.proofs.Turning.{flat_map-below}
use Rattle.rank_tables.proofs.Unique.{pair_no-acceptable}

pub sum_by-below : (f : ℕ → ℕ) (n : ℕ) → sum_by f (below (n + 1)) ≡ sum_by f (below n) + f n
sum_by-below f n = ap (λ k. sum_by f (below k)) (add-one n) ∙ sum_by_push f (below n) n

count_by-cons : {A : Type 0} (p : A → Bool) (x : A) (xs : List A) → count_by p (x ∷ xs) ≡ cond (p x) 1 0 + count_by p xs
count_by-cons p x xs = sum_by-cons (λ x. cond (p x) 1 0) x xs

counted : Bool → ℕ
counted b = cond (not b) 1 0

-- of a list some pass, and the others don't
pub pass_or_fail : {A : Type 0} (p : A → Bool) (xs : List A) → count_by (λ x. not (p x)) xs + length (filter p xs) ≡ length xs
unfolding counted
pass_or_fail p [] = refl
pass_or_fail p (x ∷ xs) =
    let kept = λ (b : Bool). cond b (x ∷ filter p xs) (filter p xs) in
    elim (cases_Bool (p x)) [
      | inl passes ↦ omega (arith, ap length (ap kept passes), count_by-cons (λ x. not (p x)) x xs, pass_or_fail p xs, ap counted passes)
      | inr fails ↦ omega (arith, ap length (ap kept fails), count_by-cons (λ x. not (p x)) x xs, pass_or_fail p xs, ap counted fails)
    ]

silent_hospitals : Lists → ℕ → ℕ
silent_hospitals lists r = count_by (λ h. not (hospital_names lists h r)) (concat (groups_of_resident lists r))

abbrev pair_of : ℕ → ℕ → Pair
pair_of r h = record { resident = r; hospital = h }

-- the residents' namings are the pairs and those that aren't answered
residents-side : (lists : Lists) (n : ℕ) →
    sum_by (silent_hospitals lists) (below n) + length (flat_map (pairs_from lists) (below n)) ≡ sum_by (λ r. length (concat (groups_of_resident lists r))) (below n)
unfolding silent_hospitals
residents-side lists zero = refl
residents-side lists (suc n) =
    let silent = sum_by_push (silent_hospitals lists) (below n) n in
    let all = sum_by_push (λ r. length (concat (groups_of_resident lists r))) (below n) n in
    let made = ap length (sym (ap (λ k. flat_map (pairs_from lists) (below k)) (add-one n)) ∙ flat_map-below (pairs_from lists) n) ∙ length-append (flat_map (pairs_from lists) (below n)) (pairs_from lists n) in
    let mine = length-map (filter (λ h. hospital_names lists h n) (concat (groups_of_resident lists n))) (pair_of n) in
    omega (arith, silent, all, made, mine, pass_or_fail (λ h. hospital_names lists h n) (concat (groups_of_resident lists n)), residents-side lists n)

-- of a hospital's list those make a pair that name it
listed_one : (lists : Lists) (h r : ℕ) (o : Option ℕ) (rest : List ℕ) → pair_no lists r h ≡ o → hospital_names lists h r ≡ true →
    cond (not (resident_names lists r h)) 1 0 + length (cons_option o rest) ≡ suc (length rest)
listed_one lists h r None rest e named =
    let none : (resident_names lists r h && hospital_names lists h r) ≡ false = sym (pair_no-acceptable lists r h) ∙ ap is_some e in
    let silent : resident_names lists r h ≡ false = left_false (resident_names lists r h) (hospital_names lists h r) none named in
    rw silent (omega arith)
  where
    left_false : (a b : Bool) → (a && b) ≡ false → b ≡ true → a ≡ false
    left_false true b h k = absurd (cc)
    left_false false b h k = refl
listed_one lists h r (Some p) rest e named =
    let both : (resident_names lists r h && hospital_names lists h r) ≡ true = sym (pair_no-acceptable lists r h) ∙ ap is_some e in
    rw ((and_parts (resident_names lists r h) (hospital_names lists h r) both).0) (omega arith)

listed-count : (lists : Lists) (h : ℕ) (rs : List ℕ) → All (λ r. hospital_names lists h r ≡ true) rs →
    count_by (λ r. not (resident_names lists r h)) rs + length (filter_map (λ r. pair_no lists r h) rs) ≡ length rs
listed-count lists h [] named = refl
listed-count lists h (r ∷ rs) named =
    let P : ℕ → Type 0 = λ r. hospital_names lists h r ≡ true in
    let rest = listed-count lists h rs (All-tail P r rs named) in
    let one = listed_one lists h r (pair_no lists r h) (filter_map (λ r. pair_no lists r h) rs) refl (All-head P r rs named) in
    omega (arith, count_by-cons (λ r. not (resident_names lists r h)) r rs, rest, one)

-- a hospital's list has its pairs and the residents that don't name it
pub hospitals-side : (lists : Lists) (h : ℕ) → count_by (λ r. not (resident_names lists r h)) (concat (groups_of_hospital lists h)) + length (pairs_as_listed lists h) ≡ length (concat (groups_of_hospital lists h))
hospitals-side lists h = listed-count lists h (concat (groups_of_hospital lists h)) (All-is_in (concat (groups_of_hospital lists h)))

pub sum_same : (f g : ℕ → ℕ) (n : ℕ) → ((k : ℕ) → k < n → f k ≡ g k) → sum_by f (below n) ≡ sum_by g (below n)
sum_same f g zero e = refl
sum_same f g (suc n) e =
    omega (arith, sum_by_push f (below n) n, sum_by_push g (below n) n, sum_same f g n (λ k l. e k (omega arith)), e n (omega arith))

-- the count of namings that aren't answered, by the lists and the rows of pairs
pub one_sided-is : (lists : Lists) (named silent : ℕ) (row : ℕ → ℕ) → named ≡ sum_by (λ r. length (concat (groups_of_resident lists r))) (below (length lists.residents)) →
    silent ≡ sum_by (λ h. length (concat (groups_of_hospital lists h)) - row h) (below (length lists.hospitals)) →
    ((h : ℕ) → h < length lists.hospitals → row h ≡ length (pairs_as_listed lists h)) → (named - pair_count lists) + silent ≡ one_sided lists
unfolding silent_hospitals
one_sided-is lists named silent row by_residents by_hospitals rows =
    let first = residents-side lists (length lists.residents) in
    let second = sum_same (λ h. length (concat (groups_of_hospital lists h)) - row h) (λ h. count_by (λ r. not (resident_names lists r h)) (concat (groups_of_hospital lists h))) (length lists.hospitals)
    (λ h l. omega (arith, rows h l, hospitals-side lists h)) in
    omega (arith, first, second, by_residents, by_hospitals)

pub pair_count-le : (lists : Lists) → pair_count lists ≤ sum_by (λ r. length (concat (groups_of_resident lists r))) (below (length lists.residents))
pair_count-le lists = omega (arith, residents-side lists (length lists.residents))
