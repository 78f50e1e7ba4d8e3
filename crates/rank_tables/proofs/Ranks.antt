-- Lists with their ranks, and tables that marks are written into.
use Rattle.std.proofs.Common.{◌≡◌, ℕ, ◌+◌, ◌<◌, nat_lt, ◌⊎◌, Bool, true, false, not, ◌||◌, ◌==◌, List, [], ◌∷◌, ◌++◌, length, map, get_or, drop, None, inl, inr, refl, sym, ap, ◌∙◌, arith}
use Rattle.std.specs.List.{concat, All}
use Rattle.std.proofs.lemmas.List.{map-append, append_assoc, at_drop_more}
use Rattle.std.proofs.lemmas.List.Elements.{All-head, All-tail, All-map}
use Rattle.std.proofs.lemmas.List.Folds.{list_any-append}
use Rattle.std.proofs.lemmas.Bool.{cases_Bool, cases_eq, ne_eqb, lt-ltb, and_parts, and_from, not-true}
use Rattle.rank_tables.specs.declared.marks.Mark.{Mark}
use Rattle.rank_tables.specs.Numbers.{is_in, is_distinct}
use Rattle.rank_tables.specs.Instance.{rank_in}
use Rattle.rank_tables.specs.Building.{mark_of, rank_or_0, with_ranks, marked, cleared}
use Rattle.rank_tables.proofs.PairFacts.{All-is_in, rank_in-some}

-- the numbers of groups, the first group having this rank
abbrev pub marks_from : ℕ → List (List ℕ) → List Mark
marks_from rank [] = []
marks_from rank (group ∷ groups) = map (λ x. mark_of x rank) group ++ marks_from (rank + 1) groups

pub map_agree : {A B : Type 0} (f g : A → B) (xs : List A) → All (λ x. f x ≡ g x) xs → map f xs ≡ map g xs
map_agree f g [] same = refl
map_agree f g (x ∷ xs) same =
    rw (All-head (λ x. f x ≡ g x) x xs same, map_agree f g xs (All-tail (λ x. f x ≡ g x) x xs same)) refl

pub is_in-append : (x : ℕ) (xs ys : List ℕ) → is_in x (xs ++ ys) ≡ (is_in x xs || is_in x ys)
is_in-append x xs ys = list_any-append (λ y. y == x) xs ys

pub or_false : (a b : Bool) → (a || b) ≡ false → (a ≡ false) × (b ≡ false)
or_false true b h = absurd (cc)
or_false false b h = (refl, h)

-- two parts of a list in which no number stands twice have no number in common
pub distinct-parts : (xs ys : List ℕ) → is_distinct (xs ++ ys) ≡ true →
    (is_distinct xs ≡ true) × (is_distinct ys ≡ true) × ((y : ℕ) → is_in y ys ≡ true → is_in y xs ≡ false)
distinct-parts [] ys h = (refl, h, λ y e. refl)
distinct-parts (x ∷ xs) ys h =
    let both = and_parts _ _ h in
    let absent = or_false _ _ (sym (is_in-append x xs ys) ∙ not-true _ both.0) in
    let rest = distinct-parts xs ys both.1 in (
      and_from _ _ (ap not absent.0) rest.0,
      rest.1,
      λ y here. elim (cases_eq x y) [
        | inl same ↦ absurd (cc (absent.1, here, ap (λ z. is_in z ys) same))
        | inr other ↦ rw (ne_eqb x y other, rest.2 y here) refl
      ],
    )

rank_here : (group : List ℕ) (groups : List (List ℕ)) (x : ℕ) → is_in x group ≡ true → rank_or_0 (group ∷ groups) x ≡ 1
rank_here group groups x h = rw h refl

rank_later : (group : List ℕ) (groups : List (List ℕ)) (x : ℕ) → is_in x group ≡ false → is_in x (concat groups) ≡ true →
    rank_or_0 (group ∷ groups) x ≡ rank_or_0 groups x + 1
rank_later group groups x not_here h = let found = rank_in-some groups x h in rw (not_here, found.1) refl

pub marks_from-ranks : (n : ℕ) (groups : List (List ℕ)) → is_distinct (concat groups) ≡ true →
    marks_from (n + 1) groups ≡ map (λ x. mark_of x (n + rank_or_0 groups x)) (concat groups)
marks_from-ranks n [] h = refl
marks_from-ranks n (group ∷ groups) h =
    let parts = distinct-parts group (concat groups) h in
    let mark : ℕ → Mark = λ x. mark_of x (n + rank_or_0 (group ∷ groups) x) in
    let first : map (λ x. mark_of x (n + 1)) group ≡ map mark group =
    map_agree (λ x. mark_of x (n + 1)) mark group
    (λ k d l. ap (λ rank. mark_of (get_or group k d) (n + rank)) (sym (rank_here group groups (get_or group k d) (All-is_in group k d l)))) in
    let later : map (λ x. mark_of x (n + 1 + rank_or_0 groups x)) (concat groups) ≡ map mark (concat groups) =
    map_agree (λ x. mark_of x (n + 1 + rank_or_0 groups x)) mark (concat groups)
    (λ k d l.
    let x = get_or (concat groups) k d in
    let there = All-is_in (concat groups) k d l in
    ap (mark_of x) (omega (arith, rank_later group groups x (parts.2 x there) there))) in
    rw (map-append mark group (concat groups), ← first, ← later, marks_from-ranks (n + 1) groups parts.1) refl

pub marks_from-all : (groups : List (List ℕ)) → is_distinct (concat groups) ≡ true → marks_from 1 groups ≡ with_ranks groups
marks_from-all groups h =
    marks_from-ranks 0 groups h ∙ map_agree (λ x. mark_of x (0 + rank_or_0 groups x)) (λ x. mark_of x (rank_or_0 groups x)) (concat groups)
    (λ k d l. ap (mark_of (get_or (concat groups) k d)) (omega arith))

-- one more group of a list was added
pub group_added : (old new : List Mark) (group : List ℕ) (groups : List (List ℕ)) (k : ℕ) → k < length groups → group ≡ get_or groups k [] →
    new ≡ old ++ map (λ x. mark_of x (k + 1)) group → old ++ marks_from (k + 1) (drop k groups) ≡ with_ranks groups →
    new ++ marks_from (k + 1 + 1) (drop (k + 1) groups) ≡ with_ranks groups
group_added old new group groups k h read added before =
    rw (added, append_assoc old (map (λ x. mark_of x (k + 1)) group) (marks_from (k + 1 + 1) (drop (k + 1) groups)), read)
    (ap (λ (ms : List Mark). old ++ ms) (sym (at_drop_more (marks_from (k + 1)) groups k [] h)) ∙ before)

-- what doesn't stand in a list has no rank there
pub rank_in-none : (groups : List (List ℕ)) (x : ℕ) → is_in x (concat groups) ≡ false → rank_in groups x ≡ None
rank_in-none [] x h = refl
rank_in-none (group ∷ groups) x h =
    let parts = or_false (is_in x group) (is_in x (concat groups)) (sym (is_in-append x group (concat groups)) ∙ h) in
    rw (parts.0, rank_in-none groups x parts.1) refl

pub rank-positive : (groups : List (List ℕ)) (x : ℕ) → nat_lt 0 (rank_or_0 groups x) ≡ is_in x (concat groups)
rank-positive groups x = elim (cases_Bool (is_in x (concat groups))) [
  | inl here ↦ let rank = rank_in-some groups x here in rw (here, rank.1) (lt-ltb 0 rank.0 rank.2)
  | inr absent ↦ rw (absent, rank_in-none groups x absent) refl
]

-- the numbers of a list with ranks
pub with_ranks-below : (n : ℕ) (groups : List (List ℕ)) → All (λ x. x < n) (concat groups) → All (λ (m : Mark). m.number < n) (with_ranks groups)
with_ranks-below n groups h = All-map (λ (m : Mark). m.number < n) (λ x. mark_of x (rank_or_0 groups x)) (concat groups) h

cleared-zero : (i : ℕ) (marks : List Mark) → cleared i marks 0 ≡ 0
cleared-zero i [] = refl
cleared-zero i (m ∷ marks) = elim (cases_Bool (m.number == i)) [
  | inl here ↦ rw here (cleared-zero i marks)
  | inr other ↦ rw other (cleared-zero i marks)
]

hit_or_missed : (i : ℕ) (marks : List Mark) → ((v : ℕ) → cleared i marks v ≡ 0) ⊎ ((v : ℕ) → marked i marks v ≡ v)
hit_or_missed i [] = inr (λ v. refl)
hit_or_missed i (m ∷ marks) = elim (cases_Bool (m.number == i)) [
  | inl here ↦ inl (λ v. rw here (cleared-zero i marks))
  | inr other ↦ elim (hit_or_missed i marks) [
    | inl hit ↦ inl (λ v. rw other (hit v))
    | inr missed ↦ inr (λ v. rw other (missed v))
  ]
]

-- marks written over zeros are gone after they were cleared
pub cleared-marked : (i : ℕ) (marks : List Mark) → cleared i marks (marked i marks 0) ≡ 0
cleared-marked i marks = elim (hit_or_missed i marks) [
  | inl hit ↦ hit (marked i marks 0)
  | inr missed ↦ rw (missed 0) (cleared-zero i marks)
]
