-- The tables, pair by pair.
use Rattle.std.proofs.Common.{◌≡◌, ℕ, ◌+◌, ◌-◌, ◌<◌, ◌≤◌, ◌==◌, Bool, true, false, not, ◌||◌, ◌&&◌, nat_lt, if◌then◌else◌, max, List, [], ◌∷◌, ◌++◌, length, count_by, get_or, slice_set, refl, sym, ap, ap₂, ◌∙◌, inl, inr, arith}
use Rattle.std.specs.List.{list_all, list_any}
use Rattle.std.proofs.lemmas.Bool.{cases_eq, cases_lt, eq-eqb, le-ltb, lt-ltb, ne_eqb}
use Rattle.std.proofs.lemmas.List.{get_or-set_other, get_or-set_same, length-set}
use Rattle.std.proofs.lemmas.List.Folds.{list_all-append, list_any-append}
use Rattle.std.proofs.lemmas.List.Sums.{sum_by-append, sum_by-cons}
use Rattle.rank_tables.specs.Instance.{Lists, capacity_of, pair_at, rank_by_hospital, rank_by_resident}
use Rattle.rank_tables.specs.Stability.{hospital_wants, resident_wants}
use Rattle.lazy_stability.specs.Table.{AreBest, AreFree, AreLeft, AreNone, AreRoom, ArePosts, AreWorst, is_above}

-- ---- no pair

pub none_posts : (lists : Lists) (best worst free : List ℕ) → AreRoom lists best worst free → AreNone best → AreNone worst → AreFree lists free → ArePosts lists [] best worst free
none_posts lists best worst free room b w f = record {
  room = room;
  bests = λ k x l. sym (ap (λ (n : ℕ). is_above n x) (b k (omega (arith, l, room.residents))));
  worsts = λ k x l. sym (ap (nat_lt x) (w k (omega (arith, l, room.hospitals))) ∙ le-ltb x 0 (omega arith));
  left = λ k l. let all : capacity_of lists k ≡ capacity_of lists k - 0 = omega arith in f k l ∙ all;
}

-- ---- one more pair

and_true : (a : Bool) → (a && true) ≡ a
and_true true = refl
and_true false = refl

or_none : (a : Bool) → (a || false) ≡ a
or_none true = refl
or_none false = refl

all_push : (f : ℕ → Bool) (m : List ℕ) (q : ℕ) → list_all f (m ++ q ∷ []) ≡ (list_all f m && f q)
all_push f m q = list_all-append f m (q ∷ []) ∙ ap (λ (b : Bool). list_all f m && b) (and_true (f q))

any_push : (f : ℕ → Bool) (m : List ℕ) (q : ℕ) → list_any f (m ++ q ∷ []) ≡ (list_any f m || f q)
any_push f m q = list_any-append f m (q ∷ []) ∙ ap (λ (b : Bool). list_any f m || b) (or_none (f q))

pub best_more : (owner rank : ℕ → ℕ) (m : List ℕ) (count q : ℕ) (best : List ℕ) (k new : ℕ) → AreBest owner rank m count best → count ≡ length best → k ≡ owner q → k < count →
    ((x : ℕ) → is_above new x ≡ (is_above (get_or best k 0) x && nat_lt x (rank q))) → AreBest owner rank (m ++ q ∷ []) count (slice_set best k new)
best_more owner rank m count q best k new are size own within step j x l =
    all_push (λ y. not (owner y == j) || nat_lt x (rank y)) m q ∙ elim (cases_eq j k) [
      | inl e ↦
          let here : get_or (slice_set best k new) j 0 ≡ new = ap (λ (i : ℕ). get_or (slice_set best k new) i 0) e ∙ get_or-set_same best k new 0 (omega (arith, size, within)) in
          ap₂ ◌&&◌ (are j x l ∙ ap (λ (i : ℕ). is_above (get_or best i 0) x) e) (ap (λ (b : Bool). not b || nat_lt x (rank q)) (eq-eqb (owner q) j (sym own ∙ sym e)))
          ∙ sym (step x) ∙ ap (λ (n : ℕ). is_above n x) (sym here)
      | inr ne ↦
          let here : get_or (slice_set best k new) j 0 ≡ get_or best j 0 = get_or-set_other best k j new 0 ne in
          ap₂ ◌&&◌ (are j x l) (ap (λ (b : Bool). not b || nat_lt x (rank q)) (ne_eqb (owner q) j (λ s. ne (sym (own ∙ s)))))
          ∙ and_true (is_above (get_or best j 0) x) ∙ ap (λ (n : ℕ). is_above n x) (sym here)
    ]

or_lt : (x a b : ℕ) → (nat_lt x a || nat_lt x b) ≡ nat_lt x (max a b)
or_lt x a b = elim (cases_lt x a) [
  | inl l ↦ ap (λ (t : Bool). t || nat_lt x b) (lt-ltb x a l) ∙ sym (lt-ltb x (max a b) (omega (arith, l)))
  | inr l ↦ ap (λ (t : Bool). t || nat_lt x b) (le-ltb x a l) ∙ elim (cases_lt x b) [
    | inl s ↦ lt-ltb x b s ∙ sym (lt-ltb x (max a b) (omega (arith, s)))
    | inr s ↦ le-ltb x b s ∙ sym (le-ltb x (max a b) (omega (arith, l, s)))
  ]
]

pub worst_more : (owner rank : ℕ → ℕ) (m : List ℕ) (count q : ℕ) (worst : List ℕ) (k new : ℕ) → AreWorst owner rank m count worst → count ≡ length worst → k ≡ owner q → k < count →
    new ≡ max (get_or worst k 0) (rank q) → AreWorst owner rank (m ++ q ∷ []) count (slice_set worst k new)
worst_more owner rank m count q worst k new are size own within step j x l =
    any_push (λ y. owner y == j && nat_lt x (rank y)) m q ∙ elim (cases_eq j k) [
      | inl e ↦
          let here : get_or (slice_set worst k new) j 0 ≡ new = ap (λ (i : ℕ). get_or (slice_set worst k new) i 0) e ∙ get_or-set_same worst k new 0 (omega (arith, size, within)) in
          ap₂ ◌||◌ (are j x l ∙ ap (λ (i : ℕ). nat_lt x (get_or worst i 0)) e) (ap (λ (b : Bool). b && nat_lt x (rank q)) (eq-eqb (owner q) j (sym own ∙ sym e)))
          ∙ or_lt x (get_or worst k 0) (rank q) ∙ ap (nat_lt x) (sym (here ∙ step))
      | inr ne ↦
          let here : get_or (slice_set worst k new) j 0 ≡ get_or worst j 0 = get_or-set_other worst k j new 0 ne in
          ap₂ ◌||◌ (are j x l) (ap (λ (b : Bool). b && nat_lt x (rank q)) (ne_eqb (owner q) j (λ s. ne (sym (own ∙ s)))))
          ∙ or_none (nat_lt x (get_or worst j 0)) ∙ ap (nat_lt x) (sym here)
    ]

count_push : (f : ℕ → Bool) (m : List ℕ) (q : ℕ) → count_by f (m ++ q ∷ []) ≡ count_by f m + (if f q then 1 else 0)
count_push f m q =
    let one : (if f q then 1 else 0) + 0 ≡ (if f q then 1 else 0) = omega arith in
    let parts : count_by f (m ++ q ∷ []) ≡ count_by f m + count_by f (q ∷ []) = sum_by-append (λ y. if f y then 1 else 0) m (q ∷ []) in
    let last : count_by f (q ∷ []) ≡ (if f q then 1 else 0) + 0 = sum_by-cons (λ y. if f y then 1 else 0) q [] in
    parts ∙ ap (λ (n : ℕ). count_by f m + n) (last ∙ one)

pub left_more : (owner posts : ℕ → ℕ) (m : List ℕ) (count q : ℕ) (free : List ℕ) (k new : ℕ) → AreLeft owner posts m count free → count ≡ length free → k ≡ owner q → k < count →
    new ≡ get_or free k 0 - 1 → AreLeft owner posts (m ++ q ∷ []) count (slice_set free k new)
left_more owner posts m count q free k new are size own within step j l = elim (cases_eq j k) [
  | inl e ↦
      let here : get_or (slice_set free k new) j 0 ≡ new = ap (λ (i : ℕ). get_or (slice_set free k new) i 0) e ∙ get_or-set_same free k new 0 (omega (arith, size, within)) in
      let more : count_by (λ y. owner y == j) (m ++ q ∷ []) ≡ count_by (λ y. owner y == j) m + 1 = count_push (λ y. owner y == j) m q ∙ ap (λ (b : Bool). count_by (λ y. owner y == j) m + (if b then 1 else 0)) (eq-eqb (owner q) j (sym own ∙ sym e)) in
      let before : get_or free k 0 ≡ posts j - count_by (λ y. owner y == j) m = ap (λ (i : ℕ). get_or free i 0) (sym e) ∙ are j l in
      omega (arith, here, more, before, step)
  | inr ne ↦
      let here : get_or (slice_set free k new) j 0 ≡ get_or free j 0 = get_or-set_other free k j new 0 ne in
      let more : count_by (λ y. owner y == j) (m ++ q ∷ []) ≡ count_by (λ y. owner y == j) m + 0 = count_push (λ y. owner y == j) m q ∙ ap (λ (b : Bool). count_by (λ y. owner y == j) m + (if b then 1 else 0)) (ne_eqb (owner q) j (λ s. ne (sym (own ∙ s)))) in
      omega (arith, here, more, are j l)
]

pub one_more_taken : (lists : Lists) (m best worst free : List ℕ) (q r h new_best new_worst new_free : ℕ) → ArePosts lists m best worst free → r ≡ (pair_at lists q).resident → r < length lists.residents → h ≡ (pair_at lists q).hospital → h < length lists.hospitals →
    ((x : ℕ) → is_above new_best x ≡ (is_above (get_or best r 0) x && nat_lt x (rank_by_resident lists q))) → new_worst ≡ max (get_or worst h 0) (rank_by_hospital lists q) → new_free ≡ get_or free h 0 - 1 →
    ArePosts lists (m ++ q ∷ []) (slice_set best r new_best) (slice_set worst h new_worst) (slice_set free h new_free)
one_more_taken lists m best worst free q r h new_best new_worst new_free are own within own_h within_h b w f = record {
  room = record { residents = length-set best r new_best ∙ are.room.residents; hospitals = length-set worst h new_worst ∙ are.room.hospitals; posts = length-set free h new_free ∙ are.room.posts };
  bests = best_more (λ y. (pair_at lists y).resident) (rank_by_resident lists) m (length lists.residents) q best r new_best are.bests (sym are.room.residents) own within b;
  worsts = worst_more (λ y. (pair_at lists y).hospital) (rank_by_hospital lists) m (length lists.hospitals) q worst h new_worst are.worsts (sym are.room.hospitals) own_h within_h w;
  left = left_more (λ y. (pair_at lists y).hospital) (capacity_of lists) m (length lists.hospitals) q free h new_free are.left (sym are.room.posts) own_h within_h f;
}

-- ---- what the tables tell

pub resident_told : (lists : Lists) (m best worst free : List ℕ) (p r : ℕ) → ArePosts lists m best worst free → r ≡ (pair_at lists p).resident → r < length lists.residents → is_above (get_or best r 0) (rank_by_resident lists p) ≡ resident_wants lists m p
resident_told lists m best worst free p r are own within =
    sym (are.bests r (rank_by_resident lists p) within) ∙ ap (λ (k : ℕ). list_all (λ q. not ((pair_at lists q).resident == k) || nat_lt (rank_by_resident lists p) (rank_by_resident lists q)) m) own

same_test : (a b c d : ℕ) → (a < b → c < d) → (b ≤ a → d ≤ c) → nat_lt a b ≡ nat_lt c d
same_test a b c d f g = elim (cases_lt a b) [ inl l ↦ lt-ltb a b l ∙ sym (lt-ltb c d (f l)) | inr l ↦ le-ltb a b l ∙ sym (le-ltb c d (g l)) ]

pub hospital_told : (lists : Lists) (m best worst free : List ℕ) (p h : ℕ) → ArePosts lists m best worst free → h ≡ (pair_at lists p).hospital → h < length lists.hospitals →
    (nat_lt 0 (get_or free h 0) || nat_lt (rank_by_hospital lists p) (get_or worst h 0)) ≡ hospital_wants lists m p
hospital_told lists m best worst free p h are own within =
    let left = are.left h within in
    let used : ℕ = count_by (λ q. (pair_at lists q).hospital == h) m in
    ap₂ ◌||◌ (same_test 0 (get_or free h 0) used (capacity_of lists h) (λ l. omega (arith, l, left)) (λ l. omega (arith, l, left))) (sym (are.worsts h (rank_by_hospital lists p) within))
    ∙ ap (λ (k : ℕ). nat_lt (count_by (λ q. (pair_at lists q).hospital == k) m) (capacity_of lists k) || list_any (λ q. (pair_at lists q).hospital == k && nat_lt (rank_by_hospital lists p) (rank_by_hospital lists q)) m) own

-- ---- ranks

pub better_none : (best rank x : ℕ) → best ≡ 0 → 1 ≤ rank → is_above rank x ≡ (is_above best x && nat_lt x rank)
better_none best rank x e some = ap (λ (b : Bool). b || nat_lt x rank) (ne_eqb rank 0 (λ z. omega (arith, z, some))) ∙ sym (ap (λ (b : Bool). (b || nat_lt x best) && nat_lt x rank) (eq-eqb best 0 e))

better_both : (best rank x new : ℕ) → (best ≡ 0 → ⊥) → (new ≡ 0 → ⊥) → ((x < best) → (x < rank) → x < new) → (new ≤ best) → (new ≤ rank) → is_above new x ≡ (is_above best x && nat_lt x rank)
better_both best rank x new some there low a b =
    ap (λ (t : Bool). t || nat_lt x new) (ne_eqb new 0 there) ∙ both ∙ sym (ap (λ (t : Bool). (t || nat_lt x best) && nat_lt x rank) (ne_eqb best 0 some))
  where
    both : nat_lt x new ≡ (nat_lt x best && nat_lt x rank)
    both = elim (cases_lt x best) [
      | inl l ↦ elim (cases_lt x rank) [
        | inl s ↦ lt-ltb x new (low l s) ∙ sym (ap₂ ◌&&◌ (lt-ltb x best l) (lt-ltb x rank s))
        | inr s ↦ le-ltb x new (omega (arith, s, b)) ∙ sym (ap₂ ◌&&◌ (lt-ltb x best l) (le-ltb x rank s))
      ]
      | inr l ↦ le-ltb x new (omega (arith, l, a)) ∙ sym (ap (λ (t : Bool). t && nat_lt x rank) (le-ltb x best l))
    ]

pub better_first : (best rank x : ℕ) → (best ≡ 0 → ⊥) → best < rank → is_above best x ≡ (is_above best x && nat_lt x rank)
better_first best rank x some l = better_both best rank x best some some (λ a b. a) (omega arith) (omega (arith, l))

pub better_second : (best rank x : ℕ) → (best ≡ 0 → ⊥) → 1 ≤ rank → rank ≤ best → is_above rank x ≡ (is_above best x && nat_lt x rank)
better_second best rank x some there l = better_both best rank x rank some (λ z. omega (arith, z, there)) (λ a b. b) (omega (arith, l)) (omega arith)
