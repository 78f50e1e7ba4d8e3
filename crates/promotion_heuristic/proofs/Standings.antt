-- Standings after a proposal: which pairs are held, and which ones their residents have come to.
use Rattle.std.proofs.Common.{◌≡◌, ℕ, ◌<◌, ◌≤◌, Bool, true, false, not, ◌&&◌, ◌||◌, ◌==◌, nat_lt, nat_le, cond, List, length, find, set, Option, Some, None, is_some, refl, sym, ap, ◌∙◌, ◌⊎◌, inl, inr, subst, arith}
use Rattle.std.proofs.lemmas.Bool.{true≢false, eqb-true, eq-eqb, ne_eqb, and_from, and_parts, or_cases, or_left, or_right, le-leb, leb-true, lt-ltb, ltb-true, cases_lt, cases_eq, cases_Bool}
use Rattle.std.proofs.lemmas.List.{length-set, get_or-set_same, get_or-set_other}
use Rattle.rank_tables.specs.Numbers.{numbers_to}
use Rattle.rank_tables.specs.Instance.{Lists, pair_count, pair_at}
use Rattle.rank_tables.specs.Tables.{IsPairNo}
use Rattle.rank_tables.proofs.Numbers.{eqb_sym}
use Rattle.rank_tables.proofs.Below.{find-filter}
use Rattle.rank_tables.proofs.PairNumbers.{pair_listed, listed_pair}
use Rattle.promotion_heuristic.specs.declared.standing.Standing.{Standing}
use Rattle.promotion_heuristic.specs.Promotion.{at_top, standing_of, is_promoted, holds, next_after, after, taken, turned_away}
use Rattle.promotion_heuristic.proofs.Finding.{found, none_found, before_first}

-- ---- the next pair in a resident's list

abbrev resident_of : Lists → ℕ → ℕ
resident_of lists p = (pair_at lists p).resident

-- the test by which the next pair after p is found
abbrev is_next : Lists → ℕ → ℕ → ℕ → Bool
is_next lists r p q = resident_of lists q == r && nat_lt p q

pub record IsNext (lists : Lists) (r p q : ℕ) : Type 0 where
  pub number : IsPairNo lists q
  pub resident : (pair_at lists q).resident ≡ r
  pub later : p < q
  pub least : (o : ℕ) → IsPairNo lists o → (pair_at lists o).resident ≡ r → p < o → q ≤ o

next_found : (lists : Lists) (r p : ℕ) (o : Option ℕ) → next_after lists r p ≡ o → find (is_next lists r p) (numbers_to (pair_count lists)) ≡ o
next_found lists r p o e = sym (find-filter (λ q. resident_of lists q == r) (nat_lt p) (numbers_to (pair_count lists))) ∙ e

pub next_is : (lists : Lists) (r p q : ℕ) → next_after lists r p ≡ Some q → IsNext lists r p q
next_is lists r p q e =
    let here = next_found lists r p (Some q) e in
    let is = found (is_next lists r p) q (numbers_to (pair_count lists)) here in
    let parts = and_parts _ _ is.1 in
    record {
      number = listed_pair lists q is.0;
      resident = eqb-true _ _ parts.0;
      later = ltb-true p q parts.1;
      least = λ o n same less. elim (cases_lt o q) [
        | inl before ↦
            absurd (true≢false (sym (and_from _ _ (eq-eqb _ _ same) (lt-ltb p o less))
            ∙ before_first (is_next lists r p) (pair_count lists) q here o n.0 before))
        | inr behind ↦ behind
      ];
    }

pub none_next : (lists : Lists) (r p : ℕ) → next_after lists r p ≡ None → (o : ℕ) → IsPairNo lists o → (pair_at lists o).resident ≡ r → o ≤ p
none_next lists r p e o n same = elim (cases_lt p o) [
  | inl less ↦
      absurd (true≢false (sym (and_from _ _ (eq-eqb _ _ same) (lt-ltb p o less))
      ∙ none_found (is_next lists r p) o (numbers_to (pair_count lists)) (next_found lists r p None e) (pair_listed lists o n)))
  | inr few ↦ few
]

-- ---- standings after a write

pub standing-same : (s : List Standing) (r : ℕ) (v : Standing) → r < length s → standing_of (set s r v) r ≡ v
standing-same s r v l = get_or-set_same s r v at_top l

pub standing-other : (s : List Standing) (r x : ℕ) (v : Standing) → (x ≡ r → ⊥) → standing_of (set s r v) x ≡ standing_of s x
standing-other s r x v n = get_or-set_other s r x v at_top n

pub length-taken : (lists : Lists) (s : List Standing) (p : ℕ) → length (taken lists s p) ≡ length s
length-taken lists s p = length-set s _ _

pub length-turned_away : (lists : Lists) (s : List Standing) (p : ℕ) → length (turned_away lists s p) ≡ length s
length-turned_away lists s p = length-set s _ _

pub after-unassigned : (lists : Lists) (r : ℕ) (b : Bool) (p : ℕ) → (after lists r b p).assigned ≡ false
after-unassigned lists r b p = elim (cases_Bool (b || is_some (next_after lists r p))) [ inl e ↦ rw e refl | inr e ↦ rw e refl ]

-- the same standing holds the same pairs
abbrev pub holds_by : Standing → ℕ → Bool
holds_by v q = v.assigned && v.last == q

-- what holds of pairs after a write is what holds by the standing that was written, or what held before
pub holds-other : (lists : Lists) (s : List Standing) (r : ℕ) (v : Standing) (q : ℕ) → ((pair_at lists q).resident ≡ r → ⊥) →
    holds lists (set s r v) q ≡ holds lists s q
holds-other lists s r v q n = ap (λ (w : Standing). holds_by w q) (standing-other s r _ v n)

pub holds-same : (lists : Lists) (s : List Standing) (r : ℕ) (v : Standing) (q : ℕ) → r < length s → (pair_at lists q).resident ≡ r →
    holds lists (set s r v) q ≡ holds_by v q
holds-same lists s r v q l e = ap (λ (w : Standing). holds_by w q) (ap (standing_of (set s r v)) e ∙ standing-same s r v l)

idle : (b : Bool) (m q : ℕ) → b ≡ false → (b && m == q) ≡ false
idle b m q e = rw e refl

-- an unassigned resident that is taken holds that pair beside those that were held
pub holds-taken : (lists : Lists) (s : List Standing) (p : ℕ) → (pair_at lists p).resident < length s →
    (standing_of s (pair_at lists p).resident).assigned ≡ false → (q : ℕ) → holds lists (taken lists s p) q ≡ (holds lists s q || q == p)
holds-taken lists s p l free q = elim (cases_eq (pair_at lists q).resident (pair_at lists p).resident) [
  | inl same ↦
      let none : holds lists s q ≡ false = idle _ _ q (ap (λ r. (standing_of s r).assigned) same ∙ free) in
      holds-same lists s _ _ q l same ∙ eqb_sym p q ∙ ap (λ b. b || q == p) (sym none)
  | inr apart ↦
      holds-other lists s _ _ q apart ∙ or_none (holds lists s q) (q == p) (ne_eqb q p (λ e. apart (ap (λ z. (pair_at lists z).resident) e)))
]
  where
    or_none : (a b : Bool) → b ≡ false → a ≡ (a || b)
    or_none true b e = refl
    or_none false b e = sym e

-- and one that is turned away holds nothing
pub holds-turned_away : (lists : Lists) (s : List Standing) (p : ℕ) → (pair_at lists p).resident < length s → (q : ℕ) →
    holds lists (turned_away lists s p) q ≡ (holds lists s q && not ((pair_at lists q).resident == (pair_at lists p).resident))
holds-turned_away lists s p l q = elim (cases_eq (pair_at lists q).resident (pair_at lists p).resident) [
  | inl same ↦ holds-same lists s _ _ q l same ∙ idle _ _ q (after-unassigned lists _ _ p) ∙ sym (and_no (holds lists s q) _ (eq-eqb _ _ same))
  | inr apart ↦ holds-other lists s _ _ q apart ∙ sym (and_yes (holds lists s q) _ (ne_eqb _ _ apart))
]
  where
    and_no : (a b : Bool) → b ≡ true → (a && not b) ≡ false
    and_no true b e = rw e refl
    and_no false b e = refl

    and_yes : (a b : Bool) → b ≡ false → (a && not b) ≡ a
    and_yes true b e = rw e refl
    and_yes false b e = refl

-- ---- the pairs that a resident has come to

-- whether a resident has proposed to a pair
abbrev pub came_by : Standing → ℕ → Bool
came_by v q = v.promoted || nat_le q v.last

abbrev pub came_to : Lists → List Standing → ℕ → Bool
came_to lists s q = came_by (standing_of s (pair_at lists q).resident) q

-- p is a pair that its resident comes to now, or came to before
pub record Reaches (lists : Lists) (s : List Standing) (p : ℕ) : Type 0 where
  pub number : IsPairNo lists p
  pub declared : (pair_at lists p).resident < length s
  pub forward : (standing_of s (pair_at lists p).resident).last ≤ p
  pub passed_none : (q : ℕ) → IsPairNo lists q → (pair_at lists q).resident ≡ (pair_at lists p).resident → q < p → came_to lists s q ≡ true

came_by-after : (lists : Lists) (s : List Standing) (p q : ℕ) (o : Option ℕ) (b : Bool) → Reaches lists s p → IsPairNo lists q →
    (pair_at lists q).resident ≡ (pair_at lists p).resident → next_after lists (pair_at lists p).resident p ≡ o → is_promoted lists s p ≡ b →
    came_by (cond (b || is_some o) (record { last = p; promoted = b; assigned = false }) (record { last = 0; promoted = true; assigned = false })) q ≡ true →
    (came_to lists s q ≡ true) ⊎ (q ≡ p)
came_by-after lists s p q o true h n same e f c = inl (or_left _ _ (ap (λ r. (standing_of s r).promoted) same ∙ f))
came_by-after lists s p q (Some x) false h n same e f c = at_or_before lists s p q h n same (leb-true q p c)
  where
    at_or_before : (lists : Lists) (s : List Standing) (p q : ℕ) → Reaches lists s p → IsPairNo lists q →
        (pair_at lists q).resident ≡ (pair_at lists p).resident → q ≤ p → (came_to lists s q ≡ true) ⊎ (q ≡ p)
    at_or_before lists s p q h n same l = elim (cases_lt q p) [
      | inl less ↦ inl (h.passed_none q n same less)
      | inr more ↦ inr (omega arith)
    ]
came_by-after lists s p q None false h n same e f c = elim (cases_lt q p) [
  | inl less ↦ inl (h.passed_none q n same less)
  | inr more ↦ inr (let few : q ≤ p = none_next lists _ p e q n same in omega arith)
]

came_to-same : (lists : Lists) (s : List Standing) (r : ℕ) (v : Standing) (q : ℕ) → r < length s → (pair_at lists q).resident ≡ r →
    came_to lists (set s r v) q ≡ came_by v q
came_to-same lists s r v q l e = ap (λ (w : Standing). came_by w q) (ap (standing_of (set s r v)) e ∙ standing-same s r v l)

came_to-other : (lists : Lists) (s : List Standing) (r : ℕ) (v : Standing) (q : ℕ) → ((pair_at lists q).resident ≡ r → ⊥) →
    came_to lists (set s r v) q ≡ came_to lists s q
came_to-other lists s r v q n = ap (λ (w : Standing). came_by w q) (standing-other s r _ v n)

-- a resident that is turned away by p has come to no other pair by that
pub came_to-turned_away : (lists : Lists) (s : List Standing) (p q : ℕ) → Reaches lists s p → IsPairNo lists q →
    came_to lists (turned_away lists s p) q ≡ true → (came_to lists s q ≡ true) ⊎ (q ≡ p)
came_to-turned_away lists s p q h n c = elim (cases_eq (pair_at lists q).resident (pair_at lists p).resident) [
  | inl same ↦ came_by-after lists s p q _ _ h n same refl refl (sym (came_to-same lists s _ _ q h.declared same) ∙ c)
  | inr apart ↦ inl (sym (came_to-other lists s _ _ q apart) ∙ c)
]

-- nor one that is taken
pub came_to-taken : (lists : Lists) (s : List Standing) (p q : ℕ) → Reaches lists s p → IsPairNo lists q →
    came_to lists (taken lists s p) q ≡ true → (came_to lists s q ≡ true) ⊎ (q ≡ p)
came_to-taken lists s p q h n c = elim (cases_eq (pair_at lists q).resident (pair_at lists p).resident) [
  | inl same ↦ elim (or_cases (is_promoted lists s p) (nat_le q p) (sym (came_to-same lists s _ _ q h.declared same) ∙ c)) [
    | inl promoted ↦ inl (or_left _ _ (ap (λ r. (standing_of s r).promoted) same ∙ promoted))
    | inr few ↦ elim (cases_lt q p) [
      | inl less ↦ inl (h.passed_none q n same less)
      | inr more ↦ inr (let l : q ≤ p = leb-true q p few in omega arith)
    ]
  ]
  | inr apart ↦ inl (sym (came_to-other lists s _ _ q apart) ∙ c)
]

-- the next pair of a resident is one that it comes to
pub next-reached : (lists : Lists) (s : List Standing) (p : ℕ) → (pair_at lists p).resident < length s →
    IsNext lists (pair_at lists p).resident (standing_of s (pair_at lists p).resident).last p → Reaches lists s p
next-reached lists s p l h = record {
  number = h.number;
  declared = l;
  forward = omega (arith, h.later);
  passed_none = λ q n same less. or_right (standing_of s (pair_at lists q).resident).promoted _
      (le-leb q _ (subst (λ (r : ℕ). q ≤ (standing_of s r).last) (sym same) (elim (cases_lt (standing_of s (pair_at lists p).resident).last q) [
        | inl behind ↦ absurd (let b : p ≤ q = h.least q n same behind in omega arith)
        | inr few ↦ few
      ])));
}

-- and so is one that is held
pub held-last : (lists : Lists) (s : List Standing) (p : ℕ) → holds lists s p ≡ true → (standing_of s (pair_at lists p).resident).last ≡ p
held-last lists s p h = eqb-true _ _ (and_parts _ _ h).1

pub held-reached : (lists : Lists) (s : List Standing) (p : ℕ) → IsPairNo lists p → (pair_at lists p).resident < length s → holds lists s p ≡ true → Reaches lists s p
held-reached lists s p n l h =
    let e = held-last lists s p h in
    record {
      number = n;
      declared = l;
      forward = omega (arith, e);
      passed_none = λ q m same less. or_right (standing_of s (pair_at lists q).resident).promoted _
          (le-leb q _ (subst (λ (r : ℕ). q ≤ (standing_of s r).last) (sym same) (omega (arith, e))));
    }

pub held-came_to : (lists : Lists) (s : List Standing) (p : ℕ) → holds lists s p ≡ true → came_to lists s p ≡ true
held-came_to lists s p h = or_right (is_promoted lists s p) _ (le-leb p _ (omega (arith, held-last lists s p h)))

-- held pairs of one resident are one pair
pub held-one : (lists : Lists) (s : List Standing) (p q : ℕ) → holds lists s p ≡ true → holds lists s q ≡ true →
    (pair_at lists p).resident ≡ (pair_at lists q).resident → p ≡ q
held-one lists s p q h k e = sym (held-last lists s p h) ∙ ap (λ r. (standing_of s r).last) e ∙ held-last lists s q k
