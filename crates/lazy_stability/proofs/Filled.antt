-- An engine without free variables is full.
use Rattle.std.proofs.Common.{◌≡◌, ℕ, ◌-◌, ◌<◌, ◌≤◌, ◌==◌, Bool, true, false, not, ◌||◌, List, [], ◌∷◌, length, map, refl, sym, ap, ap₂, ◌∙◌, subst, inl, inr, arith}
use Rattle.std.specs.Prelude.{◌⊎◌}
use Rattle.std.specs.List.{All, IsDistinct}
use Rattle.std.proofs.lemmas.Bool.{and_from, eqb-true, or_cases, true≢false}
use Rattle.std.proofs.lemmas.Map.Keys.{IsDistinct-head, IsDistinct-tail}
use Rattle.std.proofs.lemmas.List.{length-map}
use Rattle.std.proofs.lemmas.List.Elements.{All-cons, All-head, All-nil, All-tail}
use Rattle.hrt_base.specs.declared.literal.Lit.{Lit}
use Rattle.pb_rows.specs.Terms.{opposite_lit}
use Rattle.pb_rows.specs.Points.{IsCovered}
use Rattle.pb_rows.specs.Closure.{among, is_same_lit}
use Rattle.proof_rules.proofs.Learned.{among-all}
use Rattle.propagation.proofs.Sets.{lit_itself}
use Rattle.rank_tables.specs.Numbers.{is_distinct, is_in}
use Rattle.rank_tables.proofs.ListFacts.{length-distinct}
use Rattle.pb_propagate.specs.Entries.{Entry, lits_of}
use Rattle.agreement.proofs.Numbers.{or_first, or_second}
use Rattle.lazy_stability.specs.Laws.{FullWhereNoneIsFree}

-- the variables of literals, counted from 0
abbrev places_of : List Lit → List ℕ
places_of lits = map (λ l. l.var - 1) lits

-- the literal of a variable with a sign
abbrev lit_of : ℕ → Bool → Lit
lit_of v neg = record { var = v; neg = neg }

-- one of the literals is this literal, or has its variable
abbrev IsMet : List Lit → ℕ → Type 0
IsMet lits v = (among lits (lit_of v true) ≡ true) ⊎ (among lits (lit_of v false) ≡ true)

lit_is : (l : Lit) (v : ℕ) (neg : Bool) → l.var ≡ v → l.neg ≡ neg → l ≡ lit_of v neg
lit_is l v neg e n = ap₂ lit_of e n

here_first : (l : Lit) (lits : List Lit) (a : Lit) → l ≡ a → among (l ∷ lits) a ≡ true
here_first l lits a e = or_first (is_same_lit a l) (among lits a) (subst (λ (k : Lit). is_same_lit k l ≡ true) e (lit_itself l))

met_here : (l : Lit) (lits : List Lit) (v : ℕ) → l.var ≡ v → (neg : Bool) → l.neg ≡ neg → IsMet (l ∷ lits) v
met_here l lits v e true n = inl (here_first l lits (lit_of v true) (lit_is l v true e n))
met_here l lits v e false n = inr (here_first l lits (lit_of v false) (lit_is l v false e n))

met_behind : (l : Lit) (lits : List Lit) (v : ℕ) → IsMet lits v → IsMet (l ∷ lits) v
met_behind l lits v (inl h) = inl (or_second (is_same_lit (lit_of v true) l) (among lits (lit_of v true)) h)
met_behind l lits v (inr h) = inr (or_second (is_same_lit (lit_of v false) l) (among lits (lit_of v false)) h)

-- a variable at whose place a literal stands is met
met : (v vars : ℕ) (lits : List Lit) → All (λ (l : Lit). IsCovered vars l.var) lits → 1 ≤ v → is_in (v - 1) (places_of lits) ≡ true → IsMet lits v
met v vars [] covered first i = absurd (cc)
met v vars (l ∷ lits) covered first i = elim (or_cases (l.var - 1 == v - 1) (is_in (v - 1) (places_of lits)) i) [
  | inl s ↦
      let here : IsCovered vars l.var = All-head (λ (k : Lit). IsCovered vars k.var) l lits covered in
      let least = here.first in
      let apart = eqb-true (l.var - 1) (v - 1) s in
      met_here l lits v (omega (arith, least, first, apart)) l.neg refl
  | inr s ↦ met_behind l lits v (met v vars lits (All-tail (λ (k : Lit). IsCovered vars k.var) l lits covered) first s)
]

-- ---- places of their own

-- literals among which no two are opposite
abbrev AreOneSided : List Lit → Type 0
AreOneSided lits = (l : Lit) → among lits l ≡ true → among lits (opposite_lit l) ≡ false

one_sided_behind : (l : Lit) (lits : List Lit) → AreOneSided (l ∷ lits) → AreOneSided lits
one_sided_behind l lits sided k h = second_false (is_same_lit (opposite_lit k) l) (among lits (opposite_lit k)) (sided k (or_second (is_same_lit k l) (among lits k) h))
  where
    second_false : (b c : Bool) → (b || c) ≡ false → c ≡ false
    second_false true c h = absurd (cc)
    second_false false c h = h

-- the first one isn't met behind it
not_met : (l : Lit) (lits : List Lit) → AreOneSided (l ∷ lits) → IsDistinct is_same_lit (l ∷ lits) → (a : Bool) → among lits (lit_of l.var a) ≡ true → ⊥
not_met l lits sided distinct a h = by l.neg refl a h
  where
    same : (neg : Bool) → l.neg ≡ neg → among lits (lit_of l.var neg) ≡ true → ⊥
    same neg n i =
        let here : among lits l ≡ true = ap (among lits) (lit_is l l.var neg refl n) ∙ i in
        true≢false (sym (lit_itself l) ∙ among-all (λ (k : Lit). is_same_lit l k ≡ false) lits l (IsDistinct-head is_same_lit l lits distinct) here)

    other : (neg : Bool) → not l.neg ≡ neg → among lits (lit_of l.var neg) ≡ true → ⊥
    other neg n i =
        let here : among lits (opposite_lit l) ≡ true = ap (λ (b : Bool). among lits (lit_of l.var b)) n ∙ i in
        true≢false (sym (or_second (is_same_lit (opposite_lit l) l) (among lits (opposite_lit l)) here) ∙ sided l (here_first l lits l refl))

    by : (neg : Bool) → l.neg ≡ neg → (a : Bool) → among lits (lit_of l.var a) ≡ true → ⊥
    by true n true i = same true n i
    by true n false i = other false (ap not n) i
    by false n true i = other true (ap not n) i
    by false n false i = same false n i

absent : (t : Bool) → (t ≡ true → ⊥) → not t ≡ true
absent true h = absurd (h refl)
absent false h = refl

distinct_places : (vars : ℕ) (lits : List Lit) → All (λ (l : Lit). IsCovered vars l.var) lits → AreOneSided lits → IsDistinct is_same_lit lits → is_distinct (places_of lits) ≡ true
distinct_places vars [] covered sided distinct = refl
distinct_places vars (l ∷ lits) covered sided distinct =
    let P : Lit → Type 0 = λ k. IsCovered vars k.var in
    let behind = All-tail P l lits covered in
    and_from (not (is_in (l.var - 1) (places_of lits))) (is_distinct (places_of lits))
    (absent (is_in (l.var - 1) (places_of lits)) (λ i. elim (met l.var vars lits behind (All-head P l lits covered).first i) [ inl h ↦ not_met l lits sided distinct true h | inr h ↦ not_met l lits sided distinct false h ]))
    (distinct_places vars lits behind (one_sided_behind l lits sided) (IsDistinct-tail is_same_lit l lits distinct))

places_below : (vars : ℕ) (lits : List Lit) → All (λ (l : Lit). IsCovered vars l.var) lits → All (λ (n : ℕ). n < vars) (places_of lits)
places_below vars [] covered = All-nil (λ (n : ℕ). n < vars)
places_below vars (l ∷ lits) covered =
    let P : Lit → Type 0 = λ k. IsCovered vars k.var in
    let here = All-head P l lits covered in
    All-cons (λ (n : ℕ). n < vars) (l.var - 1) (places_of lits) (omega (arith, here.first, here.last)) (places_below vars lits (All-tail P l lits covered))

-- ---- as many literals as variables

module _ (vars : ℕ) (lits : List Lit) (covered : All (λ (l : Lit). IsCovered vars l.var) lits) (sided : AreOneSided lits) (distinct : IsDistinct is_same_lit lits) (count : length lits ≡ vars) where
  -- one place more would be one too many
  each_place : (v : ℕ) → 1 ≤ v → v ≤ vars → (t : Bool) → is_in (v - 1) (places_of lits) ≡ t → IsMet lits v
  each_place v first last true i = met v vars lits covered first i
  each_place v first last false i =
      let more = length-distinct vars ((v - 1) ∷ places_of lits) (All-cons (λ (n : ℕ). n < vars) (v - 1) (places_of lits) (omega (arith, first, last)) (places_below vars lits covered))
      (and_from (not (is_in (v - 1) (places_of lits))) (is_distinct (places_of lits)) (ap not i) (distinct_places vars lits covered sided distinct)) in
      absurd (omega (arith, more, count, length-map lits (λ (l : Lit). l.var - 1)))

  pub valued : (v : ℕ) → 1 ≤ v → v ≤ vars → among lits (lit_of v true) ≡ not (among lits (lit_of v false))
  valued v first last = elim (each_place v first last (is_in (v - 1) (places_of lits)) refl) [
    | inl h ↦ h ∙ sym (ap not (sided (lit_of v true) h))
    | inr h ↦ sided (lit_of v false) h ∙ sym (ap not h)
  ]

pub filled : FullWhereNoneIsFree
filled e order count = valued e.vars (lits_of e.trail) order.covered order.consistent.consistent order.consistent.distinct (length-map e.trail (λ (x : Entry). x.lit) ∙ count)
