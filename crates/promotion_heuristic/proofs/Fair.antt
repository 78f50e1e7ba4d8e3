-- What holds after every step: no hospital has more residents than posts, and each pair that its resident came to in vain has
-- a hospital that is full with residents that it ranks at least as high.
use Rattle.std.proofs.Common.{◌≡◌, ℕ, ◌+◌, ◌<◌, ◌≤◌, Bool, true, false, not, ◌&&◌, ◌||◌, ◌==◌, List, length, set, count_by, refl, sym, ap, ◌∙◌, ◌⊎◌, inl, inr, subst, arith}
use Rattle.std.proofs.lemmas.Bool.{true≢false, eqb-true, eq-eqb, ne_eqb, and_parts, or_cases, or_left, or_right, ltb-true, cases_eq, cases_Bool, false_from_ne_true}
use Rattle.rank_tables.specs.Numbers.{numbers_to}
use Rattle.rank_tables.specs.Instance.{Lists, pair_count, pair_at, rank_by_hospital, capacity_of}
use Rattle.rank_tables.specs.Stability.{uses_of_hospital}
use Rattle.rank_tables.specs.Tables.{IsPairNo, IsOfResident}
use Rattle.rank_tables.proofs.Numbers.{sum_by_same, distinct-numbers_to}
use Rattle.rank_tables.proofs.PairNumbers.{pair_listed}
use Rattle.promotion_heuristic.specs.declared.standing.Standing.{Standing}
use Rattle.promotion_heuristic.specs.Promotion.{standing_of, holds, held, taken, turned_away, has_room}
use Rattle.promotion_heuristic.proofs.Counting.{one_if, count_by-filter_and, count_more}
use Rattle.promotion_heuristic.proofs.Standings.{standing-same, standing-other, length-taken, length-turned_away, after-unassigned, holds-taken, holds-turned_away, came_to, Reaches, came_to-taken, came_to-turned_away, next-reached}
use Rattle.promotion_heuristic.proofs.Worst.{IsHeldAt}
use Rattle.promotion_heuristic.proofs.Proposals.{IsProposal}

-- how many residents a hospital has
abbrev pub uses : Lists → List Standing → ℕ → ℕ
uses lists s h = uses_of_hospital lists (held lists s) h

absorbed : (a b c : Bool) → (b ≡ true → c ≡ true) → ((a || b) && c) ≡ (a && c || b)
absorbed true true c h = ap (λ x. x) (h refl) ∙ sym (ap (λ x. x || true) (h refl))
absorbed true false true h = refl
absorbed true false false h = refl
absorbed false true c h = h refl
absorbed false false c h = refl

dropped : (a b c : Bool) → (b ≡ true → c ≡ false) → ((a || b) && c) ≡ (a && c)
dropped true b c h = refl
dropped false true c h = h refl
dropped false false c h = refl

-- one pair more that is held is one more that passes a test, if it does
pub held-more : (lists : Lists) (s t : List Standing) (p : ℕ) → IsPairNo lists p → holds lists s p ≡ false →
    ((q : ℕ) → holds lists t q ≡ (holds lists s q || q == p)) → (g : ℕ → Bool) →
    count_by (λ q. holds lists t q && g q) (numbers_to (pair_count lists)) ≡ count_by (λ q. holds lists s q && g q) (numbers_to (pair_count lists)) + one_if (g p)
held-more lists s t p n free e g =
    let nums = numbers_to (pair_count lists) in
    let old : ℕ → Bool = λ q. holds lists s q && g q in
    let new : ℕ → Bool = λ q. holds lists t q && g q in
    elim (cases_Bool (g p)) [
      | inl here ↦
          count_more old new p nums (distinct-numbers_to (pair_count lists)) (pair_listed lists p n)
          (ap (λ b. b && g p) free)
          (λ q. ap (λ b. b && g q) (e q) ∙ absorbed (holds lists s q) (q == p) (g q) (λ same. ap g (eqb-true q p same) ∙ here))
          ∙ ap (λ b. count_by old nums + one_if b) (sym here)
      | inr apart ↦
          let same : count_by new nums ≡ count_by old nums =
          sum_by_same _ _ nums (λ q. ap one_if (ap (λ b. b && g q) (e q) ∙ dropped (holds lists s q) (q == p) (g q) (λ same. ap g (eqb-true q p same) ∙ apart))) in
          let none : one_if (g p) ≡ 0 = ap one_if apart in
          omega arith
    ]

pub uses-count : (lists : Lists) (s : List Standing) (h : ℕ) → uses lists s h ≡ count_by (λ q. holds lists s q && (pair_at lists q).hospital == h) (numbers_to (pair_count lists))
uses-count lists s h = count_by-filter_and (holds lists s) (λ q. (pair_at lists q).hospital == h) (numbers_to (pair_count lists))

-- and one resident more at its hospital
pub uses-more : (lists : Lists) (s t : List Standing) (p : ℕ) → IsPairNo lists p → holds lists s p ≡ false →
    ((q : ℕ) → holds lists t q ≡ (holds lists s q || q == p)) → (h : ℕ) → uses lists t h ≡ uses lists s h + one_if ((pair_at lists p).hospital == h)
uses-more lists s t p n free e h =
    uses-count lists t h ∙ held-more lists s t p n free e (λ q. (pair_at lists q).hospital == h) ∙ ap (λ k. k + one_if ((pair_at lists p).hospital == h)) (sym (uses-count lists s h))

pub record IsFilled (lists : Lists) (s : List Standing) (q : ℕ) : Type 0 where
  pub full : capacity_of lists (pair_at lists q).hospital ≤ uses lists s (pair_at lists q).hospital
  pub higher : (o : ℕ) → IsHeldAt lists s (pair_at lists q).hospital o → rank_by_hospital lists o ≤ rank_by_hospital lists q

pub record IsFair (lists : Lists) (s : List Standing) : Type 0 where
  pub sized : length s ≡ length lists.residents
  pub own : (r : ℕ) → (standing_of s r).assigned ≡ true → IsOfResident lists r (standing_of s r).last
  pub within : (h : ℕ) → uses lists s h ≤ capacity_of lists h
  pub refused : (q : ℕ) → IsPairNo lists q → came_to lists s q ≡ true → holds lists s q ≡ false → IsFilled lists s q

pub own-set : (lists : Lists) (s : List Standing) (r : ℕ) (v : Standing) → r < length s → ((x : ℕ) → (standing_of s x).assigned ≡ true → IsOfResident lists x (standing_of s x).last) →
    (v.assigned ≡ true → IsOfResident lists r v.last) → (x : ℕ) → (standing_of (set s r v) x).assigned ≡ true → IsOfResident lists x (standing_of (set s r v) x).last
own-set lists s r v l before now x a = elim (cases_eq x r) [
  | inl same ↦
      let e : standing_of (set s r v) x ≡ v = ap (standing_of (set s r v)) same ∙ standing-same s r v l in
      subst (λ (k : ℕ). IsOfResident lists k (standing_of (set s r v) x).last) (sym same)
      (subst (λ (w : Standing). IsOfResident lists r w.last) (sym e) (now (sym (ap (λ (w : Standing). w.assigned) e) ∙ a)))
  | inr apart ↦
      let e : standing_of (set s r v) x ≡ standing_of s x = standing-other s r x v apart in
      subst (λ (w : Standing). IsOfResident lists x w.last) (sym e) (before x (sym (ap (λ (w : Standing). w.assigned) e) ∙ a))
]

-- a pair that was refused stays so, where its hospital has as many residents and ranks those that are new as high
pub filled-still : (lists : Lists) (s t : List Standing) (q : ℕ) → uses lists s (pair_at lists q).hospital ≤ uses lists t (pair_at lists q).hospital →
    ((o : ℕ) → IsHeldAt lists t (pair_at lists q).hospital o → (holds lists s o ≡ true) ⊎ (rank_by_hospital lists o ≤ rank_by_hospital lists q)) →
    IsFilled lists s q → IsFilled lists t q
filled-still lists s t q more new f = record {
  full = omega (arith, f.full);
  higher = λ o a. elim (new o a) [
    | inl before ↦ f.higher o (record { number = a.number; held = before; hospital = a.hospital })
    | inr high ↦ high
  ];
}

pub declared : (lists : Lists) (s : List Standing) (p : ℕ) → IsFair lists s → IsProposal lists s p → (pair_at lists p).resident < length s
declared lists s p f a = omega (arith, f.sized, a.declared)

pub reached : (lists : Lists) (s : List Standing) (p : ℕ) → IsFair lists s → IsProposal lists s p → Reaches lists s p
reached lists s p f a = next-reached lists s p (declared lists s p f a) a.next

-- an unassigned resident holds nothing
pub free-holds : (lists : Lists) (s : List Standing) (p q : ℕ) → IsProposal lists s p → (pair_at lists q).resident ≡ (pair_at lists p).resident → holds lists s q ≡ false
free-holds lists s p q a same = false_from_ne_true _ (λ h. true≢false (sym (and_parts _ _ h).0 ∙ ap (λ r. (standing_of s r).assigned) same ∙ a.unassigned))

-- ---- a free post is taken

pub fair-taken : (lists : Lists) (s : List Standing) (p : ℕ) → IsFair lists s → IsProposal lists s p → has_room lists s (pair_at lists p).hospital ≡ true → IsFair lists (taken lists s p)
fair-taken lists s p f a room =
    let t = taken lists s p in
    let free : holds lists s p ≡ false = free-holds lists s p p a refl in
    let holds_t : (q : ℕ) → holds lists t q ≡ (holds lists s q || q == p) = holds-taken lists s p (declared lists s p f a) a.unassigned in
    let counted : (h : ℕ) → uses lists t h ≡ uses lists s h + one_if ((pair_at lists p).hospital == h) = uses-more lists s t p a.number free holds_t in
    let less : uses lists s (pair_at lists p).hospital < capacity_of lists (pair_at lists p).hospital = ltb-true _ _ room in
    record {
      sized = length-taken lists s p ∙ f.sized;
      own = own-set lists s _ _ (declared lists s p f a) f.own (λ _. record { number = a.number; resident = refl });
      within = λ h. elim (cases_eq (pair_at lists p).hospital h) [
        | inl same ↦
            let one : one_if ((pair_at lists p).hospital == h) ≡ 1 = ap one_if (eq-eqb _ _ same) in
            let here : uses lists s h < capacity_of lists h = subst (λ (k : ℕ). uses lists s k < capacity_of lists k) same less in
            omega (arith, counted h)
        | inr apart ↦
            let none : one_if ((pair_at lists p).hospital == h) ≡ 0 = ap one_if (ne_eqb _ _ apart) in
            omega (arith, counted h, f.within h)
      ];
      refused = λ q n c none.
          let none_before : holds lists s q ≡ false = false_from_ne_true _ (λ h. true≢false (sym (or_left _ (q == p) h) ∙ sym (holds_t q) ∙ none)) in
          let other : q ≡ p → ⊥ = λ e. true≢false (sym (or_right (holds lists s q) _ (eq-eqb q p e)) ∙ sym (holds_t q) ∙ none) in
          let before : came_to lists s q ≡ true = elim (came_to-taken lists s p q (reached lists s p f a) n c) [ inl b ↦ b | inr e ↦ absurd (other e) ] in
          let was : IsFilled lists s q = f.refused q n before none_before in
          filled-still lists s t q (omega (arith, counted (pair_at lists q).hospital))
          (λ o b. elim (or_cases (holds lists s o) (o == p) (sym (holds_t o) ∙ b.held)) [
            | inl h ↦ inl h
            | inr e ↦
                let at : (pair_at lists p).hospital ≡ (pair_at lists q).hospital = ap (λ z. (pair_at lists z).hospital) (sym (eqb-true o p e)) ∙ b.hospital in
                let full : capacity_of lists (pair_at lists p).hospital ≤ uses lists s (pair_at lists p).hospital =
                subst (λ (k : ℕ). capacity_of lists k ≤ uses lists s k) (sym at) was.full in
                absurd (omega arith)
          ]) was;
    }

-- ---- a refusal

kept_all : (a b : Bool) → (b ≡ true → a ≡ false) → (a && not b) ≡ a
kept_all true true h = absurd (true≢false (h refl))
kept_all true false h = refl
kept_all false b h = refl

pub fair-refused : (lists : Lists) (s : List Standing) (p : ℕ) → IsFair lists s → IsProposal lists s p → IsFilled lists s p → IsFair lists (turned_away lists s p)
fair-refused lists s p f a filled =
    let t = turned_away lists s p in
    let holds_t : (q : ℕ) → holds lists t q ≡ holds lists s q =
    λ q. holds-turned_away lists s p (declared lists s p f a) q ∙ kept_all _ _ (λ same. free-holds lists s p q a (eqb-true _ _ same)) in
    let counted : (h : ℕ) → uses lists t h ≡ uses lists s h = λ h.
    uses-count lists t h
    ∙ sum_by_same _ _ (numbers_to (pair_count lists)) (λ q. ap one_if (ap (λ b. b && (pair_at lists q).hospital == h) (holds_t q)))
    ∙ sym (uses-count lists s h) in
    let still : (q : ℕ) → IsFilled lists s q → IsFilled lists t q =
    λ q. filled-still lists s t q (omega (arith, counted (pair_at lists q).hospital)) (λ o b. inl (sym (holds_t o) ∙ b.held)) in
    record {
      sized = length-turned_away lists s p ∙ f.sized;
      own = own-set lists s _ _ (declared lists s p f a) f.own (λ h. absurd (true≢false (sym h ∙ after-unassigned lists _ _ p)));
      within = λ h. omega (arith, counted h, f.within h);
      refused = λ q n c none. still q (elim (came_to-turned_away lists s p q (reached lists s p f a) n c) [
        | inl before ↦ f.refused q n before (sym (holds_t q) ∙ none)
        | inr same ↦ subst (λ (z : ℕ). IsFilled lists s z) (sym same) filled
      ]);
    }
