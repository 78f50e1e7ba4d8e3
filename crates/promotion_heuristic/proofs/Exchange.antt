-- A full hospital takes the proposer in place of its worst resident; and so every step keeps what is fair.
use Rattle.std.proofs.Common.{◌≡◌, ℕ, ◌+◌, ◌<◌, ◌≤◌, Bool, true, false, not, ◌&&◌, ◌||◌, ◌==◌, List, length, refl, sym, ap, ◌∙◌, ◌⊎◌, inl, inr, subst, arith}
use Rattle.std.proofs.lemmas.Bool.{true≢false, eqb-true, eq-eqb, or_cases, or_left, or_right, cases_Bool, not_from_true}
use Rattle.rank_tables.specs.Instance.{Lists, pair_at, rank_by_hospital, capacity_of}
use Rattle.rank_tables.specs.Tables.{IsPairNo}
use Rattle.rank_tables.proofs.PairFacts.{pair_at-acceptable}
use Rattle.promotion_heuristic.specs.declared.standing.Standing.{Standing}
use Rattle.promotion_heuristic.specs.Promotion.{standing_of, holds, is_lower, taken, turned_away}
use Rattle.promotion_heuristic.proofs.Counting.{one_if}
use Rattle.promotion_heuristic.proofs.Standings.{IsNext, standing-other, length-taken, length-turned_away, after-unassigned, holds-taken, holds-turned_away, came_to, Reaches, came_to-taken, came_to-turned_away, next-reached, held-reached, held-came_to, held-one}
use Rattle.promotion_heuristic.proofs.Worst.{IsWorst, worst-rank, is_lower-rank}
use Rattle.promotion_heuristic.proofs.Proposals.{IsProposal}
use Rattle.promotion_heuristic.proofs.Fair.{uses, uses-more, IsFilled, IsFair, own-set, filled-still, free-holds}

-- a held pair's resident is another than the proposer
pub held-apart : (lists : Lists) (s : List Standing) (p w : ℕ) → IsProposal lists s p → holds lists s w ≡ true → (pair_at lists p).resident ≡ (pair_at lists w).resident → ⊥
held-apart lists s p w a h e = true≢false (sym h ∙ free-holds lists s p w a (sym e))

back : (a b c : Bool) → (a ≡ true → b ≡ true → c ≡ true) → (c ≡ true → a ≡ true) → (c ≡ true → b ≡ true) → a ≡ (a && not b || c)
back true true c h k l = sym (h refl refl)
back true false c h k l = refl
back false b c h k l = elim (cases_Bool c) [ inl e ↦ absurd (true≢false (sym (k e))) | inr e ↦ sym e ]

-- the pairs held before are those held after w is put out, and w
pub holds-put_out : (lists : Lists) (s : List Standing) (w : ℕ) → (pair_at lists w).resident < length s → holds lists s w ≡ true → (q : ℕ) →
    holds lists s q ≡ (holds lists (turned_away lists s w) q || q == w)
holds-put_out lists s w l h q =
    back (holds lists s q) ((pair_at lists q).resident == (pair_at lists w).resident) (q == w)
    (λ a b. eq-eqb q w (held-one lists s q w a h (eqb-true _ _ b)))
    (λ c. ap (holds lists s) (eqb-true q w c) ∙ h)
    (λ c. eq-eqb _ _ (ap (λ z. (pair_at lists z).resident) (eqb-true q w c)))
    ∙ ap (λ b. b || q == w) (sym (holds-turned_away lists s w l q))

pub put_out-holds : (lists : Lists) (s : List Standing) (w : ℕ) → (pair_at lists w).resident < length s → holds lists (turned_away lists s w) w ≡ false
put_out-holds lists s w l = holds-turned_away lists s w l w ∙ and_off (holds lists s w) _ (eq-eqb (pair_at lists w).resident _ refl)
  where
    and_off : (a b : Bool) → b ≡ true → (a && not b) ≡ false
    and_off true b e = not_from_true b e
    and_off false b e = refl

-- what stands where w makes place for p
pub record Exchanges (lists : Lists) (s : List Standing) (p w : ℕ) : Type 0 where
  pub proposed_by : IsProposal lists s p
  pub full : capacity_of lists (pair_at lists p).hospital ≤ uses lists s (pair_at lists p).hospital
  pub worst_is : IsWorst lists s (pair_at lists p).hospital w
  pub lower : is_lower lists s w p ≡ true

-- after w is put out, the proposer still stands as it did
pub put_out-standing : (lists : Lists) (s : List Standing) (p w : ℕ) → Exchanges lists s p w →
    standing_of (turned_away lists s w) (pair_at lists p).resident ≡ standing_of s (pair_at lists p).resident
put_out-standing lists s p w x = standing-other s _ _ _ (held-apart lists s p w x.proposed_by x.worst_is.held.held)

pub put_out-proposal : (lists : Lists) (s : List Standing) (p w : ℕ) → Exchanges lists s p w → IsProposal lists (turned_away lists s w) p
put_out-proposal lists s p w x =
    let e = put_out-standing lists s p w x in
    record {
      number = x.proposed_by.number;
      declared = x.proposed_by.declared;
      unassigned = ap (λ (v : Standing). v.assigned) e ∙ x.proposed_by.unassigned;
      next = subst (λ (v : Standing). IsNext lists (pair_at lists p).resident v.last p) (sym e) x.proposed_by.next;
    }

worst-declared : (lists : Lists) (s : List Standing) (p w : ℕ) → IsFair lists s → Exchanges lists s p w → (pair_at lists w).resident < length s
worst-declared lists s p w f x =
    omega (arith, f.sized, (pair_at-acceptable lists w x.worst_is.held.number).resident_declared)

pub worst-reached : (lists : Lists) (s : List Standing) (p w : ℕ) → IsFair lists s → Exchanges lists s p w → Reaches lists s w
worst-reached lists s p w f x = held-reached lists s w x.worst_is.held.number (worst-declared lists s p w f x) x.worst_is.held.held

pub put_out-reached : (lists : Lists) (s : List Standing) (p w : ℕ) → IsFair lists s → Exchanges lists s p w → Reaches lists (turned_away lists s w) p
put_out-reached lists s p w f x =
    next-reached lists (turned_away lists s w) p (omega (arith, length-turned_away lists s w, f.sized, x.proposed_by.declared)) (put_out-proposal lists s p w x).next

-- the pairs that are held, and how many, after the exchange
exchanged-holds : (lists : Lists) (s : List Standing) (p w : ℕ) → IsFair lists s → Exchanges lists s p w → (q : ℕ) →
    holds lists (taken lists (turned_away lists s w) p) q ≡ (holds lists (turned_away lists s w) q || q == p)
exchanged-holds lists s p w f x = holds-taken lists (turned_away lists s w) p (put_out-reached lists s p w f x).declared (put_out-proposal lists s p w x).unassigned

exchanged-uses : (lists : Lists) (s : List Standing) (p w : ℕ) → IsFair lists s → Exchanges lists s p w → (h : ℕ) →
    uses lists (taken lists (turned_away lists s w) p) h ≡ uses lists s h
exchanged-uses lists s p w f x h =
    let l = worst-declared lists s p w f x in
    let u = turned_away lists s w in
    let before : uses lists s h ≡ uses lists u h + one_if ((pair_at lists w).hospital == h) =
    uses-more lists u s w x.worst_is.held.number (put_out-holds lists s w l) (holds-put_out lists s w l x.worst_is.held.held) h in
    let now : uses lists (taken lists u p) h ≡ uses lists u h + one_if ((pair_at lists p).hospital == h) =
    uses-more lists u (taken lists u p) p x.proposed_by.number (free-holds lists u p p (put_out-proposal lists s p w x) refl) (exchanged-holds lists s p w f x) h in
    let same : one_if ((pair_at lists w).hospital == h) ≡ one_if ((pair_at lists p).hospital == h) = ap (λ k. one_if (k == h)) x.worst_is.held.hospital in
    omega arith

-- a pair held after it was held before, or is p
exchanged-held : (lists : Lists) (s : List Standing) (p w : ℕ) → IsFair lists s → Exchanges lists s p w → (o : ℕ) →
    holds lists (taken lists (turned_away lists s w) p) o ≡ true → (holds lists s o ≡ true) ⊎ (o ≡ p)
exchanged-held lists s p w f x o h = elim (or_cases _ (o == p) (sym (exchanged-holds lists s p w f x o) ∙ h)) [
  | inl still ↦ inl (holds-put_out lists s w (worst-declared lists s p w f x) x.worst_is.held.held o ∙ or_left _ (o == w) still)
  | inr same ↦ inr (eqb-true o p same)
]

-- the pair that is put out has a hospital that ranks all of its residents at least as high
put_out-filled : (lists : Lists) (s : List Standing) (p w : ℕ) → IsFair lists s → Exchanges lists s p w → IsFilled lists (taken lists (turned_away lists s w) p) w
put_out-filled lists s p w f x =
    let at = x.worst_is.held.hospital in
    record {
      full = subst (λ (h : ℕ). capacity_of lists h ≤ uses lists (taken lists (turned_away lists s w) p) h) (sym at)
          (omega (arith, x.full, exchanged-uses lists s p w f x (pair_at lists p).hospital));
      higher = λ o a. elim (exchanged-held lists s p w f x o a.held) [
        | inl before ↦ worst-rank lists s (pair_at lists p).hospital w o x.worst_is (record { number = a.number; held = before; hospital = a.hospital ∙ at })
        | inr same ↦ subst (λ (z : ℕ). rank_by_hospital lists z ≤ rank_by_hospital lists w) (sym same) (is_lower-rank lists s w p x.lower)
      ];
    }

came_before : (lists : Lists) (s : List Standing) (p w q : ℕ) → IsFair lists s → Exchanges lists s p w → IsPairNo lists q →
    came_to lists (taken lists (turned_away lists s w) p) q ≡ true → (q ≡ p → ⊥) → came_to lists s q ≡ true
came_before lists s p w q f x n c other = elim (came_to-taken lists (turned_away lists s w) p q (put_out-reached lists s p w f x) n c) [
  | inl c ↦ elim (came_to-turned_away lists s w q (worst-reached lists s p w f x) n c) [
    | inl b ↦ b
    | inr same ↦ subst (λ (z : ℕ). came_to lists s z ≡ true) (sym same) (held-came_to lists s w x.worst_is.held.held)
  ]
  | inr same ↦ absurd (other same)
]

exchanged-refused : (lists : Lists) (s : List Standing) (p w : ℕ) → IsFair lists s → Exchanges lists s p w → (q : ℕ) → IsPairNo lists q →
    came_to lists (taken lists (turned_away lists s w) p) q ≡ true → holds lists (taken lists (turned_away lists s w) p) q ≡ false →
    IsFilled lists (taken lists (turned_away lists s w) p) q
exchanged-refused lists s p w f x q n c none =
    let holds_t = exchanged-holds lists s p w f x q in
    let other : q ≡ p → ⊥ = λ e. true≢false (sym (or_right _ _ (eq-eqb q p e)) ∙ sym holds_t ∙ none) in
    let before = came_before lists s p w q f x n c other in
    elim (cases_Bool (holds lists s q)) [
      | inl h ↦ elim (or_cases _ (q == w) (sym (holds-put_out lists s w (worst-declared lists s p w f x) x.worst_is.held.held q) ∙ h)) [
        | inl still ↦ absurd (true≢false (sym (or_left _ (q == p) still) ∙ sym holds_t ∙ none))
        | inr same ↦ subst (λ (z : ℕ). IsFilled lists (taken lists (turned_away lists s w) p) z) (sym (eqb-true q w same)) (put_out-filled lists s p w f x)
      ]
      | inr h ↦
          let was : IsFilled lists s q = f.refused q n before h in
          filled-still lists s (taken lists (turned_away lists s w) p) q (omega (arith, exchanged-uses lists s p w f x (pair_at lists q).hospital))
          (λ o a. elim (exchanged-held lists s p w f x o a.held) [
            | inl b ↦ inl b
            | inr same ↦
                let at : (pair_at lists p).hospital ≡ (pair_at lists q).hospital = ap (λ z. (pair_at lists z).hospital) (sym same) ∙ a.hospital in
                let low : rank_by_hospital lists w ≤ rank_by_hospital lists q =
                was.higher w (record { number = x.worst_is.held.number; held = x.worst_is.held.held; hospital = x.worst_is.held.hospital ∙ at }) in
                let high : rank_by_hospital lists p ≤ rank_by_hospital lists w = is_lower-rank lists s w p x.lower in
                inr (subst (λ (z : ℕ). rank_by_hospital lists z ≤ rank_by_hospital lists q) (sym same) (omega arith))
          ]) was
    ]

pub fair-exchanged : (lists : Lists) (s : List Standing) (p w : ℕ) → IsFair lists s → Exchanges lists s p w → IsFair lists (taken lists (turned_away lists s w) p)
fair-exchanged lists s p w f x = record {
  sized = length-taken lists (turned_away lists s w) p ∙ length-turned_away lists s w ∙ f.sized;
  own = own-set lists (turned_away lists s w) _ _ (put_out-reached lists s p w f x).declared
      (own-set lists s _ _ (worst-declared lists s p w f x) f.own (λ h. absurd (true≢false (sym h ∙ after-unassigned lists _ _ w))))
      (λ _. record { number = x.proposed_by.number; resident = refl });
  within = λ h. omega (arith, exchanged-uses lists s p w f x h, f.within h);
  refused = exchanged-refused lists s p w f x;
}
