-- One resident after another is settled: it proposes, and then each one that was put out, until none of them is waiting.
use Rattle.std.proofs.Common.{◌≡◌, ℕ, ◌+◌, ◌<◌, ◌≤◌, Bool, true, false, not, ◌&&◌, List, length, Option, Some, None, is_some, IfSome, sym, ap, ◌∙◌, inl, inr, subst, arith}
use Rattle.std.specs.Option.{option_and_then}
use Rattle.std.proofs.lemmas.Bool.{true≢false, and_from, and_parts, ltb-true, not_from_false, cases_eq, cases_lt}
use Rattle.rank_tables.specs.Numbers.{below}
use Rattle.rank_tables.specs.Instance.{Lists, pair_at}
use Rattle.rank_tables.specs.Tables.{IsPairNo}
use Rattle.rank_tables.proofs.Numbers.{is_in-below}
use Rattle.rank_tables.proofs.PairFacts.{pair_at-acceptable}
use Rattle.promotion_heuristic.specs.declared.standing.Standing.{Standing}
use Rattle.promotion_heuristic.specs.Promotion.{at_top, standing_of, holds, next_after, next_pair, is_waiting, worst, taken, turned_away, proposal, proposed}
use Rattle.promotion_heuristic.specs.Rounds.{left_out, IsReached, AreSettled}
use Rattle.promotion_heuristic.proofs.Counting.{one_if}
use Rattle.promotion_heuristic.proofs.Finding.{find-none, find-below}
use Rattle.promotion_heuristic.proofs.Standings.{next_is, standing-same, standing-other, length-turned_away, after-unassigned}
use Rattle.promotion_heuristic.proofs.Proposals.{IsProposal, proposal_is}
use Rattle.promotion_heuristic.proofs.Worst.{worst-some}
use Rattle.promotion_heuristic.proofs.Exchange.{held-apart}
use Rattle.promotion_heuristic.proofs.Steps.{takes, is_refused, exchanges, outcome, tries_left, one-or-none, fewer-left, reached-fair, reached-proposed}

-- of the first residents up to r, only the one named may be waiting; it is unassigned; the others haven't begun
pub record IsChain (lists : Lists) (s : List Standing) (r : ℕ) (named : Option ℕ) : Type 0 where
  pub out : IfSome named (λ c. (c ≤ r) × ((standing_of s c).assigned ≡ false))
  pub others : (x : ℕ) → x ≤ r → (named ≡ Some x → ⊥) → is_waiting lists s x ≡ false
  pub untouched : (x : ℕ) → r < x → standing_of s x ≡ at_top

waits_by : Lists → ℕ → Standing → Bool
waits_by lists x v = not v.assigned && is_some (next_after lists x v.last)

same-waiting : (lists : Lists) (s t : List Standing) (x : ℕ) → standing_of t x ≡ standing_of s x → is_waiting lists t x ≡ is_waiting lists s x
unfolding waits_by
same-waiting lists s t x e = ap (waits_by lists x) e

assigned-waiting : (lists : Lists) (t : List Standing) (x : ℕ) → (standing_of t x).assigned ≡ true → is_waiting lists t x ≡ false
assigned-waiting lists t x e = ap (λ b. not b && is_some (next_pair lists t x)) e

some_same : (a b : ℕ) → Some a ≡ Some b → a ≡ b
some_same a b e = cc

-- the one that is named makes the next proposal
pub chain-proposal : (lists : Lists) (s : List Standing) (r c p : ℕ) → r < length lists.residents → IsChain lists s r (Some c) → next_pair lists s c ≡ Some p → proposal lists s ≡ Some p
chain-proposal lists s r c p l h e =
    let in_range : c < length lists.residents = omega (arith, h.out.0) in
    let waits : is_waiting lists s c ≡ true = and_from _ _ (not_from_false _ h.out.1) (ap is_some e) in
    let first = find-below (is_waiting lists s) (length lists.residents) c in_range waits
    (λ x less. h.others x (omega (arith, h.out.0)) (λ f. let same : c ≡ x = some_same c x f in omega arith)) in
    ap (option_and_then (next_pair lists s)) first ∙ e

pub next-resident : (lists : Lists) (s : List Standing) (c p : ℕ) → proposal lists s ≡ Some p → next_pair lists s c ≡ Some p → (pair_at lists p).resident ≡ c
next-resident lists s c p e f = (next_is lists c (standing_of s c).last p f).resident

after-taken : (lists : Lists) (s : List Standing) (r c p : ℕ) → IsChain lists s r (Some c) → (pair_at lists p).resident ≡ c → c < length s → IsChain lists (taken lists s p) r None
after-taken lists s r c p h e l = record {
  out = tt;
  others = λ x m apart. elim (cases_eq x (pair_at lists p).resident) [
    | inl same ↦ assigned-waiting lists (taken lists s p) x
        (ap (λ (v : Standing). v.assigned) (ap (standing_of (taken lists s p)) same ∙ standing-same s (pair_at lists p).resident _ (omega arith)))
    | inr other ↦ same-waiting lists s (taken lists s p) x (standing-other s _ _ _ other) ∙ h.others x m (λ f. other (sym (some_same c x f) ∙ sym e))
  ];
  untouched = λ x m. standing-other s _ _ _ (let few : c ≤ r = h.out.0 in λ f. omega arith) ∙ h.untouched x m;
}

after-refused : (lists : Lists) (s : List Standing) (r c p : ℕ) → IsChain lists s r (Some c) → (pair_at lists p).resident ≡ c → c < length s →
    IsChain lists (turned_away lists s p) r (Some (pair_at lists p).resident)
after-refused lists s r c p h e l = record {
  out = (omega (arith, h.out.0), ap (λ (v : Standing). v.assigned) (standing-same s (pair_at lists p).resident _ (omega arith)) ∙ after-unassigned lists _ _ p);
  others = λ x m apart.
      let other : x ≡ (pair_at lists p).resident → ⊥ = λ f. apart (ap Some (sym f)) in
      same-waiting lists s (turned_away lists s p) x (standing-other s _ _ _ other) ∙ h.others x m (λ f. other (sym (some_same c x f) ∙ sym e));
  untouched = λ x m. standing-other s _ _ _ (let few : c ≤ r = h.out.0 in λ f. omega arith) ∙ h.untouched x m;
}

after-exchange : (lists : Lists) (s : List Standing) (r c p w : ℕ) → IsChain lists s r (Some c) → (pair_at lists p).resident ≡ c → c < length s → IsProposal lists s p →
    holds lists s w ≡ true → (pair_at lists w).resident < length s → IsChain lists (taken lists (turned_away lists s w) p) r (Some (pair_at lists w).resident)
after-exchange lists s r c p w h e l a held m =
    let u = turned_away lists s w in
    let t = taken lists u p in
    let ends : (pair_at lists p).resident ≡ (pair_at lists w).resident → ⊥ = held-apart lists s p w a held in
    let few : c ≤ r = h.out.0 in
    let began : (pair_at lists w).resident ≤ r = elim (cases_lt r (pair_at lists w).resident) [
      | inl later ↦ absurd (true≢false (sym (and_parts _ _ held).0 ∙ ap (λ (v : Standing). v.assigned) (h.untouched (pair_at lists w).resident later)))
      | inr before ↦ before
    ] in
    record {
      out = (began, ap (λ (v : Standing). v.assigned) (standing-other u _ _ _ (λ f. ends (sym f)) ∙ standing-same s (pair_at lists w).resident _ m) ∙ after-unassigned lists _ _ w);
      others = λ x k apart. elim (cases_eq x (pair_at lists p).resident) [
        | inl same ↦ assigned-waiting lists t x
            (ap (λ (v : Standing). v.assigned) (ap (standing_of t) same ∙ standing-same u (pair_at lists p).resident _ (omega (arith, length-turned_away lists s w))))
        | inr other ↦
            same-waiting lists s t x (standing-other u _ _ _ other ∙ standing-other s _ _ _ (λ f. apart (ap Some (sym f))))
            ∙ h.others x k (λ f. other (sym (some_same c x f) ∙ sym e))
      ];
      untouched = λ x k. standing-other u _ _ _ (λ f. omega arith) ∙ standing-other s _ _ _ (λ f. omega arith) ∙ h.untouched x k;
    }

-- and after it, the one that is left unassigned is named
pub chain-proposed : (lists : Lists) (s : List Standing) (r c p : ℕ) → length s ≡ length lists.residents → IsChain lists s r (Some c) → proposal lists s ≡ Some p →
    (pair_at lists p).resident ≡ c → IsChain lists (proposed lists s p) r (left_out lists s p)
chain-proposed lists s r c p sized h proposes e =
    let a = proposal_is lists s p proposes in
    let l : c < length s = omega (arith, a.declared) in
    elim (outcome lists s p a) [
      | takes room is left ↦
          subst (λ (t : List Standing). IsChain lists t r (left_out lists s p)) (sym is) (subst (λ (o : Option ℕ). IsChain lists (taken lists s p) r o) (sym left) (after-taken lists s r c p h e l))
      | is_refused filled is left ↦
          subst (λ (t : List Standing). IsChain lists t r (left_out lists s p)) (sym is) (subst (λ (o : Option ℕ). IsChain lists (turned_away lists s p) r o) (sym left) (after-refused lists s r c p h e l))
      | exchanges w x is left ↦
          let held = x.worst_is.held in
          let m : (pair_at lists w).resident < length s = omega (arith, (pair_at-acceptable lists w held.number).resident_declared) in
          subst (λ (t : List Standing). IsChain lists t r (left_out lists s p)) (sym is)
          (subst (λ (o : Option ℕ). IsChain lists (taken lists (turned_away lists s w) p) r o) (sym left) (after-exchange lists s r c p w h e l a held.held m))
    ]

-- the resident of a proposal stands as it did after another was put out
pub unassigned-still : (lists : Lists) (s : List Standing) (p w : ℕ) → proposal lists s ≡ Some p → worst lists s (pair_at lists p).hospital ≡ Some w →
    (standing_of (turned_away lists s w) (pair_at lists p).resident).assigned ≡ false
unassigned-still lists s p w e f =
    let a = proposal_is lists s p e in
    ap (λ (v : Standing). v.assigned) (standing-other s _ _ _ (held-apart lists s p w a (worst-some lists s _ w f).held.held)) ∙ a.unassigned

pub proposer-unassigned : (lists : Lists) (s : List Standing) (p : ℕ) → proposal lists s ≡ Some p → (standing_of s (pair_at lists p).resident).assigned ≡ false
proposer-unassigned lists s p e = (proposal_is lists s p e).unassigned

-- ---- all residents

pub settled-ended : (lists : Lists) (s : List Standing) → AreSettled lists s (length lists.residents) → proposal lists s ≡ None
settled-ended lists s a =
    ap (option_and_then (next_pair lists s))
    (find-none (is_waiting lists s) (below (length lists.residents)) (λ x i. a.settled x (ltb-true x _ (sym (is_in-below (length lists.residents) x) ∙ i))))

pub proposer-declared : (lists : Lists) (s : List Standing) (p : ℕ) → length s ≡ length lists.residents → proposal lists s ≡ Some p → (pair_at lists p).resident < length s
proposer-declared lists s p sized e = omega (arith, (proposal_is lists s p e).declared)

-- ---- one turn of the chain

-- the pair that the named resident finds ahead
pub record IsTurn (lists : Lists) (s : List Standing) (r c p : ℕ) (named : Option ℕ) : Type 0 where
  pub declared : r < length lists.residents
  pub is : named ≡ Some c
  pub chain : IsChain lists s r named
  pub ahead : Some p ≡ next_pair lists s c

turn-chain : (lists : Lists) (s : List Standing) (r c p : ℕ) (named : Option ℕ) → IsTurn lists s r c p named → IsChain lists s r (Some c)
turn-chain lists s r c p named h = subst (λ (o : Option ℕ). IsChain lists s r o) h.is h.chain

pub turn-proposal : (lists : Lists) (s : List Standing) (r c p : ℕ) (named : Option ℕ) → IsTurn lists s r c p named → proposal lists s ≡ Some p
turn-proposal lists s r c p named h = chain-proposal lists s r c p h.declared (turn-chain lists s r c p named h) (sym h.ahead)

pub turn-number : (lists : Lists) (s : List Standing) (r c p : ℕ) (named : Option ℕ) → IsTurn lists s r c p named → IsPairNo lists p
turn-number lists s r c p named h = (proposal_is lists s p (turn-proposal lists s r c p named h)).number

pub turn-chained : (lists : Lists) (s t : List Standing) (r c p : ℕ) (named left : Option ℕ) → IsTurn lists s r c p named → length s ≡ length lists.residents →
    t ≡ proposed lists s p → left ≡ left_out lists s p → IsChain lists t r left
turn-chained lists s t r c p named left h sized e f =
    let proposes = turn-proposal lists s r c p named h in
    subst (λ (u : List Standing). IsChain lists u r left) (sym e)
    (subst (λ (o : Option ℕ). IsChain lists (proposed lists s p) r o) (sym f)
    (chain-proposed lists s r c p sized (turn-chain lists s r c p named h) proposes (next-resident lists s c p proposes (sym h.ahead))))

pub turn-reached : (lists : Lists) (s t : List Standing) (r c p : ℕ) (named : Option ℕ) → IsTurn lists s r c p named → t ≡ proposed lists s p → IsReached lists s → IsReached lists t
turn-reached lists s t r c p named h e reached =
    subst (IsReached lists) (sym e) (reached-proposed lists s p reached (turn-proposal lists s r c p named h))

pub turn-fewer : (lists : Lists) (s t : List Standing) (r c p : ℕ) (named left : Option ℕ) → IsTurn lists s r c p named → t ≡ proposed lists s p → IsReached lists s →
    tries_left lists t + one_if (is_some left) < tries_left lists s + one_if (is_some named)
turn-fewer lists s t r c p named left h e reached =
    let fewer : tries_left lists (proposed lists s p) < tries_left lists s =
    fewer-left lists s p (reached-fair lists s reached) (proposal_is lists s p (turn-proposal lists s r c p named h)) in
    let one : one_if (is_some named) ≡ 1 = ap (λ o. one_if (is_some o)) h.is in
    omega (arith, one-or-none (is_some left), ap (tries_left lists) e)
