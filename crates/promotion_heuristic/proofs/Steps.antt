-- Every step keeps what is fair, and leaves fewer proposals to come.
use Rattle.std.proofs.Common.{◌≡◌, ℕ, zero, suc, ◌+◌, ◌*◌, ◌<◌, ◌≤◌, Bool, true, false, not, ◌||◌, ◌==◌, nat_lt, nat_le, cond, List, set, length, replicate, sum_by, get_or, Option, Some, None, is_some, option_map, unwrap_or, refl, sym, ap, ◌∙◌, inl, inr, subst, arith}
use Rattle.std.proofs.lemmas.Bool.{true≢false, and_left, ltb-false, lt-ltb, le-ltb, leb-true, cases_eq, cases_lt}
use Rattle.std.proofs.lemmas.List.{length-replicate}
use Rattle.rank_tables.specs.Numbers.{numbers_to}
use Rattle.rank_tables.specs.Instance.{Lists, pair_count, pair_at, rank_by_hospital}
use Rattle.rank_tables.specs.Tables.{IsPairNo}
use Rattle.rank_tables.proofs.Below.{length-numbers_to}
use Rattle.rank_tables.proofs.PairNumbers.{pair_listed}
use Rattle.promotion_heuristic.specs.declared.standing.Standing.{Standing}
use Rattle.promotion_heuristic.specs.Promotion.{at_top, start, standing_of, is_promoted, holds, next_after, after, is_lower, worst, taken, turned_away, has_room, displaced, proposed, proposal, steps, final}
use Rattle.promotion_heuristic.specs.Rounds.{left_out, IsReached}
use Rattle.promotion_heuristic.proofs.Counting.{one_if, count_by-filter_and, sum_lt, sum_within}
use Rattle.promotion_heuristic.proofs.Standings.{standing-same, standing-other, Reaches}
use Rattle.promotion_heuristic.proofs.Worst.{worst-some, worst-none, worst-rank, not_lower-rank}
use Rattle.promotion_heuristic.proofs.Proposals.{IsProposal, proposal_is}
use Rattle.promotion_heuristic.proofs.Fair.{uses, IsFilled, IsFair, declared, reached, fair-taken, fair-refused}
use Rattle.promotion_heuristic.proofs.Exchange.{Exchanges, worst-reached, put_out-reached, put_out-proposal, fair-exchanged}

-- ---- what a step comes to

-- a proposal takes a free post, or is refused, or takes the place of another
pub data Outcome (lists : Lists) (s : List Standing) (p : ℕ) : Type 0 where
  takes : has_room lists s (pair_at lists p).hospital ≡ true → proposed lists s p ≡ taken lists s p → left_out lists s p ≡ None → Outcome lists s p
  is_refused : IsFilled lists s p → proposed lists s p ≡ turned_away lists s p → left_out lists s p ≡ Some (pair_at lists p).resident → Outcome lists s p
  exchanges : (w : ℕ) → Exchanges lists s p w → proposed lists s p ≡ taken lists (turned_away lists s w) p → left_out lists s p ≡ Some (pair_at lists w).resident →
      Outcome lists s p

pub displaced-lower : (lists : Lists) (s : List Standing) (p w : ℕ) → worst lists s (pair_at lists p).hospital ≡ Some w → is_lower lists s w p ≡ true → displaced lists s p ≡ Some w
displaced-lower lists s p w e f = rw (e, f) refl

pub displaced-no_lower : (lists : Lists) (s : List Standing) (p w : ℕ) → worst lists s (pair_at lists p).hospital ≡ Some w → is_lower lists s w p ≡ false → displaced lists s p ≡ None
displaced-no_lower lists s p w e f = rw (e, f) refl

pub displaced-none : (lists : Lists) (s : List Standing) (p : ℕ) → worst lists s (pair_at lists p).hospital ≡ None → displaced lists s p ≡ None
displaced-none lists s p e = rw e refl

by_worst : (lists : Lists) (s : List Standing) (p w : ℕ) (b : Bool) → IsProposal lists s p → has_room lists s (pair_at lists p).hospital ≡ false →
    worst lists s (pair_at lists p).hospital ≡ Some w → is_lower lists s w p ≡ b → Outcome lists s p
by_worst lists s p w true a room e f =
    exchanges w (record { proposed_by = a; full = ltb-false _ _ room; worst_is = worst-some lists s _ w e; lower = f })
    (rw (room, displaced-lower lists s p w e f) refl) (rw (room, displaced-lower lists s p w e f) refl)
by_worst lists s p w false a room e f = is_refused
    (record {
      full = ltb-false _ _ room;
      higher = λ o at.
          let above : rank_by_hospital lists o ≤ rank_by_hospital lists w = worst-rank lists s _ w o (worst-some lists s _ w e) at in
          let low : rank_by_hospital lists w ≤ rank_by_hospital lists p = not_lower-rank lists s w p f in
          omega arith;
    })
    (rw (room, displaced-no_lower lists s p w e f) refl) (rw (room, displaced-no_lower lists s p w e f) refl)

by_room : (lists : Lists) (s : List Standing) (p : ℕ) (b : Bool) (o : Option ℕ) → IsProposal lists s p → has_room lists s (pair_at lists p).hospital ≡ b →
    worst lists s (pair_at lists p).hospital ≡ o → Outcome lists s p
by_room lists s p true o a room e = takes room (rw room refl) (rw room refl)
by_room lists s p false None a room e = is_refused
    (record { full = ltb-false _ _ room; higher = λ o at. absurd (worst-none lists s _ e o at) })
    (rw (room, displaced-none lists s p e) refl) (rw (room, displaced-none lists s p e) refl)
by_room lists s p false (Some w) a room e = by_worst lists s p w (is_lower lists s w p) a room e refl

pub outcome : (lists : Lists) (s : List Standing) (p : ℕ) → IsProposal lists s p → Outcome lists s p
outcome lists s p a = by_room lists s p (has_room lists s (pair_at lists p).hospital) (worst lists s (pair_at lists p).hospital) a refl refl

pub fair-proposed : (lists : Lists) (s : List Standing) (p : ℕ) → IsFair lists s → IsProposal lists s p → IsFair lists (proposed lists s p)
fair-proposed lists s p f a = elim (outcome lists s p a) [
  | takes room e _ ↦ subst (IsFair lists) (sym e) (fair-taken lists s p f a room)
  | is_refused filled e _ ↦ subst (IsFair lists) (sym e) (fair-refused lists s p f a filled)
  | exchanges w x e _ ↦ subst (IsFair lists) (sym e) (fair-exchanged lists s p w f x)
]

-- ---- the start

pub standing-start : (n r : ℕ) → get_or (replicate n at_top) r at_top ≡ at_top
standing-start zero r = refl
standing-start (suc n) zero = refl
standing-start (suc n) (suc r) = standing-start n r

pub nothing-held : (lists : Lists) (q : ℕ) → holds lists (start lists) q ≡ false
nothing-held lists q = and_left _ _ (ap (λ (v : Standing). v.assigned) (standing-start (length lists.residents) (pair_at lists q).resident))

pub fair-start : (lists : Lists) → IsFair lists (start lists)
fair-start lists = record {
  sized = length-replicate (length lists.residents) at_top;
  own = λ r a. absurd (true≢false (sym a ∙ ap (λ (v : Standing). v.assigned) (standing-start (length lists.residents) r)));
  within = λ h.
      let none : uses lists (start lists) h ≤ 0 * length (numbers_to (pair_count lists)) =
      subst (λ (n : ℕ). n ≤ 0 * length (numbers_to (pair_count lists))) (sym (count_by-filter_and (holds lists (start lists)) (λ q. (pair_at lists q).hospital == h) (numbers_to (pair_count lists))))
      (sum_within _ 0 (numbers_to (pair_count lists)) (λ q. omega (arith, ap one_if (and_left _ ((pair_at lists q).hospital == h) (nothing-held lists q))))) in
      omega arith;
  refused = λ q n c none.
      let top = standing-start (length lists.residents) (pair_at lists q).resident in
      let below : (false || nat_le q 0) ≡ true = subst (λ (v : Standing). (v.promoted || nat_le q v.last) ≡ true) top c in
      absurd (let few : q ≤ 0 = leb-true q 0 below in omega (arith, n.0));
}

-- ---- how many proposals are left

-- how often a resident may still propose by a pair
abbrev tries_by : Standing → ℕ → ℕ
tries_by v q = one_if (nat_lt v.last q) + one_if (not v.promoted)

abbrev pub tries : Lists → List Standing → ℕ → ℕ
tries lists s q = tries_by (standing_of s (pair_at lists q).resident) q

abbrev pub tries_left : Lists → List Standing → ℕ
tries_left lists s = sum_by (tries lists s) (numbers_to (pair_count lists))

tries-set : (lists : Lists) (s : List Standing) (r : ℕ) (v : Standing) (q : ℕ) → r < length s → ((pair_at lists q).resident ≡ r → tries_by v q ≤ tries lists s q) →
    tries lists (set s r v) q ≤ tries lists s q
tries-set lists s r v q l h = elim (cases_eq (pair_at lists q).resident r) [
  | inl same ↦ subst (λ (w : Standing). tries_by w q ≤ tries lists s q) (sym (ap (standing_of (set s r v)) same ∙ standing-same s r v l)) (h same)
  | inr apart ↦ subst (λ (w : Standing). tries_by w q ≤ tries lists s q) (sym (standing-other s r _ v apart)) (omega arith)
]

pub one-or-none : (b : Bool) → one_if b ≤ 1
one-or-none true = omega arith
one-or-none false = omega arith

fewer-later : (m n q : ℕ) → m ≤ n → one_if (nat_lt n q) ≤ one_if (nat_lt m q)
fewer-later m n q l = elim (cases_lt n q) [
  | inl less ↦ rw (lt-ltb n q less, let b : nat_lt m q ≡ true = lt-ltb m q (omega arith) in b) (omega arith)
  | inr more ↦ rw (le-ltb n q more) (omega arith)
]

-- after a resident came to p, by which it goes on
tries-on : (v : Standing) (p q : ℕ) (b : Bool) → v.last ≤ p → tries_by (record { last = p; promoted = v.promoted; assigned = b }) q ≤ tries_by v q
tries-on v p q b l = let e = fewer-later v.last p q l in omega arith

tries-after : (v : Standing) (p q : ℕ) (b c : Bool) → v.promoted ≡ b → v.last ≤ p →
    tries_by (cond (b || c) (record { last = p; promoted = b; assigned = false }) (record { last = 0; promoted = true; assigned = false })) q ≤ tries_by v q
tries-after v p q true c e l =
    let less = fewer-later v.last p q l in omega (arith, ap (λ x. one_if (not x)) e)
tries-after v p q false true e l =
    let less = fewer-later v.last p q l in omega (arith, ap (λ x. one_if (not x)) e)
tries-after v p q false false e l = omega (arith, ap (λ x. one_if (not x)) e, one-or-none (nat_lt 0 q))

pub tries-taken : (lists : Lists) (s : List Standing) (p q : ℕ) → Reaches lists s p → tries lists (taken lists s p) q ≤ tries lists s q
tries-taken lists s p q h = tries-set lists s _ _ q h.declared (λ same.
    subst (λ (r : ℕ). tries_by (record { last = p; promoted = is_promoted lists s p; assigned = true }) q ≤ tries_by (standing_of s r) q) (sym same)
    (tries-on (standing_of s (pair_at lists p).resident) p q true h.forward))

pub tries-turned_away : (lists : Lists) (s : List Standing) (p q : ℕ) → Reaches lists s p → tries lists (turned_away lists s p) q ≤ tries lists s q
tries-turned_away lists s p q h = tries-set lists s _ _ q h.declared (λ same.
    subst (λ (r : ℕ). tries_by (after lists (pair_at lists p).resident (is_promoted lists s p) p) q ≤ tries_by (standing_of s r) q) (sym same)
    (tries-after (standing_of s (pair_at lists p).resident) p q (is_promoted lists s p) (is_some (next_after lists (pair_at lists p).resident p)) refl h.forward))

-- the pair by which a resident proposes has one try fewer
less-on : (v : Standing) (p : ℕ) (b : Bool) → v.last < p → tries_by (record { last = p; promoted = v.promoted; assigned = b }) p < tries_by v p
less-on v p b l = omega (arith, ap one_if (lt-ltb v.last p l), ap one_if (le-ltb p p (omega arith)))

less-after : (v : Standing) (p : ℕ) (b c : Bool) → v.promoted ≡ b → v.last < p →
    tries_by (cond (b || c) (record { last = p; promoted = b; assigned = false }) (record { last = 0; promoted = true; assigned = false })) p < tries_by v p
less-after v p true c e l = omega (arith, ap (λ x. one_if (not x)) e, ap one_if (lt-ltb v.last p l), ap one_if (le-ltb p p (omega arith)))
less-after v p false true e l = omega (arith, ap (λ x. one_if (not x)) e, ap one_if (lt-ltb v.last p l), ap one_if (le-ltb p p (omega arith)))
less-after v p false false e l = omega (arith, ap (λ x. one_if (not x)) e, ap one_if (lt-ltb v.last p l), one-or-none (nat_lt 0 p))

less-taken : (lists : Lists) (s : List Standing) (p : ℕ) → (pair_at lists p).resident < length s → (standing_of s (pair_at lists p).resident).last < p →
    tries lists (taken lists s p) p < tries lists s p
less-taken lists s p l h =
    subst (λ (w : Standing). tries_by w p < tries lists s p) (sym (standing-same s (pair_at lists p).resident _ l)) (less-on (standing_of s (pair_at lists p).resident) p true h)

less-turned_away : (lists : Lists) (s : List Standing) (p : ℕ) → (pair_at lists p).resident < length s → (standing_of s (pair_at lists p).resident).last < p →
    tries lists (turned_away lists s p) p < tries lists s p
less-turned_away lists s p l h =
    subst (λ (w : Standing). tries_by w p < tries lists s p) (sym (standing-same s (pair_at lists p).resident _ l))
    (less-after (standing_of s (pair_at lists p).resident) p (is_promoted lists s p) (is_some (next_after lists (pair_at lists p).resident p)) refl h)

less-left : (lists : Lists) (s t : List Standing) (p : ℕ) → IsPairNo lists p → ((q : ℕ) → tries lists t q ≤ tries lists s q) → tries lists t p < tries lists s p →
    tries_left lists t < tries_left lists s
less-left lists s t p n h l = sum_lt (tries lists t) (tries lists s) p (numbers_to (pair_count lists)) (λ q i. h q) (pair_listed lists p n) l

pub fewer-left : (lists : Lists) (s : List Standing) (p : ℕ) → IsFair lists s → IsProposal lists s p → tries_left lists (proposed lists s p) < tries_left lists s
fewer-left lists s p f a = elim (outcome lists s p a) [
  | takes room e _ ↦ subst (λ (t : List Standing). tries_left lists t < tries_left lists s) (sym e)
      (less-left lists s (taken lists s p) p a.number (λ q. tries-taken lists s p q (reached lists s p f a)) (less-taken lists s p (declared lists s p f a) a.next.later))
  | is_refused filled e _ ↦ subst (λ (t : List Standing). tries_left lists t < tries_left lists s) (sym e)
      (less-left lists s (turned_away lists s p) p a.number (λ q. tries-turned_away lists s p q (reached lists s p f a)) (less-turned_away lists s p (declared lists s p f a) a.next.later))
  | exchanges w x e _ ↦
      let u = turned_away lists s w in
      let on : (q : ℕ) → tries lists (taken lists u p) q ≤ tries lists u q = λ q. tries-taken lists u p q (put_out-reached lists s p w f x) in
      let out : (q : ℕ) → tries lists u q ≤ tries lists s q = λ q. tries-turned_away lists s w q (worst-reached lists s p w f x) in
      let less : tries lists (taken lists u p) p < tries lists u p = less-taken lists u p (put_out-reached lists s p w f x).declared (put_out-proposal lists s p w x).next.later in
      subst (λ (t : List Standing). tries_left lists t < tries_left lists s) (sym e)
      (less-left lists s (taken lists u p) p a.number (λ q. omega (arith, on q, out q)) (omega (arith, less, out p)))
]

-- ---- the end

tries-two : (v : Standing) (q : ℕ) → tries_by v q ≤ 2
tries-two v q = omega (arith, one-or-none (nat_lt v.last q), one-or-none (not v.promoted))

pub start-left : (lists : Lists) (s : List Standing) → tries_left lists s ≤ 2 * pair_count lists
start-left lists s =
    subst (λ (n : ℕ). tries_left lists s ≤ 2 * n) (length-numbers_to (pair_count lists)) (sum_within (tries lists s) 2 (numbers_to (pair_count lists)) (λ q. tries-two (standing_of s (pair_at lists q).resident) q))

-- the standings after a step, if there is one
abbrev next_of : Lists → List Standing → (List Standing → List Standing) → Option ℕ → List Standing
next_of lists s more o = unwrap_or (option_map more (option_map (proposed lists s) o)) s

pub steps-proposed : (lists : Lists) (n : ℕ) (s : List Standing) (p : ℕ) → proposal lists s ≡ Some p → steps lists (suc n) s ≡ steps lists n (proposed lists s p)
steps-proposed lists n s p e = ap (next_of lists s (steps lists n)) e

pub steps-ended : (lists : Lists) (n : ℕ) (s : List Standing) → proposal lists s ≡ None → steps lists n s ≡ s
steps-ended lists zero s e = refl
steps-ended lists (suc n) s e = ap (next_of lists s (steps lists n)) e

pub fair-steps : (lists : Lists) (n : ℕ) (s : List Standing) → IsFair lists s → IsFair lists (steps lists n s)
fair-steps lists zero s f = f
fair-steps lists (suc n) s f = elim (proposal lists s) as (λ o. proposal lists s ≡ o → IsFair lists (next_of lists s (steps lists n) o)) [
  | None ↦ λ e. f
  | Some p ↦ λ e. fair-steps lists n (proposed lists s p) (fair-proposed lists s p f (proposal_is lists s p e))
] refl

-- after as many steps as there are tries left, nobody proposes
pub ended : (lists : Lists) (n : ℕ) (s : List Standing) → IsFair lists s → tries_left lists s ≤ n → proposal lists (steps lists n s) ≡ None
ended lists zero s f few = elim (proposal lists s) as (λ o. proposal lists s ≡ o → proposal lists s ≡ None) [
  | None ↦ λ e. e
  | Some p ↦ λ e. absurd (let less = fewer-left lists s p f (proposal_is lists s p e) in omega arith)
] refl
ended lists (suc n) s f few = elim (proposal lists s) as (λ o. proposal lists s ≡ o → proposal lists (next_of lists s (steps lists n) o) ≡ None) [
  | None ↦ λ e. e
  | Some p ↦ λ e.
      let a = proposal_is lists s p e in
      ended lists n (proposed lists s p) (fair-proposed lists s p f a) (let less = fewer-left lists s p f a in omega arith)
] refl

-- the steps end in the final standings
pub final-ended : (lists : Lists) → proposal lists (final lists) ≡ None
final-ended lists = ended lists (2 * pair_count lists) (start lists) (fair-start lists) (start-left lists (start lists))

pub final-fair : (lists : Lists) → IsFair lists (final lists)
final-fair lists = fair-steps lists (2 * pair_count lists) (start lists) (fair-start lists)

-- where steps end, they end in one way, however many are asked for
same_end : (lists : Lists) (m n : ℕ) (s : List Standing) → proposal lists (steps lists m s) ≡ None → proposal lists (steps lists n s) ≡ None → steps lists m s ≡ steps lists n s
same_end lists zero n s e f = sym (steps-ended lists n s e)
same_end lists (suc m) zero s e f = steps-ended lists (suc m) s f
same_end lists (suc m) (suc n) s e f = elim (proposal lists s) as (λ o. proposal lists s ≡ o → steps lists (suc m) s ≡ steps lists (suc n) s) [
  | None ↦ λ p. steps-ended lists (suc m) s p ∙ sym (steps-ended lists (suc n) s p)
  | Some q ↦ λ p.
      let left = steps-proposed lists m s q p in
      let right = steps-proposed lists n s q p in
      left ∙ same_end lists m n (proposed lists s q) (ap (proposal lists) (sym left) ∙ e) (ap (proposal lists) (sym right) ∙ f) ∙ sym right
] refl

pub reached-final : (lists : Lists) (s : List Standing) → IsReached lists s → proposal lists s ≡ None → s ≡ final lists
reached-final lists s r e =
    sym r.after ∙ same_end lists r.count (2 * pair_count lists) (start lists) (ap (proposal lists) r.after ∙ e) (final-ended lists)

pub reached-fair : (lists : Lists) (s : List Standing) → IsReached lists s → IsFair lists s
reached-fair lists s r = subst (IsFair lists) r.after (fair-steps lists r.count (start lists) (fair-start lists))

one_step : (lists : Lists) (n : ℕ) (s : List Standing) → steps lists (suc n) s ≡ steps lists 1 (steps lists n s)
one_step lists zero s = refl
one_step lists (suc n) s = elim (proposal lists s) as (λ o. proposal lists s ≡ o → steps lists (suc (suc n)) s ≡ steps lists 1 (steps lists (suc n) s)) [
  | None ↦ λ e. steps-ended lists (suc (suc n)) s e ∙ sym (steps-ended lists 1 s e) ∙ ap (steps lists 1) (sym (steps-ended lists (suc n) s e))
  | Some p ↦ λ e. steps-proposed lists (suc n) s p e ∙ one_step lists n (proposed lists s p) ∙ ap (steps lists 1) (sym (steps-proposed lists n s p e))
] refl

pub reached-proposed : (lists : Lists) (s : List Standing) (p : ℕ) → IsReached lists s → proposal lists s ≡ Some p → IsReached lists (proposed lists s p)
reached-proposed lists s p r e = record {
  count = suc r.count;
  after = one_step lists r.count (start lists) ∙ ap (steps lists 1) r.after ∙ steps-proposed lists 0 s p e;
}
