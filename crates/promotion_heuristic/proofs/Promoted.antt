-- What the public call gives, from the standings with which its loop ends.
use Rattle.std.proofs.Common.{◌≡◌, ℕ, List, length, Result, IfOk, All, IsTrue, None, OnOk, sym, ap, ◌∙◌, subst}
use Rattle.std.specs.declared.vec.Vec.{Vec}
use Rattle.std.specs.Global.{Global}
use Rattle.std.specs.List.Sorted.{IsStrictlyIncreasing}
use Rattle.std.proofs.lemmas.Result.{IfOk-weaker}
use Rattle.hrt_base.specs.declared.numbered.PairNo.{PairNo}
use Rattle.rank_tables.specs.Instance.{Lists, pair_count}
use Rattle.rank_tables.specs.Stability.{is_weakly_stable}
use Rattle.rank_tables.specs.Tables.{IsPairNo, numbers_of}
use Rattle.rank_tables.specs.WellFormed.{IsWellFormed}
use Rattle.rank_tables.proofs.StablePairs.{stable_numbers}
use Rattle.promotion_heuristic.specs.declared.standing.Standing.{Standing}
use Rattle.promotion_heuristic.specs.Promotion.{holds, held, proposal, final, promotion}
use Rattle.promotion_heuristic.specs.Rounds.{IsReached, AreSettled}
use Rattle.promotion_heuristic.proofs.Chains.{settled-ended}
use Rattle.rank_tables.proofs.Below.{rising-chosen}
use Rattle.promotion_heuristic.proofs.Stable.{promotion-stable}
use Rattle.promotion_heuristic.proofs.Steps.{final-ended, reached-final}

abbrev IsHeldBy : Lists → List Standing → Vec PairNo Global → Type 0
IsHeldBy lists s pairs = numbers_of pairs.items ≡ held lists s

-- after all residents were settled
pub record AllSettled (lists : Lists) (s : List Standing) (n : ℕ) : Type 0 where
  pub well_formed : IsWellFormed lists
  pub reached : IsReached lists s
  pub settled : AreSettled lists s n
  pub all : n ≡ length lists.residents

promoted : (lists : Lists) (s t : List Standing) (n : ℕ) (pairs : Vec PairNo Global) → AllSettled lists s n → t ≡ s → IsHeldBy lists t pairs → numbers_of pairs.items ≡ promotion lists
promoted lists s t n pairs h e held_by =
    let settled : AreSettled lists s (length lists.residents) = subst (λ (k : ℕ). AreSettled lists s k) h.all h.settled in
    held_by ∙ ap (held lists) (e ∙ reached-final lists s h.reached (settled-ended lists s settled))

pub if_ok-steps : {E : Type 0} (lists : Lists) (s t : List Standing) (n : ℕ) (r : Result (Vec PairNo Global) E) → AllSettled lists s n → t ≡ s →
    IfOk r (λ pairs. numbers_of pairs.items ≡ held lists t) → IfOk r (λ pairs. numbers_of pairs.items ≡ promotion lists)
if_ok-steps lists s t n r h e = IfOk-weaker r (IsHeldBy lists t) _ (λ pairs held_by. promoted lists s t n pairs h e held_by)

pub if_ok-ended : {T E : Type 0} (lists : Lists) (r : Result T E) (P : T → Type 0) → IfOk r P → OnOk r (proposal lists (final lists) ≡ None)
if_ok-ended lists r P = IfOk-weaker r P (λ x. proposal lists (final lists) ≡ None) (λ x h. final-ended lists)

pub if_ok-stable : {E : Type 0} (lists : Lists) (s t : List Standing) (n : ℕ) (r : Result (Vec PairNo Global) E) → AllSettled lists s n → t ≡ s →
    IfOk r (λ pairs. numbers_of pairs.items ≡ held lists t) → IfOk r (λ pairs. IsTrue (is_weakly_stable lists (numbers_of pairs.items)))
if_ok-stable lists s t n r h e = IfOk-weaker r (IsHeldBy lists t) _ (λ pairs held_by.
    ap (is_weakly_stable lists) (promoted lists s t n pairs h e held_by) ∙ promotion-stable lists h.well_formed)

pub if_ok-rising : {E : Type 0} (lists : Lists) (t : List Standing) (r : Result (Vec PairNo Global) E) →
    IfOk r (λ pairs. numbers_of pairs.items ≡ held lists t) → IfOk r (λ pairs. IsStrictlyIncreasing (numbers_of pairs.items))
if_ok-rising lists t r = IfOk-weaker r (IsHeldBy lists t) _ (λ pairs held_by. subst IsStrictlyIncreasing (sym held_by) (rising-chosen (holds lists t) (pair_count lists)))

pub if_ok-numbers : {E : Type 0} (lists : Lists) (s t : List Standing) (n : ℕ) (r : Result (Vec PairNo Global) E) → AllSettled lists s n → t ≡ s →
    IfOk r (λ pairs. numbers_of pairs.items ≡ held lists t) → IfOk r (λ pairs. All (λ (p : PairNo). IsPairNo lists p.0) pairs.items)
if_ok-numbers lists s t n r h e = IfOk-weaker r (IsHeldBy lists t) _ (λ pairs held_by.
    stable_numbers lists pairs.items (ap (is_weakly_stable lists) (promoted lists s t n pairs h e held_by) ∙ promotion-stable lists h.well_formed))
