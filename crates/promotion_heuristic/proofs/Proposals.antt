-- What is proposed, and what stands where nothing is.
use Rattle.std.proofs.Common.{◌≡◌, ℕ, ◌<◌, Bool, true, false, not, ◌&&◌, List, length, find, Option, Some, None, is_some, refl, sym, ap, ◌∙◌, subst}
use Rattle.std.specs.Option.{option_and_then}
use Rattle.std.proofs.lemmas.Bool.{true≢false, and_parts, lt-ltb, not-true}
use Rattle.rank_tables.specs.Numbers.{below}
use Rattle.rank_tables.specs.Instance.{Lists, pair_at}
use Rattle.rank_tables.specs.Tables.{IsPairNo}
use Rattle.rank_tables.proofs.Numbers.{is_in-below}
use Rattle.rank_tables.proofs.PairFacts.{pair_at-acceptable}
use Rattle.promotion_heuristic.specs.declared.standing.Standing.{Standing}
use Rattle.promotion_heuristic.specs.Promotion.{standing_of, next_pair, is_waiting, proposal}
use Rattle.promotion_heuristic.proofs.Finding.{found, none_found}
use Rattle.promotion_heuristic.proofs.Standings.{IsNext, next_is}

pub record IsProposal (lists : Lists) (s : List Standing) (p : ℕ) : Type 0 where
  pub number : IsPairNo lists p
  pub declared : (pair_at lists p).resident < length lists.residents
  pub unassigned : (standing_of s (pair_at lists p).resident).assigned ≡ false
  pub next : IsNext lists (pair_at lists p).resident (standing_of s (pair_at lists p).resident).last p

from_next : (lists : Lists) (s : List Standing) (r p : ℕ) → (standing_of s r).assigned ≡ false → next_pair lists s r ≡ Some p → IsProposal lists s p
from_next lists s r p free e =
    let next : IsNext lists r (standing_of s r).last p = next_is lists r (standing_of s r).last p e in
    record {
      number = next.number;
      declared = (pair_at-acceptable lists p next.number).resident_declared;
      unassigned = subst (λ (x : ℕ). (standing_of s x).assigned ≡ false) (sym next.resident) free;
      next = subst (λ (x : ℕ). IsNext lists x (standing_of s x).last p) (sym next.resident) next;
    }

waiting_parts : (lists : Lists) (s : List Standing) (r : ℕ) → find (is_waiting lists s) (below (length lists.residents)) ≡ Some r →
    ((standing_of s r).assigned ≡ false) × (is_some (next_pair lists s r) ≡ true)
waiting_parts lists s r e =
    let is = found (is_waiting lists s) r (below (length lists.residents)) e in
    let parts = and_parts _ _ is.1 in
    (not-true _ parts.0, parts.1)

proposal_of : (lists : Lists) (s : List Standing) (p : ℕ) (o : Option ℕ) → find (is_waiting lists s) (below (length lists.residents)) ≡ o →
    option_and_then (next_pair lists s) o ≡ Some p → IsProposal lists s p
proposal_of lists s p None f e = absurd (cc)
proposal_of lists s p (Some r) f e = from_next lists s r p (waiting_parts lists s r f).0 e

pub proposal_is : (lists : Lists) (s : List Standing) (p : ℕ) → proposal lists s ≡ Some p → IsProposal lists s p
proposal_is lists s p e = proposal_of lists s p (find (is_waiting lists s) (below (length lists.residents))) refl e

no_next : (o : Option ℕ) → is_some o ≡ false → o ≡ None
no_next None e = refl
no_next (Some x) e = absurd (true≢false e)

none_left : (a b : Bool) → (not a && b) ≡ false → a ≡ false → b ≡ false
none_left true b e f = absurd (true≢false f)
none_left false b e f = e

not_waiting : (lists : Lists) (s : List Standing) (r : ℕ) (o : Option ℕ) → r < length lists.residents → (standing_of s r).assigned ≡ false →
    find (is_waiting lists s) (below (length lists.residents)) ≡ o → option_and_then (next_pair lists s) o ≡ None → next_pair lists s r ≡ None
not_waiting lists s r None l free f e =
    no_next (next_pair lists s r) (none_left _ _ (none_found (is_waiting lists s) r (below (length lists.residents)) f (is_in-below (length lists.residents) r ∙ lt-ltb r _ l)) free)
not_waiting lists s r (Some x) l free f e = absurd (true≢false (sym (waiting_parts lists s x f).1 ∙ ap is_some e))

-- where nothing is proposed, each unassigned resident is at the end of its list
pub proposal_none : (lists : Lists) (s : List Standing) → proposal lists s ≡ None → (r : ℕ) → r < length lists.residents →
    (standing_of s r).assigned ≡ false → next_pair lists s r ≡ None
proposal_none lists s e r l free = not_waiting lists s r (find (is_waiting lists s) (below (length lists.residents))) l free refl e
