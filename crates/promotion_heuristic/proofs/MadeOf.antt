-- Standings that are read, and values made of them.
use Rattle.std.proofs.Common.{◌≡◌, ℕ, ◌<◌, true, not, List, length, set, get_or, Some, sym, ap, ◌∙◌}
use Rattle.std.proofs.lemmas.List.{get_or_default}
use Rattle.rank_tables.specs.Instance.{Lists, pair_at, rank_by_hospital}
use Rattle.rank_tables.specs.Tables.{IsPairNo}
use Rattle.promotion_heuristic.specs.declared.standing.Standing.{Standing}
use Rattle.promotion_heuristic.specs.declared.tenant.Tenant.{Tenant}
use Rattle.promotion_heuristic.specs.Promotion.{at_top, standing_of, taken, worst}
use Rattle.promotion_heuristic.specs.Queues.{row, IsFirst}
use Rattle.promotion_heuristic.specs.Rounds.{tenant_of, IsKept}
use Rattle.promotion_heuristic.proofs.Worst.{worst-some}
use Rattle.promotion_heuristic.proofs.KeptWorst.{first-pair}

pub standing-read : (s : List Standing) (r : ℕ) (v : Standing) → r < length s → v ≡ get_or s r v → v ≡ standing_of s r
standing-read s r v l e = e ∙ get_or_default s r v at_top l

pub taken-is : (lists : Lists) (s : List Standing) (p r : ℕ) (v : Standing) → r ≡ (pair_at lists p).resident → r < length s → v ≡ get_or s r v →
    set s r (record { last = p; promoted = v.promoted; assigned = true }) ≡ taken lists s p
taken-is lists s p r v e l read =
    ap (λ (w : Standing). set s r (record { last = p; promoted = w.promoted; assigned = true })) (standing-read s r v l read)
    ∙ ap (λ x. set s x (record { last = p; promoted = (standing_of s x).promoted; assigned = true })) e

pub tenant-is : (lists : Lists) (s : List Standing) (p r m : ℕ) (v : Standing) → r ≡ (pair_at lists p).resident → m ≡ rank_by_hospital lists p → r < length s →
    v ≡ get_or s r v → record { rank = m; unpromoted = not v.promoted; resident = r } ≡ tenant_of lists s p
tenant-is lists s p r m v e f l read =
    ap (λ (w : Standing). record { rank = m; unpromoted = not w.promoted; resident = r }) (standing-read s r v l read)
    ∙ ap (λ x. record { rank = m; unpromoted = not (standing_of s x).promoted; resident = x }) e
    ∙ ap (λ k. record { rank = k; unpromoted = not (standing_of s (pair_at lists p).resident).promoted; resident = (pair_at lists p).resident }) f

pub worst-read : (lists : Lists) (s : List Standing) (rows : List (List Tenant)) (h : ℕ) (x : Tenant) (v : Standing) → IsKept lists s rows → IsFirst (row rows h) x →
    x.resident < length s → v ≡ get_or s x.resident v → Some v.last ≡ worst lists s h
worst-read lists s rows h x v kept first l read =
    ap (λ (w : Standing). Some w.last) (standing-read s x.resident v l read) ∙ sym (first-pair lists s rows h x kept first)

pub worst-number : (lists : Lists) (s : List Standing) (h w : ℕ) → Some w ≡ worst lists s h → IsPairNo lists w
worst-number lists s h w e = (worst-some lists s h w (sym e)).held.number
