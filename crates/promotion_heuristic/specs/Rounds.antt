-- Words for the private functions that go through the steps. No public clause cites them.
use Rattle.std.specs.Prelude.{◌≡◌, ℕ, ◌<◌, ◌≤◌, Bool, false, not, if◌then◌else◌, List, length, count_by, Option, Some, None}
use Rattle.rank_tables.specs.Instance.{Lists, pair_at, rank_by_hospital}
use Rattle.promotion_heuristic.specs.declared.standing.Standing.{Standing}
use Rattle.promotion_heuristic.specs.declared.tenant.Tenant.{Tenant}
use Rattle.promotion_heuristic.specs.Promotion.{at_top, start, standing_of, is_promoted, held_at, is_waiting, has_room, displaced, steps}
use Rattle.promotion_heuristic.specs.Queues.{row}

-- what a hospital keeps of a resident that it took by pair p
abbrev pub tenant_of : Lists → List Standing → ℕ → Tenant
tenant_of lists standings p =
    record { rank = rank_by_hospital lists p; unpromoted = not (is_promoted lists standings p); resident = (pair_at lists p).resident }

-- the rows have the tenants that the standings say, and there is one standing for each resident
pub record IsKept (lists : Lists) (standings : List Standing) (rows : List (List Tenant)) : Type 0 where
  pub residents : length standings ≡ length lists.residents
  pub hospitals : length rows ≡ length lists.hospitals
  pub tenants : (h : ℕ) (t : Tenant → Bool) → count_by t (row rows h) ≡ count_by (λ p. t (tenant_of lists standings p)) (held_at lists standings h)

-- the resident that the proposal of p to a full hospital leaves unassigned: the one that makes place, or its own
abbrev pub left_by : Lists → ℕ → Option ℕ → ℕ
left_by lists p None = (pair_at lists p).resident
left_by lists p (Some w) = (pair_at lists w).resident

-- the resident that the proposal of p leaves unassigned, if any
abbrev pub left_out : Lists → List Standing → ℕ → Option ℕ
left_out lists standings p =
    if has_room lists standings (pair_at lists p).hospital then None else Some (left_by lists p (displaced lists standings p))

-- the standings come after some number of steps
pub record IsReached (lists : Lists) (standings : List Standing) : Type 0 where
  pub count : ℕ
  pub after : steps lists count (start lists) ≡ standings

-- none of the first n residents is waiting, and the others haven't begun
pub record AreSettled (lists : Lists) (standings : List Standing) (n : ℕ) : Type 0 where
  pub settled : (r : ℕ) → r < n → is_waiting lists standings r ≡ false
  pub untouched : (r : ℕ) → n ≤ r → standing_of standings r ≡ at_top
