-- Deferred acceptance with one promotion: the steps, and the matching with which they end.
use Rattle.std.specs.Prelude.{ℕ, zero, suc, ◌*◌, Bool, true, false, not, ◌&&◌, ◌||◌, ◌==◌, nat_lt, if◌then◌else◌, List, length, replicate, filter, slice_index_or, slice_set, Option, Some, None, is_some, option_map, unwrap_or}
use Rattle.std.specs.List.{find, list_all}
use Rattle.std.specs.Option.{option_and_then}
use Rattle.rank_tables.specs.Numbers.{below, numbers_to}
use Rattle.rank_tables.specs.Instance.{Lists, pair_count, pair_at, pairs_of_resident, rank_by_hospital, capacity_of}
use Rattle.rank_tables.specs.Stability.{uses_of_hospital}
use Rattle.promotion_heuristic.specs.declared.standing.Standing.{Standing}

-- the standing of a resident at the start
abbrev pub at_top : Standing
at_top = record { last = 0; promoted = false; assigned = false }

-- the standings of all residents in order, at the start
abbrev pub start : Lists → List Standing
start lists = replicate (length lists.residents) at_top

-- how a resident stands
abbrev pub standing_of : List Standing → ℕ → Standing
standing_of standings r = slice_index_or standings r at_top

-- whether the resident of a pair is promoted
abbrev pub is_promoted : Lists → List Standing → ℕ → Bool
is_promoted lists standings p = (standing_of standings (pair_at lists p).resident).promoted

-- whether a resident and a hospital are assigned to each other by pair p
abbrev pub holds : Lists → List Standing → ℕ → Bool
holds lists standings p =
    (standing_of standings (pair_at lists p).resident).assigned && (standing_of standings (pair_at lists p).resident).last == p

-- the pairs that are assigned, rising
abbrev pub held : Lists → List Standing → List ℕ
held lists standings = filter (holds lists standings) (numbers_to (pair_count lists))

-- the pairs that are assigned to a hospital, rising
abbrev pub held_at : Lists → List Standing → ℕ → List ℕ
held_at lists standings h = filter (λ p. (pair_at lists p).hospital == h) (held lists standings)

-- the first pair in a resident's list after pair p
abbrev pub next_after : Lists → ℕ → ℕ → Option ℕ
next_after lists r p = find (nat_lt p) (pairs_of_resident lists r)

-- the next pair in a resident's list from where it stands
abbrev pub next_pair : Lists → List Standing → ℕ → Option ℕ
next_pair lists standings r = next_after lists r (standing_of standings r).last

-- whether a resident is unassigned and has a hospital left
abbrev pub is_waiting : Lists → List Standing → ℕ → Bool
is_waiting lists standings r = not (standing_of standings r).assigned && is_some (next_pair lists standings r)

-- the pair of the next proposal: the next one of the first resident that is waiting
abbrev pub proposal : Lists → List Standing → Option ℕ
proposal lists standings = option_and_then (next_pair lists standings) (find (is_waiting lists standings) (below (length lists.residents)))

-- whether a hospital holds the resident of p lower than that of q: it ranks it lower, or as high and q alone is promoted
abbrev pub is_lower : Lists → List Standing → ℕ → ℕ → Bool
is_lower lists standings p q =
    nat_lt (rank_by_hospital lists q) (rank_by_hospital lists p)
    || (rank_by_hospital lists p == rank_by_hospital lists q && not (is_promoted lists standings p) && is_promoted lists standings q)

-- whether p is worse than q: lower, or else, where it is no higher, of the resident with the greater number
abbrev pub is_worse : Lists → List Standing → ℕ → ℕ → Bool
is_worse lists standings p q =
    is_lower lists standings p q
    || (not (is_lower lists standings q p) && nat_lt (pair_at lists q).resident (pair_at lists p).resident)

-- the worst pair of a hospital, if any resident is assigned to it
abbrev pub worst : Lists → List Standing → ℕ → Option ℕ
worst lists standings h = find (λ p. list_all (λ q. not (is_worse lists standings q p)) (held_at lists standings h)) (held_at lists standings h)

-- what a resident comes to after it was refused or put out by the hospital of pair p: it goes on in its list. At the end of
-- its list it is promoted and starts again at the top, or, where it is promoted, stays unassigned.
abbrev pub after : Lists → ℕ → Bool → ℕ → Standing
after lists r promoted p =
    if promoted || is_some (next_after lists r p)
    then record { last = p; promoted = promoted; assigned = false }
    else record { last = 0; promoted = true; assigned = false }

-- the standings after the resident of p is assigned by it
abbrev pub taken : Lists → List Standing → ℕ → List Standing
taken lists standings p =
    slice_set standings (pair_at lists p).resident (record { last = p; promoted = is_promoted lists standings p; assigned = true })

-- the standings after the hospital of p refuses its resident, or puts it out
abbrev pub turned_away : Lists → List Standing → ℕ → List Standing
turned_away lists standings p =
    slice_set standings (pair_at lists p).resident (after lists (pair_at lists p).resident (is_promoted lists standings p) p)

-- whether a hospital has a free post
abbrev pub has_room : Lists → List Standing → ℕ → Bool
has_room lists standings h = nat_lt (uses_of_hospital lists (held lists standings) h) (capacity_of lists h)

-- the pair that makes place for p at a full hospital: its worst one, if that is lower
abbrev pub displaced : Lists → List Standing → ℕ → Option ℕ
displaced lists standings p = option_and_then (λ w. if is_lower lists standings w p then Some w else None) (worst lists standings (pair_at lists p).hospital)

-- the standings after a proposal to a full hospital, by the pair that makes place
abbrev pub compared : Lists → List Standing → ℕ → Option ℕ → List Standing
compared lists standings p None = turned_away lists standings p
compared lists standings p (Some w) = taken lists (turned_away lists standings w) p

-- the standings after a proposal. A hospital without posts has no worst resident, and refuses.
abbrev pub proposed : Lists → List Standing → ℕ → List Standing
proposed lists standings p =
    if has_room lists standings (pair_at lists p).hospital
    then taken lists standings p
    else compared lists standings p (displaced lists standings p)

-- the standings after the next proposal, if there is one
abbrev pub step : Lists → List Standing → Option (List Standing)
step lists standings = option_map (proposed lists standings) (proposal lists standings)

-- the standings after so many steps, or with which they end before
abbrev pub steps : Lists → ℕ → List Standing → List Standing
steps lists zero standings = standings
steps lists (suc n) standings = unwrap_or (option_map (steps lists n) (step lists standings)) standings

-- the standings with which the steps end. A resident proposes at most twice by each of its pairs.
abbrev pub final : Lists → List Standing
final lists = steps lists (2 * pair_count lists) (start lists)

-- the matching with which the steps end, rising
abbrev pub promotion : Lists → List ℕ
promotion lists = held lists (final lists)
