-- Counts that are raised.
use Rattle.std.proofs.Common.{◌≡◌, ◌+◌, ◌-◌, ◌/◌, ◌<◌, ◌≤◌, ℕ, List, length, sym, arith, nat_eq, nat_lt, false, get_or, set}
use Rattle.std.specs.Prelude.{◌^◌}
use Rattle.std.proofs.lemmas.Bool.Decides.{nat_tests}
use Rattle.std.proofs.lemmas.List.{map-set}
use Rattle.search_guides.specs.Counts.{halved, raised}

-- a count that would reach 2^32
pub full_raised : (counts : List ℕ) (p v : ℕ) → v ≡ p + 1 → p < length counts → 2 ^ 32 - 1 ≤ get_or counts p 0 → set (halved counts) p ((get_or counts p 0 + 1) / 2) ≡ raised v counts
full_raised counts p v e lt full =
    let back : v - 1 ≡ p = omega (arith, e) in
    let a : nat_eq v 0 ≡ false = grind (arith, nat_tests) in
    let b : nat_lt (length counts) v ≡ false = grind (arith, nat_tests) in
    let n : nat_lt (get_or counts p 0 + 1) (2 ^ 32) ≡ false = grind (arith, nat_tests) in
    rw (a, b, back, n) (sym (map-set (λ n. n / 2) counts p (get_or counts p 0 + 1)))
