-- Swaps of a list that can be taken back.
use Rattle.std.specs.Prelude.{◌≡◌, ◌<◌, ◌≤◌, ℕ, suc, List, [], ◌∷◌, length}
use Rattle.std.specs.List.{All, swap}

-- from place t on each place swapped with one of these, in turn
abbrev pub swapped : ℕ → List ℕ → List ℕ → List ℕ
swapped t [] xs = xs
swapped t (p ∷ ps) xs = swapped (suc t) ps (swap xs t p)

-- the first places of a list were swapped with these, in turn, and it is another list now
pub record AreSwaps (before places after : List ℕ) : Type 0 where
  pub within : All (λ p. p < length before) places
  pub few : length places ≤ length before
  pub made : after ≡ swapped 0 places before
