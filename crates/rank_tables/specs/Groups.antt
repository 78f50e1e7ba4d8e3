-- A list of groups, kept as the numbers of all groups and the places where groups start.
use Rattle.std.specs.Prelude.{ℕ, ◌-◌, ◌<◌, List, [], ◌∷◌, ◌++◌, length, take, drop}

-- where the group ends that stands before the groups that start at these places, of so many numbers
abbrev pub until : ℕ → List ℕ → ℕ
until total [] = total
until total (start ∷ starts) = start

-- the groups that start at these places
abbrev pub cut : {A : Type 0} → List A → List ℕ → List (List A)
cut numbers [] = []
cut numbers (start ∷ starts) = take (until (length numbers) starts - start) (drop start numbers) ∷ cut numbers starts

-- no group is empty
abbrev pub IsCut : ℕ → List ℕ → Type 0
IsCut total [] = Unit {0}
IsCut total (start ∷ starts) = (start < until total starts) × IsCut total starts

-- a group and those behind it, with one more number in the last one
abbrev pub tied_to : List ℕ → List (List ℕ) → ℕ → List (List ℕ)
tied_to group [] x = (group ++ x ∷ []) ∷ []
tied_to group (next ∷ groups) x = group ∷ tied_to next groups x

-- the groups with one more number in the last one
abbrev pub tied_on : List (List ℕ) → ℕ → List (List ℕ)
tied_on [] x = []
tied_on (group ∷ groups) x = tied_to group groups x
