-- The sweep from the last level down.
use Rattle.std.specs.Prelude.{◌≡◌, ◌≤◌, ◌<◌, ◌+◌, ◌-◌, ◌⊎◌, ◌==◌, ◌&&◌, ℕ, Bool, true, false, not, if◌then◌else◌, List, [], ◌∷◌, ◌++◌, Contains, Option, Some, None, max, nat_lt}
use Rattle.std.specs.List.{AllByRecursion, sum_by}
use Rattle.level_sweep.specs.declared.sweeping.Stand.{Stand}
use Rattle.level_sweep.specs.declared.sweeping.Stand.TheVariants.{False, Free, True}
use Rattle.level_sweep.specs.declared.sweeping.Standing.{Standing}
use Rattle.level_sweep.specs.declared.sweeping.Sweep.{Sweep}
use Rattle.level_sweep.specs.Levels.{IsKeptAt, IsOpenAt, from_of, is_free_at, weights}

-- the later a literal becomes true or false, the less
abbrev pub late : Stand → ℕ
late Free = 0
late (True from) = 4294967296 - from
late (False from) = 4294967296 - from

-- a level is a number of 32 bits
abbrev pub IsLevel : Option ℕ → Type 0
IsLevel None = Unit {0}
IsLevel (Some from) = from < 4294967296

-- no literal becomes true or false later than one before it
abbrev pub AreFalling : List Standing → Type 0
AreFalling [] = Unit {0}
AreFalling (s ∷ xs) = AllByRecursion (λ (y : Standing). late s.stand ≤ late y.stand) xs × AreFalling xs

-- the weight of a literal that is false at no level, or 0
abbrev pub share_of : Stand → ℕ → ℕ
share_of Free weight = weight
share_of (True from) weight = weight
share_of (False from) weight = 0

abbrev pub never_false_share : Standing → ℕ
never_false_share s = share_of s.stand s.weight

-- what the literals weigh that are false at no level
abbrev pub never_false : List Standing → ℕ
never_false xs = sum_by never_false_share xs

-- ---- steps

-- whether the level is another one than the last
abbrev pub is_next : Option ℕ → ℕ → Bool
is_next None level = true
is_next (Some last) level = not (last == level)

-- a level is reached: it is the lowest one from here on at which the row is open, if the row is open there
abbrev pub reached : ℕ → ℕ → Sweep → Sweep
reached degree level w = record w {
  last = Some level;
  lowest = if is_next w.last level && nat_lt w.sum (degree + w.greatest) then Some level else w.lowest;
}

-- a literal is passed, which is free from here on
abbrev pub passed : Standing → Sweep → Sweep
passed s w = record w { sum = w.sum + (s.weight - never_false_share s); greatest = max w.greatest s.weight }

-- the sweep comes to a literal
abbrev pub reached_from : ℕ → Option ℕ → Sweep → Sweep
reached_from degree None w = w
reached_from degree (Some level) w = reached degree level w

abbrev pub stepped : ℕ → Standing → Sweep → Sweep
stepped degree s w = passed s (reached_from degree (from_of s.stand) w)

-- ---- how far it has come

-- the level is below the last one
abbrev pub IsBelow : Option ℕ → ℕ → Type 0
IsBelow None k = Unit {0}
IsBelow (Some last) k = k < last

-- each of the literals is true or false at the last level
abbrev pub AreSettled : Option ℕ → List Standing → Type 0
AreSettled None xs = Unit {0}
AreSettled (Some last) xs = AllByRecursion (λ (s : Standing). is_free_at last s.stand ≡ false) xs

-- the least level from the last one on at which the row is open, or there is none
abbrev pub IsLowestFrom : ℕ → List Standing → Option ℕ → Option ℕ → Type 0
IsLowestFrom degree xs None lowest = lowest ≡ None
IsLowestFrom degree xs (Some last) None = (k : ℕ) → last ≤ k → IsKeptAt degree xs k
IsLowestFrom degree xs (Some last) (Some level) = (last ≤ level) × IsOpenAt degree xs level × ((k : ℕ) → last ≤ k → k < level → IsKeptAt degree xs k)

-- one of the literals has the weight, or it is 0
abbrev pub IsMet : ℕ → List Standing → Type 0
IsMet weight pre = (weight ≡ 0) ⊎ ((s : Standing) × Contains pre s × (s.weight ≡ weight))

-- the sweep has passed `pre` of the literals xs, and `post` are left
pub record IsSweptDown (degree : ℕ) (xs pre post : List Standing) (w : Sweep) : Type 0 where
  pub whole : xs ≡ pre ++ post
  pub sum : w.sum ≡ weights pre + never_false post
  pub above : AllByRecursion (λ (s : Standing). s.weight ≤ w.greatest) pre
  pub met : IsMet w.greatest pre
  pub free : AllByRecursion (λ (s : Standing). (k : ℕ) → IsBelow w.last k → is_free_at k s.stand ≡ true) pre
  pub settled : AreSettled w.last post
  pub falling : AreFalling post
  pub lowest : IsLowestFrom degree xs w.last w.lowest
