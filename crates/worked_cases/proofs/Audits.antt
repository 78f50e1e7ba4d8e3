-- Verdicts.
use Rattle.std.specs.Prelude.{◌≡◌, [], ◌∷◌, refl}
use Rattle.rank_tables.specs.Instance.{Lists}
use Rattle.stability_audit.specs.Verdict.{verdict_of}
use Rattle.stability_audit.specs.declared.verdict.Verdict.TheVariants.{Stable, ResidentTwice, OverCapacity, Blocked}
use Rattle.worked_cases.specs.SmallInstances.{hospital, resident, tied}

pub tied-stable : verdict_of tied (1 ∷ []) ≡ Stable
tied-stable = refl

pub tied-other_stable : verdict_of tied (3 ∷ 2 ∷ []) ≡ Stable
tied-other_stable = refl

pub tied-no_pairs : verdict_of tied [] ≡ Blocked (record { 0 = 1 })
tied-no_pairs = refl

pub tied-b_blocks : verdict_of tied (2 ∷ []) ≡ Blocked (record { 0 = 1 })
tied-b_blocks = refl

pub tied-over : verdict_of tied (1 ∷ 3 ∷ []) ≡ OverCapacity 0
tied-over = refl

pub tied-twice : verdict_of tied (1 ∷ 2 ∷ []) ≡ ResidentTwice 0
tied-twice = refl

-- a resident in two pairs goes before a hospital with too many
pub tied-all : verdict_of tied (3 ∷ 2 ∷ 1 ∷ []) ≡ ResidentTwice 0
tied-all = refl

-- resident a: x / resident b: x / hospital x 1: a b / so pair 1 is a x, pair 2 is b x
abbrev ranked : Lists
ranked = record {
  residents = resident 97 ((0 ∷ []) ∷ []) ∷ resident 98 ((0 ∷ []) ∷ []) ∷ [];
  hospitals = hospital 120 1 ((0 ∷ []) ∷ (1 ∷ []) ∷ []) ∷ [];
}

pub ranked-stable : verdict_of ranked (1 ∷ []) ≡ Stable
ranked-stable = refl

pub ranked-blocked : verdict_of ranked (2 ∷ []) ≡ Blocked (record { 0 = 1 })
ranked-blocked = refl

-- resident a: (x y) / hospital x 1: a / hospital y 1: a / so pair 1 is a x, pair 2 is a y
abbrev like : Lists
like = record {
  residents = resident 97 ((0 ∷ 1 ∷ []) ∷ []) ∷ [];
  hospitals = hospital 120 1 ((0 ∷ []) ∷ []) ∷ hospital 121 1 ((0 ∷ []) ∷ []) ∷ [];
}

pub like-stable : verdict_of like (2 ∷ []) ≡ Stable
like-stable = refl

-- resident a: x / hospital x 0: a
abbrev no_post : Lists
no_post = record {
  residents = resident 97 ((0 ∷ []) ∷ []) ∷ [];
  hospitals = hospital 120 0 ((0 ∷ []) ∷ []) ∷ [];
}

pub no_post-stable : verdict_of no_post [] ≡ Stable
no_post-stable = refl

pub no_post-over : verdict_of no_post (1 ∷ []) ≡ OverCapacity 0
no_post-over = refl
