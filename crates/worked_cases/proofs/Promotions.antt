-- First matchings.
use Rattle.std.specs.Prelude.{◌≡◌, ℕ, [], ◌∷◌, refl, None}
use Rattle.rank_tables.specs.Instance.{Lists}
use Rattle.promotion_heuristic.specs.Promotion.{final, promotion, proposal}
use Rattle.worked_cases.specs.SmallInstances.{hospital, resident, three, tied}

-- once promoted, b puts a out
pub tied-promotion : promotion tied ≡ 2 ∷ 3 ∷ []
tied-promotion = refl

pub tied-ended : proposal tied (final tied) ≡ None
tied-ended = refl

pub three-promotion : promotion three ≡ 1 ∷ 5 ∷ []
three-promotion = refl

-- residents a, b, c: x / hospital x: (a b c), with so many posts
abbrev one_tie : ℕ → Lists
one_tie capacity = record {
  residents = resident 97 ((0 ∷ []) ∷ []) ∷ resident 98 ((0 ∷ []) ∷ [])
      ∷ resident 99 ((0 ∷ []) ∷ []) ∷ [];
  hospitals = hospital 120 capacity ((0 ∷ 1 ∷ 2 ∷ []) ∷ []) ∷ [];
}

pub no_posts-promotion : promotion (one_tie 0) ≡ []
no_posts-promotion = refl

-- the greatest number goes first, and the promoted ones stay
pub two_posts-promotion : promotion (one_tie 2) ≡ 2 ∷ 3 ∷ []
two_posts-promotion = refl

pub three_posts-promotion : promotion (one_tie 3) ≡ 1 ∷ 2 ∷ 3 ∷ []
three_posts-promotion = refl
