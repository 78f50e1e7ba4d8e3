-- Sets of pairs by their bits.
use Rattle.std.specs.Prelude.{◌≡◌, [], ◌∷◌, refl}
use Rattle.plain_enumeration.specs.Sets.{members}

pub members-none : members 0 3 ≡ []
members-none = refl

pub members-of_6 : members 6 3 ≡ 2 ∷ 3 ∷ []
members-of_6 = refl

pub members-all : members 7 3 ≡ 1 ∷ 2 ∷ 3 ∷ []
members-all = refl
