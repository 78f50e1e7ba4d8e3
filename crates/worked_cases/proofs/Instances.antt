-- Pairs, ranks, stability and well-formed lists.
use Rattle.std.proofs.Common.{◌≡◌, true, false, [], ◌∷◌, Some, None, map, refl, arith}
use Rattle.rank_tables.specs.Numbers.{numbers_to}
use Rattle.rank_tables.specs.Instance.{Lists, pair_no, pairs, pair_count, rank_by_resident, rank_by_hospital, pairs_of_resident, rising_pairs_of_hospital, pairs_as_listed, one_sided}
use Rattle.rank_tables.specs.Terms.{model_terms}
use Rattle.rank_tables.specs.Stability.{is_weakly_stable, blocks}
use Rattle.rank_tables.specs.WellFormed.{IsWellFormed, is_list}
use Rattle.worked_cases.specs.SmallInstances.{hospital, no_posts, resident, strict, three, tied}

-- ---- a tie
pub tied-pairs : pairs tied ≡ record { resident = 0; hospital = 0 } ∷ record { resident = 0; hospital = 1 } ∷ record { resident = 1; hospital = 0 } ∷ []
tied-pairs = refl

pub tied-number : pair_no tied 1 0 ≡ Some 3
tied-number = refl

pub tied-no_number : pair_no tied 1 1 ≡ None
tied-no_number = refl

pub tied-ranks : map (rank_by_hospital tied) (numbers_to 3) ≡ 1 ∷ 1 ∷ 1 ∷ []
tied-ranks = refl

pub tied-one : is_weakly_stable tied (1 ∷ []) ≡ true
tied-one = refl

pub tied-two : is_weakly_stable tied (2 ∷ 3 ∷ []) ≡ true
tied-two = refl

pub tied-y_blocked : is_weakly_stable tied (2 ∷ []) ≡ false
tied-y_blocked = refl

pub tied-none : blocks tied [] 1 ≡ true
tied-none = refl

pub tied-terms : model_terms tied ≡ 12
tied-terms = refl

-- ---- no tie
pub strict-ranks : map (rank_by_hospital strict) (numbers_to 3) ≡ 1 ∷ 1 ∷ 2 ∷ []
strict-ranks = refl

pub strict-one : is_weakly_stable strict (1 ∷ []) ≡ true
strict-one = refl

pub strict-two : is_weakly_stable strict (2 ∷ 3 ∷ []) ≡ false
strict-two = refl

pub strict-blocked : blocks strict (2 ∷ 3 ∷ []) 1 ≡ true
strict-blocked = refl

-- ---- no posts: nobody is assigned, and nothing blocks
pub no_posts-pairs : pair_count no_posts ≡ 2
no_posts-pairs = refl

-- the row of the second pair has both
pub no_posts-terms : model_terms no_posts ≡ 7
no_posts-terms = refl

pub no_posts-none : is_weakly_stable no_posts [] ≡ true
no_posts-none = refl

pub no_posts-one : is_weakly_stable no_posts (1 ∷ []) ≡ false
no_posts-one = refl

-- ---- a naming that isn't answered: b names y, which doesn't name b
-- resident a: x y / resident b: x y / hospital x 1: (a b) / hospital y 1: a
abbrev pub unanswered : Lists
unanswered = record {
  residents = resident 97 ((0 ∷ []) ∷ (1 ∷ []) ∷ []) ∷ resident 98 ((0 ∷ []) ∷ (1 ∷ []) ∷ []) ∷ [];
  hospitals = tied.hospitals;
}

pub unanswered-pairs : pairs unanswered ≡ pairs tied
unanswered-pairs = refl

pub unanswered-one : one_sided unanswered ≡ 1
unanswered-one = refl

pub tied-answered : one_sided tied ≡ 0
tied-answered = refl

pub unanswered-number : pair_no unanswered 1 1 ≡ None
unanswered-number = refl

-- ---- no pairs: the naming of a isn't answered, and b names nobody
-- resident a: x / resident b: / hospital x 1:
abbrev pub silent : Lists
silent = record {
  residents = resident 97 ((0 ∷ []) ∷ []) ∷ resident 98 [] ∷ [];
  hospitals = hospital 120 1 [] ∷ [];
}

pub silent-pairs : pairs silent ≡ []
silent-pairs = refl

pub silent-one : one_sided silent ≡ 1
silent-one = refl

pub silent-none : is_weakly_stable silent [] ≡ true
silent-none = refl

-- ---- ties on both sides
pub three-pairs : pair_count three ≡ 6
three-pairs = refl

pub three-ranks : map (rank_by_resident three) (numbers_to 6) ≡ 1 ∷ 1 ∷ 2 ∷ 1 ∷ 1 ∷ 1 ∷ []
three-ranks = refl

pub three-ranks_of_residents : map (rank_by_hospital three) (numbers_to 6) ≡ 1 ∷ 1 ∷ 1 ∷ 1 ∷ 1 ∷ 2 ∷ []
three-ranks_of_residents = refl

pub three-of_resident : pairs_of_resident three 1 ≡ 4 ∷ 5 ∷ []
three-of_resident = refl

pub three-stable : is_weakly_stable three (1 ∷ 5 ∷ []) ≡ true
three-stable = refl

pub three-other : is_weakly_stable three (2 ∷ 4 ∷ []) ≡ true
three-other = refl

pub three-full : is_weakly_stable three (3 ∷ 5 ∷ 6 ∷ []) ≡ false
three-full = refl

pub three-blocked : blocks three (3 ∷ 5 ∷ 6 ∷ []) 1 ≡ true
three-blocked = refl

-- ---- a hospital's order against the order of numbers, two posts, and a naming that isn't answered
-- resident a: (x y) z / resident b: y x / resident c: x z / hospital x 1: (b a) c / hospital y 2: b a / hospital z 1: a
abbrev pub mixed : Lists
mixed = record {
  residents = resident 97 ((0 ∷ 1 ∷ []) ∷ (2 ∷ []) ∷ []) ∷ resident 98 ((1 ∷ []) ∷ (0 ∷ []) ∷ []) ∷ resident 99 ((0 ∷ []) ∷ (2 ∷ []) ∷ []) ∷ [];
  hospitals = hospital 120 1 ((1 ∷ 0 ∷ []) ∷ (2 ∷ []) ∷ []) ∷ hospital 121 2 ((1 ∷ []) ∷ (0 ∷ []) ∷ []) ∷ hospital 122 1 ((0 ∷ []) ∷ []) ∷ [];
}

pub mixed-number : pair_no mixed 1 0 ≡ Some 5
mixed-number = refl

pub mixed-by_number : rising_pairs_of_hospital mixed 0 ≡ 1 ∷ 5 ∷ 6 ∷ []
mixed-by_number = refl

pub mixed-as_listed : pairs_as_listed mixed 0 ≡ 5 ∷ 1 ∷ 6 ∷ []
mixed-as_listed = refl

pub mixed-one_sided : one_sided mixed ≡ 1
mixed-one_sided = refl

pub mixed-two_posts : is_weakly_stable mixed (2 ∷ 4 ∷ 6 ∷ []) ≡ true
mixed-two_posts = refl

pub mixed-well_formed : IsWellFormed mixed
mixed-well_formed = record {
  few_residents = omega arith;
  few_hospitals = omega arith;
  resident_names = refl;
  hospital_names = refl;
  residents_apart = refl;
  hospitals_apart = refl;
  capacities = refl;
  resident_lists = refl;
  hospital_lists = refl;
}

-- ---- what is no list: an empty group, a number past the end, a number twice
pub empty_group : is_list 2 ([] ∷ []) ≡ false
empty_group = refl

pub past_the_end : is_list 2 ((2 ∷ []) ∷ []) ≡ false
past_the_end = refl

pub twice : is_list 2 ((0 ∷ 1 ∷ []) ∷ (0 ∷ []) ∷ []) ≡ false
twice = refl
