-- Ties keep the numbers in their order, and leave no group empty.
use Rattle.std.proofs.Common.{◌≡◌, ◌<◌, ◌++◌, ◌&&◌, ℕ, Bool, true, false, List, [], ◌∷◌, length, refl, sym, ap, ◌∙◌, arith, append-nil, append_assoc, nat_lt}
use Rattle.std.specs.List.{concat, list_all}
use Rattle.std.proofs.lemmas.Bool.{and_from, and_parts}
use Rattle.std.proofs.lemmas.List.Folds.{concat-append, list_all-append}
use Rattle.rand_pcg.specs.Lcg.{Lcg}
use Rattle.rank_tables.specs.Groups.{tied_on, tied_to}
use Rattle.rank_tables.specs.Numbers.{is_distinct}
use Rattle.rank_tables.specs.WellFormed.{is_group, is_list}
use Rattle.instance_gen.specs.Draws.{after_draw, drawn, ties, with_next, with_rest}
use Rattle.instance_gen.proofs.Steps.{some_next}

-- ---- the numbers

concat_to : (group : List ℕ) (groups : List (List ℕ)) (x : ℕ) → concat (tied_to group groups x) ≡ (group ++ concat groups) ++ x ∷ []
concat_to group [] x = append-nil (group ++ x ∷ []) ∙ ap (λ (l : List ℕ). l ++ x ∷ []) (sym (append-nil group))
concat_to group (next ∷ groups) x =
    ap (λ (l : List ℕ). group ++ l) (concat_to next groups x) ∙ sym (append_assoc group (next ++ concat groups) (x ∷ []))

concat_on : (groups : List (List ℕ)) (x : ℕ) → 0 < length groups → concat (tied_on groups x) ≡ concat groups ++ x ∷ []
concat_on [] x h = absurd (omega (arith, h))
concat_on (group ∷ groups) x h = concat_to group groups x

concat_next : (percent : ℕ) (groups : List (List ℕ)) (x : ℕ) (g : Lcg) → 0 < length groups → concat (with_next percent groups x g) ≡ concat groups ++ x ∷ []
concat_next percent groups x g h = by (nat_lt (drawn 100 g) percent) refl
  where
    by : (b : Bool) → nat_lt (drawn 100 g) percent ≡ b → concat (with_next percent groups x g) ≡ concat groups ++ x ∷ []
    by true e = rw e (concat_on groups x h)
    by false e = rw e (concat-append groups ((x ∷ []) ∷ []))

concat_rest : (percent : ℕ) (groups : List (List ℕ)) (xs : List ℕ) (g : Lcg) → 0 < length groups → concat (with_rest percent groups xs g).value ≡ concat groups ++ xs
concat_rest percent groups [] g h = sym (append-nil (concat groups))
concat_rest percent groups (x ∷ xs) g h =
    concat_rest percent (with_next percent groups x g) xs (after_draw g) (some_next percent x groups g h)
    ∙ ap (λ (l : List ℕ). l ++ xs) (concat_next percent groups x g h) ∙ append_assoc (concat groups) (x ∷ []) xs

pub concat_ties : (percent : ℕ) (xs : List ℕ) (g : Lcg) → concat (ties percent xs g).value ≡ xs
concat_ties percent [] g = refl
concat_ties percent (x ∷ xs) g = concat_rest percent ((x ∷ []) ∷ []) xs g (omega arith)

-- ---- the groups

group_more : (group : List ℕ) (x : ℕ) → is_group (group ++ x ∷ []) ≡ true
group_more [] x = refl
group_more (y ∷ group) x = refl

groups_to : (group : List ℕ) (groups : List (List ℕ)) (x : ℕ) → is_group group ≡ true → list_all is_group groups ≡ true → list_all is_group (tied_to group groups x) ≡ true
groups_to group [] x one all = and_from (is_group (group ++ x ∷ [])) true (group_more group x) refl
groups_to group (next ∷ groups) x one all =
    let both = and_parts (is_group next) (list_all is_group groups) all in
    and_from (is_group group) (list_all is_group (tied_to next groups x)) one (groups_to next groups x both.0 both.1)

groups_on : (groups : List (List ℕ)) (x : ℕ) → list_all is_group groups ≡ true → list_all is_group (tied_on groups x) ≡ true
groups_on [] x all = refl
groups_on (group ∷ groups) x all = let both = and_parts (is_group group) (list_all is_group groups) all in groups_to group groups x both.0 both.1

groups_next : (percent : ℕ) (groups : List (List ℕ)) (x : ℕ) (g : Lcg) → list_all is_group groups ≡ true → list_all is_group (with_next percent groups x g) ≡ true
groups_next percent groups x g all = by (nat_lt (drawn 100 g) percent) refl
  where
    by : (b : Bool) → nat_lt (drawn 100 g) percent ≡ b → list_all is_group (with_next percent groups x g) ≡ true
    by true e = rw e (groups_on groups x all)
    by false e = rw e (list_all-append is_group groups ((x ∷ []) ∷ []) ∙ and_from (list_all is_group groups) true all refl)

groups_rest : (percent : ℕ) (groups : List (List ℕ)) (xs : List ℕ) (g : Lcg) → list_all is_group groups ≡ true → list_all is_group (with_rest percent groups xs g).value ≡ true
groups_rest percent groups [] g all = all
groups_rest percent groups (x ∷ xs) g all = groups_rest percent (with_next percent groups x g) xs (after_draw g) (groups_next percent groups x g all)

groups_ties : (percent : ℕ) (xs : List ℕ) (g : Lcg) → list_all is_group (ties percent xs g).value ≡ true
groups_ties percent [] g = refl
groups_ties percent (x ∷ xs) g = groups_rest percent ((x ∷ []) ∷ []) xs g refl

-- what is lawful as numbers is so with drawn ties
pub list_tied : (count percent : ℕ) (xs : List ℕ) (g : Lcg) → list_all (λ x. nat_lt x count) xs ≡ true → is_distinct xs ≡ true → is_list count (ties percent xs g).value ≡ true
list_tied count percent xs g under distinct =
    let groups = (ties percent xs g).value in
    and_from (list_all is_group groups && list_all (λ x. nat_lt x count) (concat groups)) (is_distinct (concat groups))
    (and_from (list_all is_group groups) (list_all (λ x. nat_lt x count) (concat groups)) (groups_ties percent xs g) (ap (list_all (λ x. nat_lt x count)) (concat_ties percent xs g) ∙ under))
    (ap is_distinct (concat_ties percent xs g) ∙ distinct)
