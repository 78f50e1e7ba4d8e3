-- How the code joins terms, one after another, and what its steps leave in the list that they write. A normal form is the
-- same row; no public clause speaks of this one.
use Rattle.std.specs.Prelude.{◌≡◌, ◌≤◌, ◌+◌, ◌-◌, ℕ, zero, suc, ℤ, pos, negsuc, ◌+ℤ◌, Bool, true, false, not, if◌then◌else◌, nat_lt, min, List, [], ◌∷◌, ◌++◌}
use Rattle.std.specs.List.{AllByRecursion}
use Rattle.std.specs.Int.RustNames.{unsigned_abs}
use Rattle.hrt_base.specs.declared.literal.Lit.{Lit}
use Rattle.hrt_base.specs.declared.literal.Term.{Term}
use Rattle.pb_rows.specs.declared.join.Joined.{Joined}
use Rattle.pb_rows.specs.Terms.{IsPositive, PlainRow, coef_sum, opposite_lit, weighing, positive_part}

-- ---- signs: `-a x` is `a ~x - a`

-- whether a number is below 0
abbrev pub is_negative : ℤ → Bool
is_negative (pos n) = false
is_negative (negsuc n) = true

-- the term, unless its coefficient is 0
abbrev pub remains : ℕ → Lit → List Term
remains zero l = []
remains (suc n) l = weighing (suc n) l ∷ []

-- the literal that a term is over once its sign is gone: the opposite one where its coefficient is below 0
abbrev pub signless_lit : Term → Lit
signless_lit t = if is_negative t.coef then opposite_lit t.lit else t.lit

-- the term with a positive coefficient that differs from it by a constant, none where its coefficient is 0
abbrev pub signless : Term → List Term
signless t = remains (unsigned_abs t.coef) (signless_lit t)

-- the terms with positive coefficients in the place of each, in their order
abbrev pub signless_all : List Term → List Term
signless_all [] = []
signless_all (t ∷ ts) = signless t ++ signless_all ts

-- what a change of sign adds to the other side
abbrev pub turned : Term → ℕ
turned t = if is_negative t.coef then unsigned_abs t.coef else 0

-- what the changes of sign of all terms add to the other side
abbrev pub turned_sum : List Term → ℕ
turned_sum [] = 0
turned_sum (t ∷ ts) = turned t + turned_sum ts

-- ---- joining: `~x` is `1 - x`

-- whether two signs are the same
abbrev pub same_sign : Bool → Bool → Bool
same_sign a b = if a then b else not b

-- whether the literals of two terms have one sign
abbrev pub are_alike : Term → Term → Bool
are_alike t u = same_sign t.lit.neg u.lit.neg

-- what stays of two terms over one variable
abbrev pub met : Term → Term → List Term
met t u =
    if are_alike t u then weighing (positive_part t.coef + positive_part u.coef) u.lit ∷ []
    else (remains (positive_part u.coef - positive_part t.coef) u.lit ++ remains (positive_part t.coef - positive_part u.coef) t.lit)

-- what they lose: of `a x` and `b ~x` the smaller of a and b is true at every point
abbrev pub lost_between : Term → Term → ℕ
lost_between t u = if are_alike t u then 0 else min (positive_part t.coef) (positive_part u.coef)

-- the list with one more term in its place, joined with the term over its variable if there is one
abbrev pub put : Term → List Term → List Term
put t [] = t ∷ []
put t (u ∷ us) =
    if nat_lt t.lit.var u.lit.var then t ∷ u ∷ us
    else (if nat_lt u.lit.var t.lit.var then u ∷ put t us else met t u ++ us)

-- what is lost where a term is put into the list
abbrev pub lost : Term → List Term → ℕ
lost t [] = 0
lost t (u ∷ us) =
    if nat_lt t.lit.var u.lit.var then 0
    else (if nat_lt u.lit.var t.lit.var then lost t us else lost_between t u)

-- the list with more terms, one after another
abbrev pub put_all : List Term → List Term → List Term
put_all us [] = us
put_all us (t ∷ ts) = put_all (put t us) ts

-- what is lost where more terms are put into the list, one after another
abbrev pub lost_all : List Term → List Term → ℕ
lost_all us [] = 0
lost_all us (t ∷ ts) = lost t us + lost_all (put t us) ts

-- ---- rows made so

-- the row that joining makes of a written inequality
abbrev pub joined_form : List Term → ℤ → PlainRow
joined_form terms at_least = record {
  terms = put_all [] (signless_all terms);
  degree = positive_part (at_least +ℤ pos (turned_sum terms)) - lost_all [] (signless_all terms);
}

-- the sum of two rows as joining makes it: the terms of b are put into those of a, and the degree loses what they lose
abbrev pub merged : PlainRow → PlainRow → PlainRow
merged a b = record { terms = put_all a.terms b.terms; degree = (a.degree + b.degree) - lost_all a.terms b.terms }

-- ---- steps

-- the terms ts were put into us, one after another, and what was lost is told
pub record IsJoinOf (us ts : List Term) (joined : Joined) : Type 0 where
  pub terms : joined.terms.items ≡ put_all us ts
  pub lost : joined.lost ≡ lost_all us ts

-- what stays of two terms over one variable was put behind the list, and what they lose is told
pub record MeetsTo (t u : Term) (before after : List Term) (gone : ℕ) : Type 0 where
  pub terms : after ≡ before ++ met t u
  pub lost : gone ≡ lost_between t u

-- a term was put into the list, and what was lost is told
pub record PutsTo (t : Term) (before after : List Term) (gone : ℕ) : Type 0 where
  pub terms : after ≡ put t before
  pub loss : gone ≡ lost t before

-- every term's variable is at least `low`, and its coefficient positive
abbrev pub AreFrom : ℕ → List Term → Type 0
AreFrom low = AllByRecursion (λ (t : Term). (low ≤ t.lit.var) × IsPositive t.coef)

-- every term's variable is at most `high`
abbrev pub AreUpTo : ℕ → List Term → Type 0
AreUpTo high = AllByRecursion (λ (t : Term). t.lit.var ≤ high)

-- variables that don't fall, from `low` on, and positive coefficients
abbrev pub IsSortedFrom : ℕ → List Term → Type 0
IsSortedFrom low [] = Unit {0}
IsSortedFrom low (t ∷ ts) = (low ≤ t.lit.var) × IsPositive t.coef × IsSortedFrom t.lit.var ts

-- a sorted copy joins to the same terms, with the same loss
pub record IsSortedCopy (ts us : List Term) : Type 0 where
  pub sorted : IsSortedFrom 0 us
  pub terms : put_all [] us ≡ put_all [] ts
  pub losses : lost_all [] us ≡ lost_all [] ts
  pub sum : coef_sum us ≡ coef_sum ts
