-- What is kept beside a row.
use Rattle.std.proofs.Common.{◌≤◌, ◌<◌, ◌+◌, ◌⊎◌, ℕ, List, [], ◌∷◌, ◌++◌, length, take, get_or, refl, sym, subst, arith, inl, inr}
use Rattle.std.specs.List.{All, Contains}
use Rattle.std.proofs.lemmas.List.{get_or_default}
use Rattle.std.proofs.lemmas.List.Elements.{All-contains, All-more, All-push, All-weaker, Contains-append_left, Contains-append_right}
use Rattle.hrt_base.specs.declared.literal.Term.{Term}
use Rattle.pb_rows.specs.Terms.{PlainRow, positive_part}
use Rattle.pb_rows.specs.Closure.{Literals}
use Rattle.propagation.specs.Following.{IsSettledAt}
use Rattle.rup_engine.specs.Propagation.{IsSteady}
use Rattle.rup_engine.specs.Slots.{IsShort, Picks}

-- the terms picked among the first i
pub record ArePicked (terms : List Term) (least i : ℕ) (more : List Term) : Type 0 where
  pub within : All (Contains terms) more
  pub rest : All (λ t. Contains more t ⊎ (positive_part t.coef ≤ least)) (take i terms)

abbrev IsPickedOr : ℕ → List Term → Term → Type 0
IsPickedOr least more t = Contains more t ⊎ (positive_part t.coef ≤ least)

longer : (least : ℕ) (old : List Term) (x t : Term) → IsPickedOr least old t → IsPickedOr least (old ++ x ∷ []) t
longer least old x t (inl e) = inl (Contains-append_left old (x ∷ []) t e)
longer least old x t (inr e) = inr e

pub one-picked : (terms : List Term) (least i : ℕ) (d : Term) (old new : List Term) → i < length terms → ArePicked terms least i old → Picks least (get_or terms i d) old new
    → ArePicked terms least (i + 1) new
one-picked terms least i d old new h a s =
    let x : Term = get_or terms i d in
    elim s [
      | inl p ↦
          subst (λ (m : List Term). ArePicked terms least (i + 1) m) (sym p.1)
          (record {
            within = All-push (Contains terms) old x a.within (i, h, get_or_default terms i x d h);
            rest = All-more (IsPickedOr least (old ++ x ∷ [])) terms i d h (All-weaker (IsPickedOr least old) (IsPickedOr least (old ++ x ∷ [])) (longer least old x) (take i terms) a.rest)
                (inl (Contains-append_right old (x ∷ []) x (0, omega arith, refl)));
          })
      | inr n ↦
          subst (λ (m : List Term). ArePicked terms least (i + 1) m) (sym n.1)
          (record { within = a.within; rest = All-more (IsPickedOr least old) terms i d h a.rest (inr n.0) })
    ]

pub short-from : (r : PlainRow) (heads : List Term) (least most : ℕ) → All (Contains r.terms) heads → All (λ t. Contains heads t ⊎ (positive_part t.coef ≤ least)) r.terms
    → All (λ t. positive_part t.coef ≤ most) r.terms → IsShort heads (r.degree + least) (r.degree + most) r
short-from r heads least most w o m = record {
  within = w;
  reached = omega arith;
  others = All-weaker (IsPickedOr least heads) (λ (t : Term). Contains heads t ⊎ (r.degree + positive_part t.coef ≤ r.degree + least)) by r.terms o;
  unfalsified = omega arith;
  all = All-weaker (λ (t : Term). positive_part t.coef ≤ most) (λ (t : Term). r.degree + positive_part t.coef ≤ r.degree + most) (λ t le. omega (arith, le)) r.terms m;
}
  where
    by : (t : Term) → IsPickedOr least heads t → Contains heads t ⊎ (r.degree + positive_part t.coef ≤ r.degree + least)
    by t (inl e) = inl e
    by t (inr e) = inr (omega (arith, e))

-- ---- what follows from them

pub steady-bound : (s : Literals) (sum : ℕ) (heads : List Term) (rest bound : ℕ) (r : PlainRow) → IsShort heads rest bound r → bound ≤ sum → IsSteady s sum r
steady-bound s sum heads rest bound r k h = record {
  unfalsified = omega (arith, k.unfalsified, h);
  settled = All-weaker (λ (t : Term). r.degree + positive_part t.coef ≤ bound) (IsSettledAt s sum r.degree) (λ t le unfalse exceeds. absurd (omega (arith, le, h, exceeds))) r.terms k.all;
}

pub steady-heads : (s : Literals) (sum : ℕ) (heads : List Term) (rest bound : ℕ) (r : PlainRow) → IsShort heads rest bound r → rest ≤ sum
    → All (IsSettledAt s sum r.degree) heads → IsSteady s sum r
steady-heads s sum heads rest bound r k h a = record {
  unfalsified = omega (arith, k.reached, h);
  settled = All-weaker (λ (t : Term). Contains heads t ⊎ (r.degree + positive_part t.coef ≤ rest)) (IsSettledAt s sum r.degree) each r.terms k.others;
}
  where
    each : (t : Term) → Contains heads t ⊎ (r.degree + positive_part t.coef ≤ rest) → IsSettledAt s sum r.degree t
    each t (inl c) = All-contains (IsSettledAt s sum r.degree) heads t a c
    each t (inr le) = λ unfalse exceeds. absurd (omega (arith, le, h, exceeds))
