-- Rows under sets of literals.
use Rattle.std.proofs.Common.{◌≡◌, ◌∙◌, ◌<◌, ◌+◌, ◌⊎◌, ◌&&◌, ℕ, zero, suc, Bool, true, false, not, if◌then◌else◌, List, [], ◌∷◌, ◌++◌, length, take, get_or, refl, sym, ap₂, subst, arith, inl, inr, Option, Some, None}
use Rattle.std.specs.List.{AllByRecursion, Contains}
use Rattle.std.specs.List.Sorted.{IsPermutation}
use Rattle.std.proofs.lemmas.Bool.{cases_Bool}
use Rattle.std.proofs.lemmas.List.{take_more}
use Rattle.std.proofs.lemmas.List.Elements.{All-contains_itself, All-from_recursion, Contains-append_right, recursion_from_All}
use Rattle.std.proofs.lemmas.List.Sorted.{Contains-permutation, IsPermutation-sym, sum_by-IsPermutation}
use Rattle.std.proofs.lemmas.List.Sums.{sum_by-cons}
use Rattle.hrt_base.specs.declared.literal.Term.{Term}
use Rattle.pb_rows.specs.Terms.{PlainRow, coef_sum, opposite_lit}
use Rattle.pb_rows.specs.Closure.{Falsified, IsSettled, Keeps, Literals, nonfalse_share, nonfalse_sum}
use Rattle.level_sweep.specs.declared.sweeping.Standing.{Standing}
use Rattle.level_sweep.specs.Levels.{IsKeptAt, IsLowestOpen, IsOpenAt, nonfalse_at, share_at, weights}
use Rattle.level_sweep.specs.Rows.{IsLowestOfRows, IsLowestUnder, PropagatesTerm, StandFor, StandsFor}

-- ---- in another order

module _ (degree : ℕ) (xs ys : List Standing) (p : IsPermutation xs ys) where
  same-sum : (k : ℕ) → nonfalse_at k ys ≡ nonfalse_at k xs
  same-sum k = sum_by-IsPermutation (share_at k) xs ys p

  kept-permuted : (k : ℕ) → IsKeptAt degree ys k → IsKeptAt degree xs k
  kept-permuted k h = record {
    unfalsified = omega (arith, h.unfalsified, same-sum k);
    spared = λ s c free. omega (arith, h.spared s (Contains-permutation xs ys s p c) free, same-sum k);
  }

  open-permuted : (k : ℕ) → IsOpenAt degree ys k → IsOpenAt degree xs k
  open-permuted k (inl less) = inl (omega (arith, less, same-sum k))
  open-permuted k (inr h) = inr (record {
    literal = h.literal;
    stands = Contains-permutation ys xs h.literal (IsPermutation-sym xs ys p) h.stands;
    free = h.free;
    exceeds = omega (arith, h.exceeds, same-sum k);
  })

  pub lowest-permuted : (level : Option ℕ) → IsLowestOpen degree ys level → IsLowestOpen degree xs level
  lowest-permuted None h = λ k. kept-permuted k (h k)
  lowest-permuted (Some level) h = (open-permuted level h.0, λ k l. kept-permuted k (h.1 k l))

-- ---- the terms of a row

share-is : (at : ℕ → Literals) (k : ℕ) (t : Term) (s : Standing) → StandsFor at t s → share_at k s ≡ nonfalse_share (at k) t
share-is at k t s h = ap₂ (λ (b : Bool) (n : ℕ). if b then 0 else n) (sym (h.false_from k)) h.weight

sums-are : (at : ℕ → Literals) (k : ℕ) (ts : List Term) (xs : List Standing) → StandFor at ts xs → nonfalse_at k xs ≡ nonfalse_sum (at k) ts
sums-are at k [] [] h = refl
sums-are at k [] (s ∷ xs) h = absurd h
sums-are at k (t ∷ ts) [] h = absurd h
sums-are at k (t ∷ ts) (s ∷ xs) h = omega (arith, sum_by-cons (share_at k) s xs, share-is at k t s h.0, sums-are at k ts xs h.1)

-- the weights are the coefficients
pub weights-are : (at : ℕ → Literals) (ts : List Term) (xs : List Standing) → StandFor at ts xs → weights xs ≡ coef_sum ts
weights-are at [] [] h = refl
weights-are at [] (s ∷ xs) h = absurd h
weights-are at (t ∷ ts) [] h = absurd h
weights-are at (t ∷ ts) (s ∷ xs) h = omega (arith, sum_by-cons (λ (y : Standing). y.weight) s xs, h.0.weight, weights-are at ts xs h.1)

stand-push : (at : ℕ → Literals) (ts : List Term) (t : Term) (xs : List Standing) (s : Standing) → StandFor at ts xs → StandsFor at t s → StandFor at (ts ++ t ∷ []) (xs ++ s ∷ [])
stand-push at [] t [] s h one = (one, tt)
stand-push at [] t (x ∷ xs) s h one = absurd h
stand-push at (y ∷ ts) t [] s h one = absurd h
stand-push at (y ∷ ts) t (x ∷ xs) s h one = (h.0, stand-push at ts t xs s h.1 one)

-- one term more
pub stand-more : (at : ℕ → Literals) (ts : List Term) (i : ℕ) (d : Term) (xs : List Standing) (s : Standing) → i < length ts → StandFor at (take i ts) xs → StandsFor at (get_or ts i d) s
    → StandFor at (take (i + 1) ts) (xs ++ s ∷ [])
stand-more at ts i d xs s l h one = subst (λ (ys : List Term). StandFor at ys (xs ++ s ∷ [])) (sym (take_more ts i d l)) (stand-push at (take i ts) (get_or ts i d) xs s h one)

-- the term whose literal stands so
record Stands (at : ℕ → Literals) (ts : List Term) (s : Standing) : Type 0 where
  term : Term
  has : Contains ts term
  stands : StandsFor at term s

found : (at : ℕ → Literals) (ts : List Term) (xs : List Standing) (s : Standing) (k : ℕ) → StandFor at ts xs → k < length xs → get_or xs k s ≡ s → Stands at ts s
found at [] [] s k h l e = absurd (omega (arith, l))
found at [] (x ∷ xs) s k h l e = absurd h
found at (t ∷ ts) [] s k h l e = absurd h
found at (t ∷ ts) (x ∷ xs) s zero h l e = record { term = t; has = (0, omega arith, refl); stands = subst (StandsFor at t) e h.0 }
found at (t ∷ ts) (x ∷ xs) s (suc k) h l e =
    let f = found at ts xs s k h.1 (omega (arith, l)) e in
    record { term = f.term; has = Contains-append_right (t ∷ []) ts f.term f.has; stands = f.stands }

both-free : (a b : Bool) → a ≡ false → b ≡ false → (not a && not b) ≡ true
both-free a b e f = rw (e, f) refl

module _ (at : ℕ → Literals) (r : PlainRow) (xs : List Standing) (h : StandFor at r.terms xs) (k : ℕ) where
  here : nonfalse_at k xs ≡ nonfalse_sum (at k) r.terms
  here = sums-are at k r.terms xs h

  settled-all : IsKeptAt r.degree xs k → (ts : List Term) (ys : List Standing) → StandFor at ts ys → AllByRecursion (Contains xs) ys → AllByRecursion (IsSettled (at k) r) ts
  settled-all kept [] [] f c = tt
  settled-all kept [] (y ∷ ys) f c = absurd f
  settled-all kept (t ∷ ts) [] f c = absurd f
  settled-all kept (t ∷ ts) (y ∷ ys) f c = (
    λ unfalse exceeds. elim (cases_Bool (at k t.lit)) [
      | inl e ↦ e
      | inr e ↦ absurd (omega (arith, exceeds, here, f.0.weight, kept.spared y c.0 (sym (f.0.free k) ∙ both-free (at k t.lit) (at k (opposite_lit t.lit)) e unfalse)))
    ],
    settled-all kept ts ys f.1 c.1,
  )

  keeps-row : IsKeptAt r.degree xs k → Keeps (at k) r
  keeps-row kept = record {
    unfalsified = omega (arith, kept.unfalsified, here);
    settled = All-from_recursion (IsSettled (at k) r) r.terms (settled-all kept r.terms xs h (recursion_from_All (Contains xs) xs (All-contains_itself xs)));
  }

  opens-row : IsOpenAt r.degree xs k → Falsified (at k) r ⊎ PropagatesTerm (at k) r
  opens-row (inl less) = inl (omega (arith, less, here))
  opens-row (inr o) =
      let f = found at r.terms xs o.literal o.stands.0 h o.stands.1 o.stands.2 in
      inr (record { term = f.term; has = f.has; propagates = record { free = f.stands.free k ∙ o.free; exceeds = omega (arith, o.exceeds, here, f.stands.weight) } })

lowest-under : (at : ℕ → Literals) (r : PlainRow) (xs : List Standing) → StandFor at r.terms xs → (level : Option ℕ) → IsLowestOpen r.degree xs level → IsLowestUnder at r level
lowest-under at r xs h None low = λ k. keeps-row at r xs h k (low k)
lowest-under at r xs h (Some level) low = (opens-row at r xs h level low.0, λ k l. keeps-row at r xs h k (low.1 k l))

pub lowest-of-rows : (degree : ℕ) (xs : List Standing) (level : Option ℕ) → IsLowestOpen degree xs level → IsLowestOfRows degree xs level
lowest-of-rows degree xs level low at r e h = lowest-under at r xs h level (subst (λ (n : ℕ). IsLowestOpen n xs level) e low)
