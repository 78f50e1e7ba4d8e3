-- What the heads of two rising lists become when the lists are joined.
use Rattle.std.proofs.Common.{◌≡◌, ◌∙◌, ◌≤◌, ◌<◌, ◌+◌, ◌^◌, inl, inr, ℕ, zero, suc, List, [], ◌∷◌, ◌++◌, refl, ap, sym, subst, arith, append_assoc}
use Rattle.std.proofs.lemmas.Bool.{cases_Bool, cases_order}
use Rattle.hrt_base.specs.declared.literal.Lit.{Lit}
use Rattle.hrt_base.specs.declared.literal.Term.{Term}
use Rattle.pb_rows.specs.Terms.{IsPositive, IsRisingFrom, coef_sum, weighing, positive_part}
use Rattle.pb_rows.specs.Joined.{are_alike, lost, lost_all, lost_between, met, put, put_all, remains}
use Rattle.pb_rows.proofs.Values.{put_above, put_at, put_below}
use Rattle.pb_rows.proofs.Order.{met_is, rising_down}

pub record Joins (ts us : List Term) (first : List Term) (gone : ℕ) (ts' us' : List Term) : Type 0 where
  pub terms : put_all ts us ≡ first ++ put_all ts' us'
  pub losses : lost_all ts us ≡ gone + lost_all ts' us'

-- a head below all that is put stays
pub joins_first : (t : Term) (ts us : List Term) → IsRisingFrom (t.lit.var + 1) us → Joins (t ∷ ts) us (t ∷ []) 0 ts us
joins_first t ts [] r = record { terms = refl; losses = omega arith }
joins_first t ts (u ∷ us) r =
    let here = put_above u t ts (omega (arith, r.0)) in
    let rest = joins_first t (put u ts) us (rising_down (t.lit.var + 1) (u.lit.var + 1) us (omega (arith, r.0)) r.2) in
    record {
      terms = rw here.0 rest.terms;
      losses = rw (here.1, here.0) (omega (arith, rest.losses));
    }

-- what is put below the head comes first
pub joins_second : (t u : Term) (ts us : List Term) → u.lit.var < t.lit.var → IsRisingFrom (u.lit.var + 1) us → Joins (t ∷ ts) (u ∷ us) (u ∷ []) 0 (t ∷ ts) us
joins_second t u ts us h r =
    let here = put_below u t ts h in
    let rest = joins_first u (t ∷ ts) us r in
    record { terms = rw here.0 rest.terms; losses = rw (here.1, here.0) (omega (arith, rest.losses)) }

pub joins_last : (u : Term) (us : List Term) → IsRisingFrom (u.lit.var + 1) us → Joins [] (u ∷ us) (u ∷ []) 0 [] us
joins_last u us r =
    let rest = joins_first u [] us r in
    record { terms = rest.terms; losses = omega (arith, rest.losses) }

joins_remains : (n : ℕ) (l : Lit) (ts us : List Term) → IsRisingFrom (l.var + 1) us → Joins (remains n l ++ ts) us (remains n l) 0 ts us
joins_remains zero l ts us r = record { terms = refl; losses = omega arith }
joins_remains (suc n) l ts us r = joins_first (weighing (suc n) l) ts us r

-- heads over one variable meet
pub joins_both : (t u : Term) (ts us : List Term) → u.lit.var ≡ t.lit.var → IsPositive u.coef → IsRisingFrom (u.lit.var + 1) us → Joins (t ∷ ts) (u ∷ us) (met u t) (lost_between u t) ts us
joins_both t u ts us e p r =
    let here = put_at u t ts e in
    let m = met_is u t e p in
    let rest = joins_remains m.size m.lit ts us (rw (m.var, ← e) r) in
    record {
      terms = rw (here.0, m.is) rest.terms;
      losses = rw (here.1, here.0, m.is) (omega (arith, rest.losses));
    }

lost_between_le : (t u : Term) → lost_between t u ≤ positive_part t.coef
lost_between_le t u = elim (cases_Bool (are_alike t u)) [ inl e ↦ rw e (omega arith) | inr e ↦ rw e (omega arith) ]

lost_le : (t : Term) (us : List Term) → lost t us ≤ positive_part t.coef
lost_le t [] = omega arith
lost_le t (u ∷ us) = elim (cases_order t.lit.var u.lit.var) [
  | inl e ↦ rw (put_at t u us e).1 (lost_between_le t u)
  | inr (inl h) ↦ rw (put_below t u us h).1 (omega arith)
  | inr (inr h) ↦ rw (put_above t u us h).1 (lost_le t us)
]

pub lost_all_le : (us ts : List Term) → lost_all us ts ≤ coef_sum ts
lost_all_le us [] = omega arith
lost_all_le us (t ∷ ts) = omega (arith, lost_le t us, lost_all_le (put t us) ts)

-- ---- a merge, step by step: `out` is written, `left` and `right` are to be joined

pub record IsMerging (a b out : List Term) (gone : ℕ) (left right : List Term) : Type 0 where
  pub terms : out ++ put_all left right ≡ put_all a b
  pub losses : gone + lost_all left right ≡ lost_all a b
  pub left_rises : IsRisingFrom 0 left
  pub right_rises : IsRisingFrom 0 right
  pub left_fits : coef_sum left ≤ 2 ^ 120
  pub right_fits : coef_sum right ≤ 2 ^ 120

-- what a step writes
merged_by : (a b out : List Term) (gone : ℕ) (left right first : List Term) (more : ℕ) (left' right' : List Term) → Joins left right first more left' right' → IsMerging a b out gone left right → IsRisingFrom 0 left' → IsRisingFrom 0 right' → coef_sum left' ≤ coef_sum left → coef_sum right' ≤ coef_sum right → IsMerging a b (out ++ first) (gone + more) left' right'
merged_by a b out gone left right first more left' right' j m l r x y = record {
  terms = append_assoc out first (put_all left' right') ∙ ap (λ (ts : List Term). out ++ ts) (sym j.terms) ∙ m.terms;
  losses = omega (arith, j.losses, m.losses);
  left_rises = l;
  right_rises = r;
  left_fits = omega (arith, x, m.left_fits);
  right_fits = omega (arith, y, m.right_fits);
}

rising_rest : (t : Term) (ts : List Term) → IsRisingFrom 0 (t ∷ ts) → IsRisingFrom 0 ts
rising_rest t ts r = rising_down 0 (t.lit.var + 1) ts (omega arith) r.2

module _ (a b out : List Term) (gone : ℕ) (left right : List Term) where
  pub merges_first : (t : Term) (ts : List Term) (u : Term) (us : List Term) → left ≡ t ∷ ts → right ≡ u ∷ us → t.lit.var < u.lit.var → IsMerging a b out gone left right → IsMerging a b (out ++ t ∷ []) gone ts right
  merges_first t ts u us el er h m =
      let l : IsRisingFrom 0 (t ∷ ts) = subst (λ (x : List Term). IsRisingFrom 0 x) el m.left_rises in
      let r : IsRisingFrom 0 (u ∷ us) = subst (λ (x : List Term). IsRisingFrom 0 x) er m.right_rises in
      let j : Joins left right (t ∷ []) 0 ts right = rw (el, er) (joins_first t ts (u ∷ us) (omega arith, r.1, r.2)) in
      let g : gone + 0 ≡ gone = omega arith in
      rw g at (merged_by a b out gone left right (t ∷ []) 0 ts right j m (rising_rest t ts l) m.right_rises (rw el (omega arith)) (omega arith))

  pub merges_both : (t : Term) (ts : List Term) (u : Term) (us : List Term) → left ≡ t ∷ ts → right ≡ u ∷ us → u.lit.var ≡ t.lit.var → IsMerging a b out gone left right → IsMerging a b (out ++ met u t) (gone + lost_between u t) ts us
  merges_both t ts u us el er e m =
      let l : IsRisingFrom 0 (t ∷ ts) = subst (λ (x : List Term). IsRisingFrom 0 x) el m.left_rises in
      let r : IsRisingFrom 0 (u ∷ us) = subst (λ (x : List Term). IsRisingFrom 0 x) er m.right_rises in
      let j : Joins left right (met u t) (lost_between u t) ts us = rw (el, er) (joins_both t u ts us e r.1 r.2) in
      merged_by a b out gone left right (met u t) (lost_between u t) ts us j m (rising_rest t ts l) (rising_rest u us r) (rw el (omega arith)) (rw er (omega arith))

  merges_second : (u : Term) (us : List Term) → right ≡ u ∷ us → Joins left (u ∷ us) (u ∷ []) 0 left us → IsMerging a b out gone left right → IsMerging a b (out ++ u ∷ []) gone left us
  merges_second u us er h m =
      let r : IsRisingFrom 0 (u ∷ us) = subst (λ (x : List Term). IsRisingFrom 0 x) er m.right_rises in
      let j : Joins left right (u ∷ []) 0 left us = rw er h in
      let g : gone + 0 ≡ gone = omega arith in
      rw g at (merged_by a b out gone left right (u ∷ []) 0 left us j m m.left_rises (rising_rest u us r) (omega arith) (rw er (omega arith)))

  pub merges_later : (t : Term) (ts : List Term) (u : Term) (us : List Term) → left ≡ t ∷ ts → right ≡ u ∷ us → u.lit.var < t.lit.var → IsMerging a b out gone left right → IsMerging a b (out ++ u ∷ []) gone left us
  merges_later t ts u us el er h m =
      let r : IsRisingFrom 0 (u ∷ us) = subst (λ (x : List Term). IsRisingFrom 0 x) er m.right_rises in
      merges_second u us er (rw el (joins_second t u ts us h r.2)) m

  pub merges_last : (u : Term) (us : List Term) → left ≡ [] → right ≡ u ∷ us → IsMerging a b out gone left right → IsMerging a b (out ++ u ∷ []) gone left us
  merges_last u us el er m =
      let r : IsRisingFrom 0 (u ∷ us) = subst (λ (x : List Term). IsRisingFrom 0 x) er m.right_rises in
      merges_second u us er (rw el (joins_last u us r.2)) m
