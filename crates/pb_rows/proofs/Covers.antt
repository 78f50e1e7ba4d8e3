-- The variables of a row that an operation makes are variables of its operands.
use Rattle.std.proofs.Common.{◌-◌, ◌*◌, ◌+◌, pos, inl, inr, min, ℕ, ℤ, zero, suc, Bool, not, List, [], ◌∷◌, ◌++◌, map, filter, subst}
use Rattle.std.specs.Int.{div_ceil}
use Rattle.std.specs.Int.RustNames.{unsigned_abs}
use Rattle.std.specs.List.{All, AllByRecursion as ByRecursion}
use Rattle.std.proofs.lemmas.Bool.{cases_Bool, cases_order}
use Rattle.std.proofs.lemmas.List.Elements.{All-from_recursion, recursion_from_All}
use Rattle.hrt_base.specs.declared.literal.Lit.{Lit}
use Rattle.hrt_base.specs.declared.literal.Term.{Term}
use Rattle.pb_rows.specs.Terms.{PlainRow, capped, divided, is_over, is_present, opposite_lit, reweighed, scaled, positive_part}
use Rattle.pb_rows.specs.Normal.{normal_form}
use Rattle.pb_rows.specs.Rows.{add, divide, saturate, times, weaken}
use Rattle.pb_rows.specs.Joined.{are_alike, is_negative, met, put, put_all, remains, signless, signless_all}
use Rattle.pb_rows.proofs.ByNets.{joined_form_is}
use Rattle.pb_rows.proofs.Values.{put_above, put_at, put_below}

abbrev pub Vars : (ℕ → Type 0) → List Term → Type 0
Vars Q = ByRecursion (λ (t : Term). Q t.lit.var)

module _ (Q : ℕ → Type 0) where
  append_vars : (ts us : List Term) → Vars Q ts → Vars Q us → Vars Q (ts ++ us)
  append_vars [] us a b = b
  append_vars (t ∷ ts) us a b = (a.0, append_vars ts us a.1 b)

  remains_vars : (n : ℕ) (l : Lit) → Q l.var → Vars Q (remains n l)
  remains_vars zero l h = tt
  remains_vars (suc n) l h = (h, tt)

  met_vars : (t u : Term) → Q t.lit.var → Q u.lit.var → Vars Q (met t u)
  met_vars t u h k = elim (cases_Bool (are_alike t u)) [
    | inl e ↦ rw e (k, tt)
    | inr e ↦
        let x : ℕ = positive_part u.coef - positive_part t.coef in
        let y : ℕ = positive_part t.coef - positive_part u.coef in
        rw e (append_vars (remains x u.lit) (remains y t.lit) (remains_vars x u.lit k) (remains_vars y t.lit h))
  ]

  put_vars : (t : Term) (us : List Term) → Q t.lit.var → Vars Q us → Vars Q (put t us)
  put_vars t [] h a = (h, tt)
  put_vars t (u ∷ us) h a = elim (cases_order t.lit.var u.lit.var) [
    | inl e ↦ rw (put_at t u us e).0 (append_vars (met t u) us (met_vars t u h a.0) a.1)
    | inr (inl less) ↦ rw (put_below t u us less).0 (h, a)
    | inr (inr more) ↦ rw (put_above t u us more).0 (a.0, put_vars t us h a.1)
  ]

  pub put_all_vars : (us ts : List Term) → Vars Q us → Vars Q ts → Vars Q (put_all us ts)
  put_all_vars us [] a b = a
  put_all_vars us (t ∷ ts) a b = put_all_vars (put t us) ts (put_vars t us b.0 a) b.1

  pub reweighed_vars : (f : ℕ → ℕ) (ts : List Term) → Vars Q ts → Vars Q (map (reweighed f) ts)
  reweighed_vars f [] a = tt
  reweighed_vars f (t ∷ ts) a = (a.0, reweighed_vars f ts a.1)

  pub filter_vars : (p : Term → Bool) (ts : List Term) → Vars Q ts → Vars Q (filter p ts)
  filter_vars p [] a = tt
  filter_vars p (t ∷ ts) a = elim (cases_Bool (p t)) [ inl e ↦ rw e (a.0, filter_vars p ts a.1) | inr e ↦ rw e (filter_vars p ts a.1) ]

  signless_vars : (t : Term) → Q t.lit.var → Vars Q (signless t)
  signless_vars t h = elim (cases_Bool (is_negative t.coef)) [
    | inl e ↦ rw e (remains_vars (unsigned_abs t.coef) (opposite_lit t.lit) h)
    | inr e ↦ rw e (remains_vars (unsigned_abs t.coef) t.lit h)
  ]

  pub signless_all_vars : (ts : List Term) → Vars Q ts → Vars Q (signless_all ts)
  signless_all_vars [] a = tt
  signless_all_vars (t ∷ ts) a = append_vars (signless t) (signless_all ts) (signless_vars t a.0) (signless_all_vars ts a.1)

-- ---- of rows, as `All`

module _ (Q : ℕ → Type 0) where
  abbrev pub Over : List Term → Type 0
  Over = All (λ (t : Term). Q t.lit.var)

  from_all : (ts : List Term) → Over ts → Vars Q ts
  from_all ts a = recursion_from_All (λ (t : Term). Q t.lit.var) ts a

  to_all : (ts : List Term) → Vars Q ts → Over ts
  to_all ts a = All-from_recursion (λ (t : Term). Q t.lit.var) ts a

  pub normal_form_over : (ts : List Term) (at_least : ℤ) → Over ts → Over (normal_form ts at_least).terms
  normal_form_over ts at_least a =
      subst (λ (r : PlainRow). Over r.terms) (joined_form_is ts at_least)
      (to_all (put_all [] (signless_all ts)) (put_all_vars Q [] (signless_all ts) tt (signless_all_vars Q ts (from_all ts a))))

  pub add_over : (a b : PlainRow) → Over a.terms → Over b.terms → Over (add a b).terms
  add_over a b h k = normal_form_over (a.terms ++ b.terms) (pos (a.degree + b.degree)) (to_all (a.terms ++ b.terms) (append_vars Q a.terms b.terms (from_all a.terms h) (from_all b.terms k)))

  pub times_over : (k : ℕ) (r : PlainRow) → Over r.terms → Over (times k r).terms
  times_over k r h = to_all (map (scaled k) r.terms) (reweighed_vars Q (λ n. n * k) r.terms (from_all r.terms h))

  pub divide_over : (k : ℕ) (r : PlainRow) → Over r.terms → Over (divide k r).terms
  divide_over k r h = to_all (map (divided k) r.terms) (reweighed_vars Q (λ n. div_ceil n k) r.terms (from_all r.terms h))

  pub saturate_over : (r : PlainRow) → Over r.terms → Over (saturate r).terms
  saturate_over r h =
      let low : List Term = map (capped r.degree) r.terms in
      to_all (filter is_present low) (filter_vars Q is_present low (reweighed_vars Q (λ n. min n r.degree) r.terms (from_all r.terms h)))

  pub weaken_over : (v : ℕ) (r : PlainRow) → Over r.terms → Over (weaken v r).terms
  weaken_over v r h = to_all (filter (λ t. not (is_over v t)) r.terms) (filter_vars Q (λ t. not (is_over v t)) r.terms (from_all r.terms h))
