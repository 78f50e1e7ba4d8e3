-- Rows of opposites: nothing is lost where they are joined.
use Rattle.std.proofs.Common.{◌≡◌, ◌+◌, true, List, [], ◌∷◌, ◌++◌, refl, sym, ap, ◌∙◌, subst, inl, inr, arith}
use Rattle.std.specs.List.{AllByRecursion}
use Rattle.std.proofs.lemmas.Bool.{cases_order}
use Rattle.hrt_base.specs.declared.literal.Term.{Term}
use Rattle.pb_rows.specs.Terms.{weighing, positive_part}
use Rattle.pb_rows.specs.Joined.{are_alike, lost, lost_all, lost_between, met, put, put_all}
use Rattle.pb_rows.proofs.Values.{put_above, put_at, put_below}

abbrev pub AreOpposites : List Term → Type 0
AreOpposites = AllByRecursion (λ (t : Term). t.lit.neg ≡ true)

alike : (t u : Term) → t.lit.neg ≡ true → u.lit.neg ≡ true → are_alike t u ≡ true
alike t u h k = rw (h, k) refl

met_alike : (t u : Term) → t.lit.neg ≡ true → u.lit.neg ≡ true → met t u ≡ weighing (positive_part t.coef + positive_part u.coef) u.lit ∷ []
met_alike t u h k = rw (alike t u h k) refl

nothing_between : (t u : Term) → t.lit.neg ≡ true → u.lit.neg ≡ true → lost_between t u ≡ 0
nothing_between t u h k = rw (alike t u h k) refl

put_opposites : (t : Term) (us : List Term) → t.lit.neg ≡ true → AreOpposites us → AreOpposites (put t us)
put_opposites t [] h k = (h, tt)
put_opposites t (u ∷ us) h k = elim (cases_order t.lit.var u.lit.var) [
  | inl e ↦ subst AreOpposites (sym ((put_at t u us e).0 ∙ ap (λ (ts : List Term). ts ++ us) (met_alike t u h k.0))) k
  | inr (inl less) ↦ subst AreOpposites (sym (put_below t u us less).0) (h, k)
  | inr (inr more) ↦ subst AreOpposites (sym (put_above t u us more).0) (k.0, put_opposites t us h k.1)
]

nothing_lost : (t : Term) (us : List Term) → t.lit.neg ≡ true → AreOpposites us → lost t us ≡ 0
nothing_lost t [] h k = refl
nothing_lost t (u ∷ us) h k = elim (cases_order t.lit.var u.lit.var) [
  | inl e ↦ (put_at t u us e).1 ∙ nothing_between t u h k.0
  | inr (inl less) ↦ (put_below t u us less).1
  | inr (inr more) ↦ (put_above t u us more).1 ∙ nothing_lost t us h k.1
]

pub put_all_opposites : (us ts : List Term) → AreOpposites us → AreOpposites ts → AreOpposites (put_all us ts)
put_all_opposites us [] h k = h
put_all_opposites us (t ∷ ts) h k = put_all_opposites (put t us) ts (put_opposites t us k.0 h) k.1

pub nothing_lost_all : (us ts : List Term) → AreOpposites us → AreOpposites ts → lost_all us ts ≡ 0
nothing_lost_all us [] h k = refl
nothing_lost_all us (t ∷ ts) h k = omega (arith, nothing_lost t us k.0 h, nothing_lost_all (put t us) ts (put_opposites t us k.0 h) k.1)
