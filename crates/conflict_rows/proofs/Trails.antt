-- What every trail keeps: its literals are consistent, and its levels don't fall.
use Rattle.std.proofs.Common.{◌≡◌, ◌≤◌, ◌<◌, ◌+◌, ℕ, true, false, nat_le, List, [], ◌∷◌, ◌++◌, refl, sym, ◌∙◌, ap, subst, inl, inr, arith}
use Rattle.std.specs.Prelude.{Option, Some, None}
use Rattle.std.specs.List.{AllByRecursion}
use Rattle.std.proofs.lemmas.Bool.{le-leb, lt-leb, or_cases, or_from, or_left, or_right}
use Rattle.hrt_base.specs.declared.literal.Lit.{Lit}
use Rattle.pb_rows.specs.Terms.{PlainRow, opposite_lit}
use Rattle.pb_rows.specs.Closure.{is_same_lit}
use Rattle.propagation.proofs.Sets.{lit_apart, lit_is, lit_itself}
use Rattle.conflict_rows.specs.Trail.{IsGrounded, IsTrail, Placed, on, top_level, up_to}
use Rattle.conflict_rows.proofs.Literals.{opposite-opposite, opposite-other}
use Rattle.conflict_rows.proofs.OpenSums.{IsConsistent}

-- ---- literals

pub on-head : (e : Placed) (es : List Placed) → on (e ∷ es) e.lit ≡ true
on-head e es = or_left _ _ (lit_itself e.lit)

pub on-tail : (e : Placed) (es : List Placed) (l : Lit) → on es l ≡ true → on (e ∷ es) l ≡ true
on-tail e es l h = or_right _ _ h

pub on-within : (newer rest : List Placed) (l : Lit) → on rest l ≡ true → on (newer ++ rest) l ≡ true
on-within [] rest l h = h
on-within (e ∷ es) rest l h = or_right _ _ (on-within es rest l h)

pub on-consistent : (trail : List Placed) → IsTrail trail → IsConsistent (on trail)
on-consistent [] h l k = absurd (cc)
on-consistent (e ∷ es) h l k = elim (or_cases (is_same_lit l e.lit) (on es l) k) [
  | inl s ↦
      let same : l ≡ e.lit = lit_is l e.lit s in
      or_from _ _ (lit_apart (opposite_lit l) e.lit (λ f. opposite-other l (same ∙ sym f))) (subst (λ (k : Lit). on es (opposite_lit k) ≡ false) (sym same) h.0.unfalse)
  | inr m ↦ or_from _ _ (lit_apart (opposite_lit l) e.lit (λ f. fresh f m)) (on-consistent es h.1 l m)
]
  where
    fresh : opposite_lit l ≡ e.lit → on es l ≡ true → ⊥
    fresh f m =
        let other : l ≡ opposite_lit e.lit = sym (opposite-opposite l) ∙ ap opposite_lit f in
        let no : on es (opposite_lit e.lit) ≡ true = subst (λ (k : Lit). on es k ≡ true) other m in
        let yes = h.0.unfalse in
        cc

-- ---- levels

pub grounded_level : (before : List Placed) (l : Lit) (level : ℕ) (reason : Option PlainRow) → IsGrounded before l level reason → top_level before ≤ level
grounded_level before l level None h = omega arith
grounded_level before l level (Some r) h = let e = h.level_is in omega arith

pub levels_below : (trail : List Placed) → IsTrail trail → AllByRecursion (λ f. f.level ≤ top_level trail) trail
levels_below [] h = tt
levels_below (e ∷ es) h = (omega arith, lower es (levels_below es h.1))
  where
    less : top_level es ≤ e.level
    less = grounded_level es e.lit e.level e.reason h.0.grounded

    lower : (fs : List Placed) → AllByRecursion (λ f. f.level ≤ top_level es) fs → AllByRecursion (λ f. f.level ≤ e.level) fs
    lower [] a = tt
    lower (f ∷ fs) a = (let k = less in omega (arith, a.0), lower fs a.1)

pub trail_rest : (newer rest : List Placed) → IsTrail (newer ++ rest) → IsTrail rest
trail_rest [] rest h = h
trail_rest (f ∷ fs) rest h = trail_rest fs rest h.1

pub top_from : (newer : List Placed) (e : Placed) (es : List Placed) → IsTrail (newer ++ e ∷ es) → e.level ≤ top_level (newer ++ e ∷ es)
top_from [] e es h = omega arith
top_from (f ∷ fs) e es h = let k = top_from fs e es h.1 in let g = grounded_level (fs ++ e ∷ es) f.lit f.level f.reason h.0.grounded in omega arith

up_to-all : (level : ℕ) (es : List Placed) → AllByRecursion (λ f. f.level ≤ level) es → up_to level es ≡ es
up_to-all level [] h = refl
up_to-all level (f ∷ fs) h = let here : nat_le f.level level ≡ true = le-leb f.level level h.0 in rw here (ap (λ (gs : List Placed). f ∷ gs) (up_to-all level fs h.1))

pub up_to-newer : (level : ℕ) (newer : List Placed) (e : Placed) (es : List Placed) → level < e.level → IsTrail (newer ++ e ∷ es) → up_to level (newer ++ e ∷ es) ≡ up_to level es
up_to-newer level [] e es l h = let here : nat_le e.level level ≡ false = lt-leb e.level level l in rw here refl
up_to-newer level (f ∷ fs) e es l h =
    let k = top_from fs e es h.1 in
    let g = grounded_level (fs ++ e ∷ es) f.lit f.level f.reason h.0.grounded in
    let here : nat_le f.level level ≡ false = lt-leb f.level level (omega arith) in
    rw here (up_to-newer level fs e es l h.1)

-- what is before a decision is the trail up to the level below its own
pub up_to-decision : (newer : List Placed) (e : Placed) (es : List Placed) → IsTrail (newer ++ e ∷ es) → e.level ≡ top_level es + 1 → up_to (top_level es) (newer ++ e ∷ es) ≡ es
up_to-decision newer e es h k = up_to-newer (top_level es) newer e es (omega arith) h ∙ up_to-all (top_level es) es (levels_below es (trail_rest newer (e ∷ es) h).1)

-- a literal behind others came before them
pub fresh_behind : (newer : List Placed) (e : Placed) (es : List Placed) (f : Placed) → IsTrail (f ∷ newer ++ e ∷ es) → on (e ∷ es) f.lit ≡ true → ⊥
fresh_behind newer e es f h m = let yes = on-within newer (e ∷ es) f.lit m in let no = h.0.untrue in cc
