-- The values that literals name.
use Rattle.std.proofs.Common.{◌≡◌, ℕ, ◌+◌, ◌-◌, ◌<◌, ◌==◌, Bool, true, false, not, ◌&&◌, ◌||◌, nat_le, List, [], ◌∷◌, ◌++◌, if◌then◌else◌, length, get_or, set, count_by, map, inl, inr, refl, sym, ap, ap₂, ◌∙◌, subst, arith, Contains}
use Rattle.std.specs.Prelude.{Option, Some, None, is_some}
use Rattle.std.proofs.lemmas.Bool.{and_parts, cases_Bool, cases_eq, eq-eqb, eqb-true, le-leb, leb-true, ne_eqb}
use Rattle.std.proofs.lemmas.List.{get_or-map, get_or-set_other, get_or-set_same, length-map}
use Rattle.std.proofs.Math.ListN.{length-set}
use Rattle.std.proofs.lemmas.List.Folds.{list_any-append}
use Rattle.std.proofs.lemmas.List.Sums.{sum_by-append, sum_by-cons}
use Rattle.hrt_base.specs.declared.literal.Lit.{Lit}
use Rattle.pb_rows.specs.Points.{IsCovered}
use Rattle.rank_tables.specs.Numbers.{is_in, numbers_to}
use Rattle.rank_tables.proofs.Numbers.{all_at, all_from, is_in-numbers_to}
use Rattle.proof_rules.specs.States.{is_full, named_point}
use Rattle.proof_checker.specs.Tests.{AreNamed, IsNamed, IsNamedPoint}

-- ---- how often a variable is named

abbrev times : ℕ → List Lit → ℕ
times v ls = count_by (λ (l : Lit). l.var == v) ls

abbrev one_if : Bool → ℕ
one_if b = if b then 1 else 0

times-cons : (v : ℕ) (l : Lit) (ls : List Lit) → times v (l ∷ ls) ≡ one_if (l.var == v) + times v ls
times-cons v l ls = sum_by-cons (λ (k : Lit). if k.var == v then 1 else 0) l ls

times-append : (v : ℕ) (ls ks : List Lit) → times v (ls ++ ks) ≡ times v ls + times v ks
times-append v ls ks = sum_by-append (λ (k : Lit). if k.var == v then 1 else 0) ls ks

times-push : (v : ℕ) (ls : List Lit) (l : Lit) → times v (ls ++ l ∷ []) ≡ times v ls + one_if (l.var == v)
times-push v ls l = omega (arith, times-append v ls (l ∷ []), times-cons v l [])

unnamed : (v : ℕ) (ls : List Lit) → times v ls ≡ 0 → named_point ls v ≡ false
unnamed v [] h = refl
unnamed v (l ∷ ls) h = elim (cases_Bool (l.var == v)) [
  | inl e ↦ absurd (omega (arith, sym h ∙ times-cons v l ls ∙ ap (λ (b : Bool). one_if b + times v ls) e))
  | inr e ↦ rw e (unnamed v ls (omega (arith, sym h ∙ times-cons v l ls ∙ ap (λ (b : Bool). one_if b + times v ls) e)))
]

or_false : (a b : Bool) → (a || (b || false)) ≡ (a || b)
or_false true b = refl
or_false false true = refl
or_false false false = refl

named-push : (v : ℕ) (ls : List Lit) (l : Lit) → named_point (ls ++ l ∷ []) v ≡ (named_point ls v || (l.var == v && not l.neg))
named-push v ls l = list_any-append (λ (k : Lit). k.var == v && not k.neg) ls (l ∷ []) ∙ or_false (named_point ls v) (l.var == v && not l.neg)

-- ---- one more literal

or_nothing : (a b : Bool) → b ≡ false → (a || b) ≡ a
or_nothing true b e = refl
or_nothing false b e = e

other_literal : (v : ℕ) (ls : List Lit) (l : Lit) (o : Option Bool) → (l.var == v) ≡ false → IsNamed ls v o → IsNamed (ls ++ l ∷ []) v o
other_literal v ls l None e h = omega (arith, h, times-push v ls l ∙ ap (λ (b : Bool). times v ls + one_if b) e)
other_literal v ls l (Some b) e h = (
  omega (arith, h.0, times-push v ls l ∙ ap (λ (b : Bool). times v ls + one_if b) e),
  named-push v ls l ∙ or_nothing (named_point ls v) (l.var == v && not l.neg) (ap (λ (b : Bool). b && not l.neg) e) ∙ h.1,
)

same_literal : (v : ℕ) (ls : List Lit) (l : Lit) → (l.var == v) ≡ true → times v ls ≡ 0 → IsNamed (ls ++ l ∷ []) v (Some (not l.neg))
same_literal v ls l e h = (
  omega (arith, h, times-push v ls l ∙ ap (λ (b : Bool). times v ls + one_if b) e),
  named-push v ls l ∙ ap₂ (λ (a b : Bool). a || (b && not l.neg)) (unnamed v ls h) e,
)

was_unnamed : (ls : List Lit) (v : ℕ) (o : Option Bool) → is_some o ≡ false → IsNamed ls v o → times v ls ≡ 0
was_unnamed ls v None e h = h
was_unnamed ls v (Some b) e h = absurd (cc e)

was_named : (ls : List Lit) (v : ℕ) (o : Option Bool) → is_some o ≡ true → IsNamed ls v o → times v ls ≡ 1
was_named ls v None e h = absurd (cc e)
was_named ls v (Some b) e h = h.0

-- one that names a variable for the first time
pub named-more : (vars : ℕ) (ls : List Lit) (values : List (Option Bool)) (l : Lit) → AreNamed vars ls values → IsCovered vars l.var → is_some (get_or values (l.var - 1) None) ≡ false →
    AreNamed vars (ls ++ l ∷ []) (set values (l.var - 1) (Some (not l.neg)))
named-more vars ls values l named cl e = record {
  size = length-set values (l.var - 1) (Some (not l.neg)) ∙ named.size;
  each = λ v c. elim (cases_eq l.var v) [
    | inl same ↦
        let was : times v ls ≡ 0 = subst (λ (w : ℕ). times w ls ≡ 0) same (was_unnamed ls l.var (get_or values (l.var - 1) None) e (named.each l.var cl)) in
        let here : get_or (set values (l.var - 1) (Some (not l.neg))) (v - 1) None ≡ Some (not l.neg) =
        ap (λ (w : ℕ). get_or (set values (l.var - 1) (Some (not l.neg))) (w - 1) None) (sym same) ∙ get_or-set_same values (l.var - 1) (Some (not l.neg)) None (omega (arith, named.size, cl.first, cl.last)) in
        subst (IsNamed (ls ++ l ∷ []) v) (sym here) (same_literal v ls l (eq-eqb l.var v same) was)
    | inr other ↦
        let apart : v - 1 ≡ l.var - 1 → ⊥ = λ q. other (omega (arith, q, c.first, cl.first)) in
        subst (IsNamed (ls ++ l ∷ []) v) (sym (get_or-set_other values (l.var - 1) (v - 1) (Some (not l.neg)) None apart))
        (other_literal v ls l (get_or values (v - 1) None) (ne_eqb l.var v other) (named.each v c))
  ];
}

-- ---- not each variable once

not_once : (vars v : ℕ) (ls : List Lit) → IsCovered vars v → (times v ls ≡ 1 → ⊥) → is_full vars ls ≡ false
not_once vars v ls c h = elim (cases_Bool (is_full vars ls)) [
  | inl full ↦ absurd (h (eqb-true (times v ls) 1 (all_at (λ w. times w ls == 1) (numbers_to vars) v full (is_in-numbers_to vars v ∙ ap₂ (λ (a b : Bool). a && b) (le-leb 1 v c.first) (le-leb v vars c.last)))))
  | inr not ↦ not
]

-- a variable that was named already
pub named-twice : (vars : ℕ) (ls rest : List Lit) (values : List (Option Bool)) (l : Lit) → AreNamed vars ls values → IsCovered vars l.var → is_some (get_or values (l.var - 1) None) ≡ true → is_full vars (ls ++ l ∷ rest) ≡ false
named-twice vars ls rest values l named cl e =
    not_once vars l.var (ls ++ l ∷ rest) cl (λ once. absurd (omega (arith, once, was_named ls l.var (get_or values (l.var - 1) None) e (named.each l.var cl), times-append l.var ls (l ∷ rest), times-cons l.var l rest ∙ ap (λ (b : Bool). one_if b + times l.var rest) (eq-eqb l.var l.var refl))))

-- one that no literal names
pub named-missing : (vars : ℕ) (ls : List Lit) (values : List (Option Bool)) → AreNamed vars ls values → Contains values None → is_full vars ls ≡ false
named-missing vars ls values named (k, h, at) =
    let c : IsCovered vars (k + 1) = record { first = omega arith; last = omega (arith, h, named.size) } in
    let place : (k + 1) - 1 ≡ k = omega arith in
    let none : times (k + 1) ls ≡ 0 = subst (IsNamed ls (k + 1)) (ap (λ (i : ℕ). get_or values i None) place ∙ at) (named.each (k + 1) c) in
    not_once vars (k + 1) ls c (λ once. absurd (omega (arith, once, none)))

-- ---- each variable once

value_at_place : (values : List (Option Bool)) (bits : List Bool) (i : ℕ) → map Some bits ≡ values → i < length values → get_or values i None ≡ Some (get_or bits i false)
value_at_place values bits i e h =
    ap (λ (os : List (Option Bool)). get_or os i None) (sym e) ∙ get_or-map Some bits i false None (omega (arith, h, sym (ap length e) ∙ length-map bits Some))

pub named-all : (vars : ℕ) (ls : List Lit) (values : List (Option Bool)) (bits : List Bool) → AreNamed vars ls values → map Some bits ≡ values → IsNamedPoint vars ls bits
named-all vars ls values bits named e = record {
  full = all_from (λ w. times w ls == 1) (numbers_to vars) (λ v i. eq-eqb (times v ls) 1 (here v (within v i)).0);
  size = sym (length-map bits Some) ∙ ap length e ∙ named.size;
  same = λ v c. sym (here v c).1;
}
  where
    within : (v : ℕ) → is_in v (numbers_to vars) ≡ true → IsCovered vars v
    within v i =
        let parts = and_parts (nat_le 1 v) (nat_le v vars) (sym (is_in-numbers_to vars v) ∙ i) in
        record { first = leb-true 1 v parts.0; last = leb-true v vars parts.1 }

    here : (v : ℕ) → IsCovered vars v → (times v ls ≡ 1) × (named_point ls v ≡ get_or bits (v - 1) false)
    here v c = subst (IsNamed ls v) (value_at_place values bits (v - 1) e (omega (arith, named.size, c.first, c.last))) (named.each v c)
