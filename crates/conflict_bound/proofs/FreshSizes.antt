-- The sizes of a fresh row's closures: there are some, and they rise.
use Rattle.std.proofs.Common.{◌≡◌, ℕ, ◌+◌, ◌≤◌, Bool, true, false, not, ◌||◌, ◌==◌, if◌then◌else◌, List, [], ◌∷◌, ◌++◌, inl, inr, refl, sym, ap, ◌∙◌, subst, arith}
use Rattle.std.specs.List.{AllByRecursion}
use Rattle.std.proofs.lemmas.Bool.{and_right, false_from_ne_true, or_cases, or_from, or_left, or_right}
use Rattle.std.proofs.lemmas.List.{append-nil, append_assoc}
use Rattle.std.proofs.lemmas.List.Folds.{list_any-append}
use Rattle.std.proofs.lemmas.List.Elements.{recursion_from_All}
use Rattle.hrt_base.specs.declared.literal.Lit.{Lit}
use Rattle.pb_rows.specs.Terms.{PlainRow, opposite_lit}
use Rattle.pb_rows.specs.Points.{IsCovered}
use Rattle.pb_rows.specs.Closure.{IsClosure, Literals, among, is_same_lit}
use Rattle.pb_rows.proofs.Implied.{closure-unique}
use Rattle.proof_rules.specs.Notes.{AreDecisions, HaveSizes, IsOpen, set_size, with_lit}
use Rattle.proof_rules.proofs.Learned.{same_itself, same_lit}
use Rattle.conflict_bound.specs.Sizes.{FreshRowsHaveSizes, FreshSizesRise, RiseFrom}
use Rattle.conflict_bound.proofs.SetSizes.{size-fewer, size-within}

-- ---- given literals

among-append : (xs ys : List Lit) (l : Lit) → among (xs ++ ys) l ≡ (among xs l || among ys l)
among-append xs ys l = list_any-append (is_same_lit l) xs ys

among-front : (xs ys : List Lit) (l : Lit) → among xs l ≡ true → among (xs ++ ys) l ≡ true
among-front xs ys l h = among-append xs ys l ∙ or_left (among xs l) (among ys l) h

among-last : (xs : List Lit) (l : Lit) → among (xs ++ l ∷ []) l ≡ true
among-last xs l = among-append xs (l ∷ []) l ∙ or_right (among xs l) (among (l ∷ []) l) (or_left (is_same_lit l l) false (same_itself l))

-- more given literals, a larger closure
closure-more : (rows : List PlainRow) (given more a b : Literals) → ((l : Lit) → given l ≡ true → more l ≡ true) → IsClosure rows given a → IsClosure rows more b → (l : Lit) → a l ≡ true → b l ≡ true
closure-more rows given more a b h ca cb = ca.least b (record { has_given = λ l g. cb.quiet.has_given l (h l g); consistent = cb.quiet.consistent; kept = cb.quiet.kept })

-- ---- one literal more

clash : (b : Bool) → b ≡ true → b ≡ false → ⊥
clash b h k = absurd (cc)

not-twice : (b : Bool) → not (not b) ≡ b
not-twice true = refl
not-twice false = refl

opposite-twice : (l : Lit) → opposite_lit (opposite_lit l) ≡ l
opposite-twice l = ap (λ (n : Bool). record { var = l.var; neg = n }) (not-twice l.neg)

other_sign : (n : Bool) → (if not n then n else not n) ≡ false
other_sign true = refl
other_sign false = refl

opposite-differs : (l : Lit) → is_same_lit (opposite_lit l) l ≡ false
opposite-differs l = and_right (l.var == l.var) (if not l.neg then l.neg else not l.neg) (other_sign l.neg)

pub with_lit-has : (l : Lit) (set : Literals) → with_lit l set l ≡ true
with_lit-has l set = or_left (is_same_lit l l) (set l) (same_itself l)

pub with_lit-more : (l : Lit) (set : Literals) (k : Lit) → set k ≡ true → with_lit l set k ≡ true
with_lit-more l set k h = or_right (is_same_lit k l) (set k) h

-- a set without both signs of a variable stays so with an open literal
with_lit-consistent : (l : Lit) (set : Literals) → ((k : Lit) → set k ≡ true → set (opposite_lit k) ≡ false) → set (opposite_lit l) ≡ false → (k : Lit) → with_lit l set k ≡ true → with_lit l set (opposite_lit k) ≡ false
with_lit-consistent l set h o k w = elim (or_cases (is_same_lit k l) (set k) w) [
  | inl s ↦ or_from (is_same_lit (opposite_lit k) l) (set (opposite_lit k))
      (subst (λ (x : Lit). is_same_lit (opposite_lit x) l ≡ false) (sym (same_lit k l s)) (opposite-differs l))
      (subst (λ (x : Lit). set (opposite_lit x) ≡ false) (sym (same_lit k l s)) o)
  | inr s ↦ or_from (is_same_lit (opposite_lit k) l) (set (opposite_lit k)) (false_from_ne_true (is_same_lit (opposite_lit k) l) (other s)) (h k s)
]
  where
    other : set k ≡ true → is_same_lit (opposite_lit k) l ≡ true → ⊥
    other s e = let back : k ≡ opposite_lit l = sym (opposite-twice k) ∙ ap opposite_lit (same_lit (opposite_lit k) l e) in clash (set k) s (ap set back ∙ o)

-- ---- lists of sizes

rise-cons : (n low s : ℕ) (rest : List ℕ) → low ≤ s → RiseFrom n (s + 1) rest → RiseFrom n low (s ∷ rest)
rise-cons n low s [] h r = absurd r
rise-cons n low s (t ∷ more) h r = (h, r)

-- the closure of all decisions leaves the literal open
abbrev LeavesOpen : List PlainRow → List Lit → Lit → Type 0
LeavesOpen rows decisions l = (set : Literals) → IsClosure rows (among decisions) set → IsOpen set l

sizes-rise : (vars : ℕ) (rows : List PlainRow) (earlier later : List Lit) (l : Lit) (sizes : List ℕ) (low : ℕ) → AreDecisions rows earlier later → AllByRecursion (λ d. IsCovered vars d.var) later → IsCovered vars l.var
    → LeavesOpen rows (earlier ++ later) l → ((set : Literals) → IsClosure rows (among earlier) set → low ≤ set_size vars set) → HaveSizes vars rows earlier later l sizes → RiseFrom vars low sizes
sizes-rise vars rows earlier [] l sizes low ds ks k leaves above s =
    let o = subst (λ (decisions : List Lit). LeavesOpen rows decisions l) (append-nil earlier) leaves s.0 s.1 in
    subst (RiseFrom vars low) (sym s.2) (
      omega (arith, above s.0 s.1, size-fewer vars s.0 (with_lit l s.0) (with_lit-more l s.0) l k o.not_true (with_lit-has l s.0)),
      size-within vars (with_lit l s.0) (with_lit-consistent l s.0 s.1.quiet.consistent o.not_false),
    )
sizes-rise vars rows earlier (d ∷ later) l sizes low ds ks k leaves above s =
    subst (RiseFrom vars low) (sym s.3)
    (rise-cons vars low (set_size vars s.0) s.1 (above s.0 s.2)
    (sizes-rise vars rows (earlier ++ d ∷ []) later l s.1 (set_size vars s.0 + 1) ds.1 ks.1 k
    (subst (λ (decisions : List Lit). LeavesOpen rows decisions l) (sym (append_assoc earlier (d ∷ []) later)) leaves) next s.4))
  where
    next : (set : Literals) → IsClosure rows (among (earlier ++ d ∷ [])) set → set_size vars s.0 + 1 ≤ set_size vars set
    next set c = omega (
      arith,
      size-fewer vars s.0 set (closure-more rows (among earlier) (among (earlier ++ d ∷ [])) s.0 set (among-front earlier (d ∷ [])) s.2 c) d ks.0
          (closure-unique rows (among earlier) s.0 ds.0.0 s.2 ds.0.1 d ∙ ds.0.2.not_true) (c.quiet.has_given d (among-last earlier d)),
    )

pub fresh_rise : FreshSizesRise
fresh_rise vars learned sizes is s =
    sizes-rise vars learned.held [] learned.decisions learned.asserts sizes 0 is.fresh.decided (recursion_from_All (λ (d : Lit). IsCovered vars d.var) learned.decisions is.fresh.decisions_known) is.fresh.known leaves (λ set c. omega arith) s
  where
    leaves : LeavesOpen learned.held learned.decisions learned.asserts
    leaves set c = record {
      not_true = closure-unique learned.held (among learned.decisions) set is.fresh.set c is.fresh.closure learned.asserts ∙ is.fresh.leaves_open.not_true;
      not_false = closure-unique learned.held (among learned.decisions) set is.fresh.set c is.fresh.closure (opposite_lit learned.asserts) ∙ is.fresh.leaves_open.not_false;
    }

-- ---- there are some

sizes-exist : (vars : ℕ) (rows : List PlainRow) (earlier later : List Lit) (l : Lit) (set : Literals) → AreDecisions rows earlier later → IsClosure rows (among (earlier ++ later)) set → (sizes : List ℕ) × HaveSizes vars rows earlier later l sizes
sizes-exist vars rows earlier [] l set ds c =
    (set_size vars (with_lit l set) ∷ [], (set, subst (λ (decisions : List Lit). IsClosure rows (among decisions) set) (append-nil earlier) c, refl))
sizes-exist vars rows earlier (d ∷ later) l set ds c =
    let rest = sizes-exist vars rows (earlier ++ d ∷ []) later l set ds.1 (subst (λ (decisions : List Lit). IsClosure rows (among decisions) set) (sym (append_assoc earlier (d ∷ []) later)) c) in
    (set_size vars ds.0.0 ∷ rest.0, (ds.0.0, rest.0, ds.0.1, refl, rest.1))

pub fresh_sized : FreshRowsHaveSizes
fresh_sized vars learned is = sizes-exist vars learned.held [] learned.decisions learned.asserts is.fresh.set is.fresh.decided is.fresh.closure
