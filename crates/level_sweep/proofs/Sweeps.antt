-- The sweep, one step at a time.
use Rattle.std.proofs.Common.{◌≡◌, ◌∙◌, ◌≤◌, ◌<◌, ◌+◌, ◌&&◌, ◌==◌, ℕ, Bool, true, false, not, if◌then◌else◌, List, [], ◌∷◌, ◌++◌, refl, sym, ap, subst, arith, inl, inr, append_assoc, Option, Some, None, max, leb, ltb, eq-eqb}
use Rattle.std.specs.List.{AllByRecursion, Contains}
use Rattle.std.proofs.lemmas.Bool.{cases_Bool, cases_eq, cases_lt, eqb-true, le-leb, lt-leb, le-ltb, lt-ltb, ltb-true, ltb-false}
use Rattle.std.proofs.lemmas.List.Elements.{All-contains, All-from_recursion, Contains-append_cases, Contains-append_left, Contains-append_right}
use Rattle.std.proofs.lemmas.List.Sums.{get_or-le-sum_by, sum_by-append, sum_by-cons}
use Rattle.level_sweep.specs.declared.sweeping.Stand.{Stand}
use Rattle.level_sweep.specs.declared.sweeping.Stand.TheVariants.{False, Free, True}
use Rattle.level_sweep.specs.declared.sweeping.Standing.{Standing}
use Rattle.level_sweep.specs.declared.sweeping.Sweep.{Sweep}
use Rattle.level_sweep.specs.Levels.{IsKeptAt, IsLowestOpen, IsOpenAt, from_of, is_before, is_false_at, is_free_at, nonfalse_at, share_at, weights}
use Rattle.level_sweep.specs.Sweeps.{AreFalling, AreSettled, IsBelow, IsLowestFrom, IsLevel, IsMet, IsSweptDown, is_next, late, never_false, never_false_share, passed, reached, reached_from, share_of, stepped}

-- ---- one literal

free-unfalse : (k : ℕ) (a : Stand) → is_free_at k a ≡ true → is_false_at k a ≡ false
free-unfalse k Free h = refl
free-unfalse k (True from) h = refl
free-unfalse k (False from) h = lt-leb from k (ltb-true k from h)

share-free : (k : ℕ) (s : Standing) → is_free_at k s.stand ≡ true → share_at k s ≡ s.weight
share-free k s h = let e = free-unfalse k s.stand h in rw e refl

settled-share : (k : ℕ) (a : Stand) (n : ℕ) → is_free_at k a ≡ false → (if is_false_at k a then 0 else n) ≡ share_of a n
settled-share k Free n h = absurd (cc)
settled-share k (True from) n h = refl
settled-share k (False from) n h = let e : leb from k ≡ true = le-leb from k (ltb-false k from h) in rw e refl

-- ---- sums

free-sum : (k : ℕ) (xs : List Standing) → AllByRecursion (λ (s : Standing). is_free_at k s.stand ≡ true) xs → nonfalse_at k xs ≡ weights xs
free-sum k [] a = refl
free-sum k (s ∷ xs) a = omega (arith, sum_by-cons (share_at k) s xs, sum_by-cons (λ (y : Standing). y.weight) s xs, free-sum k xs a.1, share-free k s a.0)

settled-sum : (k : ℕ) (xs : List Standing) → AllByRecursion (λ (s : Standing). is_free_at k s.stand ≡ false) xs → nonfalse_at k xs ≡ never_false xs
settled-sum k [] a = refl
settled-sum k (s ∷ xs) a = omega (arith, sum_by-cons (share_at k) s xs, sum_by-cons never_false_share s xs, settled-sum k xs a.1, settled-share k s.stand s.weight a.0)

share-below : (a : Stand) (n : ℕ) → share_of a n ≤ n
share-below Free n = omega arith
share-below (True from) n = omega arith
share-below (False from) n = omega arith

pub never_false-below : (xs : List Standing) → never_false xs ≤ weights xs
never_false-below [] = omega arith
never_false-below (s ∷ xs) = omega (arith, sum_by-cons never_false_share s xs, sum_by-cons (λ (y : Standing). y.weight) s xs, never_false-below xs, share-below s.stand s.weight)

pub weights-append : (xs ys : List Standing) → weights (xs ++ ys) ≡ weights xs + weights ys
weights-append xs ys = sum_by-append (λ (y : Standing). y.weight) xs ys

-- ---- lists

all-found : (P : Standing → Type 0) (xs : List Standing) (s : Standing) → AllByRecursion P xs → Contains xs s → P s
all-found P xs s a c = All-contains P xs s (All-from_recursion P xs a) c

all-push : (P : Standing → Type 0) (xs : List Standing) (s : Standing) → AllByRecursion P xs → P s → AllByRecursion P (xs ++ s ∷ [])
all-push P [] s a p = (p, tt)
all-push P (x ∷ xs) s a p = (a.0, all-push P xs s a.1 p)

all-map : (P Q : Standing → Type 0) (xs : List Standing) → ((s : Standing) → P s → Q s) → AllByRecursion P xs → AllByRecursion Q xs
all-map P Q [] f a = tt
all-map P Q (x ∷ xs) f a = (f x a.0, all-map P Q xs f a.1)

-- ---- what is known between two levels

module _ (degree : ℕ) (xs pre post : List Standing) (w : Sweep) (d : IsSweptDown degree xs pre post w) (k : ℕ) (below : IsBelow w.last k) (settled : AllByRecursion (λ (s : Standing). is_free_at k s.stand ≡ false) post) where
  abbrev free_here : AllByRecursion (λ (s : Standing). is_free_at k s.stand ≡ true) pre
  free_here = all-map (λ (s : Standing). (j : ℕ) → IsBelow w.last j → is_free_at j s.stand ≡ true) (λ (s : Standing). is_free_at k s.stand ≡ true) pre (λ s f. f k below) d.free

  sum-here : nonfalse_at k xs ≡ w.sum
  sum-here = ap (nonfalse_at k) d.whole ∙ sum_by-append (share_at k) pre post ∙ omega (arith, free-sum k pre free_here, settled-sum k post settled, d.sum)

  pub open-here : w.sum < degree + w.greatest → IsOpenAt degree xs k
  open-here less = elim d.met [
    | inl zero ↦ inl (omega (arith, less, zero, sum-here))
    | inr m ↦ inr (record {
      literal = m.0;
      stands = subst (λ (ys : List Standing). Contains ys m.0) (sym d.whole) (Contains-append_left pre post m.0 m.1);
      free = all-found (λ (s : Standing). is_free_at k s.stand ≡ true) pre m.0 free_here m.1;
      exceeds = omega (arith, less, m.2, sum-here);
    })
  ]

  spared-here : degree + w.greatest ≤ w.sum → (s : Standing) → Contains xs s → is_free_at k s.stand ≡ true → degree + s.weight ≤ nonfalse_at k xs
  spared-here enough s c free = elim (Contains-append_cases pre post s (subst (λ (ys : List Standing). Contains ys s) d.whole c)) [
    | inl early ↦ omega (arith, enough, sum-here, all-found (λ (y : Standing). y.weight ≤ w.greatest) pre s d.above early)
    | inr later ↦ absurd (let e : true ≡ false = sym free ∙ all-found (λ (y : Standing). is_free_at k y.stand ≡ false) post s settled later in cc)
  ]

  pub kept-here : degree + w.greatest ≤ w.sum → IsKeptAt degree xs k
  kept-here enough = record { unfalsified = omega (arith, enough, sum-here); spared = spared-here enough }

-- ---- a level is reached

-- the level is no higher than the last one
abbrev IsAtMost : Option ℕ → ℕ → Type 0
IsAtMost None level = Unit {0}
IsAtMost (Some last) level = level ≤ last

next-below : (last : Option ℕ) (level : ℕ) → IsAtMost last level → is_next last level ≡ true → IsBelow last level
next-below None level at e = tt
next-below (Some last) level at e = elim (cases_eq last level) [
  | inl same ↦ absurd (let t : (last == level) ≡ true = eq-eqb last level same in let f : not (last == level) ≡ false = rw t refl in cc)
  | inr other ↦ omega (arith, at, other)
]

below-more : (last : Option ℕ) (level k : ℕ) → IsAtMost last level → k < level → IsBelow last k
below-more None level k at h = tt
below-more (Some last) level k at h = omega (arith, at, h)

not-next : (last : Option ℕ) (level : ℕ) → is_next last level ≡ false → last ≡ Some level
not-next None level e = absurd (cc)
not-next (Some last) level e = elim (cases_Bool (last == level)) [
  | inl t ↦ ap (λ (n : ℕ). let o : Option ℕ = Some n in o) (eqb-true last level t)
  | inr f ↦ absurd (let g : not (last == level) ≡ true = rw f refl in cc)
]

before-later : (j k : ℕ) (from : Option ℕ) → j ≤ k → is_before j from ≡ false → is_before k from ≡ false
before-later j k None h e = absurd (cc)
before-later j k (Some from) h e = le-ltb k from (omega (arith, h, ltb-false j from e))

choose : (P : Option ℕ → Type 0) (a b : Option ℕ) (n l : Bool) → (n ≡ true → l ≡ true → P a) → (n ≡ false → P b) → (l ≡ false → P b) → P (if n && l then a else b)
choose P a b true true f g h = f refl refl
choose P a b true false f g h = h refl
choose P a b false l f g h = g refl

lowest-kept : (degree : ℕ) (xs : List Standing) (last lowest : Option ℕ) (level : ℕ) → IsAtMost last level → ((k : ℕ) → level ≤ k → IsBelow last k → IsKeptAt degree xs k)
    → IsLowestFrom degree xs last lowest → IsLowestFrom degree xs (Some level) lowest
lowest-kept degree xs None None level at kept low = λ k h. kept k h tt
lowest-kept degree xs None (Some n) level at kept low = absurd (cc)
lowest-kept degree xs (Some last) None level at kept low = λ k h. elim (cases_lt k last) [ inl l ↦ kept k h l | inr g ↦ low k g ]
lowest-kept degree xs (Some last) (Some n) level at kept low =
    (omega (arith, at, low.0), low.1, λ k h l. elim (cases_lt k last) [ inl m ↦ kept k h m | inr g ↦ low.2 k g l ])

module _ (degree : ℕ) (xs pre post : List Standing) (w : Sweep) (d : IsSweptDown degree xs pre post w) (level : ℕ) (at : IsAtMost w.last level) (settled : AllByRecursion (λ (s : Standing). is_free_at level s.stand ≡ false) post) where
  settled-at : (k : ℕ) → level ≤ k → AllByRecursion (λ (s : Standing). is_free_at k s.stand ≡ false) post
  settled-at k h = all-map (λ (s : Standing). is_free_at level s.stand ≡ false) (λ (s : Standing). is_free_at k s.stand ≡ false) post (λ s e. before-later level k (from_of s.stand) h e) settled

  reached-lowest : IsLowestFrom degree xs (Some level) (reached degree level w).lowest
  reached-lowest = choose (IsLowestFrom degree xs (Some level)) (Some level) w.lowest (is_next w.last level) (ltb w.sum (degree + w.greatest))
      (λ n l. (
        omega arith,
        open-here degree xs pre post w d level (next-below w.last level at n) settled (ltb-true w.sum (degree + w.greatest) l),
        λ k h g. absurd (omega (arith, h, g)),
      ))
      (λ n. subst (λ (o : Option ℕ). IsLowestFrom degree xs o w.lowest) (not-next w.last level n) d.lowest)
      (λ l. lowest-kept degree xs w.last w.lowest level at (λ k h b. kept-here degree xs pre post w d k b (settled-at k h) (ltb-false w.sum (degree + w.greatest) l)) d.lowest)

  pub reached-keeps : IsSweptDown degree xs pre post (reached degree level w)
  reached-keeps = record {
    whole = d.whole;
    sum = d.sum;
    above = d.above;
    met = d.met;
    free = all-map (λ (s : Standing). (j : ℕ) → IsBelow w.last j → is_free_at j s.stand ≡ true) (λ (s : Standing). (j : ℕ) → j < level → is_free_at j s.stand ≡ true) pre
        (λ s f j h. f j (below-more w.last level j at h)) d.free;
    settled = settled;
    falling = d.falling;
    lowest = reached-lowest;
  }

-- ---- a literal is passed

settled-tail : (last : Option ℕ) (s : Standing) (xs : List Standing) → AreSettled last (s ∷ xs) → AreSettled last xs
settled-tail None s xs a = tt
settled-tail (Some last) s xs a = a.1

met-more : (n : ℕ) (pre : List Standing) (s : Standing) → IsMet n pre → IsMet (max n s.weight) (pre ++ s ∷ [])
met-more n pre s m = elim (cases_lt n s.weight) [
  | inl less ↦ inr (s, Contains-append_right pre (s ∷ []) s (0, omega arith, refl), omega (arith, less))
  | inr more ↦ elim m [
    | inl zero ↦ inl (omega (arith, zero, more))
    | inr c ↦ inr (c.0, Contains-append_left pre (s ∷ []) c.0 c.1, omega (arith, c.2, more))
  ]
]

module _ (degree : ℕ) (xs pre : List Standing) (s : Standing) (post : List Standing) (w : Sweep) (d : IsSweptDown degree xs pre (s ∷ post) w) (free : (k : ℕ) → IsBelow w.last k → is_free_at k s.stand ≡ true) where
  passed-keeps : IsSweptDown degree xs (pre ++ s ∷ []) post (passed s w)
  passed-keeps = record {
    whole = d.whole ∙ sym (append_assoc pre (s ∷ []) post);
    sum = omega (arith, d.sum, weights-append pre (s ∷ []), sum_by-cons (λ (y : Standing). y.weight) s [], sum_by-cons never_false_share s post, share-below s.stand s.weight);
    above = all-push (λ (y : Standing). y.weight ≤ max w.greatest s.weight) pre s
        (all-map (λ (y : Standing). y.weight ≤ w.greatest) (λ (y : Standing). y.weight ≤ max w.greatest s.weight) pre (λ y h. omega (arith, h)) d.above) (omega arith);
    met = met-more w.greatest pre s d.met;
    free = all-push (λ (y : Standing). (k : ℕ) → IsBelow w.last k → is_free_at k y.stand ≡ true) pre s d.free free;
    settled = settled-tail w.last s post d.settled;
    falling = d.falling.1;
    lowest = d.lowest;
  }

-- ---- steps

settled-head : (last : Option ℕ) (level : ℕ) (s : Standing) (xs : List Standing) → from_of s.stand ≡ Some level → AreSettled last (s ∷ xs) → IsAtMost last level
settled-head None level s xs e a = tt
settled-head (Some last) level s xs e a = let h : is_before last (Some level) ≡ false = subst (λ (o : Option ℕ). is_before last o ≡ false) e a.0 in ltb-false last level h

no-later-settled : (level : ℕ) (a b : Stand) → from_of a ≡ Some level → level < 4294967296 → late a ≤ late b → is_free_at level b ≡ false
no-later-settled level Free b e h l = absurd (cc)
no-later-settled level (True a) Free e h l = absurd (let f : a ≡ level = cc in omega (arith, f, h, l))
no-later-settled level (True a) (True b) e h l = let f : a ≡ level = cc in le-ltb level b (omega (arith, f, h, l))
no-later-settled level (True a) (False b) e h l = let f : a ≡ level = cc in le-ltb level b (omega (arith, f, h, l))
no-later-settled level (False a) Free e h l = absurd (let f : a ≡ level = cc in omega (arith, f, h, l))
no-later-settled level (False a) (True b) e h l = let f : a ≡ level = cc in le-ltb level b (omega (arith, f, h, l))
no-later-settled level (False a) (False b) e h l = let f : a ≡ level = cc in le-ltb level b (omega (arith, f, h, l))

module _ (degree : ℕ) (xs pre : List Standing) (s : Standing) (post : List Standing) (w : Sweep) (d : IsSweptDown degree xs pre (s ∷ post) w) (ranged : IsLevel (from_of s.stand)) where
  step-from : (from : Option ℕ) → from_of s.stand ≡ from → IsSweptDown degree xs (pre ++ s ∷ []) post (passed s (reached_from degree from w))
  step-from None e = passed-keeps degree xs pre s post w d (λ k b. ap (is_before k) e)
  step-from (Some level) e =
      let small : IsLevel (Some level) = subst IsLevel e ranged in
      let here : is_free_at level s.stand ≡ false = ap (is_before level) e ∙ le-ltb level level (omega arith) in
      let later = all-map (λ (y : Standing). late s.stand ≤ late y.stand) (λ (y : Standing). is_free_at level y.stand ≡ false) post
      (λ y h. no-later-settled level s.stand y.stand e small h) d.falling.0 in
      let r = reached-keeps degree xs pre (s ∷ post) w d level (settled-head w.last level s post e d.settled) (here, later) in
      passed-keeps degree xs pre s post (reached degree level w) r (λ k b. ap (is_before k) e ∙ lt-ltb k level b)

  pub step-keeps : IsSweptDown degree xs (pre ++ s ∷ []) post (stepped degree s w)
  step-keeps = step-from (from_of s.stand) refl

-- ---- bounds

module _ (degree : ℕ) (xs pre post : List Standing) (w : Sweep) (d : IsSweptDown degree xs pre post w) where
  whole-weights : weights xs ≡ weights pre + weights post
  whole-weights = ap weights d.whole ∙ weights-append pre post

  pub sum-within : w.sum ≤ weights xs
  sum-within = omega (arith, whole-weights, d.sum, never_false-below post)

  pub greatest-within : w.greatest ≤ weights xs
  greatest-within = elim d.met [
    | inl zero ↦ omega (arith, zero)
    | inr m ↦ omega (arith, m.2, whole-weights, weight-within pre m.0 m.1)
  ]
    where
      weight-within : (ys : List Standing) (s : Standing) → Contains ys s → s.weight ≤ weights ys
      weight-within ys s c = let e = ap (λ (y : Standing). y.weight) c.2 in omega (arith, e, get_or-le-sum_by (λ (y : Standing). y.weight) ys c.0 s c.1)

-- ---- start and end

pub start : (degree : ℕ) (xs : List Standing) → AreFalling xs → IsSweptDown degree xs [] xs (record { sum = never_false xs; greatest = 0; last = None; lowest = None })
start degree xs f = record { whole = refl; sum = omega arith; above = tt; met = inl refl; free = tt; settled = tt; falling = f; lowest = refl }

lowest-all : (degree : ℕ) (xs : List Standing) (lowest : Option ℕ) → IsLowestFrom degree xs (Some 0) lowest → IsLowestOpen degree xs lowest
lowest-all degree xs None h = λ k. h k (omega arith)
lowest-all degree xs (Some level) h = (h.1, λ k l. h.2 k (omega arith) l)

at-most-0 : (last : Option ℕ) → IsAtMost last 0
at-most-0 None = tt
at-most-0 (Some last) = omega arith

pub at-end : (degree : ℕ) (xs pre : List Standing) (w : Sweep) → IsSweptDown degree xs pre [] w → IsLowestOpen degree xs (reached degree 0 w).lowest
at-end degree xs pre w d = lowest-all degree xs (reached degree 0 w).lowest (reached-lowest degree xs pre [] w d 0 (at-most-0 w.last) tt)
