-- How many literals over the variables are in a set.
use Rattle.std.proofs.Common.{◌≡◌, ℕ, zero, suc, ◌+◌, ◌<◌, ◌≤◌, Bool, true, false, cond, ◌||◌, ◌==◌, nat_le, if◌then◌else◌, List, [], ◌∷◌, length, count_by, refl, ap, ◌∙◌, subst, arith}
use Rattle.std.proofs.lemmas.Bool.{and_from, eqb-true, le-leb}
use Rattle.std.proofs.lemmas.List.{length-append}
use Rattle.std.proofs.lemmas.List.Sums.{sum_by-cons}
use Rattle.hrt_base.specs.declared.literal.Lit.{Lit}
use Rattle.pb_rows.specs.Terms.{opposite_lit}
use Rattle.pb_rows.specs.Closure.{Literals}
use Rattle.rank_tables.specs.Numbers.{is_in, numbers_to}
use Rattle.rank_tables.proofs.Numbers.{is_in-numbers_to}
use Rattle.proof_rules.specs.Notes.{set_size}
use Rattle.pb_rows.specs.Points.{IsCovered}

-- ---- counts

-- what a test is worth
abbrev pub worth : Bool → ℕ
worth b = if b then 1 else 0

pub count-cons : (p : ℕ → Bool) (x : ℕ) (xs : List ℕ) → count_by p (x ∷ xs) ≡ worth (p x) + count_by p xs
count-cons p x xs = sum_by-cons (λ v. cond (p v) 1 0) x xs

worth_more : (a b : Bool) → (a ≡ true → b ≡ true) → worth a ≤ worth b
worth_more true true h = omega arith
worth_more true false h = absurd (cc (h refl))
worth_more false b h = omega arith

worth_one : (a b : Bool) → (a ≡ true → b ≡ true → ⊥) → worth a + worth b ≤ 1
worth_one true true h = absurd (h refl refl)
worth_one true false h = omega arith
worth_one false true h = omega arith
worth_one false false h = omega arith

-- fewer pass a stricter test
pub count-more : (p q : ℕ → Bool) → ((v : ℕ) → p v ≡ true → q v ≡ true) → (vs : List ℕ) → count_by p vs ≤ count_by q vs
count-more p q h [] = omega arith
count-more p q h (v ∷ vs) = omega (arith, count-cons p v vs, count-cons q v vs, worth_more (p v) (q v) (h v), count-more p q h vs)

-- and fewer still where one that doesn't pass is there
pub count-fewer : (p q : ℕ → Bool) → ((v : ℕ) → p v ≡ true → q v ≡ true) → (x : ℕ) → p x ≡ false → q x ≡ true → (vs : List ℕ) → is_in x vs ≡ true → count_by p vs < count_by q vs
count-fewer p q h x fails passes [] e = absurd (cc)
count-fewer p q h x fails passes (v ∷ vs) e = by (v == x) refl e (count-fewer p q h x fails passes vs)
  where
    by : (b : Bool) → (v == x) ≡ b → (b || is_in x vs) ≡ true → (is_in x vs ≡ true → count_by p vs < count_by q vs) → count_by p (v ∷ vs) < count_by q (v ∷ vs)
    by true s t rest = omega (arith, count-cons p v vs, count-cons q v vs, ap worth (ap p (eqb-true v x s) ∙ fails), ap worth (ap q (eqb-true v x s) ∙ passes), count-more p q h vs)
    by false s t rest = omega (arith, count-cons p v vs, count-cons q v vs, worth_more (p v) (q v) (h v), rest t)

-- at most one of two tests passes
count-both : (p q : ℕ → Bool) → ((v : ℕ) → p v ≡ true → q v ≡ true → ⊥) → (vs : List ℕ) → count_by p vs + count_by q vs ≤ length vs
count-both p q h [] = omega arith
count-both p q h (v ∷ vs) = omega (arith, count-cons p v vs, count-cons q v vs, worth_one (p v) (q v) (h v), count-both p q h vs)

pub length-numbers_to : (n : ℕ) → length (numbers_to n) ≡ n
length-numbers_to zero = refl
length-numbers_to (suc n) = length-append (numbers_to n) (suc n ∷ []) ∙ ap (λ (k : ℕ). k + 1) (length-numbers_to n) ∙ omega arith

known-in : (vars v : ℕ) → 1 ≤ v → v ≤ vars → is_in v (numbers_to vars) ≡ true
known-in vars v h k = is_in-numbers_to vars v ∙ and_from (nat_le 1 v) (nat_le v vars) (le-leb 1 v h) (le-leb v vars k)

-- ---- sets

-- a set without both signs of a variable has at most a literal for each variable
pub size-within : (vars : ℕ) (set : Literals) → ((l : Lit) → set l ≡ true → set (opposite_lit l) ≡ false) → set_size vars set ≤ vars
size-within vars set h =
    omega (arith, count-both (λ v. set (record { var = v; neg = false })) (λ v. set (record { var = v; neg = true })) (λ v p q. absurd (cc (h (record { var = v; neg = false }) p))) (numbers_to vars), length-numbers_to vars)

-- a larger set
pub size-more : (vars : ℕ) (a b : Literals) → ((l : Lit) → a l ≡ true → b l ≡ true) → set_size vars a ≤ set_size vars b
size-more vars a b h =
    omega (
      arith,
      count-more (λ v. a (record { var = v; neg = false })) (λ v. b (record { var = v; neg = false })) (λ v. h (record { var = v; neg = false })) (numbers_to vars),
      count-more (λ v. a (record { var = v; neg = true })) (λ v. b (record { var = v; neg = true })) (λ v. h (record { var = v; neg = true })) (numbers_to vars),
    )

-- a set that is larger by a known literal
pub size-fewer : (vars : ℕ) (a b : Literals) → ((l : Lit) → a l ≡ true → b l ≡ true) → (l : Lit) → IsCovered vars l.var → a l ≡ false → b l ≡ true → set_size vars a < set_size vars b
size-fewer vars a b h l k fails passes = by l.neg refl
  where
    by : (n : Bool) → l.neg ≡ n → set_size vars a < set_size vars b
    by true e = omega (
      arith,
      count-more (λ v. a (record { var = v; neg = false })) (λ v. b (record { var = v; neg = false })) (λ v. h (record { var = v; neg = false })) (numbers_to vars),
      count-fewer (λ v. a (record { var = v; neg = true })) (λ v. b (record { var = v; neg = true })) (λ v. h (record { var = v; neg = true }))
          l.var (subst (λ (n : Bool). a (record { var = l.var; neg = n }) ≡ false) e fails) (subst (λ (n : Bool). b (record { var = l.var; neg = n }) ≡ true) e passes) (numbers_to vars) (known-in vars l.var k.first k.last),
    )
    by false e = omega (
      arith,
      count-more (λ v. a (record { var = v; neg = true })) (λ v. b (record { var = v; neg = true })) (λ v. h (record { var = v; neg = true })) (numbers_to vars),
      count-fewer (λ v. a (record { var = v; neg = false })) (λ v. b (record { var = v; neg = false })) (λ v. h (record { var = v; neg = false }))
          l.var (subst (λ (n : Bool). a (record { var = l.var; neg = n }) ≡ false) e fails) (subst (λ (n : Bool). b (record { var = l.var; neg = n }) ≡ true) e passes) (numbers_to vars) (known-in vars l.var k.first k.last),
    )
