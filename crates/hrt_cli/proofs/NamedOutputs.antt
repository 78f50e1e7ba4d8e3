-- What the words say of the names of outputs.
use Rattle.std.proofs.Common.{◌≡◌, ◌&&◌, ◌==◌, ℕ, Bool, true, false, not, cond, bytes_eq, codes, List, [], ◌∷◌, length, Option, Some, None, option_and_then, option_map, refl, sym, subst, arith}
use Rattle.std.proofs.lemmas.Bool.{and_parts}
use Rattle.std.proofs.lemmas.Bool.Decides.{nat_tests}
use Rattle.hrt_base.specs.World.{store}
use Rattle.hrt_text.proofs.Among.{bytes_eq-same}
use Rattle.hrt_cli.specs.Requests.{Request, ThreeFiles, TwoFiles, audit, bound, check, budget_of, is_file_name, model, quick, request_of, solve, solve_of, three, three_files, three_names, two, two_files, verify}
use Rattle.hrt_cli.specs.Plans.{Files}

-- ---- good names

-- names of files, of which no two are the same
pub record AreApart (name proof : List ℕ) : Type 0 where
  pub named : is_file_name name ≡ true
  pub proof_named : is_file_name proof ≡ true
  pub apart : bytes_eq name proof ≡ false

-- the outputs of a request have good names
abbrev pub AreNamed : Option Request → Type 0
AreNamed None = Unit {0}
AreNamed (Some (solve instance file proof budget)) = AreApart file proof
AreNamed (Some (audit instance pairs)) = Unit {0}
AreNamed (Some (model instance file)) = is_file_name file ≡ true
AreNamed (Some (verify instance proof)) = Unit {0}
AreNamed (Some (check file proof)) = Unit {0}
AreNamed (Some (bound instance file proof)) = AreApart file proof
AreNamed (Some (quick instance file proof)) = AreApart file proof

-- ---- two names

second_named : (a b c : Bool) (first second : List ℕ) (f : TwoFiles) → a ≡ is_file_name second → cond {A = Option TwoFiles} (b && a && not c) (Some (two first second)) None ≡ Some f → is_file_name f.second ≡ true
second_named true true false first second f a e = subst (λ (g : TwoFiles). is_file_name g.second ≡ true) (let same : two first second ≡ f = cc in same) (sym a)
second_named true true true first second f a e = absurd (cc)
second_named true false c first second f a e = absurd (cc)
second_named false true c first second f a e = absurd (cc)
second_named false false c first second f a e = absurd (cc)

two_named : (files : List (List ℕ)) (f : TwoFiles) → two_files files ≡ Some f → is_file_name f.second ≡ true
two_named [] f e = absurd (cc)
two_named (x ∷ []) f e = absurd (cc)
two_named (x ∷ y ∷ []) f e = second_named (is_file_name y) (is_file_name x) (bytes_eq x y) x y f refl e
two_named (x ∷ y ∷ z ∷ files) f e = absurd (cc)

-- ---- three names

three_of : (b : Bool) (x y z : List ℕ) (f : ThreeFiles) → cond {A = Option ThreeFiles} b (Some (three x y z)) None ≡ Some f → (b ≡ true) × (three x y z ≡ f)
three_of true x y z f e = (refl, let same : three x y z ≡ f = cc in same)
three_of false x y z f e = absurd (cc)

not_false : (b : Bool) → not b ≡ true → b ≡ false
not_false true e = absurd (cc)
not_false false e = refl

tests_apart : (x y z : List ℕ) → (is_file_name x && is_file_name y && is_file_name z && not (bytes_eq x y) && not (bytes_eq x z) && not (bytes_eq y z)) ≡ true → AreApart y z
tests_apart x y z e =
    let all = and_parts _ (not (bytes_eq y z)) e in
    let but_last = and_parts _ (not (bytes_eq x z)) all.0 in
    let names = and_parts _ (not (bytes_eq x y)) but_last.0 in
    let third = and_parts _ (is_file_name z) names.0 in
    let second = and_parts (is_file_name x) (is_file_name y) third.0 in
    record { named = second.1; proof_named = third.1; apart = not_false (bytes_eq y z) all.1 }

names_apart : (x y z : List ℕ) (f : ThreeFiles) → three_names x y z ≡ Some f → AreApart f.second f.third
names_apart x y z f e = let is = three_of _ x y z f e in subst (λ (g : ThreeFiles). AreApart g.second g.third) is.1 (tests_apart x y z is.0)

three_named : (files : List (List ℕ)) (f : ThreeFiles) → three_files files ≡ Some f → AreApart f.second f.third
three_named [] f e = absurd (cc)
three_named (x ∷ []) f e = absurd (cc)
three_named (x ∷ y ∷ []) f e = absurd (cc)
three_named (x ∷ y ∷ z ∷ []) f e = names_apart x y z f e
three_named (x ∷ y ∷ z ∷ w ∷ files) f e = absurd (cc)

-- ---- the words

either_named : (b : Bool) (r s : Option Request) → AreNamed r → AreNamed s → AreNamed (cond b r s)
either_named true r s first second = first
either_named false r s first second = second

asked_two : (ask : TwoFiles → Request) (files : Option TwoFiles) → ((f : TwoFiles) → files ≡ Some f → AreNamed (Some (ask f))) → AreNamed (option_map ask files)
asked_two ask None good = tt
asked_two ask (Some f) good = good f refl

asked_three : (ask : ThreeFiles → Request) (files : Option ThreeFiles) → ((f : ThreeFiles) → files ≡ Some f → AreNamed (Some (ask f))) → AreNamed (option_map ask files)
asked_three ask None good = tt
asked_three ask (Some f) good = good f refl

asked_solve : (words : List (List ℕ)) → AreNamed (solve_of words)
asked_solve [] = tt
asked_solve (x ∷ []) = tt
asked_solve (x ∷ y ∷ []) = tt
asked_solve (x ∷ y ∷ z ∷ options) = by (three_names x y z) refl (budget_of options)
  where
    by : (files : Option ThreeFiles) → three_names x y z ≡ files → (budget : Option ℕ) → AreNamed (option_and_then (λ f. option_map (solve f.first f.second f.third) budget) files)
    by None e budget = tt
    by (Some f) e None = tt
    by (Some f) e (Some budget) = names_apart x y z f e

pub outputs_named : (texts : List (List ℕ)) → AreNamed (request_of texts)
outputs_named [] = tt
outputs_named (word ∷ files) =
    either_named (bytes_eq word (codes "solve")) _ _ (asked_solve files)
    (either_named (bytes_eq word (codes "audit")) _ _ (asked_two (λ f. audit f.first f.second) (two_files files) (λ f e. tt))
    (either_named (bytes_eq word (codes "model")) _ _ (asked_two (λ f. model f.first f.second) (two_files files) (two_named files))
    (either_named (bytes_eq word (codes "verify")) _ _ (asked_two (λ f. verify f.first f.second) (two_files files) (λ f e. tt))
    (either_named (bytes_eq word (codes "check")) _ _ (asked_two (λ f. check f.first f.second) (two_files files) (λ f e. tt))
    (either_named (bytes_eq word (codes "bound")) _ _ (asked_three (λ f. bound f.first f.second f.third) (three_files files) (three_named files))
    (either_named (bytes_eq word (codes "quick")) _ _ (asked_three (λ f. quick f.first f.second f.third) (three_files files) (three_named files)) tt))))))

-- ---- the file of a name

pub stored : (m text : List ℕ) (files : Files) → is_file_name m ≡ true → store m text files m ≡ Some text
stored [] text files e = absurd (cc)
stored (b ∷ m) text files e = rw (bytes_eq-same (b ∷ m)) (grind (arith, nat_tests))

pub not_stored : (file text : List ℕ) (files : Files) (name : List ℕ) → bytes_eq name file ≡ false → store file text files name ≡ files name
not_stored file text files name e = rw e (by (length file == 0))
  where
    by : (b : Bool) → cond b (files name) (files name) ≡ files name
    by true = refl
    by false = refl
