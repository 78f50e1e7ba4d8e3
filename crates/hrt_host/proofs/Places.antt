-- The files and the seats of a host in memory.
use Rattle.std.proofs.Common.{◌≡◌, ◌≢◌, ℕ, zero, suc, ◌+◌, ◌-◌, ◌<◌, ◌≤◌, List, [], ◌∷◌, ◌++◌, length, get_or, add-one, take, drop, refl, sym, ◌∙◌, ap, arith, Some, None, Option, if◌then◌else◌, ◌==◌, set}
use Rattle.std.proofs.lemmas.List.{take-append-drop, drop-drop, take-take, take_at}
use Rattle.std.proofs.lemmas.Bool.Decides.{nat_tests}
use Rattle.std.proofs.Math.Seq.{take-suc}
use Rattle.hrt_host.specs.Seat.{at_place, answer, or_else, file_of}
use Rattle.hrt_host.specs.declared.file.File.{File}

pub at_place_get : {A B : Type 0} (f : A → B) (d : B) (xs : List A) (i : ℕ) (x : A) → i < length xs → x ≡ get_or xs i x → at_place f d xs i ≡ f x
at_place_get f d [] i x inside is = absurd (omega arith)
at_place_get f d (y ∷ xs) zero x inside is = ap f (sym is)
at_place_get f d (y ∷ xs) (suc i) x inside is = at_place_get f d xs i x (omega arith) is

pub at_place_past : {A B : Type 0} (f : A → B) (d : B) (xs : List A) (i : ℕ) → length xs ≤ i → at_place f d xs i ≡ d
at_place_past f d [] i past = refl
at_place_past f d (y ∷ xs) zero past = absurd (omega arith)
at_place_past f d (y ∷ xs) (suc i) past = at_place_past f d xs i (omega arith)

other : {B : Type 0} (i j : ℕ) (a b : B) → j ≢ i → b ≡ (if j == i then a else b)
other i j a b h = grind (arith, nat_tests)

both_next : {B : Type 0} (i j : ℕ) (a b : B) → (if j == i then a else b) ≡ (if suc j == suc i then a else b)
both_next i j a b = grind (arith, nat_tests)

pub at_place_set : {A B : Type 0} (f : A → B) (d : B) (xs : List A) (i : ℕ) (x : A) (j : ℕ) → i < length xs → at_place f d (set xs i x) j ≡ (if j == i then f x else at_place f d xs j)
at_place_set f d [] i x j inside = absurd (omega arith)
at_place_set f d (y ∷ xs) zero x zero inside = refl
at_place_set f d (y ∷ xs) zero x (suc j) inside = other 0 (suc j) (f x) (at_place f d xs j) (omega arith)
at_place_set f d (y ∷ xs) (suc i) x zero inside = other (suc i) zero (f x) (f y) (omega arith)
at_place_set f d (y ∷ xs) (suc i) x (suc j) inside = at_place_set f d xs i x j (omega arith) ∙ both_next i j (f x) (at_place f d xs j)

-- the files and one more
or_else_none : (o : Option (List ℕ)) → or_else o None ≡ o
or_else_none (Some x) = refl
or_else_none None = refl

or_else_or_else : (a b c : Option (List ℕ)) → or_else (or_else a b) c ≡ or_else a (or_else b c)
or_else_or_else (Some x) b c = refl
or_else_or_else None b c = refl

pub file_of_push : (fs : List File) (f : File) (n : List ℕ) → file_of (fs ++ f ∷ []) n ≡ or_else (answer f n) (file_of fs n)
file_of_push [] f n = sym (or_else_none (answer f n))
file_of_push (g ∷ fs) f n = ap (λ (o : Option (List ℕ)). or_else o (answer g n)) (file_of_push fs f n) ∙ or_else_or_else (answer f n) (file_of fs n) (answer g n)

pub file_of_next : (fs : List File) (k : ℕ) (f : File) (n : List ℕ) → k < length fs → f ≡ get_or fs k f → file_of (take (k + 1) fs) n ≡ or_else (answer f n) (file_of (take k fs) n)
file_of_next fs k f n inside is =
    let next : take (k + 1) fs ≡ take k fs ++ f ∷ [] = rw add-one (take-suc fs k f inside ∙ ap (λ (x : File). take k fs ++ x ∷ []) (sym is)) in
    ap (λ (l : List File). file_of l n) next ∙ file_of_push (take k fs) f n

-- what is left from a place on is what was copied, and what is left behind it
pub front_copied : (bytes part rest : List ℕ) (at n : ℕ) → part ≡ take n (take (length bytes - at) (drop at bytes)) → length part ≡ n → n ≤ length bytes - at
    → drop at bytes ≡ take n (part ++ rest) ++ drop (at + n) bytes
front_copied bytes part rest at n is size fits =
    let front : take n (part ++ rest) ≡ take n (drop at bytes) = take_at part rest n size ∙ is ∙ take-take n (length bytes - at) (drop at bytes) fits in
    sym (take-append-drop n (drop at bytes)) ∙ ap (λ (l : List ℕ). take n (drop at bytes) ++ l) (drop-drop n at bytes) ∙ ap (λ (l : List ℕ). l ++ drop (at + n) bytes) (sym front)

pub at_place_or : {A B : Type 0} (f : A → B) (d : B) (xs : List A) (i : ℕ) (r : A) → i < length xs → at_place f d xs i ≡ f (get_or xs i r)
at_place_or f d [] i r inside = absurd (omega arith)
at_place_or f d (y ∷ xs) zero r inside = refl
at_place_or f d (y ∷ xs) (suc i) r inside = at_place_or f d xs i r (omega arith)
