-- Groups after a push, and the group at a place.
use Rattle.std.proofs.Common.{◌≡◌, ℕ, zero, suc, ◌+◌, ◌-◌, ◌<◌, ◌≤◌, List, [], ◌∷◌, ◌++◌, length, take, drop, get_or, refl, ap, arith, length-append, add-one}
use Rattle.std.proofs.lemmas.List.{drop-append-le, take-append-le, take_all, drop_at}
use Rattle.std.proofs.lemmas.Grind.{common_steps}
use Rattle.rank_tables.specs.Groups.{until, cut, IsCut, tied_on}

pub length_cut : {A : Type 0} (xs : List A) (ss : List ℕ) → length (cut xs ss) ≡ length ss
length_cut xs [] = refl
length_cut xs (s ∷ ss) = ap suc (length_cut xs ss)

pub IsCut_within : (t : ℕ) (s : ℕ) (ss : List ℕ) → IsCut t (s ∷ ss) → s < t
IsCut_within t s [] c = c.0
IsCut_within t s (n ∷ ss) c = let h : n < t = IsCut_within t n ss c.1 in omega (arith, c.0)

pub IsCut_tied : (t : ℕ) (ss : List ℕ) → IsCut t ss → IsCut (t + 1) ss
IsCut_tied t [] c = tt
IsCut_tied t (s ∷ []) c = (omega (arith, c.0), tt)
IsCut_tied t (s ∷ n ∷ ss) c = (c.0, IsCut_tied t (n ∷ ss) c.1)

pub IsCut_apart : (t : ℕ) (ss : List ℕ) → IsCut t ss → IsCut (t + 1) (ss ++ t ∷ [])
IsCut_apart t [] c = (omega arith, tt)
IsCut_apart t (s ∷ []) c = (c.0, (omega arith, tt))
IsCut_apart t (s ∷ n ∷ ss) c = (c.0, IsCut_apart t (n ∷ ss) c.1)

last_tied : (xs : List ℕ) (x s : ℕ) → s < length xs →
    take (length (xs ++ x ∷ []) - s) (drop s (xs ++ x ∷ [])) ≡ take (length xs - s) (drop s xs) ++ x ∷ []
last_tied xs x s h = grind (arith, common_steps, drop-append-le s xs (x ∷ []), take_all (length xs - s) (drop s xs), take_all (length xs + 1 - s) (drop s xs ++ x ∷ []))

inner_tied : (xs : List ℕ) (x s n : ℕ) → s < n → n ≤ length xs →
    take (n - s) (drop s (xs ++ x ∷ [])) ≡ take (n - s) (drop s xs)
inner_tied xs x s n h k = grind (arith, common_steps, drop-append-le s xs (x ∷ []), take-append-le (n - s) (drop s xs) (x ∷ []))

cut_tied_to : (xs : List ℕ) (x s : ℕ) (ss : List ℕ) → IsCut (length xs) (s ∷ ss) →
    cut (xs ++ x ∷ []) (s ∷ ss) ≡ tied_on (cut xs (s ∷ ss)) x
cut_tied_to xs x s [] c = ap (λ g. g ∷ []) (last_tied xs x s c.0)
cut_tied_to xs x s (n ∷ ss) c =
    let inside : n < length xs = IsCut_within (length xs) n ss c.1 in
    rw (inner_tied xs x s n c.0 (omega arith), cut_tied_to xs x n ss c.1) refl

pub cut_tied : (xs : List ℕ) (x : ℕ) (ss : List ℕ) → 0 < length ss → IsCut (length xs) ss →
    cut (xs ++ x ∷ []) ss ≡ tied_on (cut xs ss) x
cut_tied xs x [] h c = absurd (omega arith)
cut_tied xs x (s ∷ ss) h c = cut_tied_to xs x s ss c

fresh : (xs : List ℕ) (x : ℕ) → take (length (xs ++ x ∷ []) - length xs) (drop (length xs) (xs ++ x ∷ [])) ≡ x ∷ []
fresh xs x = rw (drop_at xs (x ∷ []) (length xs) refl) (take_all (length (xs ++ x ∷ []) - length xs) (x ∷ []) (omega (arith, length-append xs (x ∷ []))))

pub cut_apart : (xs : List ℕ) (x : ℕ) (ss : List ℕ) → IsCut (length xs) ss →
    cut (xs ++ x ∷ []) (ss ++ length xs ∷ []) ≡ cut xs ss ++ (x ∷ []) ∷ []
cut_apart xs x [] c = ap (λ g. g ∷ []) (fresh xs x)
cut_apart xs x (s ∷ []) c =
    rw (inner_tied xs x s (length xs) c.0 (omega arith), fresh xs x) refl
cut_apart xs x (s ∷ n ∷ ss) c =
    let inside : n < length xs = IsCut_within (length xs) n ss c.1 in
    rw (inner_tied xs x s n c.0 (omega arith), cut_apart xs x (n ∷ ss) c.1) refl

pub group_at : {A : Type 0} (xs : List A) (ss : List ℕ) (k : ℕ) → k < length ss →
    get_or (cut xs ss) k [] ≡ take (until (length xs) (drop (suc k) ss) - get_or ss k 0) (drop (get_or ss k 0) xs)
group_at xs [] k h = absurd (omega arith)
group_at xs (s ∷ ss) zero h = refl
group_at xs (s ∷ ss) (suc k) h = group_at xs ss k (omega arith)

pub group_some : (t : ℕ) (ss : List ℕ) (k : ℕ) → k < length ss → IsCut t ss → get_or ss k 0 < until t (drop (suc k) ss)
group_some t [] k h c = absurd (omega arith)
group_some t (s ∷ ss) zero h c = c.0
group_some t (s ∷ ss) (suc k) h c = group_some t ss k (omega arith) c.1

pub group_within : (t : ℕ) (ss : List ℕ) (k : ℕ) → k < length ss → IsCut t ss → until t (drop (suc k) ss) ≤ t
group_within t [] k h c = absurd (omega arith)
group_within t (s ∷ []) zero h c = omega arith
group_within t (s ∷ n ∷ ss) zero h c = let inside : n < t = IsCut_within t n ss c.1 in omega arith
group_within t (s ∷ ss) (suc k) h c = group_within t ss k (omega arith) c.1

-- the same at k + 1, as code says it
pub group_at_more : {A : Type 0} (xs : List A) (ss : List ℕ) (k : ℕ) → k < length ss →
    get_or (cut xs ss) k [] ≡ take (until (length xs) (drop (k + 1) ss) - get_or ss k 0) (drop (get_or ss k 0) xs)
group_at_more xs ss k h = rw add-one (group_at xs ss k h)

pub group_some_more : (t : ℕ) (ss : List ℕ) (k : ℕ) → k < length ss → IsCut t ss → get_or ss k 0 < until t (drop (k + 1) ss)
group_some_more t ss k h c = rw add-one (group_some t ss k h c)

pub group_within_more : (t : ℕ) (ss : List ℕ) (k : ℕ) → k < length ss → IsCut t ss → until t (drop (k + 1) ss) ≤ t
group_within_more t ss k h c = rw add-one (group_within t ss k h c)
