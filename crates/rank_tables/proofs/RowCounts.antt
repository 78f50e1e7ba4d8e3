-- A run of a row goes on pair by pair.
use Rattle.std.proofs.Common.{◌≡◌, ℕ, ◌+◌, ◌≤◌, ◌<◌, Bool, true, false, ◌&&◌, ◌==◌, nat_le, if◌then◌else◌, List, [], ◌∷◌, ◌++◌, length, sum_by, count_by, map, take, drop, get_or, ◌-◌, refl, sym, ap, ap₂, ◌∙◌, inl, inr, arith, length-append}
use Rattle.std.specs.List.{list_all}
use Rattle.std.proofs.lemmas.Bool.{cases_eq, and_parts, and_from, leb-true, le-leb, lt-leb, eq-eqb, ne_eqb}
use Rattle.std.proofs.lemmas.List.{length-map, get_or-map, take_more, drop_more}
use Rattle.std.proofs.lemmas.List.Folds.{list_all-append}
use Rattle.std.proofs.lemmas.List.Sums.{sum_by_push, sum_by-cons}
use Rattle.hrt_base.specs.declared.numbered.PairNo.{PairNo}
use Rattle.rank_tables.specs.declared.draft.DraftHospital.{DraftHospital}
use Rattle.rank_tables.specs.declared.entry.PairEntry.{PairEntry}
use Rattle.rank_tables.specs.declared.terms.Ranked.{Ranked}
use Rattle.rank_tables.specs.declared.terms.Side.{Side}
use Rattle.rank_tables.specs.declared.terms.Run.{Run}
use Rattle.rank_tables.specs.Counting.{as_high, no_entry, ranked_of, ranked_row, IsRun}

abbrev one_if : Bool → ℕ
one_if b = if b then 1 else 0

-- sums whose terms agree on the elements that pass a test
sum_agree : (test : Ranked → Bool) (f g : Ranked → ℕ) → ((x : Ranked) → test x ≡ true → f x ≡ g x) → (xs : List Ranked) → list_all test xs ≡ true →
    sum_by f xs ≡ sum_by g xs
sum_agree test f g e [] h = refl
sum_agree test f g e (x ∷ xs) h =
    let both = and_parts (test x) (list_all test xs) h in
    omega (arith, sum_by-cons f x xs, sum_by-cons g x xs, e x both.0, sum_agree test f g e xs both.1)

sum_add : (f g : Ranked → ℕ) (xs : List Ranked) → sum_by (λ x. f x + g x) xs ≡ sum_by f xs + sum_by g xs
sum_add f g [] = refl
sum_add f g (x ∷ xs) = omega (arith, sum_by-cons (λ x. f x + g x) x xs, sum_by-cons f x xs, sum_by-cons g x xs, sum_add f g xs)

sum_none : (xs : List Ranked) → sum_by (λ (x : Ranked). 0) xs ≡ 0
sum_none [] = refl
sum_none (x ∷ xs) = omega (arith, sum_by-cons (λ (x : Ranked). 0) x xs, sum_none xs)

sum_ones : (xs : List Ranked) → sum_by (λ (x : Ranked). 1) xs ≡ length xs
sum_ones [] = refl
sum_ones (x ∷ xs) = omega (arith, sum_by-cons (λ (x : Ranked). 1) x xs, sum_ones xs)

weaken : (a b : ℕ) → a ≤ b → (xs : List Ranked) → list_all (λ (x : Ranked). nat_le x.rank a) xs ≡ true → list_all (λ (x : Ranked). nat_le x.rank b) xs ≡ true
weaken a b l [] h = refl
weaken a b l (x ∷ xs) h =
    let both = and_parts (nat_le x.rank a) (list_all (λ (x : Ranked). nat_le x.rank a) xs) h in
    and_from (nat_le x.rank b) (list_all (λ (x : Ranked). nat_le x.rank b) xs) (le-leb x.rank b (let m : x.rank ≤ a = leb-true _ _ both.0 in omega arith)) (weaken a b l xs both.1)

-- those tied with the next one, of those that count
tied_with : ℕ → List Ranked → ℕ
tied_with rank xs = count_by (λ (x : Ranked). x.counts && x.rank == rank) xs

kept_ties : (xs : List Ranked) (rank next tied : ℕ) → list_all (λ (x : Ranked). nat_le x.rank rank) xs ≡ true → tied ≡ tied_with rank xs → rank ≤ next →
    (if next == rank then tied else 0) ≡ tied_with next xs
unfolding tied_with
kept_ties xs rank next tied within is l = elim (cases_eq next rank) [
  | inl same ↦ ap (λ b. if b then tied else 0) (eq-eqb next rank same) ∙ is ∙ ap (λ r. count_by (λ (x : Ranked). x.counts && x.rank == r) xs) (sym same)
  | inr other ↦
      ap (λ b. if b then tied else 0) (ne_eqb next rank other)
      ∙ sym (sum_agree (λ (x : Ranked). nat_le x.rank rank) (λ (x : Ranked). if x.counts && x.rank == next then 1 else 0) (λ x. 0)
      (λ x h. none x.counts (x.rank == next) (ne_eqb x.rank next (λ e. let m : x.rank ≤ rank = leb-true _ _ h in other (omega arith)))) xs within
      ∙ sum_none xs)
]
  where
    none : (a b : Bool) → b ≡ false → one_if (a && b) ≡ 0
    none true b h = ap one_if h
    none false b h = refl

added : Bool → ℕ → ℕ
added b n = if b then n else 0

-- one more to rank
as_high-push : (xs : List Ranked) (next : Ranked) → list_all (λ (x : Ranked). nat_le x.rank next.rank) xs ≡ true →
    as_high (xs ++ next ∷ []) ≡ as_high xs + tied_with next.rank xs + added next.counts (length xs + 1)
unfolding tied_with added
as_high-push xs next within =
    let test : Ranked → Bool = λ (x : Ranked). nat_le x.rank next.rank in
    let all : List Ranked = xs ++ next ∷ [] in
    let before : Ranked → ℕ = λ (x : Ranked). if x.counts then count_by (λ (y : Ranked). nat_le y.rank x.rank) xs else 0 in
    let after : Ranked → ℕ = λ (x : Ranked). if x.counts then count_by (λ (y : Ranked). nat_le y.rank x.rank) all else 0 in
    let tie : Ranked → ℕ = λ (x : Ranked). if x.counts && x.rank == next.rank then 1 else 0 in
    let pushed : (x : Ranked) → count_by (λ (y : Ranked). nat_le y.rank x.rank) all ≡ count_by (λ (y : Ranked). nat_le y.rank x.rank) xs + one_if (nat_le next.rank x.rank) =
    λ x. sum_by_push (λ (y : Ranked). if nat_le y.rank x.rank then 1 else 0) xs next in
    let each : sum_by after xs ≡ sum_by (λ x. before x + tie x) xs =
    sum_agree test after (λ x. before x + tie x) (λ x h. step x.counts _ _ _ (x.rank == next.rank) (pushed x) (same x.rank next.rank (leb-true _ _ h))) xs within in
    let counted : count_by test xs ≡ length xs = sum_agree test (λ x. if test x then 1 else 0) (λ x. 1) (λ x h. ap (λ b. if b then 1 else 0) h) xs within ∙ sum_ones xs in
    let here : after next ≡ (if next.counts then length xs + 1 else 0) =
    ap (λ n. if next.counts then n else 0) (pushed next ∙ ap₂ ◌+◌ counted (ap (λ b. if b then 1 else 0) (le-leb next.rank next.rank (omega arith)))) in
    sum_by_push after xs next ∙ ap₂ ◌+◌ (each ∙ sum_add before tie xs) here
  where
    step : (c : Bool) (new old : ℕ) (b : Bool) (e : Bool) → new ≡ old + one_if b → b ≡ e → (if c then new else 0) ≡ (if c then old else 0) + one_if (c && e)
    step true new old b e p q = p ∙ ap (λ d. old + (if d then 1 else 0)) q
    step false new old b e p q = refl

    same : (a b : ℕ) → a ≤ b → nat_le b a ≡ (a == b)
    same a b l = elim (cases_eq a b) [
      | inl e ↦ le-leb b a (omega arith) ∙ sym (eq-eqb a b e)
      | inr other ↦ lt-leb b a (omega arith) ∙ sym (ne_eqb a b other)
    ]

pub run-extended : (xs : List Ranked) (run : Run) (next : Ranked) (tied counted before : ℕ) → IsRun run xs → run.rank ≤ next.rank →
    tied ≡ (if next.rank == run.rank then run.tied else 0) → counted ≡ one_if next.counts → before ≡ (if next.counts then run.listed else 0) →
    IsRun (record { listed = run.listed + 1; rank = next.rank; tied = tied + counted; terms = run.terms + tied + before }) (xs ++ next ∷ [])
unfolding tied_with added
run-extended xs run next tied counted before is l t n b =
    let within : list_all (λ (x : Ranked). nat_le x.rank next.rank) xs ≡ true = weaken run.rank next.rank l xs is.within in
    let ties : tied ≡ tied_with next.rank xs = t ∙ kept_ties xs run.rank next.rank run.tied is.within is.tied l in
    let more : as_high (xs ++ next ∷ []) ≡ as_high xs + tied_with next.rank xs + added next.counts (length xs + 1) = as_high-push xs next within in
    record {
      listed = ap (λ n. n + 1) is.listed ∙ sym (length-append xs (next ∷ []));
      tied = ap₂ ◌+◌ ties (n ∙ ap (λ b. if b then 1 else 0) (own next.counts next.rank)) ∙ sym (sum_by_push (λ (x : Ranked). if x.counts && x.rank == next.rank then 1 else 0) xs next);
      within = list_all-append (λ (x : Ranked). nat_le x.rank next.rank) xs (next ∷ []) ∙ and_from _ _ within (and_from _ true (le-leb next.rank next.rank (omega arith)) refl);
      terms = omega (arith, sum_by_push (λ (x : Ranked). if x.counts then 1 else 0) xs next, is.terms, is.listed, more, ties, sum next.counts (length xs) counted before n (b ∙ ap (λ n. if next.counts then n else 0) is.listed));
    }
  where
    own : (c : Bool) (r : ℕ) → c ≡ (c && r == r)
    own true r = sym (eq-eqb r r refl)
    own false r = refl

    sum : (c : Bool) (len counted before : ℕ) → counted ≡ one_if c → before ≡ (if c then len else 0) → before + counted ≡ (if c then len + 1 else 0)
    sum true len counted before p q = omega arith
    sum false len counted before p q = omega arith

-- what the pair at a place is to the rest of its row
pub record Step (xs : List Ranked) (i : ℕ) (x : Ranked) : Type 0 where
  pub before : take (i + 1) xs ≡ take i xs ++ x ∷ []
  pub after : drop i xs ≡ x ∷ drop (i + 1) xs

pub row_step : (side : Side) (hospitals : List DraftHospital) (entries : List PairEntry) (row : List PairNo) (i : ℕ) (x : Ranked) (p : PairNo) →
    i < length row → x ≡ ranked_of side hospitals (get_or entries ((get_or row i p).0 - 1) no_entry) → Step (ranked_row side hospitals entries row) i x
row_step side hospitals entries row i x p l is =
    let f : PairNo → Ranked = λ p. ranked_of side hospitals (get_or entries (p.0 - 1) no_entry) in
    let here : get_or (map f row) i x ≡ x = get_or-map f row i p x l ∙ sym is in
    let within : i < length (map f row) = omega (arith, length-map row f) in record {
      before = take_more (map f row) i x within ∙ ap (λ y. take i (map f row) ++ y ∷ []) here;
      after = drop_more (map f row) i x within ∙ ap (λ y. y ∷ drop (i + 1) (map f row)) here;
    }
