-- The hospitals' lists turned round: what the namings of a resident say.
use Rattle.std.proofs.Common.{◌≡◌, ℕ, zero, suc, ◌+◌, ◌<◌, ◌≤◌, Bool, true, false, cond, nat_lt, ◌==◌, if◌then◌else◌, List, [], ◌∷◌, ◌++◌, length, map, get_or, slice_index, take, drop, inl, inr, refl, sym, ap, ◌∙◌, arith, add-one, eq-eqb, length-append}
use Rattle.std.specs.List.{concat, filter, flat_map, All}
use Rattle.std.proofs.lemmas.List.{append-nil, length-map, take-append-drop, drop_more}
use Rattle.std.proofs.lemmas.List.Concat.{flat_map-append}
use Rattle.std.proofs.lemmas.List.Elements.{All-nil, All-append, All-map, filter-append}
use Rattle.std.proofs.lemmas.List.Sums.{fold-append}
use Rattle.std.proofs.lemmas.Bool.{cases_Bool, cases_eq, cases_lt, ne_eqb, eqb-true, lt-ltb}
use Rattle.rank_tables.specs.declared.draft.DraftHospital.{DraftHospital}
use Rattle.rank_tables.specs.declared.entry.PairEntry.{PairEntry}
use Rattle.rank_tables.specs.declared.marks.Mark.{Mark}
use Rattle.rank_tables.specs.Numbers.{below, is_in}
use Rattle.rank_tables.specs.Building.{mark_of, rank_or_0, with_ranks, marked, hospital_groups, naming, namings_of, found, answered}
use Rattle.rank_tables.proofs.Ranks.{rank_in-none}

-- a list with one more at its end
pub flat_map-below : {A : Type 0} (f : ℕ → List A) (n : ℕ) → flat_map f (below (n + 1)) ≡ flat_map f (below n) ++ f n
flat_map-below f n =
    ap (λ k. flat_map f (below k)) (add-one n) ∙ flat_map-append f (below n) (n ∷ [])
    ∙ ap (λ xs. flat_map f (below n) ++ xs) (append-nil (f n))

pub flat_map-part : {A : Type 0} (f : ℕ → List A) (n i : ℕ) → i < n → length (flat_map f (below i)) + length (f i) ≤ length (flat_map f (below n))
flat_map-part f zero i h = absurd (omega arith)
flat_map-part f (suc n) i h =
    let whole : length (flat_map f (below (suc n))) ≡ length (flat_map f (below n)) + length (f n) =
    ap length (flat_map-append f (below n) (n ∷ []) ∙ ap (λ xs. flat_map f (below n) ++ xs) (append-nil (f n)))
    ∙ length-append (flat_map f (below n)) (f n) in
    elim (cases_lt i n) [
      | inl before ↦ omega (arith, whole, flat_map-part f n i before)
      | inr past ↦ let same : i ≡ n = omega arith in rw same (omega (arith, whole))
    ]

marked-here : (n w : ℕ) (marks : List Mark) (v : ℕ) → marked n (mark_of n w ∷ marks) v ≡ marked n marks w
marked-here n w marks v = ap (λ b. marked n marks (if b then w else v)) (eq-eqb n n refl)

marked-other : (h n w : ℕ) (marks : List Mark) (v : ℕ) → (n ≡ h → ⊥) → marked h (mark_of n w ∷ marks) v ≡ marked h marks v
marked-other h n w marks v other = ap (λ b. marked h marks (if b then w else v)) (ne_eqb n h other)

either_way : (b : Bool) (w : ℕ) → cond b w w ≡ w
either_way true w = refl
either_way false w = refl

-- the namings of resident r by hospital n: it marks n alone, with the rank of r
naming-here : (n r : ℕ) (rank : ℕ → ℕ) (xs : List ℕ) (v : ℕ) →
    marked n (naming n r (map (λ x. mark_of x (rank x)) xs)) v ≡ (if is_in r xs then rank r else v)
naming-here n r rank [] v = refl
naming-here n r rank (x ∷ xs) v = elim (cases_Bool (x == r)) [
  | inl same ↦
      rw same (marked-here n (rank x) (naming n r (map (λ x. mark_of x (rank x)) xs)) v ∙ naming-here n r rank xs (rank x)
      ∙ ap (λ w. if is_in r xs then rank r else w) (ap rank (eqb-true x r same)) ∙ either_way (is_in r xs) (rank r))
  | inr other ↦ rw other (naming-here n r rank xs v)
]

naming-other : (h n r : ℕ) (list : List Mark) (v : ℕ) → (n ≡ h → ⊥) → marked h (naming n r list) v ≡ v
naming-other h n r [] v other = refl
naming-other h n r (m ∷ list) v other = elim (cases_Bool (m.number == r)) [
  | inl same ↦ rw same (marked-other h n m.value (naming n r list) v other ∙ naming-other h n r list v other)
  | inr apart ↦ rw apart (naming-other h n r list v other)
]

marked-append : (i : ℕ) (xs ys : List Mark) (v : ℕ) → marked i (xs ++ ys) v ≡ marked i ys (marked i xs v)
marked-append i xs ys v = fold-append (λ v (m : Mark). if m.number == i then m.value else v) v xs ys

namings_of-suc : (hospitals : List DraftHospital) (n r : ℕ) →
    namings_of hospitals (suc n) r ≡ namings_of hospitals n r ++ naming n r (with_ranks (hospital_groups hospitals n))
namings_of-suc hospitals n r =
    ap (λ k. namings_of hospitals k r) (sym (add-one n)) ∙ flat_map-below (λ h. naming h r (with_ranks (hospital_groups hospitals h))) n

-- what the namings of r say of a hospital that isn't among the first n
namings_of-past : (hospitals : List DraftHospital) (n h r : ℕ) → n ≤ h → marked h (namings_of hospitals n r) 0 ≡ 0
namings_of-past hospitals zero h r l = refl
namings_of-past hospitals (suc n) h r l =
    ap (λ ms. marked h ms 0) (namings_of-suc hospitals n r)
    ∙ marked-append h (namings_of hospitals n r) (naming n r (with_ranks (hospital_groups hospitals n))) 0
    ∙ naming-other h n r (with_ranks (hospital_groups hospitals n)) _ (omega arith)
    ∙ namings_of-past hospitals n h r (omega arith)

rank_if_in : (groups : List (List ℕ)) (r : ℕ) → (if is_in r (concat groups) then rank_or_0 groups r else 0) ≡ rank_or_0 groups r
rank_if_in groups r = elim (cases_Bool (is_in r (concat groups))) [
  | inl here ↦ rw here refl
  | inr absent ↦ rw (absent, rank_in-none groups r absent) refl
]

-- the namings of r give each hospital among the first n the rank that it gives r, 0 where it doesn't name it
pub namings_of-rank : (hospitals : List DraftHospital) (n h r : ℕ) → h < n →
    marked h (namings_of hospitals n r) 0 ≡ rank_or_0 (hospital_groups hospitals h) r
namings_of-rank hospitals zero h r l = absurd (omega arith)
namings_of-rank hospitals (suc n) h r l =
    ap (λ ms. marked h ms 0) (namings_of-suc hospitals n r)
    ∙ marked-append h (namings_of hospitals n r) (naming n r (with_ranks (hospital_groups hospitals n))) 0
    ∙ elim (cases_eq n h) [
      | inl same ↦
          rw same (naming-here h r (rank_or_0 (hospital_groups hospitals h)) (concat (hospital_groups hospitals h)) _
          ∙ ap (λ v. if is_in r (concat (hospital_groups hospitals h)) then rank_or_0 (hospital_groups hospitals h) r else v) (namings_of-past hospitals h h r (omega arith))
          ∙ rank_if_in (hospital_groups hospitals h) r)
      | inr other ↦
          naming-other h n r (with_ranks (hospital_groups hospitals n)) _ other ∙ namings_of-rank hospitals n h r (omega (arith, other))
    ]

namings_of-within : (hospitals : List DraftHospital) (n m r : ℕ) → n ≤ m → All (λ (mark : Mark). mark.number < m) (namings_of hospitals n r)
namings_of-within hospitals zero m r l = All-nil (λ (mark : Mark). mark.number < m)
namings_of-within hospitals (suc n) m r l =
    let IsWithin : Mark → Type 0 = λ mark. mark.number < m in
    let list = filter (λ (mark : Mark). mark.number == r) (with_ranks (hospital_groups hospitals n)) in
    rw (namings_of-suc hospitals n r)
    (All-append IsWithin (namings_of hospitals n r) (naming n r (with_ranks (hospital_groups hospitals n))) (namings_of-within hospitals n m r (omega arith))
    (All-map IsWithin (λ (mark : Mark). mark_of n mark.value) list (λ k d h. omega arith)))

pub namings_of-below : (hospitals : List DraftHospital) (n r : ℕ) → All (λ (m : Mark). m.number < n) (namings_of hospitals n r)
namings_of-below hospitals n r = namings_of-within hospitals n n r (omega arith)

entry : ℕ → ℕ → ℕ → ℕ → PairEntry
entry r h a b = record { resident = r; hospital = h; resident_rank = a; hospital_rank = b }

-- the pairs of a resident by a table of its namings
found-some : (r : ℕ) (rank : ℕ → ℕ) (xs : List ℕ) (namings : List Mark) (ranks : List ℕ) → ((i : ℕ) → slice_index ranks i ≡ marked i namings 0) →
    found r (map (λ x. mark_of x (rank x)) xs) ranks ≡ map (λ h. entry r h (rank h) (marked h namings 0)) (filter (λ h. nat_lt 0 (marked h namings 0)) xs)
unfolding entry
found-some r rank [] namings ranks e = refl
found-some r rank (x ∷ xs) namings ranks e =
    let rest = found-some r rank xs namings ranks e in
    let test : nat_lt 0 (slice_index ranks x) ≡ nat_lt 0 (marked x namings 0) = ap (nat_lt 0) (e x) in
    elim (cases_Bool (nat_lt 0 (marked x namings 0))) [
      | inl some ↦ let first : nat_lt 0 (slice_index ranks x) ≡ true = test ∙ some in
          rw (some, first) (ap (λ v. entry r x (rank x) v ∷ found r (map (λ x. mark_of x (rank x)) xs) ranks) (e x)
          ∙ ap (λ (es : List PairEntry). entry r x (rank x) (marked x namings 0) ∷ es) rest)
      | inr none ↦ let first : nat_lt 0 (slice_index ranks x) ≡ false = test ∙ none in rw (none, first) rest
    ]

pub found-answered : (r : ℕ) (groups : List (List ℕ)) (namings : List Mark) (ranks : List ℕ) → ((i : ℕ) → slice_index ranks i ≡ marked i namings 0) →
    found r (with_ranks groups) ranks ≡ answered r groups namings
unfolding entry
found-answered r groups namings ranks e = found-some r (rank_or_0 groups) (concat groups) namings ranks e

-- a pair that is found after the first i of a list
pub found-part : (r : ℕ) (list : List Mark) (ranks : List ℕ) (i : ℕ) (m : Mark) → i < length list → m ≡ get_or list i m →
    0 < slice_index ranks m.number → length (found r (take i list) ranks) < length (found r list ranks)
found-part r list ranks i m l read some =
    let ranked : Mark → Bool = λ x. nat_lt 0 (slice_index ranks x.number) in
    let more : length (filter ranked (take i list)) < length (filter ranked list) =
    let split : filter ranked list ≡ filter ranked (take i list) ++ filter ranked (m ∷ drop (i + 1) list) =
    ap (filter ranked) (sym (take-append-drop i list) ∙ ap (λ xs. take i list ++ xs) (drop_more list i m l ∙ ap (λ x. x ∷ drop (i + 1) list) (sym read)))
    ∙ filter-append ranked (take i list) (m ∷ drop (i + 1) list) in
    let kept : filter ranked (m ∷ drop (i + 1) list) ≡ m ∷ filter ranked (drop (i + 1) list) = rw (lt-ltb 0 _ some) refl in
    omega (arith, ap length split, length-append (filter ranked (take i list)) (filter ranked (m ∷ drop (i + 1) list)), ap length kept) in
    let entry_at : Mark → PairEntry = λ x. record { resident = r; hospital = x.number; resident_rank = x.value; hospital_rank = slice_index ranks x.number } in
    omega (arith, more, length-map (filter ranked (take i list)) entry_at, length-map (filter ranked list) entry_at)
