-- The tables that are made from the lists are those of the instance.
use Rattle.std.proofs.Common.{◌≡◌, ℕ, zero, suc, ◌-◌, ◌<◌, Bool, true, false, cond, nat_lt, ◌&&◌, ◌||◌, ◌==◌, if◌then◌else◌, List, [], ◌∷◌, ◌++◌, length, map, get_or, slice_index, Option, Some, None, unwrap_or, inl, inr, refl, sym, ap, ◌∙◌, subst, arith, eq-eqb}
use Rattle.std.specs.List.{concat, filter, filter_map, flat_map, find, All, cons_option}
use Rattle.std.proofs.lemmas.List.{length-map, get_or-map, map-append, same_lists, append-nil}
use Rattle.std.proofs.Math.ListN.{get_or-map as get_or-map_default}
use Rattle.std.proofs.lemmas.List.Concat.{flat_map-append}
use Rattle.std.proofs.lemmas.List.Elements.{All-head, All-tail, filter_agree}
use Rattle.std.proofs.lemmas.List.Folds.{Any-from_list_any}
use Rattle.std.proofs.lemmas.Option.{unwrap_or-slice_get}
use Rattle.std.proofs.lemmas.Bool.{cases_Bool, eqb-true, lt-ltb}
use Rattle.hrt_base.specs.declared.numbered.PairNo.{PairNo}
use Rattle.rank_tables.specs.declared.entry.PairEntry.{PairEntry}
use Rattle.rank_tables.specs.declared.marks.Mark.{Mark}
use Rattle.rank_tables.specs.Numbers.{below, numbers_to, is_in}
use Rattle.rank_tables.specs.Instance.{Lists, Pair, no_pair, groups_of_resident, groups_of_hospital, hospital_names, pairs_from, pairs, pair_count, pair_at, pair_no, pairs_of_resident, rising_pairs_of_hospital, pairs_as_listed}
use Rattle.rank_tables.specs.WellFormed.{IsWellFormed}
use Rattle.rank_tables.specs.Tables.{IsOfHospital, numbers_of, entry_of}
use Rattle.rank_tables.specs.Building.{mark_of, rank_or_0, marked, namings_of, answered, numbers_with, marks_with, numbered}
use Rattle.rank_tables.proofs.Below.{length-below, length-numbers_to, at_below, at_numbers_to, find-numbers_to, find-filter}
use Rattle.rank_tables.proofs.PairFacts.{pair_at-place, pair_no-is, rising_pairs_of_hospital-each}
use Rattle.rank_tables.proofs.Ranks.{rank-positive}
use Rattle.rank_tables.proofs.Turning.{namings_of-rank}
use Rattle.rank_tables.proofs.Unique.{resident_ranked, pairs-apart}

-- what is kept of a pair
abbrev pub kept_of : Lists → Pair → PairEntry
kept_of lists q = record {
  resident = q.resident;
  hospital = q.hospital;
  resident_rank = rank_or_0 (groups_of_resident lists q.resident) q.hospital;
  hospital_rank = rank_or_0 (groups_of_hospital lists q.hospital) q.resident;
}

answered-some : (lists : Lists) (r : ℕ) (namings : List Mark) (xs : List ℕ) → All (λ h. marked h namings 0 ≡ rank_or_0 (groups_of_hospital lists h) r) xs →
    map (λ h. record { resident = r; hospital = h; resident_rank = rank_or_0 (groups_of_resident lists r) h; hospital_rank = marked h namings 0 })
    (filter (λ h. nat_lt 0 (marked h namings 0)) xs)
    ≡ map (kept_of lists) (map (λ h. record { resident = r; hospital = h }) (filter (λ h. hospital_names lists h r) xs))
answered-some lists r namings [] e = refl
answered-some lists r namings (x ∷ xs) e =
    let P : ℕ → Type 0 = λ h. marked h namings 0 ≡ rank_or_0 (groups_of_hospital lists h) r in
    let here : marked x namings 0 ≡ rank_or_0 (groups_of_hospital lists x) r = All-head P x xs e in
    let rest = answered-some lists r namings xs (All-tail P x xs e) in
    let test : nat_lt 0 (marked x namings 0) ≡ hospital_names lists x r = ap (nat_lt 0) here ∙ rank-positive (groups_of_hospital lists x) r in
    elim (cases_Bool (hospital_names lists x r)) [
      | inl names ↦ let some : nat_lt 0 (marked x namings 0) ≡ true = test ∙ names in
          rw (some, names)
          (ap (λ v. record { resident = r; hospital = x; resident_rank = rank_or_0 (groups_of_resident lists r) x; hospital_rank = v }
          ∷ map (λ h. record { resident = r; hospital = h; resident_rank = rank_or_0 (groups_of_resident lists r) h; hospital_rank = marked h namings 0 }) (filter (λ h. nat_lt 0 (marked h namings 0)) xs)) here
          ∙ ap (λ (es : List PairEntry). kept_of lists (record { resident = r; hospital = x }) ∷ es) rest)
      | inr silent ↦ let none : nat_lt 0 (marked x namings 0) ≡ false = test ∙ silent in rw (none, silent) rest
    ]

-- the pairs that are made for one resident, and for the first n
answered-pairs : (lists : Lists) → IsWellFormed lists → (r : ℕ) →
    answered r (groups_of_resident lists r) (namings_of lists.hospitals (length lists.hospitals) r) ≡ map (kept_of lists) (pairs_from lists r)
answered-pairs lists w r =
    let ranked = resident_ranked lists w r in
    answered-some lists r (namings_of lists.hospitals (length lists.hospitals) r) (concat (groups_of_resident lists r))
    (λ k d l. namings_of-rank lists.hospitals (length lists.hospitals) _ r (ranked.below k d l))

pub made-pairs : (lists : Lists) → IsWellFormed lists → (namings : ℕ → List Mark) →
    ((r : ℕ) → namings r ≡ namings_of lists.hospitals (length lists.hospitals) r) → (n : ℕ) →
    flat_map (λ r. answered r (groups_of_resident lists r) (namings r)) (below n) ≡ map (kept_of lists) (flat_map (pairs_from lists) (below n))
made-pairs lists w namings e zero = refl
made-pairs lists w namings e (suc n) =
    let each : ℕ → List PairEntry = λ r. answered r (groups_of_resident lists r) (namings r) in
    let last : each n ≡ map (kept_of lists) (pairs_from lists n) = ap (λ ms. answered n (groups_of_resident lists n) ms) (e n) ∙ answered-pairs lists w n in
    flat_map-append each (below n) (n ∷ []) ∙ ap (λ (es : List PairEntry). flat_map each (below n) ++ es) (append-nil (each n) ∙ last)
    ∙ ap (λ (es : List PairEntry). es ++ map (kept_of lists) (pairs_from lists n)) (made-pairs lists w namings e n)
    ∙ sym (ap (map (kept_of lists)) (flat_map-append (pairs_from lists) (below n) (n ∷ []) ∙ ap (λ (qs : List Pair). flat_map (pairs_from lists) (below n) ++ qs) (append-nil (pairs_from lists n)))
    ∙ map-append (kept_of lists) (flat_map (pairs_from lists) (below n)) (pairs_from lists n))

no_entry : PairEntry
no_entry = record { resident = 0; hospital = 0; resident_rank = 0; hospital_rank = 0 }

-- the entries of the pairs, by their numbers
pub entries-made : (lists : Lists) → map (kept_of lists) (pairs lists) ≡ map (entry_of lists) (numbers_to (pair_count lists))
entries-made lists =
    let n = pair_count lists in
    same_lists (map (kept_of lists) (pairs lists)) (map (entry_of lists) (numbers_to n))
    (length-map (pairs lists) (kept_of lists) ∙ sym (length-map (numbers_to n) (entry_of lists) ∙ length-numbers_to n))
    (λ k d h.
    let within : k < n = omega (arith, h, length-map (pairs lists) (kept_of lists)) in
    get_or-map (kept_of lists) (pairs lists) k no_pair d within
    ∙ sym (at_numbers_to (entry_of lists) n k d within ∙ ap (kept_of lists) (pair_at-place lists k)))

-- what the entries say of a pair, for each number
key_at : (key : Pair → ℕ) (lists : Lists) (p : ℕ) → key no_pair ≡ 0 → slice_index (map key (pairs lists)) (p - 1) ≡ key (pair_at lists p)
key_at key lists p none =
    ap (get_or (map key (pairs lists)) (p - 1)) (sym none) ∙ get_or-map_default key (pairs lists) (p - 1) no_pair
    ∙ ap key (sym (unwrap_or-slice_get (pairs lists) (p - 1) no_pair))

pub numbers_with-residents : (lists : Lists) (r : ℕ) → numbers_with (map (λ (q : Pair). q.resident) (pairs lists)) r ≡ pairs_of_resident lists r
numbers_with-residents lists r =
    let residents = map (λ (q : Pair). q.resident) (pairs lists) in
    ap (λ n. filter (λ p. slice_index residents (p - 1) == r) (numbers_to n)) (length-map (pairs lists) (λ (q : Pair). q.resident))
    ∙ filter_agree (λ p. slice_index residents (p - 1) == r) (λ p. (pair_at lists p).resident == r)
    (λ p. ap (λ x. x == r) (key_at (λ q. q.resident) lists p refl)) (numbers_to (pair_count lists))

numbers_with-hospitals : (lists : Lists) (h : ℕ) → numbers_with (map (λ (q : Pair). q.hospital) (pairs lists)) h ≡ rising_pairs_of_hospital lists h
numbers_with-hospitals lists h =
    let hospitals = map (λ (q : Pair). q.hospital) (pairs lists) in
    ap (λ n. filter (λ p. slice_index hospitals (p - 1) == h) (numbers_to n)) (length-map (pairs lists) (λ (q : Pair). q.hospital))
    ∙ filter_agree (λ p. slice_index hospitals (p - 1) == h) (λ p. (pair_at lists p).hospital == h)
    (λ p. ap (λ x. x == h) (key_at (λ q. q.hospital) lists p refl)) (numbers_to (pair_count lists))

-- the marks of a hospital's pairs
abbrev pub marks_of_hospital : Lists → ℕ → List Mark
marks_of_hospital lists h = map (λ p. mark_of (pair_at lists p).resident p) (rising_pairs_of_hospital lists h)

pub map_same : {A B : Type 0} (f g : A → B) → ((x : A) → f x ≡ g x) → (xs : List A) → map f xs ≡ map g xs
map_same f g e [] = refl
map_same f g e (x ∷ xs) = rw (e x, map_same f g e xs) refl

pub marks_with-hospitals : (lists : Lists) (h : ℕ) →
    marks_with (map (λ (q : Pair). q.resident) (pairs lists)) (map (λ (q : Pair). q.hospital) (pairs lists)) h ≡ marks_of_hospital lists h
marks_with-hospitals lists h =
    map_same (λ p. mark_of (slice_index (map (λ (q : Pair). q.resident) (pairs lists)) (p - 1)) p) (λ p. mark_of (pair_at lists p).resident p)
    (λ p. ap (λ x. mark_of x p) (key_at (λ q. q.resident) lists p refl)) (numbers_with (map (λ (q : Pair). q.hospital) (pairs lists)) h)
    ∙ ap (map (λ p. mark_of (pair_at lists p).resident p)) (numbers_with-hospitals lists h)

in_rest : (p q : ℕ) (ps : List ℕ) → is_in q ps ≡ true → is_in q (p ∷ ps) ≡ true
in_rest p q ps h = elim (cases_Bool (p == q)) [
  | inl same ↦ rw same refl
  | inr other ↦ rw (other, h) refl
]

find-is : (test : ℕ → Bool) (ps : List ℕ) (q : ℕ) → find test ps ≡ Some q → (is_in q ps ≡ true) × (test q ≡ true)
find-is test [] q e = absurd (cc)
find-is test (p ∷ ps) q e = elim (cases_Bool (test p)) [
  | inl passes ↦
      let first : Some p ≡ Some q = sym (ap (λ b. cond b (Some p) (find test ps)) passes) ∙ e in
      let same : p ≡ q = cc in
      (ap (λ b. b || is_in q ps) (eq-eqb p q same), ap test (sym same) ∙ passes)
  | inr fails ↦
      let rest = find-is test ps q (sym (ap (λ b. cond b (Some p) (find test ps)) fails) ∙ e) in
      (in_rest p q ps rest.0, rest.1)
]

-- the pairs of this resident among ps are one pair
AreOne : Lists → ℕ → List ℕ → Type 0
AreOne lists r ps = (p q : ℕ) → is_in p ps ≡ true → is_in q ps ≡ true → (pair_at lists p).resident ≡ r → (pair_at lists q).resident ≡ r → p ≡ q

first_again : (test : ℕ → Bool) (p : ℕ) (ps : List ℕ) → ((q : ℕ) → is_in q ps ≡ true → test q ≡ true → q ≡ p) → unwrap_or (find test ps) p ≡ p
first_again test p ps same = by (find test ps) refl
  where
    by : (o : Option ℕ) → find test ps ≡ o → unwrap_or o p ≡ p
    by None e = refl
    by (Some q) e = let is = find-is test ps q e in same q is.0 is.1

-- of distinct answers the last is the first
last_is_first : (lists : Lists) (r : ℕ) (ps : List ℕ) (v : ℕ) → AreOne lists r ps →
    marked r (map (λ p. mark_of (pair_at lists p).resident p) ps) v ≡ unwrap_or (find (λ p. (pair_at lists p).resident == r) ps) v
unfolding AreOne
last_is_first lists r [] v one = refl
last_is_first lists r (p ∷ ps) v one =
    let test : ℕ → Bool = λ p. (pair_at lists p).resident == r in
    let marks = map (λ p. mark_of (pair_at lists p).resident p) ps in
    let rest = λ (w : ℕ). last_is_first lists r ps w (λ a b in_a in_b. one a b (in_rest p a ps in_a) (in_rest p b ps in_b)) in
    elim (cases_Bool (test p)) [
      | inl here ↦
          ap (λ b. marked r marks (if b then p else v)) here ∙ rest p
          ∙ first_again test p ps (λ q in_q passes.
          one q p (in_rest p q ps in_q) (ap (λ b. b || is_in p ps) (eq-eqb p p refl)) (eqb-true _ _ passes) (eqb-true _ _ here))
          ∙ sym (ap (λ b. unwrap_or (cond b (Some p) (find test ps)) v) here)
      | inr other ↦
          ap (λ b. marked r marks (if b then p else v)) other ∙ rest v ∙ sym (ap (λ b. unwrap_or (cond b (Some p) (find test ps)) v) other)
    ]

find_same : (p q : ℕ → Bool) → ((x : ℕ) → p x ≡ q x) → (xs : List ℕ) → find p xs ≡ find q xs
find_same p q e [] = refl
find_same p q e (x ∷ xs) = ap (λ b. cond b (Some x) (find p xs)) (e x) ∙ ap (cond (q x) (Some x)) (find_same p q e xs)

and_other : (a b : Bool) → (a && b) ≡ (b && a)
and_other true true = refl
and_other true false = refl
and_other false true = refl
and_other false false = refl

-- the number of the pair of a resident is the first among those of the hospital's pairs
pair_no-by_hospital : (lists : Lists) (r h : ℕ) → pair_no lists r h ≡ find (λ p. (pair_at lists p).resident == r) (rising_pairs_of_hospital lists h)
pair_no-by_hospital lists r h =
    let of_resident : ℕ → Bool = λ p. (pair_at lists p).resident == r in
    let of_hospital : ℕ → Bool = λ p. (pair_at lists p).hospital == h in
    find-numbers_to (λ (q : Pair). q.resident == r && q.hospital == h) (pair_at lists) (pairs lists) no_pair (λ k l. pair_at-place lists k)
    ∙ find_same (λ p. of_resident p && of_hospital p) (λ p. of_hospital p && of_resident p) (λ p. and_other (of_resident p) (of_hospital p)) (numbers_to (pair_count lists))
    ∙ sym (find-filter of_hospital of_resident (numbers_to (pair_count lists)))

numbered_more : (lists : Lists) (r h v : ℕ) (o : Option ℕ) (rest : List ℕ) → pair_no lists r h ≡ o → v ≡ unwrap_or o 0 →
    cond (nat_lt 0 v) (v ∷ rest) rest ≡ cons_option o rest
numbered_more lists r h v None rest e is = rw is refl
numbered_more lists r h v (Some p) rest e is =
    let number = pair_no-is lists r h p e in
    rw (is, lt-ltb 0 p (omega (arith, number.0.0))) refl

numbered-listed : (lists : Lists) (h : ℕ) (marks : List Mark) (rs : List ℕ) → ((r : ℕ) → marked r marks 0 ≡ unwrap_or (pair_no lists r h) 0) →
    filter (nat_lt 0) (map (λ r. marked r marks 0) rs) ≡ filter_map (λ r. pair_no lists r h) rs
numbered-listed lists h marks [] e = refl
numbered-listed lists h marks (r ∷ rs) e =
    numbered_more lists r h (marked r marks 0) (pair_no lists r h) (filter (nat_lt 0) (map (λ r. marked r marks 0) rs)) refl (e r)
    ∙ ap (cons_option (pair_no lists r h)) (numbered-listed lists h marks rs e)

-- what holds of each number of a list
pub in_all : (P : ℕ → Type 0) (xs : List ℕ) (x : ℕ) → All P xs → is_in x xs ≡ true → P x
in_all P xs x all h =
    let found = Any-from_list_any (λ y. y == x) xs h in
    subst P (found.3 ∙ eqb-true _ _ found.4) (all found.0 found.1 found.2)

pub listed-made : (lists : Lists) → IsWellFormed lists → (h : ℕ) → numbered (groups_of_hospital lists h) (marks_of_hospital lists h) ≡ pairs_as_listed lists h
unfolding AreOne
listed-made lists w h =
    let all = rising_pairs_of_hospital-each lists h in
    let one : (r : ℕ) → AreOne lists r (rising_pairs_of_hospital lists h) = λ r p q in_p in_q of_p of_q.
    let a = in_all (IsOfHospital lists h) (rising_pairs_of_hospital lists h) p all in_p in
    let b = in_all (IsOfHospital lists h) (rising_pairs_of_hospital lists h) q all in_q in
    pairs-apart lists w p q a.number b.number (of_p ∙ sym of_q) (a.hospital ∙ sym b.hospital) in
    numbered-listed lists h (marks_of_hospital lists h) (concat (groups_of_hospital lists h))
    (λ r. last_is_first lists r (rising_pairs_of_hospital lists h) 0 (one r) ∙ ap (λ o. unwrap_or o 0) (sym (pair_no-by_hospital lists r h)))

-- rows that are known one by one
pub rows-made : (rows : List (List PairNo)) (g : ℕ → List ℕ) (n : ℕ) → length rows ≡ n → ((r : ℕ) → numbers_of (get_or rows r []) ≡ g r) →
    map numbers_of rows ≡ map g (below n)
rows-made rows g n count each =
    same_lists (map numbers_of rows) (map g (below n)) (length-map rows numbers_of ∙ count ∙ sym (length-map (below n) g ∙ length-below n))
    (λ k d h.
    let within : k < length rows = omega (arith, h, length-map rows numbers_of) in
    get_or-map numbers_of rows k [] d within ∙ each k ∙ sym (at_below g n k d (omega (arith, within, count))))
