-- Rising pairs: which one comes first after a number.
use Rattle.std.proofs.Common.{◌≡◌, ℕ, zero, suc, ◌+◌, ◌<◌, ◌≤◌, true, false, ◌==◌, nat_lt, nat_le, List, [], ◌∷◌, length, get_or, Option, Some, None, option_map, Bor, refl, sym, ap, ◌∙◌, inl, inr, subst, arith}
use Rattle.std.specs.List.{find, slice_get}
use Rattle.std.specs.List.Sorted.{IsStrictlyIncreasing, IsPartitionedBy, IsPartitionPoint}
use Rattle.std.specs.Option.{option_copied}
use Rattle.std.specs.Slice.{IsItemAt}
use Rattle.std.proofs.lemmas.Bool.{lt-ltb, le-ltb, ltb-true, ltb-false, leb-true, leb-false, cases_lt}
use Rattle.std.proofs.lemmas.List.{get_or-map, length-map}
use Rattle.std.proofs.lemmas.List.Sorted.{IsPartitionedBy-leb}
use Rattle.std.proofs.lemmas.Option.{slice_get_past, slice_get-get_or}
use Rattle.hrt_base.specs.declared.numbered.PairNo.{PairNo}
use Rattle.rank_tables.specs.Instance.{Lists, pair_count, pair_at, pairs_of_resident}
use Rattle.rank_tables.specs.Tables.{numbers_of}
use Rattle.rank_tables.proofs.Below.{rising-chosen}

pub rising-pairs_of_resident : (lists : Lists) (r : ℕ) (pairs : List PairNo) → numbers_of pairs ≡ pairs_of_resident lists r → IsStrictlyIncreasing (numbers_of pairs)
rising-pairs_of_resident lists r pairs e = subst IsStrictlyIncreasing (sym e) (rising-chosen (λ p. (pair_at lists p).resident == r) (pair_count lists))

never_falls : (xs : List ℕ) → IsStrictlyIncreasing xs → (i j : ℕ) → i ≤ j → j < length xs → get_or xs i 0 ≤ get_or xs j 0
never_falls xs up i zero l m = subst (λ (k : ℕ). get_or xs k 0 ≤ get_or xs 0 0) (let e : 0 ≡ i = omega arith in e) (omega arith)
never_falls xs up i (suc j) l m = elim (cases_lt i (suc j)) [
  | inl less ↦
      let before : get_or xs i 0 ≤ get_or xs j 0 = never_falls xs up i j (omega arith) (omega arith) in
      let step : get_or xs j 0 < get_or xs (j + 1) 0 = up j (omega arith) in
      let same : get_or xs (j + 1) 0 ≡ get_or xs (suc j) 0 = ap (λ k. get_or xs k 0) (omega arith) in
      omega arith
  | inr more ↦ subst (λ (k : ℕ). get_or xs k 0 ≤ get_or xs (suc j) 0) (let e : suc j ≡ i = omega arith in e) (omega arith)
]

number_at : (pairs : List PairNo) (i : ℕ) (d : PairNo) → i < length pairs → get_or (numbers_of pairs) i 0 ≡ (get_or pairs i d).0
number_at pairs i d l = get_or-map (λ (p : PairNo). p.0) pairs i d 0 l

pub rising-partitioned : (pairs : List PairNo) (number : ℕ) → IsStrictlyIncreasing (numbers_of pairs) → IsPartitionedBy (λ (p : PairNo). nat_le p.0 number) pairs
rising-partitioned pairs number up = IsPartitionedBy-leb (λ (p : PairNo). p.0) pairs number (λ i j d l m.
    let long = length-map pairs (λ (p : PairNo). p.0) in
    let below : get_or (numbers_of pairs) i 0 ≤ get_or (numbers_of pairs) j 0 = never_falls (numbers_of pairs) up i j l (omega arith) in
    omega (arith, number_at pairs i d (omega arith), number_at pairs j d m))

-- the one at a place, where all before it are at most a number, and none from there on is
found_at : (pairs : List PairNo) (number i : ℕ) → ((k : ℕ) (d : PairNo) → k < i → k < length pairs → (get_or pairs k d).0 ≤ number) →
    ((d : PairNo) → i < length pairs → number < (get_or pairs i d).0) → option_map (λ (p : PairNo). p.0) (slice_get pairs i) ≡ find (nat_lt number) (numbers_of pairs)
found_at [] number i before here = refl
found_at (p ∷ pairs) number zero before here = rw (lt-ltb number p.0 (here p (omega arith))) refl
found_at (p ∷ pairs) number (suc i) before here =
    rw (le-ltb number p.0 (before 0 p (omega arith) (omega arith)))
    (found_at pairs number i (λ k d l m. before (suc k) d (omega arith) (omega arith)) (λ d l. here d (omega arith)))

got : (pairs : List PairNo) (i : ℕ) (r : Option (Bor PairNo)) → IsItemAt pairs i r → option_copied r ≡ slice_get pairs i
got pairs i None at = sym (slice_get_past pairs i (ltb-false i (length pairs) (sym at.0)))
got pairs i (Some x) at =
    let l : i < length pairs = ltb-true i (length pairs) (sym at.0) in
    ap Some at.1 ∙ sym (slice_get-get_or pairs i x.now l)

pub first_after-is : (pairs : List PairNo) (number i : ℕ) (r : Option (Bor PairNo)) → IsItemAt pairs i r →
    IsPartitionPoint (λ (p : PairNo). nat_le p.0 number ≡ true) (λ (p : PairNo). nat_le p.0 number ≡ false) pairs i → i ≤ length pairs →
    option_map (λ (p : PairNo). p.0) (option_copied r) ≡ find (nat_lt number) (numbers_of pairs)
first_after-is pairs number i r at point within =
    ap (option_map (λ (p : PairNo). p.0)) (got pairs i r at)
    ∙ found_at pairs number i (λ k d l m. leb-true (get_or pairs k d).0 number (point.0 k d (omega arith) l)) (λ d l. leb-false (get_or pairs i d).0 number (point.1 i d (omega arith) l))
