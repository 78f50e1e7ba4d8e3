-- Buckets after a push.
use Rattle.std.proofs.Common.{◌≡◌, ℕ, zero, suc, ◌<◌, ◌≤◌, ◌==◌, if◌then◌else◌, List, [], ◌∷◌, ◌++◌, length, get_or, set, filter, Bool, inl, inr, sym, ap, ◌∙◌, subst, arith, eq-eqb}
use Rattle.std.proofs.lemmas.List.{length-map, map-set, get_or-map, get_or-set_same, get_or-set_other}
use Rattle.std.proofs.lemmas.Bool.{cases_eq, ne_eqb}
use Rattle.std.specs.List.{All}
use Rattle.std.proofs.lemmas.List.Elements.{All-filter, All-nil, All-push}
use Rattle.std.specs.declared.vec.Vec.{Vec}
use Rattle.hrt_base.specs.declared.numbered.PairNo.{PairNo}
use Rattle.rank_tables.specs.Numbers.{numbers_to}
use Rattle.rank_tables.specs.Instance.{Lists, pair_at, pair_count, rising_pairs_of_hospital}
use Rattle.rank_tables.specs.Tables.{IsPairNo, numbers_of}
use Rattle.stability_model.specs.Making.{bucket_at, items_of}

pub bucket_at-read : {T A : Type 0} (rows : List (Vec T A)) (i : ℕ) (w : Vec T A) → i < length rows → bucket_at rows i ≡ (get_or rows i w).items
bucket_at-read rows i w h = get_or-map (λ row. row.items) rows i w [] h

pub row_pushed : {T A : Type 0} (rows : List (Vec T A)) (i : ℕ) (v w : Vec T A) (x : T) → i < length rows → w ≡ get_or rows i w →
    v.items ≡ w.items ++ x ∷ [] →
    (r : ℕ) → bucket_at (set rows i v) r ≡ (if r == i then bucket_at rows r ++ x ∷ [] else bucket_at rows r)
row_pushed {T} rows i v w x h read made r =
    let written : items_of (set rows i v) ≡ set (items_of rows) i v.items = map-set (λ row. row.items) rows i v in
    let within : i < length (items_of rows) = omega (arith, length-map rows (λ row. row.items)) in
    elim (cases_eq r i) [
      | inl same ↦
          ap (λ (xs : List (List T)). get_or xs r []) written ∙ rw (eq-eqb r i same, same)
          (get_or-set_same (items_of rows) i v.items [] within ∙ made ∙ ap (λ (row : Vec T _). row.items ++ x ∷ []) read
          ∙ ap (λ (xs : List T). xs ++ x ∷ []) (sym (bucket_at-read rows i w h)))
      | inr other ↦
          ap (λ (xs : List (List T)). get_or xs r []) written ∙ rw (ne_eqb r i other) (get_or-set_other (items_of rows) i r v.items [] other)
    ]

-- each pair of a bucket is one
numbers-within : (n m : ℕ) → n ≤ m → All (λ p. (1 ≤ p) × (p ≤ m)) (numbers_to n)
numbers-within zero m h = All-nil (λ p. (1 ≤ p) × (p ≤ m))
numbers-within (suc n) m h = All-push (λ p. (1 ≤ p) × (p ≤ m)) (numbers_to n) (suc n) (numbers-within n m (omega arith)) (omega arith, h)

pub each_is_number : (lists : Lists) (h : ℕ) (ps : List PairNo) → numbers_of ps ≡ rising_pairs_of_hospital lists h → All (λ (q : PairNo). IsPairNo lists q.0) ps
each_is_number lists h ps e k d l =
    let all : List ℕ = numbers_to (pair_count lists) in
    let test : ℕ → Bool = λ p. (pair_at lists p).hospital == h in
    let there : get_or (filter test all) k d.0 ≡ (get_or ps k d).0 = ap (λ xs. get_or xs k d.0) (sym e) ∙ get_or-map (λ (p : PairNo). p.0) ps k d d.0 l in
    subst (IsPairNo lists) there (All-filter test (IsPairNo lists) all (numbers-within (pair_count lists) (pair_count lists) (omega arith)) k d.0 (omega (arith, l, length-map ps (λ (p : PairNo). p.0), ap length e)))
