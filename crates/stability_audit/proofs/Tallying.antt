-- What the tables hold, and how they change by a pair.
use Rattle.std.proofs.Common.{◌≡◌, ℕ, ◌+◌, ◌<◌, ◌≤◌, max, Bool, true, false, cond, not, ◌&&◌, ◌||◌, ◌==◌, nat_lt, if◌then◌else◌, List, [], ◌∷◌, ◌++◌, length, get_or, set, take, count_by, inl, inr, refl, sym, ap, ap₂, ◌∙◌, subst, arith, get_or-set_same, get_or-set_other}
use Rattle.std.specs.List.{list_any, list_all}
use Rattle.std.proofs.lemmas.List.{length-set, get_or_past}
use Rattle.std.proofs.lemmas.List.Sums.{sum_by-cons}
use Rattle.std.proofs.lemmas.Bool.{true≢false, cases_lt, cases_Bool, cond-true, cond-false, eqb-true, eqb-false, or_parts, le-ltb}
use Rattle.std.proofs.lemmas.Bool.Decides.{nat_tests}
use Rattle.std.proofs.lemmas.List.{get_or_read}
use Rattle.std.proofs.lemmas.List.Sums.{count_by-le-length}
use Rattle.hrt_base.specs.declared.numbered.PairNo.{PairNo}
use Rattle.rank_tables.specs.Tables.{numbers_of}
use Rattle.rank_tables.proofs.Numbers.{list_any-count}
use Rattle.stability_audit.proofs.Pairs.{numbers_more, numbers_few}
use Rattle.stability_audit.specs.declared.tally.Tally.{Tally}
use Rattle.stability_audit.specs.Tallies.{empty_tally, one_more, wants, tally_of, IsTallied}

-- ---- a tally

max_turned : (w a b : ℕ) → max (max w a) b ≡ max (max w b) a
max_turned w a b = omega arith

turned : (t : Tally) (a b : ℕ) → one_more (one_more t a) b ≡ one_more (one_more t b) a
turned t a b = ap (λ (w : ℕ). let u : Tally = record { count = t.count + 1 + 1; worst = w } in u) (max_turned t.worst a b)

push_step : (a b : Bool) (t u : Tally) (x q : ℕ) → u ≡ cond b (one_more t q) t →
    cond a (one_more u x) u ≡ cond b (one_more (cond a (one_more t x) t) q) (cond a (one_more t x) t)
push_step true true t u x q e = ap (λ v. one_more v x) e ∙ turned t q x
push_step true false t u x q e = ap (λ v. one_more v x) e
push_step false true t u x q e = e
push_step false false t u x q e = e

-- a pair at the end counts as one at the front does
pub tally_push : (owner rank : ℕ → ℕ) (m : List ℕ) (q k : ℕ) →
    tally_of owner rank (m ++ q ∷ []) k ≡ cond (owner q == k) (one_more (tally_of owner rank m k) (rank q)) (tally_of owner rank m k)
tally_push owner rank [] q k = refl
tally_push owner rank (x ∷ m) q k = push_step (owner x == k) (owner q == k) _ _ (rank x) (rank q) (tally_push owner rank m q k)

count_step : (b : Bool) (t : Tally) (r n : ℕ) → t.count ≡ n → (cond b (one_more t r) t).count ≡ (if b then 1 else 0) + n
count_step true t r n e = omega arith
count_step false t r n e = omega arith

pub tally_count : (owner rank : ℕ → ℕ) (m : List ℕ) (k : ℕ) → (tally_of owner rank m k).count ≡ count_by (λ q. owner q == k) m
tally_count owner rank [] k = refl
tally_count owner rank (q ∷ m) k =
    count_step (owner q == k) (tally_of owner rank m k) (rank q) _ (tally_count owner rank m k)
    ∙ sym (sum_by-cons (λ q. if owner q == k then 1 else 0) q m)

pub tally_none : (owner rank : ℕ → ℕ) (m : List ℕ) (k : ℕ) → list_any (λ q. owner q == k) m ≡ false → tally_of owner rank m k ≡ empty_tally
tally_none owner rank [] k h = refl
tally_none owner rank (q ∷ m) k h =
    let both = or_parts (owner q == k) (list_any (λ q. owner q == k) m) h in
    cond-false (owner q == k) (one_more (tally_of owner rank m k) (rank q)) (tally_of owner rank m k) both.0 ∙ tally_none owner rank m k both.1

-- ---- what a tally says of the wishes of its owner

lt_max : (x a b : ℕ) → (nat_lt x b || nat_lt x a) ≡ nat_lt x (max a b)
lt_max x a b = grind (arith, nat_tests)

worse_step : (b : Bool) (x r : ℕ) (t : Tally) (any : Bool) → any ≡ nat_lt x t.worst → (b && nat_lt x r || any) ≡ nat_lt x (cond b (one_more t r) t).worst
worse_step true x r t any e = ap (λ c. nat_lt x r || c) e ∙ lt_max x t.worst r
worse_step false x r t any e = e

-- some pair of k is of a worse rank than x
pub any_worse : (owner rank : ℕ → ℕ) (m : List ℕ) (k x : ℕ) → list_any (λ q. owner q == k && nat_lt x (rank q)) m ≡ nat_lt x (tally_of owner rank m k).worst
any_worse owner rank [] k x = sym (le-ltb x 0 (omega arith))
any_worse owner rank (q ∷ m) k x = worse_step (owner q == k) x (rank q) (tally_of owner rank m k) _ (any_worse owner rank m k x)

one_pair : (x r : ℕ) → (nat_lt x r && wants empty_tally 1 x) ≡ wants (one_more empty_tally r) 1 x
one_pair x r = grind (arith, nat_tests)

better_step : (b : Bool) (x r : ℕ) (t : Tally) (all : Bool) → (b ≡ true → t ≡ empty_tally) → all ≡ wants t 1 x →
    ((not b || nat_lt x r) && all) ≡ wants (cond b (one_more t r) t) 1 x
better_step true x r t all h e =
    ap (λ c. nat_lt x r && c) (e ∙ ap (λ u. wants u 1 x) (h refl)) ∙ one_pair x r ∙ ap (λ u. wants (one_more u r) 1 x) (sym (h refl))
better_step false x r t all h e = e

-- where k has one pair at most: all its pairs are of a worse rank than x
pub all_worse : (owner rank : ℕ → ℕ) (m : List ℕ) (k x : ℕ) → count_by (λ q. owner q == k) m ≤ 1 →
    list_all (λ q. not (owner q == k) || nat_lt x (rank q)) m ≡ wants (tally_of owner rank m k) 1 x
all_worse owner rank [] k x h = refl
all_worse owner rank (q ∷ m) k x h =
    let sum = sum_by-cons (λ q. if owner q == k then 1 else 0) q m in
    better_step (owner q == k) x (rank q) (tally_of owner rank m k) _
    (λ e. tally_none owner rank m k (list_any-count (λ q. owner q == k) m ∙ le-ltb 0 _ (no_more (owner q == k) _ _ sum h e)))
    (all_worse owner rank m k x (omega (arith, sum)))
  where
    no_more : (b : Bool) (n c : ℕ) → c ≡ (if b then 1 else 0) + n → c ≤ 1 → b ≡ true → n ≤ 0
    no_more true n c e l h = omega arith
    no_more false n c e l h = absurd (true≢false (sym h))

-- ---- the table of one side

-- with a pair q more
pub tallied_more : (owner rank : ℕ → ℕ) (m : List ℕ) (count : ℕ) (table : List Tally) (q : ℕ) (tally : Tally) →
    IsTallied owner rank m count table → owner q < count → tally ≡ one_more (get_or table (owner q) empty_tally) (rank q) →
    IsTallied owner rank (m ++ q ∷ []) count (set table (owner q) tally)
tallied_more owner rank m count table q tally h l e = record {
  size = length-set table (owner q) tally ∙ h.size;
  each = λ k less. elim (cases_Bool (owner q == k)) [
    | inl here ↦
        let is : owner q ≡ k = eqb-true (owner q) k here in
        let within : owner q < length table = omega (arith, h.size) in
        ap (λ j. get_or (set table (owner q) tally) j empty_tally) (sym is)
        ∙ get_or-set_same table (owner q) tally empty_tally within ∙ e ∙ ap (λ t. one_more t (rank q)) (ap (λ j. get_or table j empty_tally) is ∙ h.each k less)
        ∙ sym (tally_push owner rank m q k ∙ cond-true (owner q == k) _ _ here)
    | inr other ↦
        get_or-set_other table (owner q) k tally empty_tally (λ is. eqb-false (owner q) k other (sym is))
        ∙ h.each k less ∙ sym (tally_push owner rank m q k ∙ cond-false (owner q == k) _ _ other)
  ];
}

-- with the pair at place i, whose owner gives it the rank x
pub tallied_next : (owner rank : ℕ → ℕ) (pairs : List PairNo) (i : ℕ) (d : PairNo) (count : ℕ) (table : List Tally) (k x : ℕ) (old tally : Tally) →
    IsTallied owner rank (numbers_of (take i pairs)) count table → i < length pairs → k < count →
    k ≡ owner (get_or pairs i d).0 → x ≡ rank (get_or pairs i d).0 → old ≡ get_or table k old → tally ≡ one_more old x →
    IsTallied owner rank (numbers_of (take (i + 1) pairs)) count (set table k tally)
tallied_next owner rank pairs i d count table k x old tally h l less e f read new =
    let q = (get_or pairs i d).0 in
    let within : k < length table = omega (arith, h.size) in
    let is : tally ≡ one_more (get_or table (owner q) empty_tally) (rank q) =
    new ∙ ap₂ one_more (get_or_read table k old within read empty_tally ∙ ap (λ j. get_or table j empty_tally) e) f in
    subst (λ (m : List ℕ). IsTallied owner rank m count (set table k tally)) (sym (numbers_more pairs i d l))
    (subst (λ (j : ℕ). IsTallied owner rank (numbers_of (take i pairs) ++ q ∷ []) count (set table j tally)) (sym e)
    (tallied_more owner rank (numbers_of (take i pairs)) count table q tally h (subst (λ (j : ℕ). j < count) e less) is))

-- what a read of the table says
pub read_count : (owner rank : ℕ → ℕ) (m : List ℕ) (count : ℕ) (table : List Tally) (k : ℕ) (tally : Tally) →
    IsTallied owner rank m count table → k < count → tally ≡ get_or table k tally → tally.count ≡ count_by (λ q. owner q == k) m
read_count owner rank m count table k tally h l read =
    let within : k < length table = omega (arith, h.size) in
    ap (λ (t : Tally). t.count) (get_or_read table k tally within read empty_tally ∙ h.each k l) ∙ tally_count owner rank m k

pub read_small : (owner rank : ℕ → ℕ) (pairs : List PairNo) (i count : ℕ) (table : List Tally) (k : ℕ) (tally : Tally) →
    IsTallied owner rank (numbers_of (take i pairs)) count table → k < count → tally ≡ get_or table k tally → tally.count ≤ i
read_small owner rank pairs i count table k tally h l read =
    omega (
      arith,
      read_count owner rank (numbers_of (take i pairs)) count table k tally h l read,
      count_by-le-length (λ q. owner q == k) (numbers_of (take i pairs)),
      numbers_few pairs i,
    )

-- whoever has none of the pairs m has a clear tally
pub record IsClearBut (owner : ℕ → ℕ) (m : List ℕ) (count : ℕ) (table : List Tally) : Type 0 where
  pub size : length table ≡ count
  pub each : (k : ℕ) → list_any (λ q. owner q == k) m ≡ false → get_or table k empty_tally ≡ empty_tally

pub clear_but_all : (owner rank : ℕ → ℕ) (m : List ℕ) (count : ℕ) (table : List Tally) → IsTallied owner rank m count table → IsClearBut owner m count table
clear_but_all owner rank m count table h = record {
  size = h.size;
  each = λ k none. elim (cases_lt k count) [
    | inl less ↦ h.each k less ∙ tally_none owner rank m k none
    | inr past ↦ get_or_past table k empty_tally (omega (arith, h.size))
  ];
}
