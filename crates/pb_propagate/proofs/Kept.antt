-- Rows that stay kept while a set of literals grows.
use Rattle.std.proofs.Common.{◌≡◌, ◌≤◌, ℕ, Bool, true, false, if◌then◌else◌, List, [], ◌∷◌, get_or, refl, arith}
use Rattle.std.specs.List.{All}
use Rattle.std.proofs.lemmas.Bool.{false_from_ne_true}
use Rattle.std.proofs.lemmas.List.{get_or_default}
use Rattle.std.proofs.lemmas.List.Elements.{All-head, All-tail}
use Rattle.hrt_base.specs.declared.literal.Term.{Term}
use Rattle.pb_rows.specs.Terms.{PlainRow, opposite_lit, positive_part}
use Rattle.pb_rows.specs.Closure.{Keeps, Literals, nonfalse_sum}
use Rattle.propagation.proofs.Following.{Within, nonfalse_sum-anti, open_within}
use Rattle.pb_propagate.specs.Open.{IsServed}
use Rattle.pb_propagate.proofs.Justified.{open-term}

-- no literal of the terms becomes false between the sets
abbrev pub AreUntouched : Literals → Literals → List Term → Type 0
AreUntouched s t ts = All (λ (x : Term). s (opposite_lit x.lit) ≡ false → t (opposite_lit x.lit) ≡ false) ts

share-same : (b c : Bool) (n : ℕ) → (b ≡ false → c ≡ false) → (if b then 0 else n) ≤ (if c then 0 else n)
share-same true c n h = omega arith
share-same false true n h = absurd (let e : true ≡ false = h refl in cc)
share-same false false n h = omega arith

pub sum-same : (s t : Literals) (ts : List Term) → AreUntouched s t ts → nonfalse_sum s ts ≤ nonfalse_sum t ts
sum-same s t [] a = omega arith
sum-same s t (x ∷ ts) a =
    let P = λ (y : Term). s (opposite_lit y.lit) ≡ false → t (opposite_lit y.lit) ≡ false in
    omega (arith, share-same (s (opposite_lit x.lit)) (t (opposite_lit x.lit)) (positive_part x.coef) (All-head P x ts a), sum-same s t ts (All-tail P x ts a))

back-false : (s t : Literals) → Within s t → (x : Term) → t (opposite_lit x.lit) ≡ false → s (opposite_lit x.lit) ≡ false
back-false s t w x h = false_from_ne_true (s (opposite_lit x.lit)) (λ e. let f = w (opposite_lit x.lit) e in cc)

-- a row that is kept stays so, unless a literal of it becomes false
pub keeps-grown : (s t : Literals) (r : PlainRow) → Within s t → AreUntouched s t r.terms → Keeps s r → Keeps t r
keeps-grown s t r w a k = record {
  unfalsified = omega (arith, k.unfalsified, sum-same s t r.terms a);
  settled = λ i d h unfalse exceeds.
      let x : Term = get_or r.terms i d in
      w x.lit (k.settled i d h (back-false s t w x unfalse) (omega (arith, exceeds, sum-same s t r.terms a)));
}

-- a row that is kept at some moment was served between an earlier and a later one
pub served-by : (s m t : Literals) (r : PlainRow) → Within s m → Within m t → Keeps m r → IsServed s t r
served-by s m t r w v k = record {
  unfalsified = omega (arith, k.unfalsified, nonfalse_sum-anti s m w r.terms);
  settled = λ i d h p.
      let x : Term = get_or r.terms i d in
      v x.lit (open_within s m w r (nonfalse_sum s r.terms) x k (i, h, get_or_default r.terms i x d h) (omega arith) (open-term s r x p));
}

pub served-more : (s m t : Literals) (r : PlainRow) → Within m t → IsServed s m r → IsServed s t r
served-more s m t r v k = record { unfalsified = k.unfalsified; settled = λ i d h p. v (get_or r.terms i d).lit (k.settled i d h p) }
