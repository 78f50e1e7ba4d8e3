-- How literals stand on a trail, and the lowest level at which a row is open by how its literals stand.
use Rattle.std.proofs.Common.{◌≡◌, ◌&&◌, ◌⊎◌, ℕ, Bool, true, false, not, List, refl, sym, ◌∙◌, ap, ap₂, subst, arith, inl, inr, Option, Some, None}
use Rattle.std.specs.Prelude.{nat_le, nat_lt}
use Rattle.std.proofs.lemmas.Bool.{and_parts, cases_lt, le-leb, le-ltb, lt-leb, lt-ltb}
use Rattle.std.proofs.lemmas.List.Elements.{All-contains}
use Rattle.hrt_base.specs.declared.literal.Lit.{Lit}
use Rattle.pb_rows.specs.Terms.{PlainRow, opposite_lit}
use Rattle.pb_rows.specs.Closure.{Falsified, IsSettled, Keeps, Literals}
use Rattle.level_sweep.specs.declared.sweeping.Stand.TheVariants.{False, Free, True}
use Rattle.level_sweep.specs.Rows.{IsLowestUnder, PropagatesTerm}
use Rattle.pb_propagate.specs.Entries.{Entry, level_of, set_of, up_to}
use Rattle.pb_propagate.specs.Open.{IsOpen}
use Rattle.pb_propagate.specs.Serving.{IsLowestFrom, IsTrueFrom}
use Rattle.pb_propagate.specs.Standing.{StandsAs}
use Rattle.pb_propagate.proofs.Levels.{up_to-all}
use Rattle.pb_propagate.proofs.News.{false-front}

-- not true up to a level is free below the level from which on it is true
not-from : (n k : ℕ) (b : Bool) → b ≡ false → (not (nat_le n k) && not b) ≡ nat_lt k n
not-from n k b none = elim (cases_lt k n) [
  | inl low ↦ rw (none, lt-leb n k low, lt-ltb k n low) refl
  | inr high ↦ rw (none, le-leb n k high, le-ltb k n high) refl
]

not-to : (n k : ℕ) (b : Bool) → b ≡ false → (not b && not (nat_le n k)) ≡ nat_lt k n
not-to n k b none = elim (cases_lt k n) [
  | inl low ↦ rw (none, lt-leb n k low, lt-ltb k n low) refl
  | inr high ↦ rw (none, le-leb n k high, le-ltb k n high) refl
]

module _ (es : List Entry) (l : Lit) where
  pub stands-true : (n : ℕ) → IsTrueFrom es l (Some n) → set_of es (opposite_lit l) ≡ false → StandsAs es l (True n)
  stands-true n t none = record {
    free = λ k. ap (λ b. not b && not (set_of (up_to k es) (opposite_lit l))) (t.1 k) ∙ not-from n k _ (false-front k es (opposite_lit l) none);
    false_from = λ k. false-front k es (opposite_lit l) none;
  }

  pub stands-false : (n : ℕ) → IsTrueFrom es l None → IsTrueFrom es (opposite_lit l) (Some n) → StandsAs es l (False n)
  stands-false n t f = record {
    free = λ k. ap (λ b. not (set_of (up_to k es) l) && not b) (f.1 k) ∙ not-to n k _ (t k);
    false_from = λ k. f.1 k;
  }

  pub stands-free : IsTrueFrom es l None → IsTrueFrom es (opposite_lit l) None → StandsAs es l Free
  stands-free t f = record {
    free = λ k. ap₂ (λ a b. not a && not b) (t k) (f k);
    false_from = λ k. f k;
  }

-- ---- the lowest level

not-both : (a b : Bool) → a ≡ true → (not a && not b) ≡ true → ⊥
not-both true b h f = absurd (cc)
not-both false b h f = absurd (cc)

kept-not-open : (set : Literals) (r : PlainRow) → Keeps set r → Falsified set r ⊎ PropagatesTerm set r → ⊥
kept-not-open set r kept (inl less) = absurd (omega (arith, less, kept.unfalsified))
kept-not-open set r kept (inr p) =
    let parts = and_parts _ _ p.propagates.free in
    let unfalse : set (opposite_lit p.term.lit) ≡ false = by-not (set (opposite_lit p.term.lit)) parts.1 in
    not-both _ _ (All-contains (IsSettled set r) r.terms p.term kept.settled p.has unfalse p.propagates.exceeds) p.propagates.free
  where
    by-not : (b : Bool) → not b ≡ true → b ≡ false
    by-not true h = absurd (cc)
    by-not false h = refl

opened : (set : Literals) (r : PlainRow) → Falsified set r ⊎ PropagatesTerm set r → IsOpen set r
opened set r (inl less) = inl less
opened set r (inr p) = inr (p.term.lit, record { term = p.term; has = p.has; lit = refl; propagates = p.propagates })

-- the lowest level at which a row is open is no higher than the trail's
pub lowest-from : (es : List Entry) (r : PlainRow) (level : Option ℕ) → IsLowestUnder (λ k. set_of (up_to k es)) r level → IsLowestFrom es r 0 level
lowest-from es r None low = λ k z. low k
lowest-from es r (Some level) low = (
  elim (cases_lt (level_of es) level) [
    | inl above ↦
        let same : up_to level es ≡ up_to (level_of es) es = up_to-all level es (omega (arith, above)) ∙ sym (up_to-all (level_of es) es (omega arith)) in
        absurd (kept-not-open (set_of (up_to level es)) r (subst (λ (x : List Entry). Keeps (set_of x) r) (sym same) (low.1 (level_of es) above)) low.0)
    | inr within ↦ within
  ],
  opened (set_of (up_to level es)) r low.0,
  λ k z below. low.1 k below,
)
